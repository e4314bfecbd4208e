-- What a request touches that changes one guarded slot,
-- and at most one file whose names are all guarded.
use Rattle.std.proofs.Common.{◌≡◌, ◌≢◌, ◌<◌, ℕ, true, false, refl, sym, ap, ◌∙◌, subst, inl, inr, ◌⊎◌}
use Rattle.std.specs.Prelude.{Option, Some, None, is_some}
use Rattle.dht_types.specs.Gfid.{Entry, anchor}
use Rattle.dht_types.specs.Tree.{Tree}
use Rattle.dht_types.specs.declared.identifiers.Gfid.{Gfid}
use Rattle.dht_brick.specs.Contents.{Contents, Opens, Locks, slot}
use Rattle.dht_brick.specs.Locality.{Places}
use Rattle.dht_brick.specs.OpenRows.{is_sealed}
use Rattle.dht_brick.specs.Parts.{is_copy}
use Rattle.dht_types.specs.declared.stored.Slot.{Slot}
use Rattle.dht_section.specs.Disk.{Disk, slot_at, file_at, dir_at}
use Rattle.dht_section.specs.Names.{StandsAs}
use Rattle.dht_section.specs.Rely.{IsFileUsed, IsNameless, ByBytes, ByRecord, BySeal, outline}
use Rattle.dht_section.specs.Scene.{Scene, Guards, NameStands}
use Rattle.dht_section.specs.Shapes.{NameShape, Folder, NameFits}
use Rattle.dht_section.specs.Views.{core, cores_of, links_to, view_of}
use Rattle.dht_invariant.specs.Makes.{Framed}
use Rattle.dht_invariant.specs.Touches.{Touches, OwnsFile, Same}
use Rattle.dht_invariant.proofs.Basics.{gfid_cases, is_there, other_some}
use Rattle.dht_section.proofs.EarlyLaws.{nat_cases}
use Rattle.dht_section.proofs.SlotLaws.{entry_cases}
use Rattle.dht_invariant.proofs.GrowsLaws.{grows_refl}
use Rattle.dht_invariant.proofs.LayoutLaws.{planned_same}

-- one slot that is guarded changed, and the record of one file whose names are all guarded
pub record OneSlot (o : Scene) (p : Places) (x : Entry) (f : Option Gfid) (e : Disk) (u : Tree) : Type 0 where
  pub brick : ℕ
  pub framed : Framed p brick o.disk e
  pub slot : p.slot ≡ Some x
  pub dropped : p.dropped ≡ None
  pub dir : p.dir ≡ None
  pub file : p.file ≡ f
  pub guards : Guards o x
  pub owns : (g : Gfid) → f ≡ Some g → OwnsFile o g
  pub names : (y : Entry) → y ≢ x → u.names y ≡ o.history.tree.names y
  pub dirs : (g : Gfid) → u.dirs g ≡ o.history.tree.dirs g
  pub descents : (g : Gfid) → u.descents g ≡ o.history.tree.descents g
  pub bytes : (g : Gfid) → o.history.tree.bytes g ≢ None → u.bytes g ≢ None
  pub recorded : (i : ℕ) (g : Gfid) → is_some (file_at o.disk i g) ≡ true → is_some (file_at e i g) ≡ true
  -- the slot becomes no name and no copy of a file that has none
  pub unnamed : (g : Gfid) → IsNameless o.disk o.history.tree g → (links_to g (slot_at e brick x) ≡ false) × (is_copy g (slot_at e brick x).standby ≡ false)

module _ (o : Scene) (p : Places) (x : Entry) (f : Option Gfid) (e : Disk) (u : Tree) (m : OneSlot o p x f e u) where
  slot_other : (i : ℕ) (y : Entry) → y ≢ x → slot_at e i y ≡ slot_at o.disk i y
  slot_other i y ne = m.framed.slots i y (λ q. other_some x y ne (sym m.slot ∙ q)) (λ q. let z : None ≡ Some y.0 = sym m.dropped ∙ q in cc)

  dir_same : (i : ℕ) (g : Gfid) → dir_at e i g ≡ dir_at o.disk i g
  dir_same i g = m.framed.dirs i g (λ q. let z : None ≡ Some g = sym m.dir ∙ q in cc)

  sealed_same : (g : Gfid) → (view_of e g).sealed ≡ (view_of o.disk g).sealed
  sealed_same g = ap (λ (i : ℕ). is_sealed (e.brick i).opens g) (ap (anchor g) m.framed.count) ∙ ap (λ (s : Opens). is_sealed s g) (m.framed.opens (anchor g o.disk.count))

  stands_other : (y : Entry) (h : NameShape) → y ≢ x → NameStands o y h → StandsAs e.count (cores_of e y) (u.names y) h
  stands_other y h ne st = record {
    fits = subst (λ (c : ℕ). NameFits c h) (sym m.framed.count) st.fits;
    has = λ i l. ap core (slot_other i y ne) ∙ st.has i (subst (λ (c : ℕ). i < c) m.framed.count l);
    node = m.names y ne ∙ st.node;
  }

  file_by : (b : ℕ) (g : Gfid) (w : Option Gfid) → f ≡ w → OwnsFile o g ⊎ (outline (file_at e b g) ≡ outline (file_at o.disk b g))
  file_by b g None q = inr (ap outline (m.framed.files b g (λ z. let y : None ≡ Some g = sym (m.file ∙ q) ∙ z in cc)))
  file_by b g (Some h) q = elim (gfid_cases g h) [
    | inl z ↦ inl (m.owns g (q ∙ ap Some (sym z)))
    | inr ne ↦ inr (ap outline (m.framed.files b g (λ z. other_some h g ne (sym (m.file ∙ q) ∙ z))))
  ]

  file_used : (g : Gfid) → IsFileUsed o.disk o.history.tree g → IsFileUsed e u g
  file_used g (ByBytes h) = ByBytes (m.bytes g h)
  file_used g (ByRecord b r l h) =
      let q = is_there (file_at e b g) (m.recorded b g (ap is_some h)) in
      ByRecord b q.0 (subst (λ (c : ℕ). b < c) (sym m.framed.count) l) q.1
  file_used g (BySeal h) = BySeal (sealed_same g ∙ h)

  -- a fact of slots that held of each one holds, where it does of the one that changed
  slots_all : (P : Slot → Type 0) → P (slot_at e m.brick x) → ((i : ℕ) (y : Entry) → i < o.disk.count → P (slot_at o.disk i y)) → (i : ℕ) (y : Entry) → i < e.count → P (slot_at e i y)
  slots_all P now was i y l =
      let before : P (slot_at o.disk i y) = was i y (subst (λ (c : ℕ). i < c) m.framed.count l) in
      elim (entry_cases y x) [
        | inl q ↦ elim (nat_cases i m.brick) [
          | inl z ↦ subst (λ (j : ℕ). P (slot_at e j y)) (sym z) (subst (λ (w : Entry). P (slot_at e m.brick w)) (sym q) now)
          | inr ne ↦ subst (λ (c : Contents). P (slot c.store y)) (sym (m.framed.off i ne)) before
        ]
        | inr ne ↦ subst P (sym (slot_other i y ne)) before
      ]

  nameless_stays : (g : Gfid) → IsNameless o.disk o.history.tree g → IsNameless e u g
  nameless_stays g h = record {
    used = file_used g h.used;
    links = slots_all (λ p. links_to g p ≡ false) (m.unnamed g h).0 h.links;
    copies = slots_all (λ p. is_copy g p.standby ≡ false) (m.unnamed g h).1 h.copies;
  }

  pub one_slot_touches : Touches o e u
  one_slot_touches = record {
    count = m.framed.count;
    locks = λ c b key ne. ap (λ (l : Locks). l key c) (m.framed.locks b);
    names = λ y h st. elim (entry_cases y x) [
      | inl q ↦ inl (subst (Guards o) (sym q) m.guards)
      | inr ne ↦ inr (h, grows_refl h, stands_other y h ne st)
    ];
    slots = λ y b same. elim (entry_cases y x) [
      | inl q ↦ inl (subst (Guards o) (sym q) m.guards)
      | inr ne ↦ inr (slot_other b y ne)
    ];
    outlines = λ b g l. file_by b g f refl;
    dirs = λ g b. inr (Same (dir_same b g));
    both = λ y g on st. elim (entry_cases y x) [
      | inl q ↦ inl (subst (Guards o) (sym q) m.guards)
      | inr ne ↦ inr (inr (stands_other y (Folder g on) ne st))
    ];
    known = λ g h. inr (m.dirs g ∙ h);
    planned = λ g. planned_same o.disk e g o.history.weights o.history.weights m.framed.count refl (λ i. dir_same i g);
    made = λ g h k. m.descents g ∙ k;
    used = file_used;
    sealed = λ g h. sealed_same g ∙ h;
    nameless = nameless_stays;
  }
