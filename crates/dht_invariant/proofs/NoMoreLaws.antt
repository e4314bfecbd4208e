-- What stays where bricks store what they stored, or
-- less: slots are bare, or files' records are gone.
use Rattle.std.proofs.Common.{◌≡◌, ◌≢◌, ◌<◌, ℕ, true, false, refl, sym, ap, ◌∙◌, subst, inl, inr, ◌⊎◌}
use Rattle.std.specs.Prelude.{Some, None, is_some}
use Rattle.std.specs.FinMap.{contains_key}
use Rattle.dht_types.specs.Gfid.{Entry, root, anchor}
use Rattle.dht_types.specs.Tree.{Tree}
use Rattle.dht_types.specs.History.{History}
use Rattle.dht_types.specs.declared.identifiers.Gfid.{Gfid}
use Rattle.dht_types.specs.declared.locks.Key.{Key}
use Rattle.dht_types.specs.declared.stored.Record.{Record}
use Rattle.dht_types.specs.declared.stored.Slot.{Slot}
use Rattle.dht_brick.specs.Contents.{Opens, bare}
use Rattle.dht_brick.specs.OpenRows.{registrations, is_sealed}
use Rattle.dht_brick.specs.Parts.{is_copy}
use Rattle.dht_brick.specs.declared.replies.Reply.{Reply}
use Rattle.dht_section.specs.declared.machine.Ask.{Ask}
use Rattle.dht_section.specs.Claims.{Claim}
use Rattle.dht_section.specs.Disk.{Disk, file_in, slot_at, name_at, file_at, dir_at, holders}
use Rattle.dht_section.specs.Early.{Early, IsPlain}
use Rattle.dht_section.specs.Invariant.{Things, Used, most_hops}
use Rattle.dht_section.specs.Moves.{Guarantee}
use Rattle.dht_section.specs.Names.{StandsAs}
use Rattle.dht_section.specs.Rely.{IsFileUsed, IsNameless, ByBytes, ByRecord, BySeal, outline}
use Rattle.dht_section.specs.Scene.{Scene, Guards, NameStands}
use Rattle.dht_section.specs.Shapes.{NameShape, Folder, NameFits}
use Rattle.dht_section.specs.Views.{core, cores_of, links_to, view_of}
use Rattle.dht_invariant.specs.Locality.{Reach, NamesFile, NamesDir, ByDirRecord, ByDirName, ByParent, IsNode, NamesLock, NameClause, FileClause}
use Rattle.dht_invariant.specs.Touches.{Touches, OwnsFile, Same}
use Rattle.dht_invariant.proofs.Basics.{none_some}
use Rattle.dht_invariant.proofs.ClauseLocality.{reach_of, answers_leave_others}
use Rattle.dht_invariant.proofs.EarlyLaws.{HasNone, early_on}
use Rattle.dht_invariant.proofs.Frames.{used_kept}
use Rattle.dht_invariant.proofs.GrowsLaws.{grows_refl}
use Rattle.dht_invariant.proofs.LayoutLaws.{planned_same}

-- bricks store what they stored, or less
pub record StoresNoMore (d e : Disk) : Type 0 where
  pub count : e.count ≡ d.count
  pub slots : (b : ℕ) (x : Entry) → (slot_at e b x ≡ slot_at d b x) ⊎ (slot_at e b x ≡ bare)
  pub files : (b : ℕ) (f : Gfid) → (file_at e b f ≡ file_at d b f) ⊎ (file_at e b f ≡ None)
  pub dirs : (b : ℕ) (g : Gfid) → dir_at e b g ≡ dir_at d b g

module _ (d e : Disk) (m : StoresNoMore d e) where
  within : (b : ℕ) → b < e.count → b < d.count
  within b l = subst (λ (n : ℕ). b < n) m.count l

  -- what holds of a bare slot, and of a slot as it was
  slot_by : (P : Slot → Type 0) (b : ℕ) (x : Entry) → P (slot_at d b x) → P bare → P (slot_at e b x)
  slot_by P b x was none = elim (m.slots b x) [
    | inl q ↦ subst P (sym q) was
    | inr q ↦ subst P (sym q) none
  ]

  record_was : (b : ℕ) (f : Gfid) (r : Record) → file_at e b f ≡ Some r → file_at d b f ≡ Some r
  record_was b f r h = elim (m.files b f) [
    | inl q ↦ sym q ∙ h
    | inr q ↦ absurd (none_some (file_at e b f) r q h)
  ]

  recorded_was : (b : ℕ) (f : Gfid) → is_some (file_at e b f) ≡ true → is_some (file_at d b f) ≡ true
  recorded_was b f h = elim (m.files b f) [
    | inl q ↦ ap is_some (sym q) ∙ h
    | inr q ↦ absurd (let z : false ≡ true = ap is_some (sym q) ∙ h in cc)
  ]

  name_was : (b : ℕ) (x : Entry) (f : Gfid) → name_at e b x ≡ Some f → name_at d b x ≡ Some f
  name_was b x f = slot_by (λ p. file_in p ≡ Some f → name_at d b x ≡ Some f) b x (λ h. h) (λ h. absurd (let z : None ≡ Some f = h in cc))

  housed_no_more : (x : Entry) (b : ℕ) → (slot_at d b x ≢ bare → is_some (dir_at d b x.0) ≡ true) → slot_at e b x ≢ bare → is_some (dir_at e b x.0) ≡ true
  housed_no_more x b h ne = ap is_some (m.dirs b x.0) ∙ elim (m.slots b x) [
    | inl q ↦ h (λ z. ne (q ∙ z))
    | inr q ↦ absurd (ne q)
  ]

  pub early_no_more : (s t : History) → t.run ≡ s.run → t.weights ≡ s.weights → ((b : ℕ) → (e.brick b).opens.registered ≡ (d.brick b).opens.registered) → ((g : Gfid) → Used e t.tree g → Used d s.tree g) → Early d s → Early e t
  early_no_more s t run weights registered used k = early_on d e s t (record { count = m.count; run = run; weights = weights; dirs = m.dirs; unopened = λ b r h. ap (λ os. contains_key os r) (registered b) ∙ h }) k
      (λ x b l. slot_by IsPlain b x (k.plain x b l) (inl refl))
      (λ x b first l. slot_by HasNone b x (k.unlinked x b first l) refl)
      (λ f b r l h. k.unmoved f b r l (record_was b f r h))
      (λ x b f l h. inl (name_was b x f h))
      (λ g u. inl (used g u))

  -- what is used was used, where the tree has what it had of it, and it is sealed where it was
  pub used_no_more : (t u : Tree) (g : Gfid) → u.bytes g ≡ t.bytes g → u.dirs g ≡ t.dirs g → u.descents g ≡ t.descents g → (view_of e g).sealed ≡ (view_of d g).sealed → Used e u g → Used d t g
  used_no_more t u g bytes dirs descents sealed = used_kept e d u t g (sym m.count)
      (λ h none. h (bytes ∙ none)) (λ h. sym dirs ∙ h) (λ h none. h (descents ∙ none))
      (λ b h. recorded_was b g h)
      (λ b h. ap is_some (sym (m.dirs b g)) ∙ h)
      (sym sealed)

  -- a file that has no name gets none
  nameless_no_more : (t u : Tree) (f : Gfid) → (IsFileUsed d t f → IsFileUsed e u f) → IsNameless d t f → IsNameless e u f
  nameless_no_more t u f used h = record {
    used = used h.used;
    links = λ b x l. slot_by (λ p. links_to f p ≡ false) b x (h.links b x (within b l)) refl;
    copies = λ b x l. slot_by (λ p. is_copy f p.standby ≡ false) b x (h.copies b x (within b l)) refl;
  }

-- the same files are sealed where all registrations and seals are as they were
pub sealed_kept :
    (d e : Disk) (g : Gfid) → e.count ≡ d.count → ((i : ℕ) → (e.brick i).opens ≡ (d.brick i).opens)
    → (view_of e g).sealed ≡ (view_of d g).sealed
sealed_kept d e g count opens = ap (λ (i : ℕ). is_sealed (e.brick i).opens g) (ap (anchor g) count) ∙ ap (λ (o : Opens). is_sealed o g) (opens (anchor g d.count))

pub opened_kept :
    (d e : Disk) (g : Gfid) → e.count ≡ d.count
    → ((i : ℕ) → registrations (e.brick i).opens g ≡ registrations (d.brick i).opens g)
    → (view_of e g).opened ≡ (view_of d g).opened
opened_kept d e g count opens = ap (λ (i : ℕ). registrations (e.brick i).opens g) (ap (anchor g) count) ∙ opens (anchor g d.count)

-- what is used as a file's stays so where its bytes, records and seal do
pub file_used_kept :
    (d e : Disk) (t u : Tree) (f : Gfid) → e.count ≡ d.count → u.bytes f ≡ t.bytes f
    → ((b : ℕ) → file_at e b f ≡ file_at d b f)
    → ((view_of d f).sealed ≡ true → (view_of e f).sealed ≡ true) → IsFileUsed d t f
    → IsFileUsed e u f
file_used_kept d e t u f count bytes files sealed (ByBytes h) = ByBytes (λ none. h (sym bytes ∙ none))
file_used_kept d e t u f count bytes files sealed (ByRecord b r l h) = ByRecord b r (subst (λ (n : ℕ). b < n) (sym count) l) (files b ∙ h)
file_used_kept d e t u f count bytes files sealed (BySeal h) = BySeal (sealed h)

-- less is stored, but only at names that are guarded and of files whose names all are
pub record TakesGuarded (o : Scene) (e : Disk) (u : Tree) : Type 0 where
  pub stores : StoresNoMore o.disk e
  pub locks : (c b : ℕ) (key : Key) → c ≢ o.who.0 → holders e b key c ≡ holders o.disk b key c
  pub names : (x : Entry) → Guards o x ⊎ ((u.names x ≡ o.history.tree.names x) × ((b : ℕ) → slot_at e b x ≡ slot_at o.disk b x))
  pub files : (f : Gfid) → OwnsFile o f ⊎ ((b : ℕ) → file_at e b f ≡ file_at o.disk b f)
  pub dirs : (g : Gfid) → u.dirs g ≡ o.history.tree.dirs g
  pub descents : (g : Gfid) → u.descents g ≡ o.history.tree.descents g
  pub used : (f : Gfid) → IsFileUsed o.disk o.history.tree f → IsFileUsed e u f
  pub sealed : (f : Gfid) → (view_of o.disk f).sealed ≡ true → (view_of e f).sealed ≡ true

module _ (o : Scene) (e : Disk) (u : Tree) (m : TakesGuarded o e u) where
  stands_still : (x : Entry) (h : NameShape) → u.names x ≡ o.history.tree.names x → ((b : ℕ) → slot_at e b x ≡ slot_at o.disk b x) → NameStands o x h → StandsAs e.count (cores_of e x) (u.names x) h
  stands_still x h node slots st = record {
    fits = subst (λ (n : ℕ). NameFits n h) (sym m.stores.count) st.fits;
    has = λ b l. ap core (slots b) ∙ st.has b (subst (λ (n : ℕ). b < n) m.stores.count l);
    node = node ∙ st.node;
  }

  pub taken_touches : Touches o e u
  taken_touches = record {
    count = m.stores.count;
    locks = m.locks;
    names = λ x h st. elim (m.names x) [
      | inl q ↦ inl q
      | inr q ↦ inr (h, grows_refl h, stands_still x h q.0 q.1 st)
    ];
    slots = λ x b same. elim (m.names x) [
      | inl q ↦ inl q
      | inr q ↦ inr (q.1 b)
    ];
    outlines = λ b f l. elim (m.files f) [
      | inl q ↦ inl q
      | inr q ↦ inr (ap outline (q b))
    ];
    dirs = λ g b. inr (Same (m.stores.dirs b g));
    both = λ x g on st. elim (m.names x) [
      | inl q ↦ inl q
      | inr q ↦ inr (inr (stands_still x (Folder g on) q.0 q.1 st))
    ];
    known = λ g h. inr (m.dirs g ∙ h);
    planned = λ g. planned_same o.disk e g o.history.weights o.history.weights m.stores.count refl (λ b. m.stores.dirs b g);
    made = λ g h k. m.descents g ∙ k;
    used = m.used;
    sealed = m.sealed;
    nameless = λ f. nameless_no_more o.disk e m.stores o.history.tree u f (m.used f);
  }

-- where no slot and no directory changes, none is named
pub no_dir_named :
    (p : Reach) (b : ℕ) (d e : Disk) → p.stored.dir ≡ None → p.stored.slot ≡ None → p.turned ≡ None
    → (g : Gfid) → NamesDir p b d e g → ⊥
no_dir_named p b d e dir slot turned g (ByDirRecord k) = none_some p.stored.dir g dir k
no_dir_named p b d e dir slot turned g (ByDirName x k z) = none_some p.stored.slot x slot k
no_dir_named p b d e dir slot turned g (ByParent r k there place z) = none_some p.turned k.dir turned z

pub no_node_named : (p : Reach) (t : Tree) → p.stored.slot ≡ None → (g : Gfid) → IsNode p t g → ⊥
no_node_named p t slot g h = none_some p.stored.slot h.entry slot h.slot

-- things stand where no more is stored, and no directory and no lock is named
module _ (s t : Scene) (a : Ask) (r : Reply) (m : Guarantee s a r t) (less : StoresNoMore s.disk t.disk) where
  pub things_no_more : ((x : Entry) → ((reach_of s a).stored.slot ≢ Some x) ⊎ NameClause t.disk t.history.tree x) → ((f : Gfid) → (NamesFile (reach_of s a) a.brick.0 s.disk t.disk f → ⊥) ⊎ FileClause t.disk t.history.tree (most_hops t.history) s.claims f) → ((g : Gfid) → (NamesDir (reach_of s a) a.brick.0 s.disk t.disk g → ⊥) × (IsNode (reach_of s a) s.history.tree g → ⊥)) → ((i : ℕ) (key : Key) → NamesLock (reach_of s a) a.brick.0 i key → ⊥) → Things s.disk s.history.tree (most_hops s.history) s.claims → Things t.disk t.history.tree (most_hops t.history) t.claims
  things_no_more names files dirs locks k =
      let others = answers_leave_others s t a r m in
      subst (λ (p : ℕ → Claim). Things t.disk t.history.tree (most_hops t.history) p) (sym m.claims) (record {
        names = λ x. elim (names x) [
          | inl out ↦ others.names x out (k.names x)
          | inr h ↦ h
        ];
        files = λ f. elim (files f) [
          | inl out ↦ others.files f out (k.files f)
          | inr h ↦ h
        ];
        dirs = λ g. others.dirs g (dirs g).0 (dirs g).1 (k.dirs g);
        locks = λ b key l. others.locks b key (locks b key) (k.locks b key (within s.disk t.disk less b l));
        housed = λ x b l. housed_no_more s.disk t.disk less x b (k.housed x b (within s.disk t.disk less b l));
        roots = λ b l. ap is_some (less.dirs b root) ∙ k.roots b (within s.disk t.disk less b l);
      })
