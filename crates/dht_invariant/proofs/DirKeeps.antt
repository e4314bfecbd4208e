-- What a request leaves that makes or drops a copy of a directory,
-- or sets its range: all things but that directory and its name.
use Rattle.std.proofs.Common.{◌≡◌, ◌≢◌, ◌<◌, ◌≤◌, ℕ, Bool, true, false, List, sym, ap, ◌∙◌, subst, inl, inr, ◌⊎◌}
use Rattle.std.specs.Prelude.{Option, Some, None, is_some}
use Rattle.std.specs.Option.{option_map}
use Rattle.std.specs.FinMap.{contains_key}
use Rattle.dht_types.specs.Gfid.{Entry, home, root, run_of}
use Rattle.dht_types.specs.Tree.{Tree, Descent}
use Rattle.dht_types.specs.History.{History}
use Rattle.dht_types.specs.declared.identifiers.Gfid.{Gfid}
use Rattle.dht_types.specs.declared.locks.Key.{Key}
use Rattle.dht_types.specs.declared.names.EntryKey.{EntryKey}
use Rattle.dht_types.specs.declared.stored.DirRecord.{DirRecord}
use Rattle.dht_types.specs.declared.stored.Slot.{Slot}
use Rattle.dht_hash.specs.DaviesMeyer.{dm}
use Rattle.dht_xattr.specs.Layout.{holder}
use Rattle.dht_brick.specs.Contents.{Opens, bare}
use Rattle.dht_brick.specs.Parts.{is_copy, is_dir, is_plain}
use Rattle.dht_section.specs.Claims.{Claim, places_of}
use Rattle.dht_section.specs.Disk.{Disk, file_in, slot_at, name_at, file_at, dir_at, range_of, holder_of, holders}
use Rattle.dht_section.specs.Dirs.{DirInvariant}
use Rattle.dht_section.specs.Early.{Early, IsPlain}
use Rattle.dht_section.specs.Invariant.{Things, Used, ByBytes, ByDir, ByDescent, ByRecord, ByCopy, BySeal}
use Rattle.dht_section.specs.Names.{NameInvariant, StandsAs}
use Rattle.dht_section.specs.Planned.{AllPlanned}
use Rattle.dht_section.specs.Rely as rely
use Rattle.dht_section.specs.Rely.{IsFileUsed, IsNameless, outline}
use Rattle.dht_section.specs.Scene.{Scene, HoldsAlone, Guards, NameStands}
use Rattle.dht_section.specs.Shapes.{NameShape, Folder, NameFits}
use Rattle.dht_section.specs.Views.{FileView, core, cores_of, links_to, view_of, dir_view}
use Rattle.dht_section.proofs.SlotLaws.{entry_cases}
use Rattle.dht_invariant.specs.Touches.{Touches, DirStays, Same, Grew}
use Rattle.dht_invariant.proofs.Basics.{gfid_cases, none_some}
use Rattle.dht_invariant.proofs.DirLaws.{Remains, SameAt, same_at, dir_remains}
use Rattle.dht_invariant.proofs.FolderLaws.{IsOrNone, core_or, core_of, other_folder, no_links, no_plain, no_copy}
use Rattle.dht_invariant.proofs.Frames.{name_kept, file_kept, lock_kept, view_same}
use Rattle.dht_invariant.proofs.GrowsLaws.{grows_refl}
use Rattle.dht_invariant.proofs.LayoutLaws.{layout_same}

-- what becomes of a slot where one name comes to be a directory's, or ceases to; slots in the
-- directory go where this holds
pub data SlotTurns (d e : Disk) (g : Gfid) (x : Entry) (gone : Type 0) (i : ℕ) (y : Entry) : Type 0 where
  Stays : slot_at e i y ≡ slot_at d i y → SlotTurns d e g x gone i y
  Turns : y ≡ x → is_some (dir_at d i y.0) ≡ true
      → IsOrNone g (core (slot_at d i y)) → IsOrNone g (slot_at e i y) → SlotTurns d e g x gone i y
  Goes : gone → y.0 ≡ g → core (slot_at d i y) ≡ bare → slot_at e i y ≡ bare
      → SlotTurns d e g x gone i y

-- how deep a directory is, by a brick's copy
abbrev pub depth_at : Disk → ℕ → Gfid → Option ℕ
depth_at d i g = option_map (λ (r : DirRecord). r.depth) (dir_at d i g)

-- a brick that has slots of the directory keeps a copy of it
abbrev pub StaysHoused : Disk → Disk → Gfid → ℕ → Type 0
StaysHoused d e g i =
    (is_some (dir_at d i g) ≡ true → is_some (dir_at e i g) ≡ true)
    ⊎ ((y : Entry) → y.0 ≡ g → slot_at e i y ≡ bare)

-- no brick changes more than copies of the directory, its one name, and slots within it
pub record DirTurns (d e : Disk) (g : Gfid) (x : Entry) (gone : Type 0) : Type 0 where
  pub count : e.count ≡ d.count
  pub opens : (i : ℕ) → (e.brick i).opens ≡ (d.brick i).opens
  pub files : (i : ℕ) (f : Gfid) → file_at e i f ≡ file_at d i f
  pub dirs : (i : ℕ) (h : Gfid) → h ≢ g → dir_at e i h ≡ dir_at d i h
  pub slots : (i : ℕ) (y : Entry) → SlotTurns d e g x gone i y
  pub housed : (i : ℕ) → StaysHoused d e g i
  pub roots : (i : ℕ) → i < d.count → is_some (dir_at d i root) ≡ true → is_some (dir_at e i root) ≡ true
  -- it stays above the directories whose names stand in it
  pub parents : (i n : ℕ) (m : List ℕ) (h : Gfid)
      → i < d.count → is_dir h (slot_at d i (g, m)).main ≡ true → depth_at d i g ≡ Some n → depth_at e i g ≡ Some n

-- and no more of the tree than that
pub record TreeTurns (t u : Tree) (g : Gfid) (x : Entry) : Type 0 where
  pub names : (y : Entry) → y ≢ x → u.names y ≡ t.names y
  pub bytes : (f : Gfid) → u.bytes f ≡ t.bytes f
  pub dirs : (h : Gfid) → h ≢ g → u.dirs h ≡ t.dirs h
  pub descents : (h : Gfid) → h ≢ g → u.descents h ≡ t.descents h

module _ (d e : Disk) (g : Gfid) (x : Entry) (gone : Type 0) (m : DirTurns d e g x gone) where
  within : (i : ℕ) → i < e.count → i < d.count
  within i l = subst (λ (n : ℕ). i < n) m.count l

  -- what of a slot a directory's name, or none, does not show is as it was
  pub slot_keeps : {X : Type 0} (f : Slot → X) (v : X) → ((p : Slot) → IsOrNone g (core p) → f p ≡ v) → (i : ℕ) (y : Entry) → f (slot_at e i y) ≡ f (slot_at d i y)
  slot_keeps f v same i y = by (m.slots i y)
    where
      by : SlotTurns d e g x gone i y → f (slot_at e i y) ≡ f (slot_at d i y)
      by (Stays q) = ap f q
      by (Turns q there old new) = same (slot_at e i y) (core_or g (slot_at e i y) new) ∙ sym (same (slot_at d i y) old)
      by (Goes h q old new) = same (slot_at e i y) (core_or g (slot_at e i y) (inl new)) ∙ sym (same (slot_at d i y) (inl old))

  -- another name shows what it showed
  pub core_stays : (i : ℕ) (y : Entry) → y ≢ x → core (slot_at e i y) ≡ core (slot_at d i y)
  core_stays i y ne = by (m.slots i y)
    where
      by : SlotTurns d e g x gone i y → core (slot_at e i y) ≡ core (slot_at d i y)
      by (Stays q) = ap core q
      by (Turns q there old new) = absurd (ne q)
      by (Goes h q old new) = ap core new ∙ sym old

  -- and so does each file
  pub view_stays : (f : Gfid) → view_of e f ≡ view_of d f
  view_stays f = view_same d e f m.count m.opens (λ i. m.files i f)
      (slot_keeps (links_to f) false (λ p h. no_links p g f h))
      (slot_keeps (λ (p : Slot). is_plain f p.main) false (λ p h. no_plain p g f h))
      (slot_keeps (λ (p : Slot). is_copy f p.standby) false (λ p h. no_copy p g f h))

  -- a slot that holds something is in a directory that is there
  housed : (y : Entry) (i : ℕ) → (slot_at d i y ≢ bare → is_some (dir_at d i y.0) ≡ true) → slot_at e i y ≢ bare → is_some (dir_at e i y.0) ≡ true
  housed y i was ne = stays (there (m.slots i y))
    where
      there : SlotTurns d e g x gone i y → is_some (dir_at d i y.0) ≡ true
      there (Stays q) = was (λ z. ne (q ∙ z))
      there (Turns q h old new) = h
      there (Goes h q old new) = absurd (ne new)

      stays : is_some (dir_at d i y.0) ≡ true → is_some (dir_at e i y.0) ≡ true
      stays h = elim (gfid_cases y.0 g) [
        | inl q ↦ elim (m.housed i) [
          | inl k ↦ ap (λ (z : Gfid). is_some (dir_at e i z)) q ∙ k (ap (λ (z : Gfid). is_some (dir_at d i z)) (sym q) ∙ h)
          | inr k ↦ absurd (ne (k y q))
        ]
        | inr nq ↦ ap is_some (m.dirs i y.0 nq) ∙ h
      ]

  -- ---- another directory
  main_stays : (h : Gfid) → h ≢ g → (i : ℕ) (y : Entry) → is_dir h (slot_at e i y).main ≡ is_dir h (slot_at d i y).main
  main_stays h ne i y = slot_keeps (λ (p : Slot). is_dir h p.main) false (λ p k. other_folder p g h ne k) i y

  above_stays : (h : Gfid) (i n : ℕ) (k : EntryKey) → i < d.count → is_dir h (slot_at d i (k.dir, k.name)).main ≡ true → depth_at d i k.dir ≡ Some n → depth_at e i k.dir ≡ Some n
  above_stays h i n k l main was = elim (gfid_cases k.dir g) [
    | inl q ↦ ap (depth_at e i) q
        ∙ m.parents i n k.name h l (ap (λ (z : Gfid). is_dir h (slot_at d i (z, k.name)).main) (sym q) ∙ main) (ap (depth_at d i) (sym q) ∙ was)
    | inr ne ↦ ap (λ o. option_map (λ (r : DirRecord). r.depth) o) (m.dirs i k.dir ne) ∙ was
  ]

  remains : (h : Gfid) → h ≢ g → Remains d.count h (dir_view d h) (dir_view e h)
  remains h ne = record {
    copies = λ i l. subst (SameAt (dir_at d i h)) (sym (m.dirs i h ne)) (same_at (dir_at d i h));
    home = ap is_some (m.dirs (home h) h ne);
    mains = λ i y l. main_stays h ne i y;
    above = λ i n k l main was. above_stays h i n k l main was;
  }

  -- ---- all things, where the directory and its name are as they should be
  pub things_turn : (t u : Tree) (low top : ℕ) (claims : ℕ → Claim) → low ≤ top → TreeTurns t u g x → ((i : ℕ) → (e.brick i).locks ≡ (d.brick i).locks) → NameInvariant e.count (cores_of e x) (u.names x) → DirInvariant e.count g (dir_view e g) (u.dirs g) (u.descents g) → Things d t low claims → Things e u top claims
  things_turn t u low top claims higher tree locks name own k = record {
    names = λ y. elim (entry_cases y x) [
      | inl q ↦ subst (λ (z : Entry). NameInvariant e.count (cores_of e z) (u.names z)) (sym q) name
      | inr ne ↦ name_kept d.count e.count (cores_of d y) (cores_of e y) (t.names y) (u.names y) m.count (λ i. core_stays i y ne) (tree.names y ne) (k.names y)
    ];
    files = λ f. file_kept d.count e.count low top (places_of claims f) (view_of d f) (view_of e f) (t.bytes f) (u.bytes f) m.count (view_stays f) (tree.bytes f) higher (k.files f);
    dirs = λ h. elim (gfid_cases h g) [
      | inl q ↦ subst (λ (z : Gfid). DirInvariant e.count z (dir_view e z) (u.dirs z) (u.descents z)) (sym q) own
      | inr ne ↦ subst (λ (n : ℕ). DirInvariant n h (dir_view e h) (u.dirs h) (u.descents h)) (sym m.count)
          (subst (λ (o : Option Descent). DirInvariant d.count h (dir_view e h) (u.dirs h) o) (sym (tree.descents h ne))
          (subst (λ (v : Bool). DirInvariant d.count h (dir_view e h) v (t.descents h)) (sym (tree.dirs h ne))
          (dir_remains d.count h (dir_view d h) (dir_view e h) (remains h ne) (t.dirs h) (t.descents h) (k.dirs h))))
    ];
    locks = λ i key l. lock_kept i key (holders d i key) (holders e i key) claims (ap (λ h. h key) (locks i)) (k.locks i key (within i l));
    housed = λ y i l. housed y i (k.housed y i (within i l));
    roots = λ i l. m.roots i (within i l) (k.roots i (within i l));
  }

  -- ---- what is used
  pub sealed_stays : (f : Gfid) → (view_of e f).sealed ≡ (view_of d f).sealed
  sealed_stays f = ap (λ (v : FileView). v.sealed) (view_stays f)

  pub file_used_stays : (t u : Tree) (f : Gfid) → u.bytes f ≡ t.bytes f → IsFileUsed d t f → IsFileUsed e u f
  file_used_stays t u f bytes (rely.ByBytes h) = rely.ByBytes (λ none. h (sym bytes ∙ none))
  file_used_stays t u f bytes (rely.ByRecord i r l h) = rely.ByRecord i r (subst (λ (n : ℕ). i < n) (sym m.count) l) (m.files i f ∙ h)
  file_used_stays t u f bytes (rely.BySeal h) = rely.BySeal (sealed_stays f ∙ h)

  pub nameless_stays : (t u : Tree) (f : Gfid) → u.bytes f ≡ t.bytes f → IsNameless d t f → IsNameless e u f
  nameless_stays t u f bytes h = record {
    used = file_used_stays t u f bytes h.used;
    links = λ i y l. ap (λ (v : FileView). v.links i y) (view_stays f) ∙ h.links i y (within i l);
    copies = λ i y l. ap (λ (v : FileView). v.copies i y) (view_stays f) ∙ h.copies i y (within i l);
  }

  -- another gfid that is used was used
  pub used_was : (t u : Tree) → TreeTurns t u g x → (h : Gfid) → h ≢ g → Used e u h → Used d t h
  used_was t u tree h ne (ByBytes k) = ByBytes (λ none. k (tree.bytes h ∙ none))
  used_was t u tree h ne (ByDir k) = ByDir (sym (tree.dirs h ne) ∙ k)
  used_was t u tree h ne (ByDescent k) = ByDescent (λ none. k (tree.descents h ne ∙ none))
  used_was t u tree h ne (ByRecord i r l k) = ByRecord i r (within i l) (sym (m.files i h) ∙ k)
  used_was t u tree h ne (ByCopy i l k) = ByCopy i (within i l) (ap is_some (sym (m.dirs i h ne)) ∙ k)
  used_was t u tree h ne (BySeal k) = BySeal (sym (sealed_stays h) ∙ k)

  -- ---- ranges
  planned_stays : (weights : List ℕ) (h : Gfid) → h ≢ g → AllPlanned d weights h → AllPlanned e weights h
  planned_stays weights h ne k i r l there = k i r (within i l) (sym (m.dirs i h ne) ∙ there)

  pub planned_all : (weights : List ℕ) → (AllPlanned d weights g → AllPlanned e weights g) → (h : Gfid) → AllPlanned d weights h → AllPlanned e weights h
  planned_all weights own h k = elim (gfid_cases h g) [
    | inl q ↦ subst (AllPlanned e weights) (sym q) (own (subst (AllPlanned d weights) q k))
    | inr ne ↦ planned_stays weights h ne k
  ]

  holder_stays : (y : Entry) → y.0 ≢ g → holder_of e y ≡ holder_of d y
  holder_stays y ne = ap (λ ranges. holder ranges (dm y.1)) (layout_same d e y.0 m.count (λ i. ap range_of (m.dirs i y.0 ne)))

  -- ---- what holds for now
  plain_stays : (i : ℕ) (y : Entry) → IsPlain (slot_at d i y) → IsPlain (slot_at e i y)
  plain_stays i y was = by (m.slots i y)
    where
      one : (p : Slot) → IsOrNone g p → IsPlain p
      one p (inl q) = inl (ap core q)
      one p (inr q) = inr (inr (g, q))

      by : SlotTurns d e g x gone i y → IsPlain (slot_at e i y)
      by (Stays q) = subst IsPlain (sym q) was
      by (Turns q there old new) = one (slot_at e i y) new
      by (Goes h q old new) = one (slot_at e i y) (inl new)

  unlinked_stays : (i : ℕ) (y : Entry) → slot_at d i y ≡ core (slot_at d i y) → slot_at e i y ≡ core (slot_at e i y)
  unlinked_stays i y was = by (m.slots i y)
    where
      by : SlotTurns d e g x gone i y → slot_at e i y ≡ core (slot_at e i y)
      by (Stays q) = q ∙ (was ∙ ap core (sym q))
      by (Turns q there old new) = sym (core_of g (slot_at e i y) new)
      by (Goes h q old new) = sym (core_of g (slot_at e i y) (inl new))

  -- a file's name was there
  named_was : (i : ℕ) (y : Entry) (f : Gfid) → name_at e i y ≡ Some f → name_at d i y ≡ Some f
  named_was i y f h = by (m.slots i y)
    where
      none : (p : Slot) → IsOrNone g p → file_in p ≡ None
      none p (inl q) = ap file_in q
      none p (inr q) = ap file_in q

      by : SlotTurns d e g x gone i y → name_at d i y ≡ Some f
      by (Stays q) = ap file_in (sym q) ∙ h
      by (Turns q there old new) = absurd (none_some (name_at e i y) f (none (slot_at e i y) new) h)
      by (Goes k q old new) = absurd (none_some (name_at e i y) f (none (slot_at e i y) (inl new)) h)

  pub early_turns : (s t : History) → t.run ≡ s.run → t.weights ≡ s.weights → (AllPlanned d s.weights g → AllPlanned e s.weights g) → ((y : Entry) (i : ℕ) (f : Gfid) → y.0 ≡ g → s.run ≡ 1 → i < d.count → name_at d i y ≡ Some f → holder_of d y ≡ Some i → holder_of e y ≡ Some i) → ((h : Gfid) → Used e t.tree h → Used d s.tree h ⊎ (run_of h ≤ s.run)) → Early d s → Early e t
  early_turns s t run weights own holds used k = record {
    plain = λ y i l. plain_stays i y (k.plain y i (within i l));
    unmoved = λ f i r l h. k.unmoved f i r (within i l) (sym (m.files i f) ∙ h);
    unopened = λ i r l. ap (λ (o : Opens). contains_key o.registered r) (m.opens i) ∙ k.unopened i r (within i l);
    planned = λ h first. subst (λ (w : List ℕ). AllPlanned e w h) (sym weights) (planned_all s.weights own h (k.planned h (sym run ∙ first)));
    held = λ y i f first l h.
        (let named = named_was i y f h in
        let was = k.held y i f (sym run ∙ first) (within i l) named in
        elim (gfid_cases y.0 g) [
          | inl q ↦ holds y i f q (sym run ∙ first) (within i l) (named_was i y f h) was
          | inr ne ↦ holder_stays y ne ∙ was
        ]);
    unlinked = λ y i first l. unlinked_stays i y (k.unlinked y i (sym run ∙ first) (within i l));
    earlier = λ h u. subst (λ (n : ℕ). run_of h ≤ n) (sym run) (elim (used h u) [
      | inl q ↦ k.earlier h q
      | inr q ↦ q
    ]);
  }

-- ---- what it touches

-- what is left to show of the directory and its name
pub record OwnTurns (o : Scene) (e : Disk) (u : Tree) (g : Gfid) (x : Entry) : Type 0 where
  pub name : (h : NameShape) → NameStands o x h → Guards o x ⊎ Grew e u x h
  pub slot : (i : ℕ) → core (slot_at e i x) ≡ core (slot_at o.disk i x) → Guards o x ⊎ (slot_at e i x ≡ slot_at o.disk i x)
  pub copies : (i : ℕ) → HoldsAlone o g ⊎ DirStays o e i g
  pub both : (h : Gfid) (on : ℕ → Bool)
      → NameStands o x (Folder h on)
      → Guards o x ⊎ HoldsAlone o h ⊎ StandsAs e.count (cores_of e x) (u.names x) (Folder h on)
  pub known : o.history.tree.dirs g ≡ true → HoldsAlone o g ⊎ (u.dirs g ≡ true)
  pub planned : AllPlanned o.disk o.history.weights g → AllPlanned e o.history.weights g
  pub made : (y : Descent) → o.history.tree.descents g ≡ Some y → u.descents g ≡ Some y

module _ (o : Scene) (e : Disk) (u : Tree) (g : Gfid) (x : Entry) (m : DirTurns o.disk e g x (HoldsAlone o g)) (tree : TreeTurns o.history.tree u g x) (own : OwnTurns o e u g x) where
  stands_still : (y : Entry) (h : NameShape) → y ≢ x → NameStands o y h → StandsAs e.count (cores_of e y) (u.names y) h
  stands_still y h ne st = record {
    fits = subst (λ (n : ℕ). NameFits n h) (sym m.count) st.fits;
    has = λ i l. core_stays o.disk e g x (HoldsAlone o g) m i y ne ∙ st.has i (within o.disk e g x (HoldsAlone o g) m i l);
    node = tree.names y ne ∙ st.node;
  }

  slot_other : (i : ℕ) (y : Entry) → y ≢ x → Guards o y ⊎ (slot_at e i y ≡ slot_at o.disk i y)
  slot_other i y ne = by (m.slots i y)
    where
      by : SlotTurns o.disk e g x (HoldsAlone o g) i y → Guards o y ⊎ (slot_at e i y ≡ slot_at o.disk i y)
      by (Stays q) = inr q
      by (Turns q there old new) = absurd (ne q)
      by (Goes h q old new) = inl (inr (subst (HoldsAlone o) (sym q) h))

  pub turns_touch : ((c i : ℕ) (key : Key) → c ≢ o.who.0 → holders e i key c ≡ holders o.disk i key c) → Touches o e u
  turns_touch locks = record {
    count = m.count;
    locks = locks;
    names = λ y h st. elim (entry_cases y x) [
      | inl q ↦ subst (λ (z : Entry). Guards o z ⊎ Grew e u z h) (sym q) (own.name h (subst (λ (z : Entry). NameStands o z h) q st))
      | inr ne ↦ inr (h, grows_refl h, stands_still y h ne st)
    ];
    slots = λ y i same. elim (entry_cases y x) [
      | inl q ↦ subst (λ (z : Entry). Guards o z ⊎ (slot_at e i z ≡ slot_at o.disk i z)) (sym q)
          (own.slot i (subst (λ (z : Entry). core (slot_at e i z) ≡ core (slot_at o.disk i z)) q same))
      | inr ne ↦ slot_other i y ne
    ];
    outlines = λ i f l. inr (ap outline (m.files i f));
    dirs = λ h i. elim (gfid_cases h g) [
      | inl q ↦ subst (λ (z : Gfid). HoldsAlone o z ⊎ DirStays o e i z) (sym q) (own.copies i)
      | inr ne ↦ inr (Same (m.dirs i h ne))
    ];
    both = λ y h on st. elim (entry_cases y x) [
      | inl q ↦ subst (λ (z : Entry). Guards o z ⊎ HoldsAlone o h ⊎ StandsAs e.count (cores_of e z) (u.names z) (Folder h on)) (sym q)
          (own.both h on (subst (λ (z : Entry). NameStands o z (Folder h on)) q st))
      | inr ne ↦ inr (inr (stands_still y (Folder h on) ne st))
    ];
    known = λ h was. elim (gfid_cases h g) [
      | inl q ↦ subst (λ (z : Gfid). HoldsAlone o z ⊎ (u.dirs z ≡ true)) (sym q) (own.known (ap o.history.tree.dirs (sym q) ∙ was))
      | inr ne ↦ inr (tree.dirs h ne ∙ was)
    ];
    planned = planned_all o.disk e g x (HoldsAlone o g) m o.history.weights own.planned;
    made = λ h y was. elim (gfid_cases h g) [
      | inl q ↦ ap u.descents q ∙ own.made y (ap o.history.tree.descents (sym q) ∙ was)
      | inr ne ↦ tree.descents h ne ∙ was
    ];
    used = λ f. file_used_stays o.disk e g x (HoldsAlone o g) m o.history.tree u f (tree.bytes f);
    sealed = λ f h. sealed_stays o.disk e g x (HoldsAlone o g) m f ∙ h;
    nameless = λ f. nameless_stays o.disk e g x (HoldsAlone o g) m o.history.tree u f (tree.bytes f);
  }
