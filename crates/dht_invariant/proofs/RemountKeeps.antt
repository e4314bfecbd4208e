-- A remount keeps the invariant, and what holds beside
-- it for now; and so does one that was broken off.
use Rattle.std.proofs.Common.{◌≡◌, ◌≢◌, ◌<◌, ◌≤◌, ℕ, true, false, refl, sym, ap, ◌∙◌, subst, cond, inl, inr, length, arith}
use Rattle.std.specs.Prelude.{Option, Some, None, List, is_some, not, unwrap_or, slice_index_or, ◌⊎◌, ◌+◌}
use Rattle.std.specs.Option.{option_map}
use Rattle.std.specs.FinMap.{get, contains_key, get-empty, get-retain_keys}
use Rattle.std.proofs.lemmas.Bool.{cases_lt}
use Rattle.dht_types.proofs.HistoryLaws.{point_with_line}
use Rattle.dht_types.specs.Gfid.{Entry, root, home, anchor}
use Rattle.dht_types.specs.History.{History, IsOwn, with_line}
use Rattle.dht_types.proofs.PutLaws.{exact_gfid}
use Rattle.dht_types.specs.Tree.{Tree, Descent, of_root, depth_in, depth_of}
use Rattle.dht_types.specs.Volume.{HasWeight}
use Rattle.dht_types.specs.declared.identifiers.CallNo.{CallNo}
use Rattle.dht_types.specs.declared.identifiers.ClientNo.{ClientNo}
use Rattle.dht_types.specs.declared.identifiers.Gfid.{Gfid}
use Rattle.dht_types.specs.declared.lines.Line.TheVariants.{Remounted}
use Rattle.dht_types.specs.declared.locks.Key.{Key}
use Rattle.dht_types.specs.declared.locks.Mode.{Mode}
use Rattle.dht_types.specs.declared.names.EntryKey.{EntryKey}
use Rattle.dht_types.specs.declared.stored.DirRecord.{DirRecord}
use Rattle.dht_types.specs.declared.stored.Record.{Record}
use Rattle.dht_types.specs.declared.stored.Slot.{Slot}
use Rattle.dht_hash.specs.DaviesMeyer.{dm}
use Rattle.dht_brick.proofs.TableLemmas.{gfid_exact}
use Rattle.dht_brick.specs.Contents.{Contents, bare, newborn, no_opens, slot, dir, file, entry_at, gfid_cmp, entry_cmp, registration_cmp}
use Rattle.dht_brick.specs.Events.{remounted}
use Rattle.dht_brick.specs.OpenRows.{registrations, is_sealed}
use Rattle.dht_brick.specs.Parts.{is_copy, is_dir, is_forward, is_plain}
use Rattle.dht_brick.specs.declared.opens.Registration.{Registration}
use Rattle.dht_section.specs.Claims.{Claim, places_of}
use Rattle.dht_section.specs.Dirs.{DirInvariant, PlacedAt, SameCopy, StandsIn, CopyAt}
use Rattle.dht_section.specs.Disk.{Disk, file_in, slot_at, name_at, file_at, dir_at, range_of_value, range_of, holder_of, holders}
use Rattle.dht_section.specs.Planned.{AllPlanned, bounds}
use Rattle.dht_xattr.specs.Plan.{planned}
use Rattle.dht_section.specs.Early.{Early, IsPlain, IsUnmoved}
use Rattle.dht_section.specs.Invariant.{Invariant, Things, Used, ByBytes, ByDir, ByDescent, ByRecord, ByCopy, BySeal, most_hops}
use Rattle.dht_section.specs.Locks.{LockInvariant}
use Rattle.dht_section.specs.Views.{core, cores_of, links_to, view_of, dir_view}
use Rattle.dht_invariant.specs.Laws.{RemountsKeep, RemountsInPartKeep}
use Rattle.dht_invariant.specs.Remount.{Remounts, RemountsInPart}
use Rattle.dht_invariant.proofs.Basics.{is_there, none_some, some_same, true_false, anchor_within}
use Rattle.dht_invariant.proofs.EarlyLaws.{HasNone}
use Rattle.dht_invariant.proofs.NodeLaws.{told_dir}
use Rattle.dht_invariant.proofs.LayoutLaws.{holder_stays}
use Rattle.dht_invariant.proofs.Newborn.{none_open, root_record, root_first, root_only, is_not}
use Rattle.dht_invariant.proofs.OwnLaws.{own_later}
use Rattle.dht_invariant.proofs.QuietKeeps.{at_most}
use Rattle.dht_invariant.proofs.WiderLaws.{ShowsWider, name_wider, file_wider}

no_range : bounds (range_of (Some (root_record None))) ≡ None
unfolding range_of_value
no_range = refl

-- bricks store what they stored, further ones are new, and nobody holds or has open what he did not
record Anew (d e : Disk) : Type 0 where
  more : d.count ≤ e.count
  slots : (b : ℕ) (x : Entry) → b < d.count → slot_at e b x ≡ slot_at d b x
  files : (b : ℕ) (f : Gfid) → b < d.count → file_at e b f ≡ file_at d b f
  dirs : (b : ℕ) (g : Gfid) → b < d.count → dir_at e b g ≡ dir_at d b g
  new : (b : ℕ) → d.count ≤ b → b < e.count → e.brick b ≡ newborn None
  homes : (g : Gfid) → is_some (dir_at e (home g) g) ≡ is_some (dir_at d (home g) g)
  locks : (b : ℕ) (key : Key) (c : ℕ) (m : Mode)
      → b < e.count → holders e b key c ≡ Some m → (b < d.count) × (holders d b key c ≡ Some m)
  opened : (f : Gfid) → (view_of e f).opened ≤ (view_of d f).opened
  unopened : (b : ℕ) (r : Registration) → b < e.count → contains_key (e.brick b).opens.registered r ≡ false
  sealed : (f : Gfid) → (view_of e f).sealed ≡ true → (view_of d f).sealed ≡ true

module _ (d e : Disk) (s : History) (p : ℕ → Claim) (m : Anew d e) (k : Invariant d s p) (now : Early d s) where
  -- what holds of a brick that was there, and of a new one
  each : (P : ℕ → Type 0) → ((b : ℕ) → b < d.count → P b) → ((b : ℕ) → d.count ≤ b → b < e.count → P b) → (b : ℕ) → b < e.count → P b
  each P old new b l = elim (cases_lt b d.count) [
    | inl q ↦ old b q
    | inr q ↦ new b q l
  ]

  some : 0 < e.count
  some = (let few = k.some_brick in let more = m.more in omega arith)

  new_slot : (b : ℕ) (x : Entry) → d.count ≤ b → b < e.count → slot_at e b x ≡ bare
  new_slot b x h l = ap (λ (c : Contents). slot c.store x) (m.new b h l) ∙ ap (λ o. unwrap_or o bare) (get-empty entry_cmp x)

  new_file : (b : ℕ) (f : Gfid) → d.count ≤ b → b < e.count → file_at e b f ≡ None
  new_file b f h l = ap (λ (c : Contents). file c.store f) (m.new b h l) ∙ get-empty gfid_cmp f

  -- ---- directories

  -- the root stands nowhere, as the tree says
  root_parts : (b : ℕ) (r : DirRecord) → b < d.count → dir_at d b root ≡ Some r → (r.place ≡ None) × (r.depth ≡ 0)
  root_parts b r l h = by r.place refl
    where
      placed : (o : Option EntryKey) → r.place ≡ o → PlacedAt (dir_view d root) b r o
      placed o q = subst (PlacedAt (dir_view d root) b r) q ((k.things.dirs root).placed b r l h)

      below : (x : Entry) → is_dir root (slot_at d b x).main ≡ true → ⊥
      below x main =
          let child = k.tree.child x root (told_dir d x (s.tree.names x) b root (k.things.names x) l main) in
          let same : of_root ≡ record { depth = depth_of s.tree x.0 + 1; place = Some x } = some_same (s.tree.descents root) _ _ k.tree.rooted.1 child.descent in
          let z : None ≡ Some x = ap (λ (y : Descent). y.place) same in cc

      by : (o : Option EntryKey) → r.place ≡ o → (r.place ≡ None) × (r.depth ≡ 0)
      by None q = (q, placed None q)
      by (Some x) q = absurd (below (entry_at x) (let z : StandsIn (dir_view d root) b r x = placed (Some x) q in z.main))

  -- a record was there, or is the root's on a new brick
  record IsNewRoot (b : ℕ) (g : Gfid) (r : DirRecord) : Type 0 where
    at_root : g ≡ root
    record_is : r ≡ root_record None

  new_record : (b : ℕ) (g : Gfid) (r : DirRecord) → d.count ≤ b → b < e.count → dir_at e b g ≡ Some r → IsNewRoot b g r
  new_record b g r h l q =
      let at_root : g ≡ root = (exact_gfid g root).0 (sym (root_only None g) ∙ (ap (λ (c : Contents). is_some (dir c.store g)) (sym (m.new b h l)) ∙ ap is_some q)) in
      record {
        at_root = at_root;
        record_is = some_same (dir_at e b root) r (root_record None) (ap (dir_at e b) (sym at_root) ∙ q) (ap (λ (c : Contents). dir c.store root) (m.new b h l) ∙ root_first None);
      }

  -- what holds of a directory's record, where it was there and where it is new
  each_record : (P : ℕ → DirRecord → Type 0) (g : Gfid) → ((b : ℕ) (r : DirRecord) → b < d.count → dir_at d b g ≡ Some r → P b r) → ((b : ℕ) (r : DirRecord) → d.count ≤ b → IsNewRoot b g r → P b r) → (b : ℕ) (r : DirRecord) → b < e.count → dir_at e b g ≡ Some r → P b r
  each_record P g old new b r l q = elim (cases_lt b d.count) [
    | inl h ↦ old b r h (sym (m.dirs b g h) ∙ q)
    | inr h ↦ new b r h (new_record b g r h l q)
  ]

  all_parts : (b : ℕ) (r : DirRecord) → b < e.count → dir_at e b root ≡ Some r → (r.place ≡ None) × (r.depth ≡ 0)
  all_parts = each_record (λ b r. (r.place ≡ None) × (r.depth ≡ 0)) root root_parts
      (λ b r h n. (ap (λ (x : DirRecord). x.place) n.record_is, ap (λ (x : DirRecord). x.depth) n.record_is))

  same_root : (g : Gfid) (b i : ℕ) (r q : DirRecord) → g ≡ root → b < e.count → i < e.count → dir_at e b g ≡ Some r → dir_at e i g ≡ Some q → SameCopy r q
  same_root g b i r q at_root lb li hb hi =
      let x = all_parts b r lb (ap (dir_at e b) (sym at_root) ∙ hb) in
      let y = all_parts i q li (ap (dir_at e i) (sym at_root) ∙ hi) in
      record { place = y.0 ∙ sym x.0; depth = y.1 ∙ sym x.1 }

  one_anew : (g : Gfid) (b i : ℕ) (r q : DirRecord) → b < e.count → i < e.count → dir_at e b g ≡ Some r → dir_at e i g ≡ Some q → SameCopy r q
  one_anew g b i r q lb li hb hi = elim (cases_lt b d.count) [
    | inl x ↦ elim (cases_lt i d.count) [
      | inl y ↦ (k.things.dirs g).one b i r q x y (sym (m.dirs b g x) ∙ hb) (sym (m.dirs i g y) ∙ hi)
      | inr y ↦ same_root g b i r q (new_record i g q y li hi).at_root lb li hb hi
    ]
    | inr x ↦ same_root g b i r q (new_record b g r x lb hb).at_root lb li hb hi
  ]

  main_same : (g : Gfid) (b : ℕ) (x : Entry) → b < d.count → is_dir g (slot_at e b x).main ≡ is_dir g (slot_at d b x).main
  main_same g b x l = ap (λ (p : Slot). is_dir g p.main) (m.slots b x l)

  placed_on : (g : Gfid) (b : ℕ) (r : DirRecord) (o : Option EntryKey) → b < d.count → PlacedAt (dir_view d g) b r o → PlacedAt (dir_view e g) b r o
  placed_on g b r None l h = h
  placed_on g b r (Some x) l h = record {
    main = main_same g b (entry_at x) l ∙ h.main;
    above = h.above;
    parent = ap (option_map (λ (y : DirRecord). y.depth)) (m.dirs b x.dir l) ∙ h.parent;
    depth = h.depth;
  }

  copy_on : (g : Gfid) (b : ℕ) (x : Entry) → b < d.count → CopyAt (dir_view d g) b x → CopyAt (dir_view e g) b x
  copy_on g b x l h = record { copy = h.copy; there = m.dirs b g l ∙ h.there; key = h.key; place = h.place; name = h.name }

  root_depth : (g : Gfid) → g ≡ root → depth_in (s.tree.descents g) ≡ 0
  root_depth g q = ap (λ (x : Gfid). depth_in (s.tree.descents x)) q ∙ ap depth_in k.tree.rooted.1

  led_anew : (g : Gfid) (b : ℕ) → b < e.count → is_some (dir_at e b g) ≡ true → (home g < e.count) × (s.tree.dirs g ≡ true)
  led_anew g b l h =
      let r = is_there (dir_at e b g) h in
      elim (cases_lt b d.count) [
        | inl q ↦ (let z = (k.things.dirs g).led b q (ap is_some (sym (m.dirs b g q)) ∙ h) in let more = m.more in (omega arith, z.1))
        | inr q ↦ (let n = new_record b g r.0 q l r.1 in
            (subst (λ (x : Gfid). home x < e.count) (sym n.at_root) some, ap s.tree.dirs n.at_root ∙ k.tree.rooted.0))
      ]

  dir_anew : (g : Gfid) → DirInvariant e.count g (dir_view e g) (s.tree.dirs g) (s.tree.descents g)
  dir_anew g =
      let old = k.things.dirs g in
      record {
        homed = old.homed ∙ sym (m.homes g);
        led = led_anew g;
        one = one_anew g;
        placed = each_record (λ b r. PlacedAt (dir_view e g) b r r.place) g
            (λ b r l h. placed_on g b r r.place l (old.placed b r l h))
            (λ b r l n. subst (λ (x : DirRecord). PlacedAt (dir_view e g) b x x.place) (sym n.record_is) refl);
        rooted = each_record (λ b r. r.place ≡ None → g ≡ root) g old.rooted (λ b r l n none. n.at_root);
        deep = each_record (λ b r. r.depth ≡ depth_in (s.tree.descents g)) g old.deep
            (λ b r l n. ap (λ (x : DirRecord). x.depth) n.record_is ∙ sym (root_depth g n.at_root));
        named = λ b x. each (λ i. is_dir g (slot_at e i x).main ≡ true → CopyAt (dir_view e g) i x)
            (λ i l h. copy_on g i x l (old.named i x l (sym (main_same g i x l) ∙ h)))
            (λ i q l h. absurd (let z : false ≡ true = sym (ap (λ (p : Slot). is_dir g p.main) (new_slot i x q l)) ∙ h in cc)) b;
      }

  -- ---- each thing

  shows : (f : Gfid) → ShowsWider d.count e.count (view_of d f) (view_of e f)
  shows f = record {
    more = m.more;
    records = λ b. m.files b f;
    no_records = λ b. new_file b f;
    links = λ b x l. ap (links_to f) (m.slots b x l);
    no_links = λ b x h l. ap (links_to f) (new_slot b x h l);
    unmarked = λ b x l. ap (λ (y : Slot). is_plain f y.main) (m.slots b x l);
    copies = λ b x l. ap (λ (y : Slot). is_copy f y.standby) (m.slots b x l);
    no_copies = λ b x h l. ap (λ (y : Slot). is_copy f y.standby) (new_slot b x h l);
    opened = m.opened f;
    sealed = m.sealed f;
  }

  locks_anew : (b : ℕ) (key : Key) → b < e.count → LockInvariant b key (holders e b key) p
  locks_anew b key l = record {
    alone = λ c w x h i. (let one = m.locks b key c _ l h in let two = m.locks b key w x l i in (k.things.locks b key one.0).alone c w x one.1 two.1);
    claimed = λ c x h. (let one = m.locks b key c x l h in (k.things.locks b key one.0).claimed c x one.1);
    low = λ c x h. (let one = m.locks b key c x l h in (k.things.locks b key one.0).low c x one.1);
  }

  things_anew : (top : ℕ) → most_hops s ≤ top → Things e s.tree top p
  things_anew top l = record {
    names = λ x. name_wider d.count e.count (cores_of d x) (cores_of e x) (s.tree.names x) m.more
        (λ b q. ap core (m.slots b x q)) (λ b h q. ap core (new_slot b x h q)) (k.things.names x);
    files = λ f. file_wider d.count e.count (view_of d f) (view_of e f) (shows f) (most_hops s) top (places_of p f) (s.tree.bytes f) l (k.things.files f);
    dirs = dir_anew;
    locks = locks_anew;
    housed = λ x b. each (λ i. slot_at e i x ≢ bare → is_some (dir_at e i x.0) ≡ true)
        (λ i q ne. ap is_some (m.dirs i x.0 q) ∙ k.things.housed x i q (λ z. ne (m.slots i x q ∙ z)))
        (λ i h q ne. absurd (ne (new_slot i x h q))) b;
    roots = λ b. each (λ i. is_some (dir_at e i root) ≡ true)
        (λ i q. ap is_some (m.dirs i root q) ∙ k.things.roots i q)
        (λ i h q. ap (λ (c : Contents). is_some (dir c.store root)) (m.new i h q) ∙ ap is_some (root_first None)) b;
  }

  -- what is used was used: the root is everywhere
  used_anew : (g : Gfid) → Used e s.tree g → Used d s.tree g
  used_anew g (ByBytes h) = ByBytes h
  used_anew g (ByDir h) = ByDir h
  used_anew g (ByRecord b r l h) = elim (cases_lt b d.count) [
    | inl q ↦ ByRecord b r q (sym (m.files b g q) ∙ h)
    | inr q ↦ absurd (none_some (file_at e b g) r (new_file b g q l) h)
  ]
  used_anew g (ByDescent h) = ByDescent h
  used_anew g (ByCopy b l h) = ByDir (led_anew g b l h).1
  used_anew g (BySeal h) = BySeal (m.sealed g h)

  -- ---- what holds for now

  name_was : (x : Entry) (b : ℕ) (f : Gfid) → b < e.count → name_at e b x ≡ Some f → (b < d.count) × (name_at d b x ≡ Some f)
  name_was x b f = each (λ i. name_at e i x ≡ Some f → (i < d.count) × (name_at d i x ≡ Some f))
      (λ i l h. (l, sym (ap file_in (m.slots i x l)) ∙ h))
      (λ i q l h. absurd (none_some (name_at e i x) f (ap file_in (new_slot i x q l)) h)) b

  holder_on : (x : Entry) (b : ℕ) → holder_of d x ≡ Some b → holder_of e x ≡ Some b
  holder_on x b = holder_stays d e x.0 (dm x.1) b m.more (λ i l. ap range_of (m.dirs i x.0 l))

  -- a new brick has no range
  planned_anew : (ws : List ℕ) (g : Gfid) → AllPlanned d ws g → AllPlanned e ws g
  planned_anew ws g h = each_record (λ b r. (bounds (range_of (Some r)) ≡ None) ⊎ (bounds (range_of (Some r)) ≡ bounds (slice_index_or (planned ws g) b None))) g h
      (λ b r l n. inl (ap (λ (x : DirRecord). bounds (range_of (Some x))) n.record_is ∙ no_range))

  early_anew : (t : History) → t.tree ≡ s.tree → s.run ≤ t.run → (t.run ≡ 1 → (s.run ≡ 1) × (t.weights ≡ s.weights)) → Early e t
  early_anew t tree run first = record {
    plain = λ x b. each (λ i. IsPlain (slot_at e i x))
        (λ i l. subst IsPlain (sym (m.slots i x l)) (now.plain x i l))
        (λ i h l. inl (ap core (new_slot i x h l))) b;
    unmoved = λ f b r. each (λ i. file_at e i f ≡ Some r → IsUnmoved r)
        (λ i l h. now.unmoved f i r l (sym (m.files i f l) ∙ h))
        (λ i q l h. absurd (none_some (file_at e i f) r (new_file i f q l) h)) b;
    unopened = m.unopened;
    planned = λ g one. subst (λ (ws : List ℕ). AllPlanned e ws g) (sym (first one).1) (planned_anew s.weights g (now.planned g (first one).0));
    held = λ x b f one l h. (let was = name_was x b f l h in holder_on x b (now.held x b f (first one).0 was.0 was.1));
    unlinked = λ x b one. each (λ i. HasNone (slot_at e i x))
        (λ i l. subst HasNone (sym (m.slots i x l)) (now.unlinked x i (first one).0 l))
        (λ i h l. subst HasNone (sym (new_slot i x h l)) refl) b;
    earlier = λ g u. (let z = now.earlier g (used_anew g (subst (λ (y : Tree). Used e y g) tree u)) in omega arith);
  }

-- ---- what a brick that was mounted anew has

-- a file that was not moved has no pointer
kept_record :
    (o : Option Record) → ((r : Record) → o ≡ Some r → IsUnmoved r)
    → cond (not (is_forward o)) o None ≡ o
kept_record None h = refl
kept_record (Some r) h = subst (λ (x : Record). cond (not (is_forward (Some x))) (Some x) None ≡ Some x) (sym (h r refl).1) refl

file_remounted :
    (c : Contents) (f : Gfid) → ((r : Record) → file c.store f ≡ Some r → IsUnmoved r)
    → file (remounted c).store f ≡ file c.store f
file_remounted c f h =
    get-retain_keys c.store.files (λ g. not (is_forward (get c.store.files g))) f (λ g tie. ap (λ (x : Gfid). not (is_forward (get c.store.files x))) (sym (gfid_exact f g tie)))
    ∙ kept_record (file c.store f) h

no_seal : (f : Gfid) → is_sealed no_opens f ≡ false
no_seal f = ap is_some (get-empty gfid_cmp f)

no_registration : (r : Registration) → contains_key no_opens.registered r ≡ false
no_registration r = ap is_some (get-empty registration_cmp r)

-- ---- all bricks

module _ (ws : List ℕ) (d e : Disk) (s : History) (p : ℕ → Claim) (m : Remounts ws d e) (k : Invariant d s p) (now : Early d s) where
  -- nothing is open, sealed or locked on a brick
  cleared : (P : Contents → Type 0) → ((c : Contents) → P (remounted c)) → P (newborn None) → (b : ℕ) → b < e.count → P (e.brick b)
  cleared P old new b l = elim (cases_lt b d.count) [
    | inl q ↦ subst P (sym (m.old b q)) (old (d.brick b))
    | inr q ↦ subst P (sym (m.new b q l)) new
  ]

  at_anchor : (f : Gfid) → anchor f e.count < e.count
  at_anchor f = anchor_within f e.count (let some = k.some_brick in let more = m.more in omega arith)

  none_held : (b : ℕ) (key : Key) (c : ℕ) → b < e.count → holders e b key c ≡ None
  none_held b key c = cleared (λ x. x.locks key c ≡ None) (λ x. refl) refl b

  homes_same : (g : Gfid) → is_some (dir_at e (home g) g) ≡ is_some (dir_at d (home g) g)
  homes_same g = elim (cases_lt (home g) d.count) [
    | inl l ↦ ap (λ (c : Contents). is_some (dir c.store g)) (m.old (home g) l)
    | inr l ↦ absent l ∙ sym (ap is_some (m.above_before (home g) g l))
  ]
    where
      absent : d.count ≤ home g → is_some (dir_at e (home g) g) ≡ false
      absent l = elim (cases_lt (home g) e.count) [
        | inl h ↦ ap (λ (c : Contents). is_some (dir c.store g)) (m.new (home g) l h)
            ∙ (root_only None g ∙ is_not g (λ q. let z : home g ≡ 0 = ap home q in let some = k.some_brick in absurd (omega arith)))
        | inr h ↦ ap is_some (m.above (home g) g h)
      ]

  anew : Anew d e
  anew = record {
    more = m.more;
    slots = λ b x l. ap (λ (c : Contents). slot c.store x) (m.old b l);
    files = λ b f l. ap (λ (c : Contents). file c.store f) (m.old b l) ∙ file_remounted (d.brick b) f (λ r h. now.unmoved f b r l h);
    dirs = λ b g l. ap (λ (c : Contents). dir c.store g) (m.old b l);
    new = m.new;
    homes = homes_same;
    locks = λ b key c x l h. absurd (none_some (holders e b key c) x (none_held b key c l) h);
    opened = λ f. (let none : (view_of e f).opened ≡ 0 = cleared (λ x. registrations x.opens f ≡ 0) (λ x. none_open f) (none_open f) (anchor f e.count) (at_anchor f) in omega arith);
    unopened = λ b r. cleared (λ x. contains_key x.opens.registered r ≡ false) (λ x. no_registration r) (no_registration r) b;
    sealed = λ f h. absurd (true_false (view_of e f).sealed h (cleared (λ x. is_sealed x.opens f ≡ false) (λ x. no_seal f) (no_seal f) (anchor f e.count) (at_anchor f)));
  }

  abbrev after : History
  after = with_line s (Remounted ws)

  -- nothing is of the run that begins
  none_own : (g : Gfid) (c : ClientNo) (n : CallNo) → Used e s.tree g → IsOwn after.run c n g → ⊥
  none_own g c n u own = let old = now.earlier g (used_anew d e s p anew k now g u) in let later = own_later after.run c n g own in absurd (omega arith)

  remount_invariant : HasWeight ws → length ws ≤ 32 → Invariant e after p
  remount_invariant heavy light =
      let count = m.count in
      let some = k.some_brick in
      let more = m.more in
      record {
        things = things_anew d e s p anew k now (most_hops after) (omega arith);
        heavy = heavy;
        some_brick = omega arith;
        counted = count;
        few = omega arith;
        tree = k.tree;
        counts = record { listed = k.counts.listed; calling = k.counts.calling; numbered = k.counts.numbered; from_one = k.counts.from_one; alone = k.counts.alone };
        point = point_with_line s (Remounted ws);
        known = λ g c n l u own. absurd (none_own g c n u own);
        fresh = λ c r g l q none own u. none_own g c r.number u own;
      }

  remount_early : 0 < s.run → Early e after
  remount_early begun = early_anew d e s p anew k now after refl (omega arith) (λ one. absurd (omega arith))

pub remounts_keep : RemountsKeep
remounts_keep ws d e s p k now heavy light begun m = (remount_invariant ws d e s p m k now heavy light, remount_early ws d e s p m k now begun)

-- ---- some bricks

module _ (d e : Disk) (s : History) (p : ℕ → Claim) (m : RemountsInPart d e) (k : Invariant d s p) (now : Early d s) where
  -- what a brick has that was mounted anew, or was not
  part : (P : Contents → Type 0) (b : ℕ) → P (d.brick b) → P (remounted (d.brick b)) → P (e.brick b)
  part P b was gone = elim (m.bricks b) [
    | inl q ↦ subst P (sym q) was
    | inr q ↦ subst P (sym q) gone
  ]

  within : (b : ℕ) → b < e.count → b < d.count
  within b l = subst (λ (n : ℕ). b < n) m.count l

  dirs_same : (b : ℕ) (g : Gfid) → dir_at e b g ≡ dir_at d b g
  dirs_same b g = part (λ c. dir c.store g ≡ dir_at d b g) b refl refl

  held_before : (b : ℕ) (key : Key) (c : ℕ) (x : Mode) → holders e b key c ≡ Some x → holders d b key c ≡ Some x
  held_before b key c x = part (λ y. y.locks key c ≡ Some x → holders d b key c ≡ Some x) b (λ h. h) (λ h. absurd (let z : None ≡ Some x = h in cc))

  in_part : Anew d e
  in_part = record {
    more = (let count = m.count in omega arith);
    slots = λ b x l. part (λ c. slot c.store x ≡ slot_at d b x) b refl refl;
    files = λ b f l. part (λ c. file c.store f ≡ file_at d b f) b refl (file_remounted (d.brick b) f (λ r h. now.unmoved f b r l h));
    dirs = λ b g l. dirs_same b g;
    new = λ b h l. absurd (let count = m.count in omega arith);
    homes = λ g. ap is_some (dirs_same (home g) g);
    locks = λ b key c x l h. (within b l, held_before b key c x h);
    opened = λ f. subst (λ (n : ℕ). registrations (e.brick (anchor f n)).opens f ≤ (view_of d f).opened) (sym m.count)
        (part (λ c. registrations c.opens f ≤ (view_of d f).opened) (anchor f d.count) (at_most _ _ refl) (let none = none_open f in omega arith));
    unopened = λ b r l. part (λ c. contains_key c.opens.registered r ≡ false) b (now.unopened b r (within b l)) (no_registration r);
    sealed = λ f. subst (λ (n : ℕ). is_sealed (e.brick (anchor f n)).opens f ≡ true → (view_of d f).sealed ≡ true) (sym m.count)
        (part (λ c. is_sealed c.opens f ≡ true → (view_of d f).sealed ≡ true) (anchor f d.count) (λ h. h) (λ h. absurd (true_false (is_sealed no_opens f) h (no_seal f))));
  }

  part_invariant : Invariant e s p
  part_invariant =
      let count = m.count in
      let some = k.some_brick in
      let few = k.few in
      record {
        things = things_anew d e s p in_part k now (most_hops s) (at_most _ _ refl);
        heavy = k.heavy;
        some_brick = omega arith;
        counted = count ∙ k.counted;
        few = omega arith;
        tree = k.tree;
        counts = k.counts;
        point = k.point;
        known = λ g c n l u. k.known g c n l (used_anew d e s p in_part k now g u);
        fresh = λ c r g l q none own u. k.fresh c r g l q none own (used_anew d e s p in_part k now g u);
      }

  part_early : Early e s
  part_early = early_anew d e s p in_part k now s refl (at_most _ _ refl) (λ one. (one, refl))

pub remounts_in_part_keep : RemountsInPartKeep
remounts_in_part_keep d e s p k now m = (part_invariant d e s p m k now, part_early d e s p m k now)
