-- A copy of a directory that is made keeps the invariant: of a new one at its home, or beside that.
use Rattle.std.proofs.Common.{◌≡◌, ◌≢◌, ◌<◌, ◌≤◌, ◌^◌, ◌+◌, ℕ, Bool, true, false, List, length, refl, sym, ap, ◌∙◌, subst, inl, inr, ◌⊎◌, arith}
use Rattle.std.specs.Prelude.{Option, Some, None, is_some, nat_eq, if◌then◌else◌, unwrap_or, slice_index_or}
use Rattle.std.specs.Option.{option_map}
use Rattle.dht_types.proofs.PutLaws.{put_same, put_other, exact_entry, exact_gfid, exact_nat}
use Rattle.dht_types.specs.Gfid.{Entry, home, root, run_of, same_gfid}
use Rattle.dht_types.specs.History.{deeds_after}
use Rattle.dht_types.specs.Put.{same_entry}
use Rattle.dht_types.specs.Tree.{Tree, IsDir, applied, depth_in, depth_of, descent_at}
use Rattle.dht_types.specs.Volume.{replay_names}
use Rattle.dht_types.specs.declared.calls.TreeStep.TheVariants.{AddDir}
use Rattle.dht_types.specs.declared.identifiers.BrickNo.{BrickNo}
use Rattle.dht_types.specs.declared.identifiers.Gfid.{Gfid}
use Rattle.dht_types.specs.declared.names.EntryKey.{EntryKey}
use Rattle.dht_types.specs.declared.stored.DirRecord.{DirRecord}
use Rattle.dht_types.specs.declared.stored.Main.TheVariants.{Dir}
use Rattle.dht_types.specs.declared.stored.Standby.{Standby}
use Rattle.dht_types.specs.declared.stored.Slot.{Slot}
use Rattle.dht_hash.proofs.DaviesMeyerLaws.{dm_below}
use Rattle.dht_hash.specs.DaviesMeyer.{dm}
use Rattle.dht_xattr.specs.Layout.{holder}
use Rattle.dht_xattr.specs.Plan.{planned}
use Rattle.dht_brick.specs.Contents.{Contents, bare, slot, dir, file}
use Rattle.dht_brick.specs.Outcome.{Do}
use Rattle.dht_brick.specs.Parts.{is_dir}
use Rattle.dht_brick.specs.declared.replies.Given.{Given}
use Rattle.dht_brick.specs.declared.replies.Reply.{Reply}
use Rattle.dht_brick.specs.declared.replies.Reply.TheVariants.{Ok as Carried}
use Rattle.dht_brick.specs.declared.requests.NameRequest.{NameRequest}
use Rattle.dht_brick.specs.declared.requests.NameRequest.TheVariants.{MakeDir}
use Rattle.dht_brick.specs.declared.requests.Request.TheVariants.{OnNames}
use Rattle.dht_section.specs.declared.machine.Ask.{Ask}
use Rattle.dht_section.specs.Acts.{set_on, no_brick}
use Rattle.dht_section.specs.Dirs.{DirInvariant}
use Rattle.dht_section.specs.Disk.{slot_at, name_at, dir_at, range_of, range_of_value, range_at, layout_of, holder_of}
use Rattle.dht_section.specs.Invariant.{Things, Used, ByDir, ByDescent, ByCopy, most_hops}
use Rattle.dht_section.specs.Moves.{Guarantee, outcome_of, step_of, tree_by, deeds_by}
use Rattle.dht_section.specs.Names.{NameInvariant, StandsAs}
use Rattle.dht_section.specs.Permits.{Changes, HasDepth, IsUnused}
use Rattle.dht_section.specs.Planned.{AllPlanned, bounds}
use Rattle.dht_section.specs.Scene.{Scene, Sound, HoldsAlone, HoldsName, Guards, NameStands, Wants, WantsAll}
use Rattle.dht_section.specs.Shapes.{NameShape, Bare, Folder, NameFits, core_at}
use Rattle.dht_section.specs.Truth.{folder}
use Rattle.dht_section.specs.Views.{core, cores_of, dir_view}
use Rattle.dht_section.proofs.EarlyLaws.{nat_cases}
use Rattle.dht_section.proofs.SlotLaws.{entry_cases}
use Rattle.dht_invariant.specs.Laws.{IsMine, Carries}
use Rattle.dht_invariant.specs.Touches.{DirStays, Same, Added, Grew}
use Rattle.dht_invariant.proofs.Basics.{gfid_cases, none_some, other_some, is_there, true_false, not_true}
use Rattle.dht_invariant.proofs.DirKeeps.{SlotTurns, Stays, Turns, DirTurns, TreeTurns, OwnTurns, depth_at, things_turn, used_was, early_turns, turns_touch}
use Rattle.dht_invariant.proofs.DirLaws.{OneName, dir_of_name, one_name}
use Rattle.dht_invariant.proofs.DirRows.{StoresOnly, stores_only, CopyMade, copy_made, new_copy}
use Rattle.dht_invariant.proofs.FolderLaws.{on_at, on_off, on_more, on_folder, off_folder, same_folder, folder_shape, more_fits, first_fits, free_bare, free_standby, folder_core, bare_core}
use Rattle.dht_invariant.proofs.Frames.{brick_by, brick_is, kept_by}
use Rattle.dht_invariant.proofs.OwnLaws.{own_run}
use Rattle.dht_invariant.proofs.PlannedLaws.{RangePlanned, holder_planned}
use Rattle.dht_invariant.proofs.ServedLaws.{others_hold}

module _ (s t : Scene) (b : BrickNo) (d : Gfid) (n : List ℕ) (g : Gfid) (depth : ℕ) (value : Option (List ℕ)) (r : Reply) (m : Guarantee s (record { brick = b; request = OnNames (MakeDir d n g depth value) }) r t) (sound : Sound s) (there : b.0 < s.disk.count) (may : Changes s b.0 (MakeDir d n g depth value)) (gives : Given) (real : m.real ≡ Carried gives) (done : outcome_of s (record { brick = b; request = OnNames (MakeDir d n g depth value) }) ≡ Do gives m.new) (client : s.who.0 < 65536) (small : s.mine.number.0 < 2 ^ 64) where
  abbrev ask : Ask
  ask = record { brick = b; request = OnNames (MakeDir d n g depth value) }

  abbrev request : NameRequest
  request = MakeDir d n g depth value

  abbrev at : ℕ
  at = b.0

  abbrev name : Entry
  name = (d, n)

  abbrev weights : List ℕ
  weights = s.history.weights

  abbrev bricks : List (List ℕ)
  bricks = replay_names (length s.history.weights)

  row : CopyMade d n g depth value (s.disk.brick at) m.new
  row = copy_made bricks d n g depth value (s.disk.brick at) m.new gives done

  stored : StoresOnly request (s.disk.brick at) m.new
  stored = stores_only bricks request (s.disk.brick at) m.new gives done

  new_is : t.disk.brick at ≡ m.new
  new_is = brick_is s.disk t.disk at m.new m.disk

  off : (i : ℕ) → i ≢ at → t.disk.brick i ≡ s.disk.brick i
  off i ne = brick_by (λ (c : Contents). c ≡ s.disk.brick i) s.disk t.disk at m.new i m.disk (λ e. absurd (ne e)) (λ x. refl)

  stays : {X : Type 0} (f : Contents → X) → f m.new ≡ f (s.disk.brick at) → (i : ℕ) → f (t.disk.brick i) ≡ f (s.disk.brick i)
  stays f same i = kept_by f s.disk t.disk at m.new m.disk same i

  dirs_stay : (i : ℕ) (h : Gfid) → h ≢ g → dir_at t.disk i h ≡ dir_at s.disk i h
  dirs_stay i h ne = stays (λ (c : Contents). dir c.store h) (stored.only.dirs h (other_some g h ne)) i

  -- the slot and the copy
  was_bare : core (slot_at s.disk at name) ≡ bare
  was_bare = free_bare (slot_at s.disk at name) row.free

  slot_now : slot_at t.disk at name ≡ folder g
  slot_now =
      ap (λ (c : Contents). slot c.store name) new_is
      ∙ (row.here ∙ ap (λ (o : Option Standby). let p : Slot = record { main = Some (Dir g); standby = o } in p) (free_standby (slot_at s.disk at name) row.free))

  slot_off : (i : ℕ) (y : Entry) → i ≢ at → slot_at t.disk i y ≡ slot_at s.disk i y
  slot_off i y ne = ap (λ (c : Contents). slot c.store y) (off i ne)

  slot_other : (i : ℕ) (y : Entry) → y ≢ name → slot_at t.disk i y ≡ slot_at s.disk i y
  slot_other i y ne = stays (λ (c : Contents). slot c.store y) (ap (λ o. unwrap_or o bare) (stored.only.slots y (other_some name y ne) (λ k. let z : None ≡ Some y.0 = k in cc))) i

  copy_now : dir_at t.disk at g ≡ Some (new_copy d n depth value)
  copy_now = ap (λ (c : Contents). dir c.store g) new_is ∙ row.copy

  copy_off : (i : ℕ) → i ≢ at → dir_at t.disk i g ≡ dir_at s.disk i g
  copy_off i ne = ap (λ (c : Contents). dir c.store g) (off i ne)

  range_now : range_at t.disk g at ≡ range_of_value value
  range_now = ap range_of copy_now

  -- ---- a brick that had no copy of it has one now
  module _ (none : dir_at s.disk at g ≡ None) where
    apart : d ≢ g
    apart q = let z : true ≡ false = sym row.parent ∙ (ap (λ (h : Gfid). is_some (dir_at s.disk at h)) q ∙ ap is_some none) in cc

    gains : (i : ℕ) → is_some (dir_at s.disk i g) ≡ true → is_some (dir_at t.disk i g) ≡ true
    gains i h = elim (nat_cases i at) [
      | inl q ↦ ap (λ (j : ℕ). is_some (dir_at t.disk j g)) q ∙ ap is_some copy_now
      | inr ne ↦ ap is_some (copy_off i ne) ∙ h
    ]

    slots_turn : (i : ℕ) (y : Entry) → SlotTurns s.disk t.disk g name (HoldsAlone s g) i y
    slots_turn i y = elim (nat_cases i at) [
      | inl z ↦ elim (entry_cases y name) [
        | inl q ↦ subst (λ (j : ℕ). SlotTurns s.disk t.disk g name (HoldsAlone s g) j y) (sym z)
            (subst (SlotTurns s.disk t.disk g name (HoldsAlone s g) at) (sym q) (Turns refl row.parent (inl was_bare) (inr slot_now)))
        | inr ne ↦ Stays (slot_other i y ne)
      ]
      | inr ne ↦ Stays (slot_off i y ne)
    ]

    turns : DirTurns s.disk t.disk g name (HoldsAlone s g)
    turns = record {
      count = m.disk.count;
      opens = stays (λ (c : Contents). c.opens) stored.opens;
      files = λ i f. stays (λ (c : Contents). file c.store f) (stored.only.files f (λ e. let z : None ≡ Some f = e in cc)) i;
      dirs = dirs_stay;
      slots = slots_turn;
      housed = λ i. inl (gains i);
      roots = λ i l h. elim (gfid_cases root g) [
        | inl q ↦ ap (λ (x : Gfid). is_some (dir_at t.disk i x)) q ∙ gains i (ap (λ (x : Gfid). is_some (dir_at s.disk i x)) (sym q) ∙ h)
        | inr ne ↦ ap is_some (dirs_stay i root ne) ∙ h
      ];
      parents = λ i k x h l main was. elim (nat_cases i at) [
        | inl q ↦ absurd (none_some (depth_at s.disk at g) k (ap (λ o. option_map (λ (y : DirRecord). y.depth) o) none) (ap (λ (j : ℕ). depth_at s.disk j g) (sym q) ∙ was))
        | inr ne ↦ ap (λ o. option_map (λ (y : DirRecord). y.depth) o) (copy_off i ne) ∙ was
      ];
    }

    -- the directory in which it stands is as deep there as the tree says
    parent_depth : depth_at t.disk at d ≡ Some (depth_of s.history.tree d)
    parent_depth =
        let x = is_there (dir_at s.disk at d) row.parent in
        ap (λ o. option_map (λ (y : DirRecord). y.depth) o) (dirs_stay at d apart ∙ x.1)
        ∙ ap Some ((sound.kept.things.dirs d).deep at x.0 there x.1)

    -- ---- its ranges
    planned_made : AllPlanned s.disk weights g → AllPlanned t.disk weights g
    planned_made k i x l here = elim (nat_cases i at) [
      | inr ne ↦ k i x (subst (λ (c : ℕ). i < c) m.disk.count l) (sym (copy_off i ne) ∙ here)
      | inl q ↦ (let same : Some x ≡ Some (new_copy d n depth value) = sym here ∙ (ap (λ (j : ℕ). dir_at t.disk j g) q ∙ copy_now) in
          elim may.also.1.0 [
            | inl z ↦ inl (ap (λ o. bounds (range_of o)) same ∙ ap bounds z)
            | inr z ↦ inr (ap (λ o. bounds (range_of o)) same ∙ (ap bounds z ∙ ap (λ (j : ℕ). bounds (slice_index_or (planned weights g) j None)) (sym q)))
          ])
    ]

    range_made : RangePlanned s.disk t.disk weights g at
    range_made = elim may.also.1.0 [
      | inl z ↦ inr (range_now ∙ z, ap range_of none)
      | inr z ↦ inl (ap bounds (range_now ∙ z))
    ]

    holds : (y : Entry) (i : ℕ) (f : Gfid) → y.0 ≡ g → s.history.run ≡ 1 → i < s.disk.count → name_at s.disk i y ≡ Some f → holder_of s.disk y ≡ Some i → holder_of t.disk y ≡ Some i
    holds y i f q first l named was =
        ap (λ (h : Gfid). holder (layout_of t.disk h) (dm y.1)) q
        ∙ holder_planned s.disk t.disk weights g at (dm y.1) sound.kept.heavy sound.kept.counted (dm_below y.1) m.disk.count there
        (λ j ne. ap range_of (copy_off j ne)) (sound.early.planned g first) range_made i
        (ap (λ (h : Gfid). holder (layout_of s.disk h) (dm y.1)) (sym q) ∙ was)

    -- a directory that is not held alone gets a copy only where all ranges are planned
    copies_stay : (i : ℕ) → HoldsAlone s g ⊎ DirStays s t.disk i g
    copies_stay i = elim (nat_cases i at) [
      | inr ne ↦ inr (Same (copy_off i ne))
      | inl q ↦ subst (λ (j : ℕ). HoldsAlone s g ⊎ DirStays s t.disk j g) (sym q) (elim may.also.1.1 [
        | inl alone ↦ inl alone
        | inr all ↦ inr (Added none (planned_made all))
      ])
    ]

    -- ---- all of it, by what became of the tree
    module _ (tree : TreeTurns s.history.tree t.history.tree g name) (shape : NameInvariant t.disk.count (cores_of t.disk name) (t.history.tree.names name)) (own : DirInvariant t.disk.count g (dir_view t.disk g) (t.history.tree.dirs g) (t.history.tree.descents g)) (used : Used t.disk t.history.tree g → Used s.disk s.history.tree g ⊎ IsMine s t g) (touch : OwnTurns s t.disk t.history.tree g name) where
      used_all : (h : Gfid) → Used t.disk t.history.tree h → Used s.disk s.history.tree h ⊎ IsMine s t h
      used_all h u = elim (gfid_cases h g) [
        | inl q ↦ subst (λ (x : Gfid). Used s.disk s.history.tree x ⊎ IsMine s t x) (sym q)
            (used (subst (Used t.disk t.history.tree) q u))
        | inr ne ↦ inl (used_was s.disk t.disk g name (HoldsAlone s g) turns s.history.tree t.history.tree tree h ne u)
      ]

      used_or_early : (h : Gfid) → Used t.disk t.history.tree h → Used s.disk s.history.tree h ⊎ (run_of h ≤ s.history.run)
      used_or_early h u = elim (used_all h u) [
        | inl q ↦ inl q
        | inr q ↦ inr (own_run s.history.run s.who s.mine.number h client small q.own)
      ]

      keeps : Carries s t
      keeps =
          let later = m.later in
          record {
            things = subst (Things t.disk t.history.tree (most_hops t.history)) (sym m.claims)
                (things_turn s.disk t.disk g name (HoldsAlone s g) turns s.history.tree t.history.tree (most_hops s.history) (most_hops t.history) s.claims (omega arith) tree
                (stays (λ (c : Contents). c.locks) stored.locks) shape own sound.kept.things);
            early = early_turns s.disk t.disk g name (HoldsAlone s g) turns s.history t.history m.run m.weights planned_made holds used_or_early sound.early;
            used = used_all;
            touches = turns_touch s t.disk t.history.tree g name turns tree touch (λ c i key ne. others_hold s t ask r m i key c ne);
          }

  -- what the tree comes to, by whether the brick is the directory's home
  tree_by_home : (v : Bool) → nat_eq at (home g) ≡ v → t.history.tree ≡ tree_by (if v then Some (AddDir d n g) else None) s.history.tree
  tree_by_home v e =
      m.tree ∙ (ap (λ (x : Reply). tree_by (step_of at (OnNames request) x) s.history.tree) real
      ∙ ap (λ (z : Bool). tree_by (if z then Some (AddDir d n g) else None) s.history.tree) e)

  deeds_by_home : (v : Bool) → nat_eq at (home g) ≡ v → t.mine.deeds ≡ deeds_by s t.history.size (if v then Some (AddDir d n g) else None)
  deeds_by_home v e =
      m.mine.deeds_are ∙ (ap (λ (x : Reply). deeds_by s t.history.size (step_of at (OnNames request) x)) real
      ∙ ap (λ (z : Bool). deeds_by s t.history.size (if z then Some (AddDir d n g) else None)) e)

  wants_new : b.0 ≡ home g → Wants s (AddDir d n g)
  wants_new homed = subst (λ (v : Bool). WantsAll s (if v then Some (AddDir d n g) else None)) ((exact_nat at (home g)).1 homed) may.wants

  -- ---- a new directory, at its home
  module _ (stood : NameStands s (d, n) Bare) (homed : b.0 ≡ home g) (held : HoldsName s (d, n)) (deeper : depth ≡ depth_of s.history.tree d + 1) (unused : IsUnused s g) where
    at_home : nat_eq at (home g) ≡ true
    at_home = (exact_nat at (home g)).1 homed

    wants : Wants s (AddDir d n g)
    wants = wants_new homed

    no_copy : (i : ℕ) → i < s.disk.count → dir_at s.disk i g ≡ None
    no_copy i l = by (dir_at s.disk i g) refl
      where
        by : (o : Option DirRecord) → dir_at s.disk i g ≡ o → o ≡ None
        by None q = refl
        by (Some x) q = absurd (unused (ByCopy i l (ap is_some q)))

    tree_new : t.history.tree ≡ applied (AddDir d n g) s.history.tree
    tree_new = tree_by_home true at_home

    deeds_new : t.mine.deeds ≢ None
    deeds_new none = let z : None ≡ Some (deeds_after s.history.tree t.history.size s.mine.call s.mine.deeds (AddDir d n g)) = sym none ∙ deeds_by_home true at_home in cc

    tree_turns : TreeTurns s.history.tree t.history.tree g name
    tree_turns = record {
      names = λ y ne. ap (λ (x : Tree). x.names y) tree_new ∙ put_other same_entry exact_entry s.history.tree.names name (Some (IsDir g)) y ne;
      bytes = λ f. ap (λ (x : Tree). x.bytes f) tree_new;
      dirs = λ h ne. ap (λ (x : Tree). x.dirs h) tree_new ∙ put_other same_gfid exact_gfid s.history.tree.dirs g true h ne;
      descents = λ h ne. ap (λ (x : Tree). x.descents h) tree_new ∙ put_other same_gfid exact_gfid s.history.tree.descents g (Some (descent_at s.history.tree d n)) h ne;
    }

    node_new : t.history.tree.names name ≡ Some (IsDir g)
    node_new = ap (λ (x : Tree). x.names name) tree_new ∙ put_same same_entry exact_entry s.history.tree.names name (Some (IsDir g))

    dir_new : t.history.tree.dirs g ≡ true
    dir_new = ap (λ (x : Tree). x.dirs g) tree_new ∙ put_same same_gfid exact_gfid s.history.tree.dirs g true

    descent_new : t.history.tree.descents g ≡ Some (descent_at s.history.tree d n)
    descent_new = ap (λ (x : Tree). x.descents g) tree_new ∙ put_same same_gfid exact_gfid s.history.tree.descents g (Some (descent_at s.history.tree d n))

    within : (i : ℕ) → i < t.disk.count → i < s.disk.count
    within i l = subst (λ (c : ℕ). i < c) m.disk.count l

    name_new : NameInvariant t.disk.count (cores_of t.disk name) (t.history.tree.names name)
    name_new = (
      Folder g (set_on no_brick at true),
      record {
        fits = subst (λ (c : ℕ). NameFits c (Folder g (set_on no_brick at true))) (sym m.disk.count) (first_fits s.disk.count at g there homed);
        has = λ i l. elim (nat_cases i at) [
          | inl q ↦ subst (λ (j : ℕ). core (slot_at t.disk j name) ≡ core_at (Folder g (set_on no_brick at true)) j) (sym q)
              (ap core slot_now ∙ sym (on_folder g (set_on no_brick at true) at (on_at no_brick at true)))
          | inr ne ↦ ap core (slot_off i name ne) ∙ (stood.has i (within i l) ∙ sym (off_folder g (set_on no_brick at true) i (on_off no_brick at true i ne)))
        ];
        node = node_new;
      },
    )

    -- its one copy
    only_at : (i : ℕ) → i < s.disk.count → is_some (dir_at t.disk i g) ≡ true → i ≡ at
    only_at i l h = elim (nat_cases i at) [
      | inl q ↦ q
      | inr ne ↦ absurd (true_false (is_some (dir_at t.disk i g)) h (ap is_some (copy_off i ne ∙ no_copy i l)))
    ]

    only_name : (i : ℕ) (y : Entry) → i < s.disk.count → is_dir g (slot_at t.disk i y).main ≡ true → (y ≡ name) × (is_some (dir_at t.disk i g) ≡ true)
    only_name i y l main = elim (entry_cases y name) [
      | inr ne ↦ absurd (unused (ByCopy i l (ap is_some ((sound.kept.things.dirs g).named i y l (ap (λ (p : Slot). is_dir g p.main) (sym (slot_other i y ne)) ∙ main)).there)))
      | inl q ↦ (
        q,
        elim (nat_cases i at) [
          | inl z ↦ ap (λ (j : ℕ). is_some (dir_at t.disk j g)) z ∙ ap is_some copy_now
          | inr nz ↦ absurd (true_false (is_dir g (slot_at t.disk i y).main) main
              (ap (λ (z : Entry). is_dir g (slot_at t.disk i z).main) q ∙ (ap (λ (p : Slot). is_dir g p.main) (slot_off i name nz) ∙ bare_core (slot_at s.disk i name) g (stood.has i l))))
        ],
      )
    ]

    one_new : OneName s.disk.count (dir_view t.disk g) (record { dir = d; name = n }) (depth_of s.history.tree d)
    one_new = record {
      placed = λ i x l h.
          (let q = only_at i l (ap is_some h) in
          let same : Some (new_copy d n depth value) ≡ Some x = sym copy_now ∙ (ap (λ (j : ℕ). dir_at t.disk j g) (sym q) ∙ h) in
          let is : new_copy d n depth value ≡ x = cc in
          (ap (λ (z : DirRecord). z.place) (sym is), ap (λ (z : DirRecord). z.depth) (sym is) ∙ deeper));
      main = λ i l h. ap (λ (j : ℕ). is_dir g (slot_at t.disk j name).main) (only_at i l h) ∙ folder_core (slot_at t.disk at name) g (ap core slot_now);
      parent = λ i l h. ap (λ (j : ℕ). depth_at t.disk j d) (only_at i l h) ∙ parent_depth (no_copy at there);
      named = only_name;
    }

    own_new : DirInvariant t.disk.count g (dir_view t.disk g) (t.history.tree.dirs g) (t.history.tree.descents g)
    own_new = subst (λ (c : ℕ). DirInvariant c g (dir_view t.disk g) (t.history.tree.dirs g) (t.history.tree.descents g)) (sym m.disk.count)
        (dir_of_name s.disk.count g (dir_view t.disk g) (record { dir = d; name = n }) (depth_of s.history.tree d) one_new (t.history.tree.dirs g) (t.history.tree.descents g)
        (dir_new ∙ sym (ap (λ (j : ℕ). is_some (dir_at t.disk j g)) (sym homed) ∙ ap is_some copy_now))
        (λ i l h. (subst (λ (j : ℕ). j < s.disk.count) homed there, dir_new))
        (λ i l h. sym (ap depth_in descent_new)))

    touch_new : OwnTurns s t.disk t.history.tree g name
    touch_new = record {
      name = λ h st. inl (inl held);
      slot = λ i same. inl (inl held);
      copies = copies_stay (no_copy at there);
      both = λ h on st. inl (inl held);
      known = λ was. inr dir_new;
      planned = planned_made (no_copy at there);
      made = λ y was. absurd (unused (ByDescent (λ none. let z : None ≡ Some y = sym none ∙ was in cc)));
    }

    keeps_new : Carries s t
    keeps_new = keeps (no_copy at there) tree_turns name_new own_new (λ u. inr (record { own = wants.own; did = deeds_new })) touch_new

  -- ---- a copy beside its home
  module _ (on : ℕ → Bool) (stood : NameStands s (d, n) (Folder g on)) (known : s.history.tree.dirs g ≡ true) (made : s.history.tree.descents g ≡ Some (record { depth = depth; place = Some (d, n) })) where
    -- at its home it has a copy, so the brick is another one
    not_home : at ≢ home g
    not_home q =
        let z : folder g ≡ bare = sym (stood.has (home g) stood.fits.0 ∙ on_folder g on (home g) stood.fits.1) ∙ (ap (λ (j : ℕ). core (slot_at s.disk j name)) (sym q) ∙ was_bare) in
        let y : Some (Dir g) ≡ None = ap (λ (p : Slot). p.main) z in
        cc

    off_home : nat_eq at (home g) ≡ false
    off_home = not_true (nat_eq at (home g)) (λ h. not_home ((exact_nat at (home g)).0 h))

    tree_same : t.history.tree ≡ s.history.tree
    tree_same = tree_by_home false off_home

    tree_stays : TreeTurns s.history.tree t.history.tree g name
    tree_stays = record {
      names = λ y ne. ap (λ (x : Tree). x.names y) tree_same;
      bytes = λ f. ap (λ (x : Tree). x.bytes f) tree_same;
      dirs = λ h ne. ap (λ (x : Tree). x.dirs h) tree_same;
      descents = λ h ne. ap (λ (x : Tree). x.descents h) tree_same;
    }

    was_within : (i : ℕ) → i < t.disk.count → i < s.disk.count
    was_within i l = subst (λ (c : ℕ). i < c) m.disk.count l

    -- its copies stood at that name
    home_main : is_dir g (slot_at s.disk (home g) name).main ≡ true
    home_main = folder_core (slot_at s.disk (home g) name) g (stood.has (home g) stood.fits.0 ∙ on_folder g on (home g) stood.fits.1)

    abbrev key : EntryKey
    key = record { dir = d; name = n }

    once : (above : ℕ) × OneName s.disk.count (dir_view s.disk g) (record { dir = d; name = n }) above × (above + 1 ≡ depth_in (s.history.tree.descents g))
    once = one_name s.disk.count g (dir_view s.disk g) (s.history.tree.dirs g) (s.history.tree.descents g) (sound.kept.things.dirs g) (home g) (d, n) stood.fits.0 home_main

    abbrev above : ℕ
    above = once.0

    depth_is : above + 1 ≡ depth
    depth_is = once.2 ∙ ap depth_in made

    above_is : above ≡ depth_of s.history.tree d
    above_is =
        let told = ap depth_in (sound.kept.tree.child (d, n) g stood.node).descent in
        let is = once.2 in
        let x = once.0 in
        omega arith

    none_there : dir_at s.disk at g ≡ None
    none_there = by (dir_at s.disk at g) refl
      where
        by : (o : Option DirRecord) → dir_at s.disk at g ≡ o → o ≡ None
        by None q = refl
        by (Some x) q = absurd (true_false (is_dir g (slot_at s.disk at name).main) (once.1.main at there (ap is_some q)) (bare_core (slot_at s.disk at name) g was_bare))

    -- the name stands with one copy more, whichever it had
    more_stands : (has : ℕ → Bool) → NameStands s (d, n) (Folder g has) → StandsAs t.disk.count (cores_of t.disk name) (t.history.tree.names name) (Folder g (set_on has b.0 true))
    more_stands has st = record {
      fits = subst (λ (c : ℕ). NameFits c (Folder g (set_on has at true))) (sym m.disk.count) (more_fits s.disk.count at g has there st.fits);
      has = λ i l. elim (nat_cases i at) [
        | inl q ↦ subst (λ (j : ℕ). core (slot_at t.disk j name) ≡ core_at (Folder g (set_on has at true)) j) (sym q)
            (ap core slot_now ∙ sym (on_folder g (set_on has at true) at (on_at has at true)))
        | inr ne ↦ ap core (slot_off i name ne) ∙ (st.has i (was_within i l) ∙ same_folder g has (set_on has at true) i (sym (on_off has at true i ne)))
      ];
      node = ap (λ (x : Tree). x.names name) tree_same ∙ st.node;
    }

    -- the copies that it has now
    copy_is : (i : ℕ) (x : DirRecord) → i < s.disk.count → dir_at t.disk i g ≡ Some x → (x.place ≡ Some (record { dir = d; name = n })) × (x.depth ≡ above + 1)
    copy_is i x l h = elim (nat_cases i at) [
      | inr ne ↦ once.1.placed i x l (sym (copy_off i ne) ∙ h)
      | inl q ↦ (let same : Some (new_copy d n depth value) ≡ Some x = sym copy_now ∙ (ap (λ (j : ℕ). dir_at t.disk j g) (sym q) ∙ h) in
          let is : new_copy d n depth value ≡ x = cc in
          (ap (λ (z : DirRecord). z.place) (sym is), ap (λ (z : DirRecord). z.depth) (sym is) ∙ sym depth_is))
    ]

    named_now : (i : ℕ) (y : Entry) → i < s.disk.count → is_dir g (slot_at t.disk i y).main ≡ true → (y ≡ name) × (is_some (dir_at t.disk i g) ≡ true)
    named_now i y l main = elim (nat_cases i at) [
      | inl z ↦ (
        elim (entry_cases y name) [
          | inl q ↦ q
          | inr ne ↦ (once.1.named i y l (ap (λ (p : Slot). is_dir g p.main) (sym (slot_other i y ne)) ∙ main)).0
        ],
        ap (λ (j : ℕ). is_some (dir_at t.disk j g)) z ∙ ap is_some copy_now,
      )
      | inr nz ↦ (let was = once.1.named i y l (ap (λ (p : Slot). is_dir g p.main) (sym (slot_off i y nz)) ∙ main) in
          (was.0, ap is_some (copy_off i nz) ∙ was.1))
    ]

    one_more : OneName s.disk.count (dir_view t.disk g) (record { dir = d; name = n }) above
    one_more = record {
      placed = copy_is;
      main = λ i l h. elim (nat_cases i at) [
        | inl q ↦ ap (λ (j : ℕ). is_dir g (slot_at t.disk j name).main) q ∙ folder_core (slot_at t.disk at name) g (ap core slot_now)
        | inr ne ↦ ap (λ (p : Slot). is_dir g p.main) (slot_off i name ne) ∙ once.1.main i l (ap is_some (sym (copy_off i ne)) ∙ h)
      ];
      parent = λ i l h. elim (nat_cases i at) [
        | inl q ↦ ap (λ (j : ℕ). depth_at t.disk j d) q ∙ (parent_depth none_there ∙ ap Some (sym above_is))
        | inr ne ↦ ap (λ (c : Contents). option_map (λ (x : DirRecord). x.depth) (dir c.store d)) (off i ne) ∙ once.1.parent i l (ap is_some (sym (copy_off i ne)) ∙ h)
      ];
      named = named_now;
    }

    known_now : t.history.tree.dirs g ≡ true
    known_now = ap (λ (x : Tree). x.dirs g) tree_same ∙ known

    home_there : is_some (dir_at t.disk (home g) g) ≡ true
    home_there = ap is_some (copy_off (home g) (λ q. not_home (sym q))) ∙ (sym (sound.kept.things.dirs g).homed ∙ known)

    own_more : DirInvariant t.disk.count g (dir_view t.disk g) (t.history.tree.dirs g) (t.history.tree.descents g)
    own_more = subst (λ (c : ℕ). DirInvariant c g (dir_view t.disk g) (t.history.tree.dirs g) (t.history.tree.descents g)) (sym m.disk.count)
        (dir_of_name s.disk.count g (dir_view t.disk g) (record { dir = d; name = n }) above one_more (t.history.tree.dirs g) (t.history.tree.descents g)
        (known_now ∙ sym home_there)
        (λ i l h. (stood.fits.0, known_now))
        (λ i l h. once.2 ∙ ap (λ (x : Tree). depth_in (x.descents g)) (sym tree_same)))

    -- who holds the directory alone adds a copy to a name that others may hold
    name_grows : (h : NameShape) → NameStands s (d, n) h → Guards s (d, n) ⊎ Grew t.disk t.history.tree (d, n) h
    name_grows h st = elim may.holds [
      | inl k ↦ inl (inl k)
      | inr k ↦ (let shape = folder_shape h g (sym st.node ∙ stood.node) in
          let grown = more_stands shape.0 (subst (NameStands s (d, n)) shape.1 st) in
          inr (subst (Grew t.disk t.history.tree (d, n)) (sym shape.1)
          (Folder g (set_on shape.0 at true), (set_on shape.0 at true, refl, λ i e. on_more shape.0 at i e), grown)))
    ]

    slot_seen : (i : ℕ) → core (slot_at t.disk i (d, n)) ≡ core (slot_at s.disk i (d, n)) → Guards s (d, n) ⊎ (slot_at t.disk i (d, n) ≡ slot_at s.disk i (d, n))
    slot_seen i same = elim (nat_cases i at) [
      | inr ne ↦ inr (slot_off i name ne)
      | inl q ↦ absurd (let z : folder g ≡ bare = sym (ap core slot_now) ∙ (ap (λ (j : ℕ). core (slot_at t.disk j name)) (sym q) ∙ (same ∙ (ap (λ (j : ℕ). core (slot_at s.disk j name)) q ∙ was_bare))) in
          let y : Some (Dir g) ≡ None = ap (λ (p : Slot). p.main) z in
          cc)
    ]

    both_more : (h : Gfid) (has : ℕ → Bool) → NameStands s (d, n) (Folder h has) → Guards s (d, n) ⊎ HoldsAlone s h ⊎ StandsAs t.disk.count (cores_of t.disk name) (t.history.tree.names name) (Folder h has)
    both_more h has st = elim may.holds [
      | inl k ↦ inl (inl k)
      | inr k ↦ (let z : Some (IsDir h) ≡ Some (IsDir g) = sym st.node ∙ stood.node in
          let same : h ≡ g = cc in
          inr (inl (subst (HoldsAlone s) (sym same) k)))
    ]

    touch_more : OwnTurns s t.disk t.history.tree g name
    touch_more = record {
      name = name_grows;
      slot = slot_seen;
      copies = copies_stay none_there;
      both = both_more;
      known = λ was. inr known_now;
      planned = planned_made none_there;
      made = λ y was. ap (λ (x : Tree). x.descents g) tree_same ∙ was;
    }

    keeps_more : Carries s t
    keeps_more = keeps none_there tree_stays (Folder g (set_on on at true), more_stands on stood) own_more
        (λ u. inl (ByCopy (home g) stood.fits.0 (sym (sound.kept.things.dirs g).homed ∙ known))) touch_more

  -- ---- it is one or the other
  by_depth : (on : ℕ → Bool) → NameStands s (d, n) (Folder g on) → HasDepth s b.0 d n g depth → Carries s t
  by_depth on stood (inl z) = absurd (z.4 (ByDir (sound.kept.tree.child (d, n) g stood.node).dir))
  by_depth on stood (inr z) = keeps_more on stood z.0 z.1

  is_new : NameStands s (d, n) Bare → b.0 ≡ home g → HasDepth s b.0 d n g depth → Carries s t
  is_new stood homed (inl z) = keeps_new stood homed z.1 z.3 z.4
  is_new stood homed (inr z) = absurd (true_false (s.history.tree.dirs g) z.0 (wants_new homed).fits.3)

  pub make_dir_keeps : Carries s t
  make_dir_keeps = elim may.takes [
    | inl z ↦ is_new (subst (NameStands s (d, n)) z.0 may.stands) z.1 may.also.0
    | inr z ↦ by_depth z.0 (subst (NameStands s (d, n)) z.1 may.stands) may.also.0
  ]
