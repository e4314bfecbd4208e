-- A copy of an empty directory that is dropped keeps the invariant:
-- at its home, where the directory goes with it, or beside that.
use Rattle.std.proofs.Common.{◌≡◌, ◌≢◌, ◌<◌, ◌+◌, ℕ, Bool, true, false, List, length, refl, sym, ap, ◌∙◌, subst, inl, inr, arith}
use Rattle.std.specs.Prelude.{Option, Some, None, is_some, nat_eq, if◌then◌else◌, unwrap_or}
use Rattle.std.specs.Option.{option_map}
use Rattle.dht_types.proofs.PutLaws.{put_same, put_other, exact_entry, exact_gfid, exact_nat}
use Rattle.dht_types.specs.Gfid.{Entry, home, root, same_gfid}
use Rattle.dht_types.specs.Put.{same_entry}
use Rattle.dht_types.specs.Tree.{Tree, Node, Descent, IsDir, of_root, applied, depth_in, depth_of, less_dir}
use Rattle.dht_types.specs.Volume.{replay_names}
use Rattle.dht_types.specs.declared.calls.TreeStep.TheVariants.{RemoveDir}
use Rattle.dht_types.specs.declared.identifiers.BrickNo.{BrickNo}
use Rattle.dht_types.specs.declared.identifiers.Gfid.{Gfid}
use Rattle.dht_types.specs.declared.stored.DirRecord.{DirRecord}
use Rattle.dht_types.specs.declared.stored.Slot.{Slot}
use Rattle.dht_brick.specs.Contents.{Contents, bare, slot, dir, file}
use Rattle.dht_brick.specs.Outcome.{Do}
use Rattle.dht_brick.specs.Parts.{is_dir, without_main}
use Rattle.dht_brick.specs.declared.replies.Given.{Given}
use Rattle.dht_brick.specs.declared.replies.Reply.{Reply}
use Rattle.dht_brick.specs.declared.replies.Reply.TheVariants.{Ok as Carried}
use Rattle.dht_brick.specs.declared.requests.NameRequest.{NameRequest}
use Rattle.dht_brick.specs.declared.requests.NameRequest.TheVariants.{DropDir}
use Rattle.dht_brick.specs.declared.requests.Request.TheVariants.{OnNames}
use Rattle.dht_section.specs.declared.machine.Ask.{Ask}
use Rattle.dht_section.specs.Acts.{set_on}
use Rattle.dht_section.specs.Dirs.{DirInvariant}
use Rattle.dht_section.specs.Disk.{file_in, slot_at, name_at, dir_at}
use Rattle.dht_section.specs.Invariant.{Things, Used, ByDir, most_hops}
use Rattle.dht_section.specs.Moves.{Guarantee, outcome_of, step_of, tree_by}
use Rattle.dht_section.specs.Names.{NameInvariant}
use Rattle.dht_section.specs.Permits.{Changes}
use Rattle.dht_section.specs.Planned.{AllPlanned}
use Rattle.dht_section.specs.Scene.{Scene, Sound, HoldsAlone, NameStands}
use Rattle.dht_section.specs.Shapes.{Bare, Folder, NameFits, core_at}
use Rattle.dht_section.specs.Truth.{folder}
use Rattle.dht_section.specs.Views.{DirView, core, cores_of, dir_view}
use Rattle.dht_section.proofs.EarlyLaws.{nat_cases, core_folder}
use Rattle.dht_section.proofs.SlotLaws.{entry_cases}
use Rattle.dht_invariant.specs.Laws.{Preserves}
use Rattle.dht_invariant.proofs.Basics.{gfid_cases, none_some, some_same, other_some, true_false, not_true}
use Rattle.dht_invariant.proofs.DirKeeps.{SlotTurns, Stays, Turns, Goes, DirTurns, TreeTurns, OwnTurns, things_turn, used_was, early_turns, turns_touch}
use Rattle.dht_invariant.proofs.DirLaws.{OneName, dir_of_name, one_name}
use Rattle.dht_invariant.proofs.DirRows.{StoresOnly, stores_only, CopyDropped, copy_dropped}
use Rattle.dht_invariant.proofs.EarlyLaws.{file_core}
use Rattle.dht_invariant.proofs.FolderLaws.{on_at, on_off, on_folder, off_folder, same_folder, less_fits, folder_core, bare_core}
use Rattle.dht_invariant.proofs.Frames.{brick_by, brick_is, kept_by}
use Rattle.dht_invariant.proofs.ServedLaws.{others_hold}

-- a directory of which there is no copy and no name
no_dir_left :
    (count : ℕ) (g : Gfid) (w : DirView) (told : Bool) (descent : Option Descent)
    → told ≡ is_some (w.copies (home g)) → ((b : ℕ) → b < count → w.copies b ≡ None)
    → ((b : ℕ) (e : Entry) → b < count → w.mains b e ≡ true → ⊥)
    → DirInvariant count g w told descent
no_dir_left count g w told descent homed none unnamed = record {
  homed = homed;
  led = λ b l h. absurd (true_false (is_some (w.copies b)) h (ap is_some (none b l)));
  one = λ b i r q lb li hb hi. absurd (none_some (w.copies b) r (none b lb) hb);
  placed = λ b r l h. absurd (none_some (w.copies b) r (none b l) h);
  rooted = λ b r l h place. absurd (none_some (w.copies b) r (none b l) h);
  deep = λ b r l h. absurd (none_some (w.copies b) r (none b l) h);
  named = λ b e l main. absurd (unnamed b e l main);
}

module _ (s t : Scene) (b : BrickNo) (d : Gfid) (n : List ℕ) (g : Gfid) (r : Reply) (m : Guarantee s (record { brick = b; request = OnNames (DropDir d n g) }) r t) (sound : Sound s) (there : b.0 < s.disk.count) (may : Changes s b.0 (DropDir d n g)) (gives : Given) (real : m.real ≡ Carried gives) (done : outcome_of s (record { brick = b; request = OnNames (DropDir d n g) }) ≡ Do gives m.new) (on : ℕ → Bool) (stood : NameStands s (d, n) (Folder g on)) where
  abbrev ask : Ask
  ask = record { brick = b; request = OnNames (DropDir d n g) }

  abbrev request : NameRequest
  request = DropDir d n g

  abbrev at : ℕ
  at = b.0

  abbrev name : Entry
  name = (d, n)

  abbrev alone : HoldsAlone s g
  alone = may.holds.1

  abbrev bricks : List (List ℕ)
  bricks = replay_names (length s.history.weights)

  row : CopyDropped d n g (s.disk.brick at) m.new
  row = copy_dropped bricks d n g (s.disk.brick at) m.new gives done

  stored : StoresOnly request (s.disk.brick at) m.new
  stored = stores_only bricks request (s.disk.brick at) m.new gives done

  new_is : t.disk.brick at ≡ m.new
  new_is = brick_is s.disk t.disk at m.new m.disk

  off : (i : ℕ) → i ≢ at → t.disk.brick i ≡ s.disk.brick i
  off i ne = brick_by (λ (c : Contents). c ≡ s.disk.brick i) s.disk t.disk at m.new i m.disk (λ e. absurd (ne e)) (λ x. refl)

  stays : {X : Type 0} (f : Contents → X) → f m.new ≡ f (s.disk.brick at) → (i : ℕ) → f (t.disk.brick i) ≡ f (s.disk.brick i)
  stays f same i = kept_by f s.disk t.disk at m.new m.disk same i

  within_count : (i : ℕ) → i < t.disk.count → i < s.disk.count
  within_count i l = subst (λ (c : ℕ). i < c) m.disk.count l

  -- ---- its slots
  no_name_within : (i : ℕ) (y : Entry) → i < s.disk.count → y.0 ≡ g → core (slot_at s.disk i y) ≡ bare
  no_name_within i y l q = ap (λ (h : Gfid). core (slot_at s.disk i (h, y.1))) q ∙ may.also i y.1 l

  apart : g ≢ d
  apart q = true_false (is_dir g (slot_at s.disk at name).main) row.named (bare_core (slot_at s.disk at name) g (no_name_within at name there (sym q)))

  on_here : on at ≡ true
  on_here = by (on at) refl
    where
      by : (v : Bool) → on at ≡ v → v ≡ true
      by true e = refl
      by false e = absurd (true_false (is_dir g (slot_at s.disk at name).main) row.named (bare_core (slot_at s.disk at name) g (stood.has at there ∙ off_folder g on at e)))

  slot_was : core (slot_at s.disk at name) ≡ folder g
  slot_was = stood.has at there ∙ on_folder g on at on_here

  slot_now : slot_at t.disk at name ≡ bare
  slot_now =
      ap (λ (c : Contents). slot c.store name) new_is
      ∙ (row.here apart ∙ ap without_main (core_folder (slot_at s.disk at name) g slot_was))

  slot_within : (y : Entry) → y.0 ≡ g → slot_at t.disk at y ≡ bare
  slot_within y q = ap (λ (c : Contents). slot c.store y) new_is ∙ row.slots y q

  slot_off : (i : ℕ) (y : Entry) → i ≢ at → slot_at t.disk i y ≡ slot_at s.disk i y
  slot_off i y ne = ap (λ (c : Contents). slot c.store y) (off i ne)

  slot_other : (i : ℕ) (y : Entry) → y ≢ name → y.0 ≢ g → slot_at t.disk i y ≡ slot_at s.disk i y
  slot_other i y ne out = stays (λ (c : Contents). slot c.store y) (ap (λ o. unwrap_or o bare) (stored.only.slots y (other_some name y ne) (other_some g y.0 out))) i

  -- no slot of the brick is the directory's any more
  none_left : (y : Entry) → is_dir g (slot_at t.disk at y).main ≡ true → (y ≢ name) × (y.0 ≢ g)
  none_left y main = (
    λ q. true_false (is_dir g (slot_at t.disk at y).main) main (ap (λ (z : Entry). is_dir g (slot_at t.disk at z).main) q ∙ ap (λ (p : Slot). is_dir g p.main) slot_now),
    λ q. true_false (is_dir g (slot_at t.disk at y).main) main (ap (λ (p : Slot). is_dir g p.main) (slot_within y q)),
  )

  -- ---- its copies
  copy_now : dir_at t.disk at g ≡ None
  copy_now = ap (λ (c : Contents). dir c.store g) new_is ∙ row.copy

  copy_off : (i : ℕ) → i ≢ at → dir_at t.disk i g ≡ dir_at s.disk i g
  copy_off i ne = ap (λ (c : Contents). dir c.store g) (off i ne)

  dirs_stay : (i : ℕ) (h : Gfid) → h ≢ g → dir_at t.disk i h ≡ dir_at s.disk i h
  dirs_stay i h ne = stays (λ (c : Contents). dir c.store h) (stored.only.dirs h (other_some g h ne)) i

  -- a copy that is there is on another brick
  copy_elsewhere : (i : ℕ) → is_some (dir_at t.disk i g) ≡ true → i ≢ at
  copy_elsewhere i h q = true_false (is_some (dir_at t.disk i g)) h (ap (λ (j : ℕ). is_some (dir_at t.disk j g)) q ∙ ap is_some copy_now)

  -- it is no root
  child_descent : s.history.tree.descents g ≡ Some (record { depth = depth_of s.history.tree d + 1; place = Some (d, n) })
  child_descent = (sound.kept.tree.child (d, n) g stood.node).descent

  no_root : root ≢ g
  no_root q =
      let same : of_root ≡ record { depth = depth_of s.history.tree d + 1; place = Some (d, n) } = some_same (s.history.tree.descents g) _ _ (ap s.history.tree.descents (sym q) ∙ sound.kept.tree.rooted.1) child_descent in
      none_some of_root.place (d, n) refl (ap (λ (x : Descent). x.place) same)

  known : s.history.tree.dirs g ≡ true
  known = (sound.kept.tree.child (d, n) g stood.node).dir

  slots_turn : (i : ℕ) (y : Entry) → SlotTurns s.disk t.disk g name (HoldsAlone s g) i y
  slots_turn i y = elim (nat_cases i at) [
    | inl z ↦ subst (λ (j : ℕ). SlotTurns s.disk t.disk g name (HoldsAlone s g) j y) (sym z) (elim (entry_cases y name) [
      | inl q ↦ subst (SlotTurns s.disk t.disk g name (HoldsAlone s g) at) (sym q) (Turns refl row.parent (inr slot_was) (inl slot_now))
      | inr ne ↦ elim (gfid_cases y.0 g) [
        | inl q ↦ Goes alone q (no_name_within at y there q) (slot_within y q)
        | inr out ↦ Stays (slot_other at y ne out)
      ]
    ])
    | inr ne ↦ Stays (slot_off i y ne)
  ]

  turns : DirTurns s.disk t.disk g name (HoldsAlone s g)
  turns = record {
    count = m.disk.count;
    opens = stays (λ (c : Contents). c.opens) stored.opens;
    files = λ i f. stays (λ (c : Contents). file c.store f) (stored.only.files f (λ e. let z : None ≡ Some f = e in cc)) i;
    dirs = dirs_stay;
    slots = slots_turn;
    housed = λ i. elim (nat_cases i at) [
      | inl q ↦ inr (λ y z. ap (λ (j : ℕ). slot_at t.disk j y) q ∙ slot_within y z)
      | inr ne ↦ inl (λ h. ap is_some (copy_off i ne) ∙ h)
    ];
    roots = λ i l h. ap is_some (dirs_stay i root no_root) ∙ h;
    parents = λ i k x h l main was. absurd (true_false (is_dir h (slot_at s.disk i (g, x)).main) main (bare_core (slot_at s.disk i (g, x)) h (may.also i x l)));
  }

  -- ---- ranges
  planned_less : AllPlanned s.disk s.history.weights g → AllPlanned t.disk s.history.weights g
  planned_less k i x l h = k i x (within_count i l) (sym (copy_off i (copy_elsewhere i (ap is_some h))) ∙ h)

  holds : (y : Entry) (i : ℕ) (f : Gfid) → y.0 ≡ g → i < s.disk.count → name_at s.disk i y ≡ Some f → ⊥
  holds y i f q l named = none_some (name_at s.disk i y) f (file_core (slot_at s.disk i y) ∙ ap file_in (no_name_within i y l q)) named

  -- ---- all of it, by what became of the tree
  module _ (tree : TreeTurns s.history.tree t.history.tree g name) (descents : t.history.tree.descents g ≡ s.history.tree.descents g) (shape : NameInvariant t.disk.count (cores_of t.disk name) (t.history.tree.names name)) (own : DirInvariant t.disk.count g (dir_view t.disk g) (t.history.tree.dirs g) (t.history.tree.descents g)) where
    used_before : (h : Gfid) → Used t.disk t.history.tree h → Used s.disk s.history.tree h
    used_before h u = elim (gfid_cases h g) [
      | inl q ↦ subst (Used s.disk s.history.tree) (sym q) (ByDir known)
      | inr ne ↦ used_was s.disk t.disk g name (HoldsAlone s g) turns s.history.tree t.history.tree tree h ne u
    ]

    touch : OwnTurns s t.disk t.history.tree g name
    touch = record {
      name = λ h st. inl (inl may.holds.0);
      slot = λ i same. inl (inl may.holds.0);
      copies = λ i. inl alone;
      both = λ h has st. inl (inl may.holds.0);
      known = λ was. inl alone;
      planned = planned_less;
      made = λ y was. descents ∙ was;
    }

    keeps : Preserves s t
    keeps =
        let later = m.later in
        record {
          things = subst (Things t.disk t.history.tree (most_hops t.history)) (sym m.claims)
              (things_turn s.disk t.disk g name (HoldsAlone s g) turns s.history.tree t.history.tree (most_hops s.history) (most_hops t.history) s.claims (omega arith) tree
              (stays (λ (c : Contents). c.locks) stored.locks) shape own sound.kept.things);
          early = early_turns s.disk t.disk g name (HoldsAlone s g) turns s.history t.history m.run m.weights planned_less
              (λ y i f q first l named was. absurd (holds y i f q l named)) (λ h u. inl (used_before h u)) sound.early;
          used = used_before;
          touches = turns_touch s t.disk t.history.tree g name turns tree touch (λ c i key ne. others_hold s t ask r m i key c ne);
        }

  -- what the tree comes to, by whether the brick is the directory's home
  tree_by_home : (v : Bool) → nat_eq at (home g) ≡ v → t.history.tree ≡ tree_by (if v then Some (RemoveDir d n) else None) s.history.tree
  tree_by_home v e =
      m.tree ∙ (ap (λ (x : Reply). tree_by (step_of at (OnNames request) x) s.history.tree) real
      ∙ ap (λ (z : Bool). tree_by (if z then Some (RemoveDir d n) else None) s.history.tree) e)

  -- its copies stood at that name
  home_main : is_dir g (slot_at s.disk (home g) name).main ≡ true
  home_main = folder_core (slot_at s.disk (home g) name) g (stood.has (home g) stood.fits.0 ∙ on_folder g on (home g) stood.fits.1)

  once : (above : ℕ) × OneName s.disk.count (dir_view s.disk g) (record { dir = d; name = n }) above × (above + 1 ≡ depth_in (s.history.tree.descents g))
  once = one_name s.disk.count g (dir_view s.disk g) (s.history.tree.dirs g) (s.history.tree.descents g) (sound.kept.things.dirs g) (home g) (d, n) stood.fits.0 home_main

  -- ---- the last copy, at its home
  module _ (homed : b.0 ≡ home g) (last : (i : ℕ) → i ≢ b.0 → on i ≡ false) where
    tree_less : t.history.tree ≡ applied (RemoveDir d n) s.history.tree
    tree_less = tree_by_home true ((exact_nat at (home g)).1 homed)

    dirs_less : (h : Gfid) → t.history.tree.dirs h ≡ less_dir s.history.tree.dirs (Some (IsDir g)) h
    dirs_less h = ap (λ (x : Tree). x.dirs h) tree_less ∙ ap (λ (o : Option Node). less_dir s.history.tree.dirs o h) stood.node

    tree_turns : TreeTurns s.history.tree t.history.tree g name
    tree_turns = record {
      names = λ y ne. ap (λ (x : Tree). x.names y) tree_less ∙ put_other same_entry exact_entry s.history.tree.names name None y ne;
      bytes = λ f. ap (λ (x : Tree). x.bytes f) tree_less;
      dirs = λ h ne. dirs_less h ∙ put_other same_gfid exact_gfid s.history.tree.dirs g false h ne;
      descents = λ h ne. ap (λ (x : Tree). x.descents h) tree_less;
    }

    bare_elsewhere : (i : ℕ) → i < s.disk.count → i ≢ b.0 → core (slot_at s.disk i name) ≡ bare
    bare_elsewhere i l ne = stood.has i l ∙ off_folder g on i (last i ne)

    name_gone : NameInvariant t.disk.count (cores_of t.disk name) (t.history.tree.names name)
    name_gone = (
      Bare,
      record {
        fits = tt;
        has = λ i l. elim (nat_cases i at) [
          | inl q ↦ ap (λ (j : ℕ). core (slot_at t.disk j name)) q ∙ ap core slot_now
          | inr ne ↦ ap core (slot_off i name ne) ∙ bare_elsewhere i (within_count i l) ne
        ];
        node = ap (λ (x : Tree). x.names name) tree_less ∙ put_same same_entry exact_entry s.history.tree.names name None;
      },
    )

    -- no other brick had a copy
    none_elsewhere : (i : ℕ) → i < s.disk.count → i ≢ b.0 → dir_at s.disk i g ≡ None
    none_elsewhere i l ne = by (dir_at s.disk i g) refl
      where
        by : (o : Option DirRecord) → dir_at s.disk i g ≡ o → o ≡ None
        by None q = refl
        by (Some x) q = absurd (true_false (is_dir g (slot_at s.disk i name).main) (once.1.main i l (ap is_some q)) (bare_core (slot_at s.disk i name) g (bare_elsewhere i l ne)))

    no_copy : (i : ℕ) → i < s.disk.count → dir_at t.disk i g ≡ None
    no_copy i l = elim (nat_cases i at) [
      | inl q ↦ ap (λ (j : ℕ). dir_at t.disk j g) q ∙ copy_now
      | inr ne ↦ copy_off i ne ∙ none_elsewhere i l ne
    ]

    no_name : (i : ℕ) (y : Entry) → i < s.disk.count → is_dir g (slot_at t.disk i y).main ≡ true → ⊥
    no_name i y l main = elim (nat_cases i at) [
      | inl q ↦ (let here : is_dir g (slot_at t.disk at y).main ≡ true = ap (λ (j : ℕ). is_dir g (slot_at t.disk j y).main) (sym q) ∙ main in
          let out = none_left y here in
          out.0 (once.1.named at y there (ap (λ (p : Slot). is_dir g p.main) (sym (slot_other at y out.0 out.1)) ∙ here)).0)
      | inr ne ↦ (let was = once.1.named i y l (ap (λ (p : Slot). is_dir g p.main) (sym (slot_off i y ne)) ∙ main) in
          true_false (is_some (dir_at s.disk i g)) was.1 (ap is_some (none_elsewhere i l ne)))
    ]

    own_gone : DirInvariant t.disk.count g (dir_view t.disk g) (t.history.tree.dirs g) (t.history.tree.descents g)
    own_gone = subst (λ (c : ℕ). DirInvariant c g (dir_view t.disk g) (t.history.tree.dirs g) (t.history.tree.descents g)) (sym m.disk.count)
        (no_dir_left s.disk.count g (dir_view t.disk g) (t.history.tree.dirs g) (t.history.tree.descents g)
        (dirs_less g ∙ (put_same same_gfid exact_gfid s.history.tree.dirs g false ∙ sym (ap (λ (j : ℕ). is_some (dir_at t.disk j g)) (sym homed) ∙ ap is_some copy_now)))
        no_copy no_name)

    keeps_gone : Preserves s t
    keeps_gone = keeps tree_turns (ap (λ (x : Tree). x.descents g) tree_less) name_gone own_gone

  -- ---- a copy beside its home
  module _ (beside : b.0 ≢ home g) where
    tree_same : t.history.tree ≡ s.history.tree
    tree_same = tree_by_home false (not_true (nat_eq at (home g)) (λ h. beside ((exact_nat at (home g)).0 h)))

    tree_stays : TreeTurns s.history.tree t.history.tree g name
    tree_stays = record {
      names = λ y ne. ap (λ (x : Tree). x.names y) tree_same;
      bytes = λ f. ap (λ (x : Tree). x.bytes f) tree_same;
      dirs = λ h ne. ap (λ (x : Tree). x.dirs h) tree_same;
      descents = λ h ne. ap (λ (x : Tree). x.descents h) tree_same;
    }

    name_less : NameInvariant t.disk.count (cores_of t.disk name) (t.history.tree.names name)
    name_less = (
      Folder g (set_on on at false),
      record {
        fits = subst (λ (c : ℕ). NameFits c (Folder g (set_on on at false))) (sym m.disk.count) (less_fits s.disk.count at g on there beside stood.fits);
        has = λ i l. elim (nat_cases i at) [
          | inl q ↦ subst (λ (j : ℕ). core (slot_at t.disk j name) ≡ core_at (Folder g (set_on on at false)) j) (sym q)
              (ap core slot_now ∙ sym (off_folder g (set_on on at false) at (on_at on at false)))
          | inr ne ↦ ap core (slot_off i name ne) ∙ (stood.has i (within_count i l) ∙ same_folder g on (set_on on at false) i (sym (on_off on at false i ne)))
        ];
        node = ap (λ (x : Tree). x.names name) tree_same ∙ stood.node;
      },
    )

    one_less : OneName s.disk.count (dir_view t.disk g) (record { dir = d; name = n }) once.0
    one_less = record {
      placed = λ i x l h. once.1.placed i x l (sym (copy_off i (copy_elsewhere i (ap is_some h))) ∙ h);
      main = λ i l h. (let ne = copy_elsewhere i h in
          ap (λ (p : Slot). is_dir g p.main) (slot_off i name ne) ∙ once.1.main i l (ap is_some (sym (copy_off i ne)) ∙ h));
      parent = λ i l h. (let ne = copy_elsewhere i h in
          ap (λ (c : Contents). option_map (λ (x : DirRecord). x.depth) (dir c.store d)) (off i ne) ∙ once.1.parent i l (ap is_some (sym (copy_off i ne)) ∙ h));
      named = λ i y l main. elim (nat_cases i at) [
        | inl q ↦ (let here : is_dir g (slot_at t.disk at y).main ≡ true = ap (λ (j : ℕ). is_dir g (slot_at t.disk j y).main) (sym q) ∙ main in
            let out = none_left y here in
            absurd (out.0 (once.1.named at y there (ap (λ (p : Slot). is_dir g p.main) (sym (slot_other at y out.0 out.1)) ∙ here)).0))
        | inr ne ↦ (let was = once.1.named i y l (ap (λ (p : Slot). is_dir g p.main) (sym (slot_off i y ne)) ∙ main) in
            (was.0, ap is_some (copy_off i ne) ∙ was.1))
      ];
    }

    known_now : t.history.tree.dirs g ≡ true
    known_now = ap (λ (x : Tree). x.dirs g) tree_same ∙ known

    home_there : is_some (dir_at t.disk (home g) g) ≡ true
    home_there = ap is_some (copy_off (home g) (λ q. beside (sym q))) ∙ (sym (sound.kept.things.dirs g).homed ∙ known)

    own_less : DirInvariant t.disk.count g (dir_view t.disk g) (t.history.tree.dirs g) (t.history.tree.descents g)
    own_less = subst (λ (c : ℕ). DirInvariant c g (dir_view t.disk g) (t.history.tree.dirs g) (t.history.tree.descents g)) (sym m.disk.count)
        (dir_of_name s.disk.count g (dir_view t.disk g) (record { dir = d; name = n }) once.0 one_less (t.history.tree.dirs g) (t.history.tree.descents g)
        (known_now ∙ sym home_there)
        (λ i l h. (stood.fits.0, known_now))
        (λ i l h. once.2 ∙ ap (λ (x : Tree). depth_in (x.descents g)) (sym tree_same)))

    keeps_less : Preserves s t
    keeps_less = keeps tree_stays (ap (λ (x : Tree). x.descents g) tree_same) name_less own_less

pub drop_dir_keeps :
    (s t : Scene) (b : BrickNo) (d : Gfid) (n : List ℕ) (g : Gfid) (r : Reply)
    (m : Guarantee s (record { brick = b; request = OnNames (DropDir d n g) }) r t)
    → Sound s → b.0 < s.disk.count → Changes s b.0 (DropDir d n g) → (gives : Given)
    → m.real ≡ Carried gives
    → outcome_of s (record { brick = b; request = OnNames (DropDir d n g) }) ≡ Do gives m.new
    → Preserves s t
drop_dir_keeps s t b d n g r m sound there may gives real done =
    let stood = subst (NameStands s (d, n)) may.takes.1 may.stands in
    elim may.takes.2 [
      | inl z ↦ keeps_gone s t b d n g r m sound there may gives real done may.takes.0 stood z.0 z.2
      | inr z ↦ keeps_less s t b d n g r m sound there may gives real done may.takes.0 stood z.0
    ]
