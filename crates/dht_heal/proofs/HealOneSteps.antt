-- The steps of the healing of one directory.
use Rattle.std.proofs.Common.{◌≡◌, ◌≢◌, ◌<◌, ◌≤◌, ◌+◌, ◌-◌, ◌&&◌, ◌||◌, ℕ, Bool, true, false, List, [], ◌∷◌, refl, sym, ◌∙◌, ap, subst, arith, inl, inr}
use Rattle.std.specs.Prelude.{is_some, not, nat_eq, nat_lt, nat_le, if◌then◌else◌, slice_index_or, Option, Some, None}
use Rattle.std.specs.Option.{option_map}
use Rattle.std.proofs.lemmas.Bool.Decides.{nat_tests}
use Rattle.std.proofs.lemmas.List.{length-replicate}
use Rattle.dht_types.proofs.PutLaws.{exact_gfid, exact_nat}
use Rattle.dht_types.specs.Gfid.{home, root, same_gfid}
use Rattle.dht_types.specs.History.{is_carried}
use Rattle.dht_types.specs.Tree.{Tree, Descent, depth_in, depth_of, of_root}
use Rattle.dht_types.specs.declared.calls.TreeStep.TheVariants.{AddDir}
use Rattle.dht_types.specs.declared.errors.Errno.{Errno}
use Rattle.dht_types.specs.declared.identifiers.BrickNo.{BrickNo}
use Rattle.dht_types.specs.declared.identifiers.Gfid.{Gfid}
use Rattle.dht_types.specs.declared.locks.Key.TheVariants.{Dir as DirKey}
use Rattle.dht_types.specs.declared.locks.Mode.TheVariants.{Exclusive}
use Rattle.dht_types.specs.declared.names.EntryKey.{EntryKey}
use Rattle.dht_types.specs.declared.stored.DirRecord.{DirRecord}
use Rattle.dht_brick.specs.Contents.{entry_at}
use Rattle.dht_brick.specs.Kinds.{reply_kind}
use Rattle.dht_brick.specs.Looks.{info_of}
use Rattle.dht_brick.specs.Parts.{is_free}
use Rattle.dht_brick.specs.declared.replies.Given.TheVariants as given
use Rattle.dht_brick.specs.declared.replies.Reply.{Reply}
use Rattle.dht_brick.specs.declared.replies.Reply.TheVariants as reply
use Rattle.dht_brick.specs.declared.replies.Why.TheVariants as why
use Rattle.dht_xattr.specs.declared.range.Range.{Range}
use Rattle.dht_section.proofs.ClaimLaws.{claims_less, claims_more}
use Rattle.dht_section.proofs.EarlyLaws.{nat_cases}
use Rattle.dht_section.proofs.PlaceLaws.{below_or, set_length, set_other, set_there}
use Rattle.dht_section.proofs.ReadLaws.{longer_below, longer_length, longer_there}
use Rattle.dht_section.proofs.SceneLaws.{dir_moved, fault_earned, lock_given_back, lock_taken, lock_waits, tree_quiet}
use Rattle.dht_section.proofs.SectionLocks.{again}
use Rattle.dht_section.proofs.SectionParts.{either_none, fault_errors}
use Rattle.dht_section.proofs.ShownLaws.{root_there}
use Rattle.dht_section.proofs.UnservedLaws.{unserved, unserved_is_rely}
use Rattle.dht_section.specs.Again.{IsUnanswered}
use Rattle.dht_section.specs.Claims.{Claim, claims_locks}
use Rattle.dht_section.specs.Dirs.{PlacedAt}
use Rattle.dht_section.specs.Views.{dir_view}
use Rattle.dht_section.specs.Disk.{Disk, dir_at, range_at, range_of, range_of_value, slot_at}
use Rattle.dht_section.specs.Faults.{part_fault}
use Rattle.dht_section.specs.Looks.{is_nodir, lengthened, mark_at}
use Rattle.dht_section.specs.Planned.{bounds}
use Rattle.dht_section.specs.Replies.{fault_of, is_shown, range_shown}
use Rattle.dht_section.specs.Scene.{HoldsAlone, Scene, Sound}
use Rattle.dht_section.specs.Section.{shows_gone}
use Rattle.dht_section.specs.Stages.{EndsIn, GoesOn, MatchTurn, MayClaimNext, Moves, Served}
use Rattle.dht_section.specs.declared.machine.Turn.{Turn}
use Rattle.dht_section.specs.declared.machine.Turn.TheVariants.{Go, Done}
use Rattle.dht_heal.proofs.HealOneKnows.{IsReady, IsStepless, by_test, copied_at_brick, copied_ready, copy_at_brick, holds_moved, laid_ready, saw_moved, shown_at_brick, shown_quiet, surveyed_ready, target_moved, told_quiet, was_moved}
use Rattle.dht_heal.proofs.HealOneRequests.{SetsDir, CopyMade, Made, NoParent, Occupied, RangeSet, copy_made, info_none, info_some, occupied_copied, range_set}
use Rattle.dht_heal.proofs.FolderLaws.{main_named}
use Rattle.dht_heal.specs.HealOne.{anchor_brick, copied_at, copying, is_faulty, next_missing, told_fault, LayingKnows, CopyingKnows, HadNone, IsCopied, IsLaid, IsTarget, NotesStop, SawHome, Shown, WasShown, copied_from, copy_answered, has_copy, heal_one_after, heal_one_fault, heal_one_stage, healed_one, healed_some, home_shown, info_ask, is_told, laid, layout_answered, lock_answered, no_survey, settled, survey_answered, survey_with, surveyed, target_claim, target_of, unless_fault}
use Rattle.dht_heal.specs.HealOneLaws.{lays_plan, anchor_is, copying_descent, copying_folder, copying_missing, heal_one_stable, in_tree, no_home_step, no_range, target_bricks}
use Rattle.dht_heal.specs.declared.heal_one.HealOne.{HealOne}
use Rattle.dht_heal.specs.declared.heal_one.HealOne.TheVariants.{Locking, Surveying, Copying, Laying, Unlocking}
use Rattle.dht_heal.specs.declared.heal_one.HealedOne.{HealedOne}
use Rattle.dht_heal.specs.declared.heal_one.HealedOne.TheVariants.{Gone, Parent, Stopped}
use Rattle.dht_heal.specs.declared.heal_one.Survey.{Survey}
use Rattle.dht_heal.specs.declared.heal_one.Target.{Target}

-- ---- how it goes on

claims_is : (n : HealOne) → (heal_one_stage n).claims ≡ target_claim (target_of n)
claims_is (Locking x) = refl
claims_is (Surveying x b v) = refl
claims_is (Copying x b v k) = refl
claims_is (Laying x b at) = refl
claims_is (Unlocking x d) = refl

goes :
    (m n : HealOne) (bound : ℕ) (r : Reply) (at : ℕ) (s t : Scene) → IsReady (target_of m) bound n t
    → bound < (heal_one_stage m).variant → Served (heal_one_stage m) r at s t
    → GoesOn (heal_one_stage m) (heal_one_stage n) r t
goes m n bound r at s t h l v =
    let left = h.left in
    let same : claims_locks (heal_one_stage m).claims.locks ≡ (heal_one_stage n).claims =
    ap (λ (c : Claim). claims_locks c.locks) (claims_is m) ∙ (ap target_claim (sym h.target) ∙ sym (claims_is n)) in
    record {
      claims = subst (λ (c : Claim). MayClaimNext t (heal_one_stage m).claims c) same (claims_more (heal_one_stage m) r at s t (heal_one_stage m).claims.locks v (λ b key i. i));
      knows = h.knows;
      nearer = λ u. (λ w. omega arith, omega arith);
    }

-- ---- how it stops

target_in : (m : HealOne) (s : Scene) → (heal_one_stage m).knows s → IsTarget (target_of m) s
target_in (Locking x) s h = h
target_in (Surveying x b v) s h = h.target
target_in (Copying x b v k) s h = h.target
target_in (Laying x b at) s h = h.target
target_in (Unlocking x d) s h = h.target

-- none of its requests is a step of the tree
pub stepless :
    (m : HealOne) (s : Scene) → (heal_one_stage m).knows s → IsStepless (heal_one_stage m).asks
stepless (Locking x) s h = refl
stepless (Surveying x b v) s h = refl
stepless (Copying x b v k) s h = no_home_step b.0 x.directory (AddDir k.dir k.name x.directory) (copying_missing x b v k s h).away
stepless (Laying x b at) s h = refl
stepless (Unlocking x d) s h = refl

stops :
    (m : HealOne) (e : Errno) (r : Reply) (at : ℕ) (s t : Scene) → fault_of r ≡ Some e
    → 1 < (heal_one_stage m).variant → Served (heal_one_stage m) r at s t
    → GoesOn (heal_one_stage m) (heal_one_stage (Unlocking (target_of m) (Stopped e))) r t
stops m e r at s t z l v = goes m (Unlocking (target_of m) (Stopped e)) 1 r at s t (record {
  target = refl;
  knows = record {
    target = target_moved (target_of m) s t (heal_one_stage m).asks r (stepless m s v.is_at.knows) (target_in m s v.is_at.knows) v.moved;
    told = (ap part_fault (sym z) ∙ (fault_errors r ∙ z), fault_earned s t (heal_one_stage m).asks r e z v.moved);
  };
  left = omega arith;
}) l v

unless :
    (m n : HealOne) (o : Option Errno) (r : Reply) (at : ℕ) (s t : Scene) → fault_of r ≡ o
    → 1 < (heal_one_stage m).variant → Served (heal_one_stage m) r at s t
    → (fault_of r ≡ None → GoesOn (heal_one_stage m) (heal_one_stage n) r t)
    → GoesOn (heal_one_stage m) (heal_one_stage (unless_fault o (target_of m) n)) r t
unless m n None r at s t z l v go = go z
unless m n (Some e) r at s t z l v go = stops m e r at s t z l v

-- ---- the lock

lock_step :
    (x : Target) (r : Reply) (at : ℕ) (s t : Scene) → Served (heal_one_stage (Locking x)) r at s t
    → fault_of r ≡ None
    → GoesOn (heal_one_stage (Locking x)) (heal_one_stage (lock_answered x r)) r t
lock_step x r at s t v z = by_test (λ n. GoesOn (heal_one_stage (Locking x)) (heal_one_stage n) r t) (is_carried (reply_kind r)) _ _
    (λ e. goes (Locking x) (Surveying x (record { 0 = 0 }) no_survey) (x.bricks - 0 + x.bricks + x.bricks + 1) r at s t (record {
      target = refl;
      knows = record {
        target = target_moved x s t _ r refl v.is_at.knows v.moved;
        holds = lock_taken s t _ x.directory (DirKey x.directory) Exclusive r (anchor_is x s v.before v.is_at.knows) e v.moved;
        within = let there = v.is_at.knows.home in omega arith;
        shown = record {
          room = length-replicate {A = Bool} 32 false;
          whole = refl;
          bricks = λ b l. absurd (omega arith);
          home = λ l. absurd (omega arith);
        };
      };
      left = omega arith;
    }) (omega arith) v)
    (λ e. again (heal_one_stage (Locking x)) r at s t (heal_one_stable (Locking x)) z e (lock_waits s t _ (DirKey x.directory) Exclusive r z e v.moved) refl v)

-- ---- the survey

-- the home has none
gone_ready :
    (x : Target) (b : BrickNo) (v : Survey) (r : Reply) (at : ℕ) (s t : Scene)
    → Served (heal_one_stage (Surveying x b v)) r at s t → b.0 ≡ home x.directory
    → dir_at s.disk b.0 x.directory ≡ None → IsReady x 1 (Unlocking x (Gone at)) t
gone_ready x b v r at s t w q e =
    let begun = w.after.begun in
    let line = w.line in
    let now : t.history.tree.dirs x.directory ≡ false =
    ap (λ (p : Tree). p.dirs x.directory) (tree_quiet s t (info_ask x b) r tt w.moved)
    ∙ ((w.before.kept.things.dirs x.directory).homed
    ∙ (ap (λ (i : ℕ). is_some (dir_at s.disk i x.directory)) (sym q) ∙ ap is_some e)) in
    record {
      target = refl;
      knows = record {
        target = target_moved x s t _ r refl w.is_at.knows.target w.moved;
        told = record {
          after = omega arith;
          before = omega arith;
          gone = ap (λ (i : ℕ). (t.history.past i).dirs x.directory) line ∙ (ap (λ (p : Tree). p.dirs x.directory) w.after.kept.point ∙ now);
          still = λ alone. now;
        };
      };
      left = omega arith;
    }

-- one brick more
shown_as :
    (g : Gfid) (a b : Bool) (x y : Option Range) (i : ℕ) (t : Scene) → a ≡ b → x ≡ y
    → WasShown g a x i t → WasShown g b y i t
shown_as g a b x y i t e k h = subst (λ (mark : Bool). WasShown g mark y i t) e (subst (λ (o : Option Range). WasShown g a o i t) k h)

home_as :
    (g : Gfid) (v : Survey) (b : BrickNo) (r : Reply) (at : ℕ) (t : Scene)
    → (b.0 ≡ home g → SawHome g (home_shown r at) t) → (b.0 ≢ home g → SawHome g v.home t)
    → SawHome g (survey_with g v b r at).home t
home_as g v b r at t h k = by (nat_eq b.0 (home g)) refl
  where
    by : (c : Bool) → nat_eq b.0 (home g) ≡ c → SawHome g (if c then home_shown r at else v.home) t
    by true e = h ((exact_nat b.0 (home g)).0 e)
    by false e = k (λ q. let z : true ≡ false = sym ((exact_nat b.0 (home g)).1 q) ∙ e in cc)

shown_more :
    (g : Gfid) (v : Survey) (b : BrickNo) (r : Reply) (at : ℕ) (t : Scene) → b.0 < 32
    → Shown g v b.0 t → WasShown g (is_carried (reply_kind r)) (range_shown r) b.0 t
    → (b.0 ≡ home g → SawHome g (home_shown r at) t) → Shown g (survey_with g v b r at) (b.0 + 1) t
shown_more g v b r at t few h new saw =
    let room = h.room in
    let whole = h.whole in
    let size = longer_length v.layout (range_shown r) (omega arith) in
    record {
      room = set_length v.copies b.0 (is_carried (reply_kind r)) (omega arith) ∙ h.room;
      whole = omega arith;
      bricks = λ i l. bricks i l;
      home = λ l. home_as g v b r at t saw (λ ne. h.home (below (home g) l (λ q. ne (sym q))));
    }
  where
    below : (i : ℕ) → i < b.0 + 1 → i ≢ b.0 → i < b.0
    below i l ne = below_or i b.0 (omega arith) ne

    here : WasShown g (mark_at (survey_with g v b r at).copies b.0) (slice_index_or (survey_with g v b r at).layout b.0 None) b.0 t
    here =
        let room = h.room in
        let whole = h.whole in
        shown_as g _ _ _ _ b.0 t (sym (set_there v.copies b.0 (is_carried (reply_kind r)) false (omega arith)))
        (sym (ap (λ (j : ℕ). slice_index_or (lengthened v.layout (range_shown r)) j None) (sym h.whole) ∙ longer_there v.layout (range_shown r) (omega arith))) new

    elsewhere : (i : ℕ) → i < b.0 → i ≢ b.0 → WasShown g (mark_at (survey_with g v b r at).copies i) (slice_index_or (survey_with g v b r at).layout i None) i t
    elsewhere i l ne =
        let room = h.room in
        let whole = h.whole in
        shown_as g _ _ _ _ i t (sym (set_other v.copies b.0 i (is_carried (reply_kind r)) false (omega arith) ne))
        (sym (longer_below v.layout (range_shown r) i (omega arith) (omega arith))) (h.bricks i l)

    bricks : (i : ℕ) → i < b.0 + 1 → WasShown g (mark_at (survey_with g v b r at).copies i) (slice_index_or (survey_with g v b r at).layout i None) i t
    bricks i l = elim (nat_cases i b.0) [
      | inl q ↦ subst (λ (j : ℕ). WasShown g (mark_at (survey_with g v b r at).copies j) (slice_index_or (survey_with g v b r at).layout j None) j t) (sym q) here
      | inr ne ↦ elsewhere i (below i l ne) ne
    ]

-- the home's copy is at the name at which the directory was made
key_at :
    (g : Gfid) (b : ℕ) (y : DirRecord) (p : Descent) (s : Scene) (o : Option EntryKey) → Sound s
    → b < s.disk.count → dir_at s.disk b g ≡ Some y → s.history.tree.descents g ≡ Some p
    → y.place ≡ o → option_map entry_at o ≡ p.place
key_at g b y p s None sound l e is q =
    let rooted : g ≡ root = (sound.kept.things.dirs g).rooted b y l e q in
    let same : Some p ≡ Some of_root = sym is ∙ (ap s.history.tree.descents rooted ∙ sound.kept.tree.rooted.1) in
    let one : p ≡ of_root = cc in
    ap (λ (d : Descent). d.place) (sym one)
key_at g b y p s (Some k) sound l e is q =
    let placed = subst (λ (o : Option EntryKey). PlacedAt (dir_view s.disk g) b y o) q ((sound.kept.things.dirs g).placed b y l e) in
    let named = main_named s (entry_at k) g b sound l placed.main in
    let child = sound.kept.tree.child (entry_at k) g named in
    let same : Some p ≡ Some (record { depth = depth_of s.history.tree k.dir + 1; place = Some (entry_at k) }) = sym is ∙ child.descent in
    let one : p ≡ record { depth = depth_of s.history.tree k.dir + 1; place = Some (entry_at k) } = cc in
    ap (λ (d : Descent). d.place) (sym one)

descent_at :
    (g : Gfid) (y : DirRecord) (b : ℕ) (s : Scene) → Sound s → b < s.disk.count → b ≡ home g
    → dir_at s.disk b g ≡ Some y
    → s.history.tree.descents g
    ≡ Some (record { depth = y.depth; place = option_map entry_at y.place })
descent_at g y b s sound l q e =
    let there : IsCopied g (home g) s = ap (λ (i : ℕ). is_some (dir_at s.disk i g)) (sym q) ∙ ap is_some e in
    let p = sound.kept.tree.placed g (in_tree g s sound there) in
    let deep : y.depth ≡ p.descent.depth = (sound.kept.things.dirs g).deep b y l e ∙ ap depth_in p.is in
    let place : option_map entry_at y.place ≡ p.descent.place = key_at g b y p.descent s y.place sound l e p.is refl in
    p.is ∙ (λ i. Some (record { depth = sym deep i; place = sym place i }))

saw_home :
    (x : Target) (b : BrickNo) (v : Survey) (y : DirRecord) (r : Reply) (at : ℕ) (s t : Scene)
    → Served (heal_one_stage (Surveying x b v)) r at s t → b.0 < s.disk.count
    → dir_at s.disk b.0 x.directory ≡ Some y → b.0 ≡ home x.directory
    → SawHome x.directory (record { place = y.place; depth = y.depth; at = at }) t
saw_home x b v y r at s t w l e q =
    let begun = w.after.begun in
    let line = w.line in
    let tree = tree_quiet s t (info_ask x b) r tt w.moved in
    let there : IsCopied x.directory (home x.directory) s = ap (λ (i : ℕ). is_some (dir_at s.disk i x.directory)) (sym q) ∙ ap is_some e in
    record {
      after = omega arith;
      before = omega arith;
      there = ap (λ (i : ℕ). (t.history.past i).dirs x.directory) line
          ∙ (ap (λ (p : Tree). p.dirs x.directory) (w.after.kept.point ∙ tree) ∙ in_tree x.directory s w.before there);
      descent = ap (λ (p : Tree). p.descents x.directory) tree ∙ descent_at x.directory y b.0 s w.before l q e;
    }

-- it is surveyed further
more_ready :
    (x : Target) (b : BrickNo) (v : Survey) (r : Reply) (at : ℕ) (s t : Scene)
    → Served (heal_one_stage (Surveying x b v)) r at s t
    → WasShown x.directory (is_carried (reply_kind r)) (range_shown r) b.0 t
    → (b.0 ≡ home x.directory → SawHome x.directory (home_shown r at) t)
    → GoesOn (heal_one_stage (Surveying x b v))
    (heal_one_stage (surveyed x b (survey_with x.directory v b r at))) r t
more_ready x b v r at s t w new saw =
    let h = w.is_at.knows in
    let within = h.within in
    let bricks = target_bricks x s w.before h.target in
    let few = w.before.kept.few in
    goes (Surveying x b v) (surveyed x b (survey_with x.directory v b r at)) (x.bricks - (b.0 + 1) + x.bricks + x.bricks + 1) r at s t
    (surveyed_ready x b (survey_with x.directory v b r at) t w.after
    (target_moved x s t _ r refl h.target w.moved)
    (holds_moved x.directory s t _ r tt h.holds w.moved)
    within
    (shown_more x.directory v b r at t (omega arith) (shown_quiet x.directory v b.0 s t _ r tt refl h.shown w.moved) new saw))
    (omega arith) w

-- the brick had no copy
none_step :
    (x : Target) (b : BrickNo) (v : Survey) (r : Reply) (at : ℕ) (s t : Scene)
    → Served (heal_one_stage (Surveying x b v)) r at s t → dir_at s.disk b.0 x.directory ≡ None
    → r ≡ reply.Refused why.Nodir
    → GoesOn (heal_one_stage (Surveying x b v))
    (heal_one_stage (survey_answered x b v (reply.Refused why.Nodir) at)) r t
none_step x b v r at s t w e q = by_test (λ n. GoesOn (heal_one_stage (Surveying x b v)) (heal_one_stage n) r t) (nat_eq b.0 (home x.directory)) _ _
    (λ k. goes (Surveying x b v) (Unlocking x (Gone at)) 1 r at s t (gone_ready x b v r at s t w ((exact_nat b.0 (home x.directory)).0 k) e) (let within = w.is_at.knows.within in omega arith) w)
    (λ k. by_test (λ n. GoesOn (heal_one_stage (Surveying x b v)) (heal_one_stage n) r t) (not (same_gfid x.directory root)) _ _
    (λ below. subst (λ (y : Reply). GoesOn (heal_one_stage (Surveying x b v)) (heal_one_stage (surveyed x b (survey_with x.directory v b y at))) r t) q
    (more_ready x b v r at s t w
    (subst (λ (y : Reply). WasShown x.directory (is_carried (reply_kind y)) (range_shown y) b.0 t) (sym q) (record {
      below = λ rooted. (let z : true ≡ false = sym ((exact_gfid x.directory root).1 rooted) ∙ is_not (same_gfid x.directory root) below in cc);
      away = away k;
      nothing = refl;
      still = λ alone. ap range_of (dir_moved s t _ r w.moved tt x.directory b.0 ∙ e);
    }))
    (λ c. absurd (away k c))))
    (λ at_root. absurd (let z : true ≡ false = sym (root_there s x.directory b.0 w.before ((exact_gfid x.directory root).0 (is_so (same_gfid x.directory root) at_root)) (let within = w.is_at.knows.within in let bricks = target_bricks x s w.before w.is_at.knows.target in omega arith)) ∙ ap is_some e in cc)))
  where
    away : nat_eq b.0 (home x.directory) ≡ false → b.0 ≢ home x.directory
    away k c = (let z : true ≡ false = sym ((exact_nat b.0 (home x.directory)).1 c) ∙ k in cc)

    is_not : (c : Bool) → not c ≡ true → c ≡ false
    is_not true k = absurd (let z : false ≡ true = k in cc)
    is_not false k = refl

    is_so : (c : Bool) → not c ≡ false → c ≡ true
    is_so true k = refl
    is_so false k = absurd (let z : true ≡ false = k in cc)

-- the brick had one
some_step :
    (x : Target) (b : BrickNo) (v : Survey) (y : DirRecord) (r : Reply) (at : ℕ) (s t : Scene)
    → Served (heal_one_stage (Surveying x b v)) r at s t → dir_at s.disk b.0 x.directory ≡ Some y
    → r ≡ reply.Ok (given.Dirinfo (info_of (s.disk.brick b.0).store x.directory y))
    → GoesOn (heal_one_stage (Surveying x b v))
    (heal_one_stage
    (survey_answered x b v
    (reply.Ok (given.Dirinfo (info_of (s.disk.brick b.0).store x.directory y))) at))
    r t
some_step x b v y r at s t w e q =
    let same = dir_moved s t (info_ask x b) r w.moved tt x.directory b.0 ∙ e in
    let l : b.0 < s.disk.count = (let within = w.is_at.knows.within in let bricks = target_bricks x s w.before w.is_at.knows.target in omega arith) in
    subst (λ (z : Reply). GoesOn (heal_one_stage (Surveying x b v)) (heal_one_stage (surveyed x b (survey_with x.directory v b z at))) r t) q
    (more_ready x b v r at s t w
    (subst (λ (z : Reply). WasShown x.directory (is_carried (reply_kind z)) (range_shown z) b.0 t) (sym q) (record {
      there = ap is_some same;
      same = ap (λ (o : Option DirRecord). bounds (range_of o)) (sym same);
    }))
    (λ c. subst (λ (z : Reply). SawHome x.directory (home_shown z at) t) (sym q) (saw_home x b v y r at s t w l e c)))

survey_step :
    (x : Target) (b : BrickNo) (v : Survey) (r : Reply) (at : ℕ) (s t : Scene)
    → Served (heal_one_stage (Surveying x b v)) r at s t → fault_of r ≡ None
    → GoesOn (heal_one_stage (Surveying x b v)) (heal_one_stage (survey_answered x b v r at)) r t
survey_step x b v r at s t w z = by (dir_at s.disk b.0 x.directory) refl
  where
    by : (o : Option DirRecord) → dir_at s.disk b.0 x.directory ≡ o → GoesOn (heal_one_stage (Surveying x b v)) (heal_one_stage (survey_answered x b v r at)) r t
    by None e =
        let q = info_none x b s t r e z w.moved in
        subst (λ (y : Reply). GoesOn (heal_one_stage (Surveying x b v)) (heal_one_stage (survey_answered x b v y at)) r t) (sym q) (none_step x b v r at s t w e q)
    by (Some y) e =
        let q = info_some x b y s t r e z w.moved in
        subst (λ (y : Reply). GoesOn (heal_one_stage (Surveying x b v)) (heal_one_stage (survey_answered x b v y at)) r t) (sym q) (some_step x b v y r at s t w e q)

-- ---- the copies

-- what is known goes over where nothing of the directory changed but on this brick
shown_beside :
    (x : Target) (b : BrickNo) (v : Survey) (k : EntryKey) (r : Reply) (at : ℕ) (s t : Scene)
    → Served (heal_one_stage (Copying x b v k)) r at s t
    → ((i : ℕ) → i ≢ b.0 → dir_at t.disk i x.directory ≡ dir_at s.disk i x.directory)
    → range_at t.disk x.directory b.0 ≡ None → Shown x.directory v x.bricks t
shown_beside x b v k r at s t w others none = record {
  room = h.shown.room;
  whole = h.shown.whole;
  bricks = λ i l. elim (nat_cases i b.0) [
    | inl q ↦ subst (λ (j : ℕ). WasShown x.directory (mark_at v.copies j) (slice_index_or v.layout j None) j t) (sym q) here
    | inr ne ↦ shown_at_brick x.directory _ _ i s t _ r (others i ne) (h.shown.bricks i l) w.moved
  ];
  home = λ l. saw_moved x.directory v.home s t _ r (stepless (Copying x b v k) s h) (h.shown.home l) w.moved;
}
  where
    h : CopyingKnows x b v k s
    h = w.is_at.knows

    had : HadNone x.directory (slice_index_or v.layout b.0 None) b.0 s
    had = copying_missing x b v k s h

    here : WasShown x.directory (mark_at v.copies b.0) (slice_index_or v.layout b.0 None) b.0 t
    here = subst (λ (m : Bool). WasShown x.directory m (slice_index_or v.layout b.0 None) b.0 t) (sym h.missing) (record { below = had.below; away = had.away; nothing = had.nothing; still = λ alone. none })

-- the bricks up to this one have a copy
next_copy :
    (x : Target) (b : BrickNo) (v : Survey) (k : EntryKey) (r : Reply) (at : ℕ) (s t : Scene)
    → Served (heal_one_stage (Copying x b v k)) r at s t → IsTarget x t → HoldsAlone t x.directory
    → Shown x.directory v x.bricks t → ((i : ℕ) → i < b.0 → IsCopied x.directory i t)
    → IsCopied x.directory b.0 t
    → GoesOn (heal_one_stage (Copying x b v k)) (heal_one_stage (copied_from x v (b.0 + 1))) r t
next_copy x b v k r at s t w target holds shown copied here =
    let within = w.is_at.knows.within in
    goes (Copying x b v k) (copied_from x v (b.0 + 1)) (x.bricks - (b.0 + 1) + x.bricks + 1) r at s t
    (copied_ready x v (b.0 + 1) t (omega arith) (record { sound = w.after; target = target; holds = holds; shown = shown })
    (λ i l. up_to i l (nat_eq i b.0) refl))
    (omega arith) w
  where
    up_to : (i : ℕ) → i < b.0 + 1 → (c : Bool) → nat_eq i b.0 ≡ c → IsCopied x.directory i t
    up_to i l true e = subst (λ (j : ℕ). IsCopied x.directory j t) (sym ((exact_nat i b.0).0 e)) here
    up_to i l false e = copied i (below_or i b.0 (omega arith) (λ q. let z : true ≡ false = sym ((exact_nat i b.0).1 q) ∙ e in cc))

-- a copy was made
made_step :
    (x : Target) (b : BrickNo) (v : Survey) (k : EntryKey) (y : DirRecord) (r : Reply) (at : ℕ)
    (s t : Scene)
    → Served (heal_one_stage (Copying x b v k)) r at s t → y.value ≡ None
    → SetsDir s t b.0 x.directory y
    → GoesOn (heal_one_stage (Copying x b v k)) (heal_one_stage (copied_from x v (b.0 + 1))) r t
made_step x b v k y r at s t w none sets =
    let h = w.is_at.knows in
    next_copy x b v k r at s t w
    (target_moved x s t _ r (stepless (Copying x b v k) s h) h.target w.moved)
    (holds_moved x.directory s t _ r tt h.holds w.moved)
    (shown_beside x b v k r at s t w (λ i ne. sets.off i x.directory ne) (ap range_of sets.here ∙ (ap range_of_value none ∙ no_range)))
    (λ i l. copied_at_brick x.directory i s t (sets.off i x.directory (λ q. omega arith)) (h.copied i l))
    (ap is_some sets.here)

-- something stands at the name: another call has made the copy
occupied_step :
    (x : Target) (b : BrickNo) (v : Survey) (k : EntryKey) (r : Reply) (at : ℕ) (s t : Scene)
    → Served (heal_one_stage (Copying x b v k)) r at s t → fault_of r ≡ None
    → is_carried (reply_kind r) ≡ false → is_free (slot_at s.disk b.0 (entry_at k)) ≡ false
    → GoesOn (heal_one_stage (Copying x b v k)) (heal_one_stage (copied_from x v (b.0 + 1))) r t
occupied_step x b v k r at s t w z c taken =
    let h = heal_one_stable (Copying x b v k) s t w.is_at.knows (unserved_is_rely s t _ r z c w.moved) in
    let same = unserved s t _ r z c w.moved in
    let folder = copying_folder x b v k s w.before w.is_at.knows in
    let there : b.0 < s.disk.count = (let within = w.is_at.knows.within in let bricks = target_bricks x s w.before w.is_at.knows.target in omega arith) in
    next_copy x b v k r at s t w h.target h.holds h.shown h.copied
    (copied_at_brick x.directory b.0 s t (ap (λ (d : Disk). dir_at d b.0 x.directory) same.disk)
    (occupied_copied s x.directory (entry_at k) folder.0 b.0 w.before there folder.1 taken))

-- the directory above is not there
parent_step :
    (x : Target) (b : BrickNo) (v : Survey) (k : EntryKey) (r : Reply) (at : ℕ) (s t : Scene)
    → Served (heal_one_stage (Copying x b v k)) r at s t → fault_of r ≡ None
    → is_carried (reply_kind r) ≡ false → dir_at s.disk b.0 k.dir ≡ None
    → GoesOn (heal_one_stage (Copying x b v k)) (heal_one_stage (Unlocking x (Parent b))) r t
parent_step x b v k r at s t w z c none =
    let h = heal_one_stable (Copying x b v k) s t w.is_at.knows (unserved_is_rely s t _ r z c w.moved) in
    let same = unserved s t _ r z c w.moved in
    let within = h.within in
    let bricks = target_bricks x t w.after h.target in
    goes (Copying x b v k) (Unlocking x (Parent b)) 1 r at s t (record {
      target = refl;
      knows = record {
        target = h.target;
        told = record {
          there = omega arith;
          lacks = λ alone. (record { depth = v.home.depth; place = Some (entry_at k) }, entry_at k, copying_descent x b v k t h, refl, ap (λ (d : Disk). dir_at d b.0 k.dir) same.disk ∙ none);
        };
      };
      left = omega arith;
    }) (omega arith) w

within_true : (b n : ℕ) (c : Bool) → b < n → c ≡ true → (c && nat_lt b n) ≡ true
within_true b n true l e = grind (arith, nat_tests, l)
within_true b n false l e = absurd (let z : false ≡ true = e in cc)

-- by what the brick said
copy_to :
    (x : Target) (b : BrickNo) (v : Survey) (k : EntryKey) (r : Reply) (at : ℕ) (s t : Scene)
    → Served (heal_one_stage (Copying x b v k)) r at s t → is_nodir r ≡ false → has_copy r ≡ true
    → GoesOn (heal_one_stage (Copying x b v k)) (heal_one_stage (copied_from x v (b.0 + 1))) r t
    → GoesOn (heal_one_stage (Copying x b v k)) (heal_one_stage (copy_answered x b v k r)) r t
copy_to x b v k r at s t w e f go = by_test (λ n. GoesOn (heal_one_stage (Copying x b v k)) (heal_one_stage n) r t) (is_nodir r) _ _
    (λ q. absurd (let z : true ≡ false = sym q ∙ e in cc))
    (λ q. by_test (λ n. GoesOn (heal_one_stage (Copying x b v k)) (heal_one_stage n) r t) (has_copy r && nat_lt b.0 x.bricks) (copied_from x v (b.0 + 1)) _
    (λ y. go)
    (λ y. absurd (let z : true ≡ false = sym (within_true b.0 x.bricks (has_copy r) w.is_at.knows.within f) ∙ y in cc)))

copy_step :
    (x : Target) (b : BrickNo) (v : Survey) (k : EntryKey) (r : Reply) (at : ℕ) (s t : Scene)
    → Served (heal_one_stage (Copying x b v k)) r at s t → fault_of r ≡ None
    → CopyMade b k.dir k.name x.directory v.home.depth None s t r
    → GoesOn (heal_one_stage (Copying x b v k)) (heal_one_stage (copy_answered x b v k r)) r t
copy_step x b v k r at s t w z (NoParent q none) =
    by_test (λ n. GoesOn (heal_one_stage (Copying x b v k)) (heal_one_stage n) r t) (is_nodir r) _ _
    (λ e. parent_step x b v k r at s t w z (ap (λ (y : Reply). is_carried (reply_kind y)) q) none)
    (λ e. absurd (let f : true ≡ false = sym (ap is_nodir q) ∙ e in cc))
copy_step x b v k r at s t w z (Occupied q taken) = copy_to x b v k r at s t w (ap is_nodir q) (ap has_copy q) (occupied_step x b v k r at s t w z (ap (λ (y : Reply). is_carried (reply_kind y)) q) taken)
copy_step x b v k r at s t w z (Made q sets) = copy_to x b v k r at s t w (ap is_nodir q) (ap has_copy q) (made_step x b v k _ r at s t w refl sets)

-- ---- the ranges

layout_step :
    (x : Target) (b : BrickNo) (line : ℕ) (r : Reply) (at : ℕ) (s t : Scene)
    → Served (heal_one_stage (Laying x b line)) r at s t → RangeSet x b s t r
    → GoesOn (heal_one_stage (Laying x b line)) (heal_one_stage (layout_answered x b line r)) r t
layout_step x b line r at s t w set = by_test (λ n. GoesOn (heal_one_stage (Laying x b line)) (heal_one_stage n) r t) (is_carried (reply_kind r)) (laid x b line) _
    (λ e. goes (Laying x b line) (laid x b line) (x.bricks - (b.0 + 1) + 1) r at s t
    (laid_ready x b line t w.after
    (target_moved x s t _ r refl h.target w.moved)
    (holds_moved x.directory s t _ r tt h.holds w.moved)
    h.within
    (λ i l. copied i l (nat_eq i b.0) refl)
    (λ i l. is_laid i l (nat_eq i b.0) refl)
    (was_moved x.directory line s t _ r h.was w.moved))
    (let within = h.within in omega arith) w)
    (λ e. absurd (let z : true ≡ false = sym (ap (λ (y : Reply). is_carried (reply_kind y)) set.reply) ∙ e in cc))
  where
    h : LayingKnows x b line s
    h = w.is_at.knows

    apart : (i : ℕ) → nat_eq i b.0 ≡ false → i ≢ b.0
    apart i e q = (let z : true ≡ false = sym ((exact_nat i b.0).1 q) ∙ e in cc)

    copied : (i : ℕ) → i < x.bricks → (c : Bool) → nat_eq i b.0 ≡ c → IsCopied x.directory i t
    copied i l true e = ap (λ (j : ℕ). is_some (dir_at t.disk j x.directory)) ((exact_nat i b.0).0 e) ∙ ap is_some set.sets.here
    copied i l false e = copied_at_brick x.directory i s t (set.sets.off i x.directory (apart i e)) (h.copied i l)

    read : range_at t.disk x.directory b.0 ≡ slice_index_or x.plan b.0 None
    read =
        ap range_of set.sets.here
        ∙ (ap range_of_value set.value
        ∙ (lays_plan x b s w.before h.target h.within
        ∙ ap (λ (p : List (Option Range)). slice_index_or p b.0 None) (sym h.target.plan)))

    here : IsLaid x b.0 t
    here = record { there = ap is_some set.sets.here; same = ap bounds (sym read) }

    is_laid : (i : ℕ) → i < b.0 + 1 → (c : Bool) → nat_eq i b.0 ≡ c → IsLaid x i t
    is_laid i l true e = subst (λ (j : ℕ). IsLaid x j t) (sym ((exact_nat i b.0).0 e)) here
    is_laid i l false e = copy_at_brick x.directory _ i s t (set.sets.off i x.directory (apart i e)) (h.laid i (below_or i b.0 (omega arith) (apart i e)))

-- ---- the end

unlock_step :
    (x : Target) (d : HealedOne) (r : Reply) (at : ℕ) (s t : Scene)
    → Served (heal_one_stage (Unlocking x d)) r at s t
    → EndsIn (heal_one_stage (Unlocking x d)) (healed_one x.directory d) t
unlock_step x d r at s t w =
    let h = w.is_at.knows in
    record {
      claims = claims_less (heal_one_stage (Unlocking x d)) r at s t (record { brick = anchor_brick x; key = DirKey x.directory }) [] refl (lock_given_back s t (anchor_brick x) (DirKey x.directory) r w.moved) w;
      earned = (
        (target_moved x s t _ r refl h.target w.moved).deeds,
        told_quiet x.directory d s t _ r tt refl h.told w.moved,
      );
    }

-- ---- all of it

pub heal_one_moves :
    (m : HealOne) (r : Reply) (at : ℕ)
    → Moves heal_one_stage (healed_one (target_of m).directory) m r at (heal_one_after m r at)
heal_one_moves (Locking x) r at s t v = unless (Locking x) (lock_answered x r) (fault_of r) r at s t refl (omega arith) v (lock_step x r at s t v)
heal_one_moves (Surveying x b y) r at s t v = unless (Surveying x b y) (survey_answered x b y r at) (fault_of r) r at s t refl (let within = v.is_at.knows.within in omega arith) v (survey_step x b y r at s t v)
heal_one_moves (Copying x b y k) r at s t v = unless (Copying x b y k) (copy_answered x b y k r) (fault_of r) r at s t refl (let within = v.is_at.knows.within in omega arith) v
    (λ z. copy_step x b y k r at s t v z (copy_made b k.dir k.name x.directory y.home.depth None s t r z v.moved))
heal_one_moves (Laying x b line) r at s t v = unless (Laying x b line) (layout_answered x b line r) (fault_of r) r at s t refl (let within = v.is_at.knows.within in omega arith) v
    (λ z. layout_step x b line r at s t v (range_set x b s t r (v.is_at.knows.copied b.0 v.is_at.knows.within) z v.moved))
heal_one_moves (Unlocking x d) r at s t v = unlock_step x d r at s t v

-- of some directory
some_of :
    (m : HealOne) (turn : Turn HealOne HealedOne) (r : Reply) (t : Scene)
    → MatchTurn turn (λ n. GoesOn (heal_one_stage m) (heal_one_stage n) r t)
    (λ d. EndsIn (heal_one_stage m) (healed_one (target_of m).directory d) t)
    → MatchTurn turn (λ n. GoesOn (heal_one_stage m) (heal_one_stage n) r t)
    (λ d. EndsIn (heal_one_stage m) (healed_some d) t)
some_of m (Go n) r t h = h
some_of m (Done d) r t h = record { claims = h.claims; earned = ((target_of m).directory, h.earned) }

pub heal_one_moves_some :
    (m : HealOne) (r : Reply) (at : ℕ)
    → Moves heal_one_stage healed_some m r at (heal_one_after m r at)
heal_one_moves_some m r at s t v = some_of m (heal_one_after m r at) r t (heal_one_moves m r at s t v)

-- ---- the error that it notes

unless_notes :
    (x : Target) (n : HealOne) (r : Reply) (o : Option Errno) → fault_of r ≡ o
    → heal_one_fault n ≡ None → heal_one_fault (unless_fault o x n) ≡ fault_of r
unless_notes x n r None z e = e ∙ sym z
unless_notes x n r (Some f) z e = sym z

sound_if :
    (c : Bool) (a b : HealOne) → heal_one_fault a ≡ None → heal_one_fault b ≡ None
    → heal_one_fault (if c then a else b) ≡ None
sound_if true a b h k = h
sound_if false a b h k = k

settled_sound : (x : Target) (v : Survey) → heal_one_fault (settled x v) ≡ None
settled_sound x v = sound_if (is_faulty v.layout) _ _ refl refl

copied_sound : (x : Target) (v : Survey) (from : ℕ) → heal_one_fault (copied_from x v from) ≡ None
copied_sound x v from = by v.home.place
  where
    found : (k : EntryKey) (o : Option BrickNo) → heal_one_fault (copying o x v k) ≡ None
    found k None = settled_sound x v
    found k (Some b) = refl

    by : (o : Option EntryKey) → heal_one_fault (copied_at o x v from) ≡ None
    by None = settled_sound x v
    by (Some k) = found k (next_missing x.bricks v.copies from)

survey_sound :
    (x : Target) (b : BrickNo) (v : Survey) (r : Reply) (at : ℕ)
    → heal_one_fault (survey_answered x b v r at) ≡ None
survey_sound x b v r at = sound_if (shows_gone x.directory b r) _ _ refl (sound_if (is_told x.directory r) (surveyed x b (survey_with x.directory v b r at)) _ (sound_if (nat_le (x.bricks - b.0) 1) (copied_from x (survey_with x.directory v b r at) 0) _ (copied_sound x (survey_with x.directory v b r at) 0) refl) refl)

copy_sound :
    (x : Target) (b : BrickNo) (v : Survey) (k : EntryKey) (r : Reply)
    → heal_one_fault (copy_answered x b v k r) ≡ None
copy_sound x b v k r = sound_if (is_nodir r) _ _ refl (sound_if (has_copy r && nat_lt b.0 x.bricks) (copied_from x v (b.0 + 1)) _ (copied_sound x v (b.0 + 1)) refl)

layout_sound :
    (x : Target) (b : BrickNo) (line : ℕ) (r : Reply)
    → heal_one_fault (layout_answered x b line r) ≡ None
layout_sound x b line r = sound_if (is_carried (reply_kind r)) (laid x b line) _ (sound_if (nat_le (x.bricks - b.0) 1) _ _ refl refl) refl

pub heal_one_notes : (m : HealOne) (r : Reply) (at : ℕ) → NotesStop m r (heal_one_after m r at)
heal_one_notes (Locking x) r at = unless_notes x (lock_answered x r) r (fault_of r) refl (sound_if (is_carried (reply_kind r)) _ _ refl refl)
heal_one_notes (Surveying x b v) r at = unless_notes x (survey_answered x b v r at) r (fault_of r) refl (survey_sound x b v r at)
heal_one_notes (Copying x b v k) r at = unless_notes x (copy_answered x b v k r) r (fault_of r) refl (copy_sound x b v k r)
heal_one_notes (Laying x b line) r at = unless_notes x (layout_answered x b line r) r (fault_of r) refl (layout_sound x b line r)
heal_one_notes (Unlocking x d) r at = either_none (told_fault d)

-- ---- what it sends again

unless_none :
    (x : Target) (n m : HealOne) (o : Option Errno) → o ≡ None → n ≡ m → unless_fault o x n ≡ m
unless_none x n m o z e = ap (λ (f : Option Errno). unless_fault f x n) z ∙ e

taken_else : (c : Bool) (a b : HealOne) → c ≡ false → (if c then a else b) ≡ b
taken_else true a b e = absurd (let z : true ≡ false = e in cc)
taken_else false a b e = refl

-- a reply that shows nothing shows neither that the directory is gone, nor what a brick has of it
hidden :
    (r : Reply) → is_shown r ≡ false → (is_carried (reply_kind r) ≡ false) × (is_nodir r ≡ false)
hidden (reply.Ok g) e = absurd (let z : true ≡ false = e in cc)
hidden (reply.Refused why.Nodir) e = absurd (let z : true ≡ false = e in cc)
hidden (reply.Refused w) e = (refl, refl)
hidden (reply.Wait c) e = (refl, refl)
hidden reply.Down e = (refl, refl)
hidden reply.Failed e = (refl, refl)
hidden reply.NoMemory e = (refl, refl)

survey_again :
    (x : Target) (b : BrickNo) (v : Survey) (r : Reply) (at : ℕ) → is_shown r ≡ false
    → survey_answered x b v r at ≡ Surveying x b v
survey_again x b v r at e =
    let h = hidden r e in
    taken_else (shows_gone x.directory b r) _ _ (ap (λ (c : Bool). c && nat_eq b.0 (home x.directory)) h.1)
    ∙ taken_else (is_told x.directory r) (surveyed x b (survey_with x.directory v b r at)) _
    (ap (λ (c : Bool). c || (is_nodir r && not (same_gfid x.directory root))) h.0 ∙ ap (λ (c : Bool). c && not (same_gfid x.directory root)) h.1)

pub heal_one_again :
    (m : HealOne) (r : Reply) (at : ℕ) → IsUnanswered (heal_one_stage m) r
    → heal_one_after m r at ≡ Go m
heal_one_again (Locking x) r at h = absurd h.1
heal_one_again (Surveying x b v) r at h = ap Go (unless_none x (survey_answered x b v r at) (Surveying x b v) (fault_of r) h.0 (survey_again x b v r at h.1))
heal_one_again (Copying x b v k) r at h = absurd h.1
heal_one_again (Laying x b line) r at h = ap Go (unless_none x (layout_answered x b line r) (Laying x b line) (fault_of r) h.0 (taken_else (is_carried (reply_kind r)) (laid x b line) _ h.1))
heal_one_again (Unlocking x d) r at h = absurd h.1
