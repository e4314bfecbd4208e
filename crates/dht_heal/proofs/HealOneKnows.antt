-- What the healing of one directory still knows after
-- its own requests, and what it knows where it goes on.
use Rattle.std.proofs.Common.{◌≡◌, ◌≢◌, ◌<◌, ◌≤◌, ◌+◌, ◌-◌, ◌||◌, ℕ, Bool, true, false, List, [], ◌∷◌, refl, sym, ◌∙◌, ap, subst, arith, cond}
use Rattle.std.specs.Prelude.{suc, is_some, length, nat_le, if◌then◌else◌, slice_index_or, Option, Some, None}
use Rattle.std.specs.Option.{option_map}
use Rattle.std.proofs.lemmas.Bool.Decides.{nat_tests}
use Rattle.std.proofs.lemmas.List.Sums.{sum_by-cons}
use Rattle.dht_types.specs.Gfid.{home, root}
use Rattle.dht_types.specs.History.{IsAlone}
use Rattle.dht_types.specs.Tree.{Tree, Descent}
use Rattle.dht_types.specs.declared.identifiers.BrickNo.{BrickNo}
use Rattle.dht_types.specs.declared.identifiers.Gfid.{Gfid}
use Rattle.dht_types.specs.declared.locks.Key.TheVariants.{Dir as DirKey}
use Rattle.dht_types.specs.declared.names.EntryKey.{EntryKey}
use Rattle.dht_types.specs.declared.stored.DirRecord.{DirRecord}
use Rattle.dht_brick.specs.Contents.{entry_at}
use Rattle.dht_brick.specs.declared.replies.Reply.{Reply}
use Rattle.dht_xattr.proofs.FaultLaws.{has_hole_is, has_overlap_is}
use Rattle.dht_xattr.proofs.PlanLaws.{planned_length, planned_no_hole, planned_no_overlap}
use Rattle.dht_xattr.specs.Faults.{has_hole, has_overlap}
use Rattle.dht_xattr.specs.Layout.{HasHole, HasOverlap, covers}
use Rattle.dht_xattr.specs.Plan.{planned}
use Rattle.dht_xattr.specs.Range.{contains}
use Rattle.dht_xattr.specs.declared.range.Range.{Range}
use Rattle.dht_section.proofs.LayoutLaws.{below_at, below_length, same_contained}
use Rattle.dht_section.proofs.SceneLaws.{IsQuiet, Leaves, alone_before, dir_moved, lock_moved}
use Rattle.dht_section.proofs.WholeSteps.{if_alone_moved}
use Rattle.dht_section.specs.Disk.{Disk, dir_at, layout_of, range_at, range_of}
use Rattle.dht_section.specs.Healed.{IsWhole}
use Rattle.dht_section.specs.MayAnswerLaws.{may_answer_moved}
use Rattle.dht_section.specs.Moves.{Guarantee, request_step}
use Rattle.dht_section.specs.Planned.{bounds}
use Rattle.dht_section.specs.Scene.{HoldsAlone, Scene, Sound, fault_finish}
use Rattle.dht_section.specs.Section.{HasCopy}
use Rattle.dht_section.specs.WholeLaws.{whole_stays}
use Rattle.dht_section.specs.declared.machine.Ask.{Ask}
use Rattle.dht_heal.proofs.HealOneRequests.{stepless_deeds, stepless_tree}
use Rattle.dht_heal.proofs.MissingLaws.{Finds, finds_missing}
use Rattle.dht_heal.specs.HealOne.{HasNoParent, IsCopied, IsLaid, IsTarget, SawHome, Shown, Told, WasShown, WasThere, copied_at, copied_from, copying, heal_one_stage, is_faulty, laid, next_missing, settled, surveyed, target_of}
use Rattle.dht_heal.specs.HealOneLaws.{dirs_stay, home_copied, in_tree, no_parent_stays, target_bricks}
use Rattle.dht_heal.specs.declared.heal_one.HealOne.{HealOne}
use Rattle.dht_heal.specs.declared.heal_one.HealedOne.{HealedOne}
use Rattle.dht_heal.specs.declared.heal_one.HealedOne.TheVariants.{Healed, Gone, Parent, Stopped}
use Rattle.dht_heal.specs.declared.heal_one.HomeCopy.{HomeCopy}
use Rattle.dht_heal.specs.declared.heal_one.Survey.{Survey}
use Rattle.dht_heal.specs.declared.heal_one.Target.{Target}

-- ---- after a request of its own

abbrev pub IsStepless : Ask → Type 0
IsStepless a = request_step a.brick.0 a.request ≡ None

pub target_moved :
    (x : Target) (s t : Scene) (a : Ask) (r : Reply) → IsStepless a → IsTarget x s
    → Guarantee s a r t → IsTarget x t
target_moved x s t a r e h m = record {
  count = ap length m.weights ∙ h.count;
  home = h.home;
  plan = h.plan ∙ ap (λ (ws : List ℕ). planned ws x.directory) (sym m.weights);
  deeds = stepless_deeds s t a r e m ∙ h.deeds;
}

pub holds_moved :
    (g : Gfid) (s t : Scene) (a : Ask) (r : Reply) → Leaves a.request (DirKey g) → HoldsAlone s g
    → Guarantee s a r t → HoldsAlone t g
holds_moved g s t a r l h m = lock_moved s t a r m g (DirKey g) l ∙ h

pub saw_moved :
    (g : Gfid) (h : HomeCopy) (s t : Scene) (a : Ask) (r : Reply) → IsStepless a → SawHome g h s
    → Guarantee s a r t → SawHome g h t
saw_moved g h s t a r e k m = record {
  after = let since = m.mine.since in let after = k.after in omega arith;
  before = let later = m.later in let before = k.before in omega arith;
  there = ap (λ (p : Tree). p.dirs g) (m.past h.at k.before) ∙ k.there;
  descent = ap (λ (p : Tree). p.descents g) (stepless_tree s t a r e m) ∙ k.descent;
}

pub was_moved :
    (g : Gfid) (at : ℕ) (s t : Scene) (a : Ask) (r : Reply) → WasThere g at s → Guarantee s a r t
    → WasThere g at t
was_moved g at s t a r k m = record {
  after = let since = m.mine.since in let after = k.after in omega arith;
  before = let later = m.later in let before = k.before in omega arith;
  there = ap (λ (p : Tree). p.dirs g) (m.past at k.before) ∙ k.there;
}

-- on a brick whose copy did not change
pub copied_at_brick :
    (g : Gfid) (b : ℕ) (s t : Scene) → dir_at t.disk b g ≡ dir_at s.disk b g → IsCopied g b s
    → IsCopied g b t
copied_at_brick g b s t same h = ap is_some same ∙ h

pub copy_at_brick :
    (g : Gfid) (read : Option Range) (b : ℕ) (s t : Scene) → dir_at t.disk b g ≡ dir_at s.disk b g
    → HasCopy g read b s → HasCopy g read b t
copy_at_brick g read b s t same h = record {
  there = ap is_some same ∙ h.there;
  same = h.same ∙ ap (λ (o : Option DirRecord). bounds (range_of o)) (sym same);
}

pub shown_at_brick :
    (g : Gfid) (mark : Bool) (read : Option Range) (b : ℕ) (s t : Scene) (a : Ask) (r : Reply)
    → dir_at t.disk b g ≡ dir_at s.disk b g → WasShown g mark read b s → Guarantee s a r t
    → WasShown g mark read b t
shown_at_brick g true read b s t a r same h m = copy_at_brick g read b s t same h
shown_at_brick g false read b s t a r same h m = record {
  below = h.below;
  away = h.away;
  nothing = h.nothing;
  still = λ now. ap range_of same ∙ h.still (alone_before s t a r m now);
}

pub shown_quiet :
    (g : Gfid) (v : Survey) (limit : ℕ) (s t : Scene) (a : Ask) (r : Reply) → IsQuiet a.request
    → IsStepless a → Shown g v limit s → Guarantee s a r t → Shown g v limit t
shown_quiet g v limit s t a r q e h m = record {
  room = h.room;
  whole = h.whole;
  bricks = λ b l. shown_at_brick g _ _ b s t a r (dir_moved s t a r m q g b) (h.bricks b l) m;
  home = λ l. saw_moved g v.home s t a r e (h.home l) m;
}

-- what is told stays so after the lock was given back
pub told_quiet :
    (g : Gfid) (d : HealedOne) (s t : Scene) (a : Ask) (r : Reply) → IsQuiet a.request
    → IsStepless a → Told g d s → Guarantee s a r t → Told g d t
told_quiet g (Healed at) s t a r q e h m = record {
  was = was_moved g at s t a r h.was m;
  whole = if_alone_moved (λ u. IsWhole u.disk g) (λ u w. whole_stays u w g) s t a r q h.whole m;
  still = if_alone_moved (λ u. u.history.tree.dirs g ≡ true) (dirs_stay g true) s t a r q h.still m;
}
told_quiet g (Gone at) s t a r q e h m = record {
  after = let since = m.mine.since in let after = h.after in omega arith;
  before = let later = m.later in let before = h.before in omega arith;
  gone = ap (λ (p : Tree). p.dirs g) (m.past at h.before) ∙ h.gone;
  still = if_alone_moved (λ u. u.history.tree.dirs g ≡ false) (dirs_stay g false) s t a r q h.still m;
}
told_quiet g (Parent b) s t a r q e h m = record {
  there = let there = h.there in let count = m.disk.count in omega arith;
  lacks = if_alone_moved (HasNoParent g b.0) (no_parent_stays g b.0) s t a r q h.lacks m;
}
told_quiet g (Stopped x) s t a r q e h m = (h.0, may_answer_moved (fault_finish x) s t a r (stepless_deeds s t a r e m) m h.1)

-- ---- a directory that is whole

-- two layouts with the same bounds have the same hashes
covers_same :
    (hash : ℕ) (xs ys : List (Option Range)) → length xs ≡ length ys
    → ((i : ℕ) → i < length xs
    → bounds (slice_index_or xs i None) ≡ bounds (slice_index_or ys i None))
    → covers xs hash ≡ covers ys hash
covers_same hash [] [] l h = refl
covers_same hash [] (y ∷ ys) l h = absurd (omega arith)
covers_same hash (x ∷ xs) [] l h = absurd (omega arith)
covers_same hash (x ∷ xs) (y ∷ ys) l h =
    let count : Option Range → ℕ = λ r. cond (contains r hash) 1 0 in
    sum_by-cons count x xs
    ∙ (ap (λ (v : Bool). cond v 1 0 + covers xs hash) (same_contained x y hash (h 0 (omega arith)))
    ∙ (ap (λ (n : ℕ). count y + n) (covers_same hash xs ys (omega arith) (λ i k. h (suc i) (omega arith)))
    ∙ sym (sum_by-cons count y ys)))

pub whole_by :
    (d : Disk) (g : Gfid) (ranges : List (Option Range)) → length ranges ≡ d.count
    → ((i : ℕ) → i < d.count → is_some (dir_at d i g) ≡ true)
    → ((i : ℕ) → i < d.count → bounds (slice_index_or ranges i None) ≡ bounds (range_at d g i))
    → (HasHole ranges → ⊥) → (HasOverlap ranges → ⊥) → IsWhole d g
whole_by d g ranges size copies same no_hole no_overlap = record {
  copies = copies;
  no_hole = λ q. no_hole (q.0, q.1, all q.0 ∙ q.2);
  no_overlap = λ q. no_overlap (q.0, q.1, (let e = all q.0 in let two = q.2 in omega arith));
}
  where
    all : (hash : ℕ) → covers ranges hash ≡ covers (layout_of d g) hash
    all hash =
        let n = below_length d g d.count in
        covers_same hash ranges (layout_of d g) (omega arith)
        (λ i l. same i (omega arith) ∙ ap bounds (sym (below_at d g d.count i (omega arith))))

neither : (a b : Bool) → (a || b) ≡ false → (a ≡ false) × (b ≡ false)
neither true b e = absurd (let z : true ≡ false = e in cc)
neither false b e = (refl, e)

-- what a brick showed are its bounds, if the call is alone
pub same_bounds :
    (g : Gfid) (mark : Bool) (read : Option Range) (b : ℕ) (s : Scene) → WasShown g mark read b s
    → IsAlone s.history s.mine → bounds read ≡ bounds (range_at s.disk g b)
same_bounds g true read b s h now = h.same
same_bounds g false read b s h now = ap bounds (h.nothing ∙ sym (h.still now))

-- ---- where it goes on

-- it heals this, knows what it has to, and sends so many requests at most
pub record IsReady (x : Target) (bound : ℕ) (n : HealOne) (t : Scene) : Type 0 where
  pub target : target_of n ≡ x
  pub knows : (heal_one_stage n).knows t
  pub left : (heal_one_stage n).variant ≤ bound

pub by_test :
    (P : HealOne → Type 0) (c : Bool) (a b : HealOne) → (c ≡ true → P a) → (c ≡ false → P b)
    → P (if c then a else b)
by_test P true a b h k = h refl
by_test P false a b h k = k refl

pub looser :
    (x : Target) (a b : ℕ) (n : HealOne) (t : Scene) → a ≤ b → IsReady x a n t → IsReady x b n t
looser x a b n t l h = record { target = h.target; knows = h.knows; left = let left = h.left in omega arith }

saw_was : (g : Gfid) (h : HomeCopy) (t : Scene) → SawHome g h t → WasThere g h.at t
saw_was g h t k = record { after = k.after; before = k.before; there = k.there }

-- all bricks have shown the directory, and each has a copy
pub record AllCopied (x : Target) (v : Survey) (t : Scene) : Type 0 where
  pub sound : Sound t
  pub target : IsTarget x t
  pub holds : HoldsAlone t x.directory
  pub shown : Shown x.directory v x.bricks t

pub settled_ready :
    (x : Target) (v : Survey) (t : Scene) → AllCopied x v t
    → ((i : ℕ) → i < x.bricks → IsCopied x.directory i t) → IsReady x (x.bricks + 1) (settled x v) t
settled_ready x v t h copied = by_test (λ n. IsReady x (x.bricks + 1) n t) (is_faulty v.layout) _ _
    (λ e. record {
      target = refl;
      knows = record {
        target = h.target;
        holds = h.holds;
        within = omega arith;
        copied = copied;
        laid = λ i l. absurd (omega arith);
        was = was;
      };
      left = omega arith;
    })
    (λ e. record {
      target = refl;
      knows = record {
        target = h.target;
        told = record {
          was = was;
          whole = λ now. whole e now;
          still = λ now. in_tree x.directory t h.sound (copied (home x.directory) there);
        };
      };
      left = omega arith;
    })
  where
    there : home x.directory < x.bricks
    there = h.target.home

    was : WasThere x.directory v.home.at t
    was = saw_was x.directory v.home t (h.shown.home there)

    bricks : t.disk.count ≡ x.bricks
    bricks = target_bricks x t h.sound h.target

    whole : is_faulty v.layout ≡ false → IsAlone t.history t.mine → IsWhole t.disk x.directory
    whole e now =
        let sound = neither (has_hole v.layout) (has_overlap v.layout) e in
        let size = h.shown.whole in
        whole_by t.disk x.directory v.layout (omega arith)
        (λ i l. copied i (omega arith))
        (λ i l. same_bounds x.directory _ _ i t (h.shown.bricks i (omega arith)) now)
        (λ q. (let z : true ≡ false = sym ((has_hole_is v.layout).1 q) ∙ sound.0 in cc))
        (λ q. (let z : true ≡ false = sym ((has_overlap_is v.layout).1 q) ∙ sound.1 in cc))

-- ---- the copies

-- a brick that had a copy has it
marked_copied :
    (g : Gfid) (mark : Bool) (read : Option Range) (b : ℕ) (t : Scene) → mark ≡ true
    → WasShown g mark read b t → IsCopied g b t
marked_copied g true read b t e h = h.there
marked_copied g false read b t e h = absurd (let z : false ≡ true = e in cc)

root_copied :
    (g : Gfid) (mark : Bool) (read : Option Range) (b : ℕ) (t : Scene) → g ≡ root
    → WasShown g mark read b t → IsCopied g b t
root_copied g true read b t e h = h.there
root_copied g false read b t e h = absurd (h.below e)

-- a directory that stands at no name is the root
pub placeless_root :
    (x : Target) (v : Survey) (t : Scene) → AllCopied x v t → v.home.place ≡ None
    → x.directory ≡ root
placeless_root x v t h e =
    let there : home x.directory < x.bricks = h.target.home in
    let copied = home_copied x.directory _ _ t (h.shown.bricks (home x.directory) there) in
    let p = h.sound.kept.tree.placed x.directory (in_tree x.directory t h.sound copied) in
    let y : Descent = record { depth = v.home.depth; place = option_map entry_at v.home.place } in
    let same : Some p.descent ≡ Some y = sym p.is ∙ (h.shown.home there).descent in
    let one : p.descent ≡ y = cc in
    p.rooted (ap (λ (d : Descent). d.place) one ∙ ap (option_map entry_at) e)

-- the bricks below one have a copy
copying_ready :
    (x : Target) (v : Survey) (k : EntryKey) (from : ℕ) (t : Scene) (o : Option BrickNo)
    → from ≤ x.bricks → AllCopied x v t → v.home.place ≡ Some k
    → ((i : ℕ) → i < from → IsCopied x.directory i t) → Finds v.copies from x.bricks o
    → IsReady x (x.bricks - from + x.bricks + 1) (copying o x v k) t
copying_ready x v k from t None l h e copied f = looser x (x.bricks + 1) _ (settled x v) t (omega arith) (settled_ready x v t h (λ i w. below_all i w))
  where
    below_all : (i : ℕ) → i < x.bricks → IsCopied x.directory i t
    below_all i w = by_test_nat i w (nat_le from i) refl
      where
        by_test_nat : (i : ℕ) → i < x.bricks → (c : Bool) → nat_le from i ≡ c → IsCopied x.directory i t
        by_test_nat i w true q = marked_copied x.directory _ _ i t (f i (grind (arith, nat_tests, q)) w) (h.shown.bricks i w)
        by_test_nat i w false q = copied i (grind (arith, nat_tests, q))
copying_ready x v k from t (Some b) l h e copied f =
    let above = f.above in
    let below = f.below in
    record {
      target = refl;
      knows = record {
        target = h.target;
        holds = h.holds;
        within = below;
        shown = h.shown;
        missing = f.unmarked;
        key = e;
        copied = λ i w. below_all i w;
      };
      left = omega arith;
    }
  where
    below_all : (i : ℕ) → i < b.0 → IsCopied x.directory i t
    below_all i w = by i w (nat_le from i) refl
      where
        by : (i : ℕ) → i < b.0 → (c : Bool) → nat_le from i ≡ c → IsCopied x.directory i t
        by i w true q = marked_copied x.directory _ _ i t (f.before i (grind (arith, nat_tests, q)) w) (h.shown.bricks i (let below = f.below in omega arith))
        by i w false q = copied i (grind (arith, nat_tests, q))

pub copied_ready :
    (x : Target) (v : Survey) (from : ℕ) (t : Scene) → from ≤ x.bricks → AllCopied x v t
    → ((i : ℕ) → i < from → IsCopied x.directory i t)
    → IsReady x (x.bricks - from + x.bricks + 1) (copied_from x v from) t
copied_ready x v from t l h copied = by v.home.place refl
  where
    by : (o : Option EntryKey) → v.home.place ≡ o → IsReady x (x.bricks - from + x.bricks + 1) (copied_at o x v from) t
    by None e = looser x (x.bricks + 1) _ (settled x v) t (omega arith) (settled_ready x v t h (λ i w. root_copied x.directory _ _ i t (placeless_root x v t h e) (h.shown.bricks i w)))
    by (Some k) e = copying_ready x v k from t (next_missing x.bricks v.copies from) l h e copied (finds_missing x.bricks v.copies from l)

-- one brick more has shown the directory
pub surveyed_ready :
    (x : Target) (b : BrickNo) (v : Survey) (t : Scene) → Sound t → IsTarget x t
    → HoldsAlone t x.directory → b.0 < x.bricks → Shown x.directory v (b.0 + 1) t
    → IsReady x (x.bricks - (b.0 + 1) + x.bricks + x.bricks + 1) (surveyed x b v) t
surveyed_ready x b v t sound target holds within shown = by_test (λ n. IsReady x (x.bricks - (b.0 + 1) + x.bricks + x.bricks + 1) n t) (nat_le (x.bricks - b.0) 1) _ _
    (λ e. (let all : b.0 + 1 ≡ x.bricks = grind (arith, nat_tests, e, within) in
    looser x (x.bricks - 0 + x.bricks + 1) _ (copied_from x v 0) t (omega arith)
    (copied_ready x v 0 t (omega arith) (record { sound = sound; target = target; holds = holds; shown = subst (λ (n : ℕ). Shown x.directory v n t) all shown }) (λ i w. absurd (omega arith)))))
    (λ e. record {
      target = refl;
      knows = record { target = target; holds = holds; within = grind (arith, nat_tests, e, within); shown = shown };
      left = omega arith;
    })

-- one brick more has its planned range
pub laid_ready :
    (x : Target) (b : BrickNo) (at : ℕ) (t : Scene) → Sound t → IsTarget x t
    → HoldsAlone t x.directory → b.0 < x.bricks
    → ((i : ℕ) → i < x.bricks → IsCopied x.directory i t) → ((i : ℕ) → i < b.0 + 1 → IsLaid x i t)
    → WasThere x.directory at t → IsReady x (x.bricks - (b.0 + 1) + 1) (laid x b at) t
laid_ready x b at t sound target holds within copied is_laid was = by_test (λ n. IsReady x (x.bricks - (b.0 + 1) + 1) n t) (nat_le (x.bricks - b.0) 1) _ _
    (λ e. (let all : b.0 + 1 ≡ x.bricks = grind (arith, nat_tests, e, within) in
    record {
      target = refl;
      knows = record {
        target = target;
        told = record {
          was = was;
          whole = λ now. whole all;
          still = λ now. in_tree x.directory t sound (copied (home x.directory) target.home);
        };
      };
      left = omega arith;
    }))
    (λ e. record {
      target = refl;
      knows = record {
        target = target;
        holds = holds;
        within = grind (arith, nat_tests, e, within);
        copied = copied;
        laid = is_laid;
        was = was;
      };
      left = omega arith;
    })
  where
    whole : b.0 + 1 ≡ x.bricks → IsWhole t.disk x.directory
    whole all =
        let bricks = target_bricks x t sound target in
        let size = planned_length t.history.weights x.directory in
        let count = target.count in
        let same : length x.plan ≡ length (planned t.history.weights x.directory) = ap length target.plan in
        whole_by t.disk x.directory x.plan (omega arith)
        (λ i l. copied i (omega arith))
        (λ i l. (is_laid i (omega arith)).same)
        (λ q. planned_no_hole t.history.weights x.directory sound.kept.heavy (subst HasHole target.plan q))
        (λ q. planned_no_overlap t.history.weights x.directory sound.kept.heavy (subst HasOverlap target.plan q))
