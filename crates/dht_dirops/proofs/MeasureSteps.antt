-- The steps of a mkdir up to where it is known what the call comes
-- to: the section, the depth of the directory above, and the heal.
use Rattle.std.proofs.Common.{◌≡◌, ◌<◌, ◌≤◌, ◌+◌, ◌*◌, ℕ, Bool, true, false, refl, sym, ◌∙◌, ap, subst, arith, inr, List}
use Rattle.std.specs.Prelude.{Option, Some, None, [], MatchOption, is_some, length, nat_eq, nat_le, nat_lt, if◌then◌else◌}
use Rattle.std.proofs.lemmas.Bool.Decides.{nat_tests}
use Rattle.dht_types.proofs.PutLaws.{exact_gfid}
use Rattle.dht_types.specs.Gfid.{home, root, same_gfid}
use Rattle.dht_types.specs.History.{Deeds, HasPoint, IsAlone, IsUndisturbed, Tells}
use Rattle.dht_types.specs.Tree.{IsDir, IsFile, Node, Refuse, Tree, answer_of, deepest, depth_in, depth_of, made_dir, made_within, of_root, says}
use Rattle.dht_types.specs.declared.calls.Answer.TheVariants.{Fault}
use Rattle.dht_types.specs.declared.calls.Call.{Call}
use Rattle.dht_types.specs.declared.calls.Call.TheVariants.{Mkdir as Called}
use Rattle.dht_types.specs.declared.errors.Errno.{Errno}
use Rattle.dht_types.specs.declared.errors.Errno.TheVariants.{Eexist, Enametoolong, Estale}
use Rattle.dht_types.specs.declared.identifiers.BrickNo.{BrickNo}
use Rattle.dht_types.specs.declared.identifiers.Gfid.{Gfid}
use Rattle.dht_types.specs.declared.stored.DirRecord.{DirRecord}
use Rattle.dht_xattr.specs.Plan.{planned}
use Rattle.dht_xattr.specs.declared.range.Range.{Range}
use Rattle.dht_brick.specs.declared.replies.Reply.{Reply}
use Rattle.dht_section.proofs.ClaimLaws.{claims_more}
use Rattle.dht_section.proofs.ClosingSteps.{closes}
use Rattle.dht_section.proofs.KeptLaws.{held_kept, held_left}
use Rattle.dht_section.proofs.LocationLaws.{home_there, in_tree, looked_is}
use Rattle.dht_section.proofs.PartSteps.{part_goes_on, part_ends}
use Rattle.dht_section.proofs.SceneLaws.{fault_earned}
use Rattle.dht_section.proofs.SectionParts.{gone_directory, gone_earned}
use Rattle.dht_section.proofs.SweepSteps.{sweep_begins}
use Rattle.dht_section.proofs.UnlockingSteps.{scope_moved}
use Rattle.dht_section.proofs.WholeSteps.{ends_with_holder}
use Rattle.dht_section.specs.Claims.{Claim}
use Rattle.dht_section.specs.Closing.{closing_of, closing_stage}
use Rattle.dht_section.specs.Disk.{dir_at}
use Rattle.dht_section.specs.Ended.{ended}
use Rattle.dht_section.specs.Finish.{refused_at}
use Rattle.dht_section.specs.Location.{IsHeldAt, scope_at}
use Rattle.dht_section.specs.Looks.{IsNoDir, file_in}
use Rattle.dht_section.specs.Moves.{Guarantee}
use Rattle.dht_section.specs.OriginLaws.{comes_from_moved}
use Rattle.dht_section.specs.ReleaseLaws.{begins_anew}
use Rattle.dht_section.specs.Replies.{fault_of}
use Rattle.dht_section.specs.Scene.{MayAnswer, Scene, Sound, fault_finish}
use Rattle.dht_section.specs.Section.{HasScope, IsLooked, KeepsScope, LeavesUnlocks, NamesGone, Outlasts, all_claimed, begun, held_looked, node_seen, opened_ending, section_scope, section_stage}
use Rattle.dht_section.specs.SectionLaws.{bricks_are}
use Rattle.dht_section.specs.Stages.{EndsIn, GoesOn, MatchTurn, MayClaimNext, Served, Stage}
use Rattle.dht_section.specs.Sweep.{IsLeft, IsSwept, Sweeps, next_linkto, seen_linktos, sweep_at}
use Rattle.dht_section.specs.Want.{IsOrdered, Scoped, claimed}
use Rattle.dht_section.specs.Whole.{EndsWhole, SeesWhole}
use Rattle.dht_section.specs.declared.ended.Ended.{Ended}
use Rattle.dht_section.specs.declared.looks.What.{What}
use Rattle.dht_section.specs.declared.looks.What.TheVariants as what
use Rattle.dht_section.specs.declared.machine.Ask.{Ask}
use Rattle.dht_section.specs.declared.machine.Finish.{Finish}
use Rattle.dht_section.specs.declared.machine.Turn.{Turn}
use Rattle.dht_section.specs.declared.machine.Turn.TheVariants.{Go, Done}
use Rattle.dht_section.specs.declared.section.Held.{Held}
use Rattle.dht_section.specs.declared.section.Opened.{Opened}
use Rattle.dht_section.specs.declared.section.Opened.TheVariants.{Held as Holding, Gone as IsGone, Stopped as IsStopped}
use Rattle.dht_section.specs.declared.section.Prepared.{Prepared}
use Rattle.dht_section.specs.declared.section.Section.{Section}
use Rattle.dht_heal.proofs.HealBeginning.{claims_on}
use Rattle.dht_heal.proofs.HealSteps.{room_moved}
use Rattle.dht_heal.proofs.RestartSteps.{begun_variant, has_ready, ready_holds, ready_there, restarts}
use Rattle.dht_heal.specs.Heal.{IsRoom, plan_by}
use Rattle.dht_heal.specs.Restart.{EndsAnew, KeepsScope as KeepsRestart, SeesAnew, first_dir, first_restart, ready_holder, restart_stage, restarted_ending}
use Rattle.dht_heal.specs.declared.restart.Restart.{Restart}
use Rattle.dht_heal.specs.declared.restart.Restarted.{Restarted}
use Rattle.dht_heal.specs.declared.restart.Restarted.TheVariants.{Ready, Stopped}
use Rattle.dht_heal.specs.declared.room.HealRoom.{HealRoom}
use Rattle.dht_dirops.proofs.InfoSteps.{depth_there, info_rely}
use Rattle.dht_dirops.specs.Mkdir.{ComesOf, IsDeep, MayMake, Measures, Renews, Secures, above_of, after_section, clearing, closed, depth_shown, entry_of, layout_of, mkdir_by, mkdir_held, mkdir_measured, mkdir_ready, mkdir_restarted, mkdir_secured, mkdir_stage, new_dir, placed_at, refused, shown_by, unless_fault, unlocks}
use Rattle.dht_dirops.specs.MkdirLaws.{depth_is, measures_stable}
use Rattle.dht_dirops.specs.declared.mkdir.Mkdir.{Mkdir}
use Rattle.dht_dirops.specs.declared.mkdir.Mkdir.TheVariants.{Securing, Measuring, Restarting, Making}
use Rattle.dht_dirops.specs.declared.mkdir.NewDir.{NewDir}
use Rattle.dht_dirops.specs.declared.mkdir.Round.{Round}
use Rattle.dht_dirops.specs.declared.mkdir.Target.{Target}

-- a mkdir went on so, or ended
abbrev pub Went : Mkdir → Reply → Scene → Turn Mkdir Ended → Type 0
Went m r t turn = MatchTurn turn (λ n. GoesOn (mkdir_stage m) (mkdir_stage n) r t) (λ d. EndsIn (mkdir_stage m) (ended d) t)

pub comes_moved :
    (x : Target) (s t : Scene) (a : Ask) (r : Reply) → ComesOf x s → Guarantee s a r t → ComesOf x t
comes_moved x s t a r h m = record { call = m.mine.call ∙ h.call; origin_is = comes_from_moved x.origin s t a r h.origin_is m }

-- an answer that is earned is given once the locks are given back
pub closing_knows :
    (h : Held) (f : Finish) (s t : Scene) (a : Ask) (r : Reply) → IsOrdered h.scope
    → HasScope h.scope s → MayAnswer f t → Guarantee s a r t
    → (closing_stage (closing_of h f)).knows t
closing_knows h f s t a r order scope earned m =
    let some = order.some in
    record { order = order; scope = scope_moved h.scope s t a r scope m; within = omega arith; earned = earned }

-- ---- what the tree says where a mkdir is refused

says_exists :
    (p : Tree) (d : Gfid) (n : List ℕ) (node : Node) (g : Gfid) → p.dirs d ≡ true
    → nat_eq (depth_of p d) deepest ≡ false → p.names (d, n) ≡ Some node
    → answer_of (says p (Called d n) g) ≡ Some (Fault Eexist)
says_exists p d n node g e f k =
    ap (λ b. answer_of (if b then made_dir (depth_of p d) d n g (p.names (d, n)) else Refuse Estale)) e
    ∙ (ap (λ b. answer_of (if b then Refuse Enametoolong else made_within d n g (p.names (d, n)))) f
    ∙ ap (λ (o : Option Node). answer_of (made_within d n g o)) k)

says_deep :
    (p : Tree) (d : Gfid) (n : List ℕ) (g : Gfid) → p.dirs d ≡ true
    → nat_eq (depth_of p d) deepest ≡ true
    → answer_of (says p (Called d n) g) ≡ Some (Fault Enametoolong)
says_deep p d n g e f =
    ap (λ b. answer_of (if b then made_dir (depth_of p d) d n g (p.names (d, n)) else Refuse Estale)) e
    ∙ ap (λ b. answer_of (if b then Refuse Enametoolong else made_within d n g (p.names (d, n)))) f

says_gone :
    (p : Tree) (d : Gfid) (n : List ℕ) (g : Gfid) → p.dirs d ≡ false
    → answer_of (says p (Called d n) g) ≡ Some (Fault Estale)
says_gone p d n g e = ap (λ b. answer_of (if b then made_dir (depth_of p d) d n g (p.names (d, n)) else Refuse Estale)) e

-- ---- a section that is held

-- a section of the name that is held, and what is known beside it
pub record Has (x : Round) (h : Held) (t : Scene) : Type 0 where
  pub sound : Sound t
  pub comes : ComesOf x.target t
  pub held : IsHeldAt x.target.location h t
  pub memory : IsRoom x.room t
  pub anew : EndsAnew x.learned (above_of x.target) (Holding h) t

-- after any section a directory may be made
after_most : (learned : Option (List (Option Range))) (n : ℕ) → n + n + 2 ≤ after_section learned n
after_most None n = omega arith
after_most (Some layout) n = omega arith

module _ (x : Round) (h : Held) (r : Reply) (t : Scene) (k : Has x h t) (old : Stage) (claims : MayClaimNext t old.claims (all_claimed h.scope)) (left : unlocks h + after_section x.learned x.target.location.bricks ≤ old.variant) where
  looked : IsLooked h.scope.bricks (entry_of x.target) (held_looked h (entry_of x.target)) t
  looked = looked_is x.target.location h t k.held

  goes_to : (n : Mkdir) → (mkdir_stage n).claims ≡ all_claimed h.scope → (mkdir_stage n).knows t → (mkdir_stage n).variant < unlocks h + (x.target.location.bricks + x.target.location.bricks + 2) → GoesOn old (mkdir_stage n) r t
  goes_to n same knows few =
      let most = after_most x.learned x.target.location.bricks in
      let enough = left in
      let nearer : (mkdir_stage n).variant < old.variant = omega arith in
      record {
        claims = subst (λ (c : Claim). MayClaimNext t old.claims c) (sym same) claims;
        knows = knows;
        nearer = λ u. (λ w. nearer, omega arith);
      }

  refused_step : (e : Errno) → MayAnswer (refused_at e (held_looked h (entry_of x.target)).at) t → GoesOn old (mkdir_stage (refused e x.target h)) r t
  refused_step e earned = goes_to (refused e x.target h) refl (closes h (refused_at e (held_looked h (entry_of x.target)).at) t k.held.held earned).knows (omega arith)

  -- at the last look the directory above was as deep as it is
  was_deep : (above : ℕ) → IsDeep (above_of x.target) above t → depth_of (t.history.past (held_looked h (entry_of x.target)).at) (above_of x.target) ≡ above
  was_deep above deep = ap depth_in (looked.saw.was ∙ sym looked.saw.is) ∙ depth_is (above_of x.target) above t deep

  point : (e : Errno) → ((g : Gfid) → answer_of (says (t.history.past (held_looked h (entry_of x.target)).at) (Called (above_of x.target) x.target.location.name) g) ≡ Some (Fault e)) → HasPoint t.history t.mine (Some (held_looked h (entry_of x.target)).at) (Fault e)
  point e tells = record {
    point = (held_looked h (entry_of x.target)).at;
    printed = refl;
    after = looked.saw.after;
    before = looked.saw.before;
    tells = subst (λ (d : Option Deeds). Tells t.history t.mine.call d (held_looked h (entry_of x.target)).at (Fault e)) (sym k.held.held.fresh.deeds)
        (λ (g : Gfid). ap (λ (c : Call Gfid). answer_of (says (t.history.past (held_looked h (entry_of x.target)).at) c g)) k.comes.call ∙ tells g);
  }

  -- something has the name
  exists_step : (above : ℕ) (node : Node) → IsDeep (above_of x.target) above t → above < deepest → node_seen (held_looked h (entry_of x.target)).sight.what ≡ Some node → GoesOn old (mkdir_stage (refused Eexist x.target h)) r t
  exists_step above node deep shallow e =
      let past = t.history.past (held_looked h (entry_of x.target)).at in
      let same = was_deep above deep in
      let near : nat_eq (depth_of past (above_of x.target)) deepest ≡ false = grind (arith, nat_tests, same, shallow) in
      refused_step Eexist (point Eexist (λ g. says_exists past (above_of x.target) x.target.location.name node g looked.saw.directory near (looked.saw.node ∙ e)))

  -- or the directory would be too deep
  deep_step : (above : ℕ) → IsDeep (above_of x.target) above t → nat_lt above deepest ≡ false → GoesOn old (mkdir_stage (refused Enametoolong x.target h)) r t
  deep_step above deep far =
      let same = was_deep above deep in
      let placed = k.sound.kept.tree.placed (above_of x.target) (in_tree x.target.location h t k.sound k.held) in
      let most = placed.shallow in
      let is : above ≡ placed.descent.depth = sym (depth_is (above_of x.target) above t deep) ∙ ap depth_in placed.is in
      let past = t.history.past (held_looked h (entry_of x.target)).at in
      let full : nat_eq (depth_of past (above_of x.target)) deepest ≡ true = grind (arith, nat_tests, same, is, most, far) in
      refused_step Enametoolong (inr (point Enametoolong (λ g. says_deep past (above_of x.target) x.target.location.name g looked.saw.directory full)))

  -- or nothing has it: the directory goes to the brick that holds it
  plans : (g : Gfid) → plan_by x.room.weights g ≡ planned t.history.weights g
  plans g =
      let few = k.sound.kept.few in
      let count = k.sound.kept.counted in
      ap (λ (ws : List ℕ). plan_by ws g) k.memory.weights
      ∙ ap (λ (v : Bool). if v then planned t.history.weights g else []) (let q : nat_le (length t.history.weights) 32 ≡ true = grind (arith, nat_tests, few, count) in q)

  may_make : (above b : ℕ) → IsDeep (above_of x.target) above t → above < deepest → ready_holder x.target.location h ≡ Some b → MayMake (new_dir x.target x.room (above + 1) b) h t
  may_make above b deep shallow e = record {
    comes = k.comes;
    there = ready_there x.target.location h b t k.sound k.held e;
    made_is = refl;
    plan_is = plans _;
    above = above;
    depth_is = refl;
    shallow = shallow;
    deep = deep;
    kept = held_kept x.target.location h t k.held;
    holder = ready_holds x.target.location h b e;
  }

  clearing_step : (z : NewDir) (o : Option BrickNo) → z.target ≡ x.target → MatchOption (sweep_at x.target.location (seen_linktos x.target.location h) o) (IsSwept x.target.location None t) (λ n. Sweeps None n t) → MayMake z h t → GoesOn old (mkdir_stage (clearing (sweep_at x.target.location (seen_linktos x.target.location h) o) z h)) r t
  clearing_step z None e w may =
      let bricks = ap (λ (a : Target). a.location.bricks) e in
      goes_to (Making z h) refl (record { may = may; swept = subst (λ (a : Target). IsSwept a.location None t) (sym e) w }) (omega arith)
  clearing_step z (Some c) e w may =
      let bricks = ap (λ (a : Target). a.location.bricks) e in
      goes_to (clearing (sweep_at x.target.location (seen_linktos x.target.location h) (Some c)) z h) refl (w, record { name = ap (λ (a : Target). a.location) (sym e); may = may }) (omega arith)

  placed_step : (above b : ℕ) → IsDeep (above_of x.target) above t → above < deepest → (held_looked h (entry_of x.target)).sight.what ≡ what.Absent → ready_holder x.target.location h ≡ Some b → GoesOn old (mkdir_stage (placed_at x.target x.room h (above + 1) b)) r t
  placed_step above b deep shallow e holds =
      let plain : IsNoDir (held_looked h (entry_of x.target)).sight.what = subst IsNoDir (sym e) tt in
      let w : IsLeft x.target.location None (seen_linktos x.target.location h) 0 t = subst (λ (a : What). IsLeft x.target.location (file_in a) (seen_linktos x.target.location h) 0 t) e (held_left x.target.location h t k.sound k.held plain) in
      clearing_step (new_dir x.target x.room (above + 1) b) (next_linkto x.target.location.bricks (seen_linktos x.target.location h) 0) refl (sweep_begins x.target.location h None t w) (may_make above b deep shallow holds)

  -- no heal is needed after one, while the call is alone
  needs_none : (layout : List (Option Range)) → x.learned ≡ Some layout → ready_holder x.target.location h ≡ None → IsAlone t.history t.mine → ⊥
  needs_none layout e none now =
      let ends : EndsWhole (above_of x.target) (Holding h) t = subst (λ (o : Option (List (Option Range))). EndsAnew o (above_of x.target) (Holding h) t) e k.anew in
      let has = ends_with_holder x.target.location h t k.sound k.held ends now in
      let z : Some has.brick ≡ None = sym (has_ready x.target.location h t has) ∙ none in
      cc

  -- or no brick can hold it: the directory above is healed
  renewing_nearer : (o : Option (List (Option Range))) → x.learned ≡ o → ready_holder x.target.location h ≡ None → IsUndisturbed t.history t.mine → (restart_stage (first_restart h x.room)).variant + (3 * x.target.location.bricks + 7) < unlocks h + after_section o x.target.location.bricks
  renewing_nearer None e none u =
      let begins = restarts h x.room t k.held.held k.memory (subst (λ (w : Scoped). 0 < length w.names) (sym k.held.scope) (omega arith)) in
      let variant = begins.variant in
      let some = k.held.held.order.some in
      let bricks = ap (λ (w : Scoped). w.bricks) k.held.scope in
      omega arith
  renewing_nearer (Some layout) e none u = absurd (needs_none layout e none (record { first = u.first; last = u.last }))

  renewing_step : ready_holder x.target.location h ≡ None → GoesOn old (mkdir_stage (Restarting x.target (layout_of x.target h) (first_restart h x.room))) r t
  renewing_step none =
      let begins = restarts h x.room t k.held.held k.memory (subst (λ (w : Scoped). 0 < length w.names) (sym k.held.scope) (omega arith)) in
      record {
        claims = claims;
        knows = (begins.knows, record { comes = k.comes; scope = k.held.scope });
        nearer = λ u. (λ w. let n = renewing_nearer x.learned refl none u in let enough = left in omega arith, let n = renewing_nearer x.learned refl none u in let enough = left in omega arith);
      }

  absent_step : (above : ℕ) (o : Option ℕ) → IsDeep (above_of x.target) above t → above < deepest → (held_looked h (entry_of x.target)).sight.what ≡ what.Absent → ready_holder x.target.location h ≡ o → GoesOn old (mkdir_stage (mkdir_ready o x.target x.room h (above + 1))) r t
  absent_step above None deep shallow e q = renewing_step q
  absent_step above (Some b) deep shallow e q = placed_step above b deep shallow e q

  found_step : (above : ℕ) (w : What) → IsDeep (above_of x.target) above t → above < deepest → (held_looked h (entry_of x.target)).sight.what ≡ w → GoesOn old (mkdir_stage (mkdir_by w x.target x.room h (above + 1))) r t
  found_step above what.Absent deep shallow e = absent_step above (ready_holder x.target.location h) deep shallow e refl
  found_step above (what.Dir g) deep shallow e = exists_step above (IsDir g) deep shallow (ap node_seen e)
  found_step above (what.File f b links) deep shallow e = exists_step above (IsFile f) deep shallow (ap node_seen e)

  -- it is known how deep the directory above is
  pub measured_step : (above : ℕ) → IsDeep (above_of x.target) above t → GoesOn old (mkdir_stage (mkdir_measured x.target x.room h above)) r t
  measured_step above deep = by (nat_lt above deepest) refl
    where
      by : (v : Bool) → nat_lt above deepest ≡ v → GoesOn old (mkdir_stage (if v then mkdir_by (held_looked h (entry_of x.target)).sight.what x.target x.room h (above + 1) else refused Enametoolong x.target h)) r t
      by true e = found_step above (held_looked h (entry_of x.target)).sight.what deep (grind (arith, nat_tests, e)) refl
      by false e = deep_step above deep e

-- ---- the section

-- the root is no directory's
root_deep : (d : Gfid) (t : Scene) → Sound t → same_gfid d root ≡ true → IsDeep d 0 t
root_deep d t sound e = record {
  descent = of_root;
  is = ap t.history.tree.descents ((exact_gfid d root).0 e) ∙ sound.kept.tree.rooted.1;
  depth = refl;
}

held_step :
    (x : Round) (m : Section) (h : Held) (r : Reply) (t : Scene) → Has x h t
    → Outlasts m (Holding h) → EndsIn (section_stage m) (opened_ending (Holding h)) t
    → GoesOn (mkdir_stage (Securing x m)) (mkdir_stage (mkdir_held x h)) r t
held_step x m h r t k left ends = by (same_gfid (above_of x.target) root) refl
  where
    by : (v : Bool) → same_gfid (above_of x.target) root ≡ v → GoesOn (mkdir_stage (Securing x m)) (mkdir_stage (if v then mkdir_measured x.target x.room h 0 else Measuring x h)) r t
    by true e = measured_step x h r t k (mkdir_stage (Securing x m)) ends.claims (omega arith) 0 (root_deep (above_of x.target) t k.sound e)
    by false e = part_ends (section_stage m) (mkdir_stage (Measuring x h)) (opened_ending (Holding h)) (after_section x.learned x.target.location.bricks) (λ s. Secures x m s) r t ends refl (omega arith) (record { comes = k.comes; held = k.held; memory = k.memory; whole = k.anew })

pub secured_step :
    (x : Round) (m : Section) (turn : Turn Section Opened) (r : Reply) (at : ℕ) (s t : Scene)
    → MatchTurn turn (λ n. GoesOn (section_stage m) (section_stage n) r t)
    (λ d. EndsIn (section_stage m) (opened_ending d) t)
    → MatchTurn turn (λ n. SeesAnew x.learned (above_of x.target) n t)
    (λ d. EndsAnew x.learned (above_of x.target) d t)
    → KeepsScope m turn → NamesGone m turn → LeavesUnlocks m turn
    → Served (mkdir_stage (Securing x m)) r at s t → Went (Securing x m) r t (mkdir_secured x turn)
secured_step x m (Go n) r at s t went anew same gone left v =
    let k = v.is_at.knows.1 in
    part_goes_on (section_stage m) (section_stage n) (after_section x.learned x.target.location.bricks) (λ s. Secures x m s) (λ s. Secures x n s) r t went
    (record { comes = comes_moved x.target s t _ r k.comes v.moved; scope = same ∙ k.scope; memory = room_moved x.room s t _ r k.memory v.moved; whole = anew })
secured_step x m (Done (Holding h)) r at s t went anew same gone left v =
    let k = v.is_at.knows.1 in
    held_step x m h r t (record {
      sound = v.after;
      comes = comes_moved x.target s t _ r k.comes v.moved;
      held = record { held = went.earned; scope = same ∙ k.scope };
      memory = room_moved x.room s t _ r k.memory v.moved;
      anew = anew;
    }) left went
secured_step x m (Done (IsGone g line)) r at s t went anew same gone left v =
    let k = v.is_at.knows in
    let l = x.target.location in
    record {
      claims = went.claims;
      earned = gone_earned l.directory (Called l.directory l.name) g line t (λ p a e. says_gone p l.directory l.name a e) (v.moved.mine.call ∙ k.1.comes.call) (gone_directory l (section_scope m) g k.1.scope gone) went.earned;
    }
secured_step x m (Done (IsStopped e)) r at s t went anew same gone left v = record { claims = went.claims; earned = went.earned }

-- ---- the depth of the directory above

-- its home shows it
copy_deep :
    (x : Round) (h : Held) (y : DirRecord) (s : Scene) → Sound s → Measures x h s
    → dir_at s.disk (home (above_of x.target)) (above_of x.target) ≡ Some y
    → home (above_of x.target) < s.disk.count → IsDeep (above_of x.target) y.depth s
copy_deep x h y s sound k e l =
    let placed = sound.kept.tree.placed (above_of x.target) (in_tree x.target.location h s sound k.held) in
    record {
      descent = placed.descent;
      is = placed.is;
      depth = sym ((sound.kept.things.dirs (above_of x.target)).deep (home (above_of x.target)) y l e ∙ ap depth_in placed.is);
    }

module _ (x : Round) (h : Held) (r : Reply) (at : ℕ) (s t : Scene) (v : Served (mkdir_stage (Measuring x h)) r at s t) where
  may_claim : MayClaimNext t (all_claimed h.scope) (all_claimed h.scope)
  may_claim = claims_more _ r at s t _ v (λ b key i. i)

  stopped_step : (e : Errno) → fault_of r ≡ Some e → GoesOn (mkdir_stage (Measuring x h)) (mkdir_stage (closed x.target.location h (fault_finish e))) r t
  stopped_step e z =
      let most = after_most x.learned x.target.location.bricks in
      record {
        claims = may_claim;
        knows = closing_knows h (fault_finish e) s t _ r v.is_at.knows.held.held.order v.is_at.knows.held.held.fresh.scope (fault_earned s t _ r e z v.moved) v.moved;
        nearer = λ u. (λ w. omega arith, omega arith);
      }

  has_copy : (o : Option DirRecord) → dir_at s.disk (home (above_of x.target)) (above_of x.target) ≡ o → fault_of r ≡ None → GoesOn (mkdir_stage (Measuring x h)) (mkdir_stage (shown_by (depth_shown r) x h)) r t
  has_copy None e z =
      let there = in_tree x.target.location h s v.before v.is_at.knows.held in
      absurd (let q : false ≡ true = ap is_some (sym e) ∙ (sym (v.before.kept.things.dirs (above_of x.target)).homed ∙ there) in cc)
  has_copy (Some y) e z =
      let there = in_tree x.target.location h s v.before v.is_at.knows.held in
      let rely = info_rely (above_of x.target) (home (above_of x.target)) s t r z v.moved in
      let k = measures_stable x h s t v.is_at.knows rely in
      let homed = ap is_some e in
      let within = home_within s v.before v.is_at.knows in
      let deep = copy_deep x h y s v.before v.is_at.knows e within in
      subst (λ (o : Option ℕ). GoesOn (mkdir_stage (Measuring x h)) (mkdir_stage (shown_by o x h)) r t) (sym (depth_there (above_of x.target) (home (above_of x.target)) y s t r e z v.moved))
      (measured_step x h r t (record { sound = v.after; comes = k.comes; held = k.held; memory = k.memory; anew = k.whole }) (mkdir_stage (Measuring x h)) may_claim (omega arith) y.depth
      (record { descent = deep.descent; is = rely.made (above_of x.target) deep.descent deep.is; depth = deep.depth }))
    where
      home_within : (s : Scene) → Sound s → Measures x h s → home (above_of x.target) < s.disk.count
      home_within s sound k =
          let l = home_there x.target.location h.scope s k.held.scope k.held.held.fresh.scope in
          let e = bricks_are h.scope s sound k.held.held.fresh.scope in
          omega arith

  pub shown_step : (o : Option Errno) → fault_of r ≡ o → GoesOn (mkdir_stage (Measuring x h)) (mkdir_stage (unless_fault o x.target.location h (shown_by (depth_shown r) x h))) r t
  shown_step None z = has_copy (dir_at s.disk (home (above_of x.target)) (above_of x.target)) refl z
  shown_step (Some e) z = stopped_step e z

-- ---- the heal

-- the section begins anew
anew_step :
    (x : Target) (layout : List (Option Range)) (m : Restart) (p : Prepared) (room : HealRoom)
    (r : Reply) (t : Scene)
    → ComesOf x t → p.scope ≡ scope_at x.location
    → EndsIn (restart_stage m) (restarted_ending (Ready p room)) t
    → GoesOn (mkdir_stage (Restarting x layout m))
    (mkdir_stage
    (Securing (record { target = x; learned = Some layout; room = room }) (begun p)))
    r t
anew_step x layout m p room r t comes same ends =
    let variant = begun_variant x.location p same in
    record {
      claims = claims_on t _ (claimed p.scope 1) ends.claims;
      knows = (
        begins_anew p t ends.earned.begins,
        record {
          comes = comes;
          scope = same;
          memory = ends.earned.memory;
          whole = subst (λ (g : Gfid). SeesWhole g (begun p) t) (ap first_dir same) ends.earned.whole;
        },
      );
      nearer = λ u. (λ w. omega arith, omega arith);
    }

pub restarted_step :
    (x : Target) (layout : List (Option Range)) (m : Restart) (turn : Turn Restart Restarted)
    (r : Reply) (at : ℕ) (s t : Scene)
    → MatchTurn turn (λ n. GoesOn (restart_stage m) (restart_stage n) r t)
    (λ d. EndsIn (restart_stage m) (restarted_ending d) t)
    → KeepsRestart m turn → Served (mkdir_stage (Restarting x layout m)) r at s t
    → Went (Restarting x layout m) r t (mkdir_restarted x layout turn)
restarted_step x layout m (Go n) r at s t went same v =
    let k = v.is_at.knows.1 in
    part_goes_on (restart_stage m) (restart_stage n) (3 * x.location.bricks + 7) (λ s. Renews x m s) (λ s. Renews x n s) r t went (record { comes = comes_moved x s t _ r k.comes v.moved; scope = same ∙ k.scope })
restarted_step x layout m (Done (Ready p room)) r at s t went same v =
    let k = v.is_at.knows.1 in
    anew_step x layout m p room r t (comes_moved x s t _ r k.comes v.moved) (same ∙ k.scope) went
restarted_step x layout m (Done (Stopped e)) r at s t went same v = record { claims = went.claims; earned = went.earned }
