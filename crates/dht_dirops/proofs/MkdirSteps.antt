-- The steps of a mkdir.
use Rattle.std.proofs.Common.{◌≡◌, ◌<◌, ◌+◌, ◌*◌, ◌-◌, ℕ, Bool, true, false, refl, sym, ◌∙◌, ap, subst, arith, List}
use Rattle.std.specs.Prelude.{Option, Some, None, nat_lt, ◌&&◌, if◌then◌else◌}
use Rattle.dht_types.specs.Gfid.{root, same_gfid}
use Rattle.dht_types.specs.History.{is_carried}
use Rattle.dht_types.specs.Tree.{Tree, deepest}
use Rattle.dht_types.specs.declared.errors.Errno.{Errno}
use Rattle.dht_types.specs.declared.errors.Errno.TheVariants.{Eexist, Enametoolong}
use Rattle.dht_types.specs.declared.identifiers.BrickNo.{BrickNo}
use Rattle.dht_types.specs.declared.identifiers.Gfid.{Gfid}
use Rattle.dht_types.specs.declared.locks.Mode.TheVariants.{Shared}
use Rattle.dht_xattr.specs.Plan.{planned}
use Rattle.dht_xattr.specs.declared.range.Range.{Range}
use Rattle.dht_brick.specs.Kinds.{reply_kind}
use Rattle.dht_brick.specs.declared.replies.Reply.{Reply}
use Rattle.dht_brick.specs.declared.replies.Reply.TheVariants.{Ok as Carried, Refused as Declined, Wait, Down, Failed, NoMemory}
use Rattle.dht_section.proofs.ClosingSteps.{closing_moves}
use Rattle.dht_section.proofs.FirstSection.{one_fresh, one_knows, starts}
use Rattle.dht_section.proofs.PartSteps.{part_served, part_goes_on, part_ends}
use Rattle.dht_section.proofs.SectionParts.{either_none, fault_errors, never_unanswered, section_notes}
use Rattle.dht_section.proofs.SectionSteps.{keeps_scope, leaves_unlocks, names_gone, notes_fault, section_moves}
use Rattle.dht_section.proofs.SweepSteps.{KeepsLocation, sweep_again, sweep_kept, sweep_moves, sweep_noted, sweep_same}
use Rattle.dht_section.proofs.TaughtLaws.{taught_at}
use Rattle.dht_section.specs.Again.{IsUnanswered}
use Rattle.dht_section.specs.Closing.{closing_after, closing_stage}
use Rattle.dht_section.specs.Ended.{Learns, ended}
use Rattle.dht_section.specs.Faults.{NotesFault, brick_fault, part_fault}
use Rattle.dht_section.specs.Finish.{made_at}
use Rattle.dht_section.specs.Parts.{EndsByFault, part_ending}
use Rattle.dht_section.specs.Replies.{fault_of, is_shown}
use Rattle.dht_section.specs.Scene.{Scene, fault_finish}
use Rattle.dht_section.specs.Section.{fault_now, held_looked, opened_fault, section_after, section_fault, section_stage, section_taught, turn_layout}
use Rattle.dht_section.specs.Shapes.{either}
use Rattle.dht_section.specs.Stages.{EndsIn, GoesOn, MatchTurn, Moves, Served, answered}
use Rattle.dht_section.specs.Sweep.{IsKept, IsSwept, Sweeps, first_sweep, sweep_after, sweep_stage}
use Rattle.dht_section.specs.declared.closing.Closing.{Closing}
use Rattle.dht_section.specs.declared.ended.Ended.{Ended}
use Rattle.dht_section.specs.declared.location.Location.{Location}
use Rattle.dht_section.specs.declared.looks.What.{What}
use Rattle.dht_section.specs.declared.looks.What.TheVariants as what
use Rattle.dht_section.specs.declared.machine.Finish.{Finish}
use Rattle.dht_section.specs.declared.machine.Turn.{Turn}
use Rattle.dht_section.specs.declared.machine.Turn.TheVariants.{Go, Done}
use Rattle.dht_section.specs.declared.origin.Origin.{Origin}
use Rattle.dht_section.specs.declared.section.Held.{Held}
use Rattle.dht_section.specs.declared.section.Opened.{Opened}
use Rattle.dht_section.specs.declared.section.Opened.TheVariants.{Held as Holding, Gone as IsGone, Stopped as IsStopped}
use Rattle.dht_section.specs.declared.section.Section.{Section}
use Rattle.dht_section.specs.declared.sweep.Sweep.{Sweep}
use Rattle.dht_heal.proofs.HealOneRequests.{stepless_tree}
use Rattle.dht_heal.proofs.RestartSteps.{anew_next, restart_again, restart_keeps, restart_moves, restart_notes}
use Rattle.dht_heal.specs.HealOne.{has_copy}
use Rattle.dht_heal.specs.Restart.{NotesFault as NotesRestart, first_restart, ready_holder, restart_after, restart_stage}
use Rattle.dht_heal.specs.declared.restart.Restart.{Restart}
use Rattle.dht_heal.specs.declared.restart.Restarted.{Restarted}
use Rattle.dht_heal.specs.declared.restart.Restarted.TheVariants.{Ready, Stopped}
use Rattle.dht_heal.specs.declared.room.HealRoom.{HealRoom}
use Rattle.dht_dirops.proofs.MakeSteps.{copied_step, made_step}
use Rattle.dht_dirops.proofs.MeasureSteps.{Went, closing_knows, comes_moved, restarted_step, secured_step, shown_step}
use Rattle.dht_dirops.specs.Mkdir.{Clears, MayMake, MayMkdir, Renews, Secures, StartsMkdir, above_of, after_section, clearing, closed, copied_by, copying, depth_shown, entry_of, first_mkdir, held_locks, layout_of, made_by, mkdir_after, mkdir_by, mkdir_cleared, mkdir_closed, mkdir_fault, mkdir_held, mkdir_layout, mkdir_measured, mkdir_ready, mkdir_restarted, mkdir_secured, mkdir_shown, mkdir_stage, mkdir_taught, new_dir, next_copy, refused, shown_by, unless_fault, unlocks}
use Rattle.dht_dirops.specs.declared.mkdir.Mkdir.{Mkdir}
use Rattle.dht_dirops.specs.declared.mkdir.Mkdir.TheVariants.{Securing, Measuring, Restarting, Sweeping, Making, Copying, Ending}
use Rattle.dht_dirops.specs.declared.mkdir.NewDir.{NewDir}
use Rattle.dht_dirops.specs.declared.mkdir.Round.{Round}
use Rattle.dht_dirops.specs.declared.mkdir.Target.{Target}

-- ---- the sweep

may_kept :
    (m : Sweep) (x : NewDir) (h : Held) (r : Reply) (at : ℕ) (s t : Scene) → fault_of r ≡ None
    → Served (mkdir_stage (Sweeping m x h)) r at s t → MayMake x h t
may_kept m x h r at s t z v =
    let k = v.is_at.knows.1 in
    let may = k.may in
    record {
      comes = comes_moved x.target s t _ r may.comes v.moved;
      there = let w = may.there in let c = v.moved.disk.count in omega arith;
      made_is = may.made_is;
      plan_is = may.plan_is ∙ ap (λ (ws : List ℕ). planned ws x.made) (sym v.moved.weights);
      above = may.above;
      depth_is = may.depth_is;
      shallow = may.shallow;
      deep = record {
        descent = may.deep.descent;
        is = ap (λ (p : Tree). p.descents (above_of x.target)) (stepless_tree s t _ r refl v.moved) ∙ may.deep.is;
        depth = may.deep.depth;
      };
      kept = subst (λ (y : Location). IsKept y h t) k.name
          (sweep_kept None m h s t r v.before v.is_at.knows.0 z v.moved (subst (λ (y : Location). IsKept y h s) (sym k.name) may.kept));
      holder = may.holder;
    }

sweep_some :
    (m : Sweep) (h : Held) (s : Scene) → Sweeps None m s
    → 0 < (sweep_stage (held_locks h) None m).variant
sweep_some m h s w = let l = w.there in omega arith

cleared_step :
    (m : Sweep) (x : NewDir) (h : Held) (turn : Turn Sweep (Option Errno)) (r : Reply) (at : ℕ)
    (s t : Scene)
    → MatchTurn turn
    (λ n. GoesOn (sweep_stage (held_locks h) None m) (sweep_stage (held_locks h) None n) r t)
    (λ d.
    EndsIn (sweep_stage (held_locks h) None m)
    (part_ending (held_locks h) (IsSwept m.location None) d) t)
    → EndsByFault r turn → KeepsLocation m turn → Served (mkdir_stage (Sweeping m x h)) r at s t
    → Went (Sweeping m x h) r t (mkdir_cleared x h turn)
cleared_step m x h (Go n) r at s t went noted same v = part_goes_on (sweep_stage (held_locks h) None m) (sweep_stage (held_locks h) None n) (unlocks h + x.target.location.bricks + 1) (λ s. Clears m x h s) (λ s. Clears n x h s) r t went (record { name = same ∙ v.is_at.knows.1.name; may = may_kept m x h r at s t noted v })
cleared_step m x h (Done None) r at s t went noted same v =
    let some = sweep_some m h s v.is_at.knows.0 in
    part_ends (sweep_stage (held_locks h) None m) (mkdir_stage (Making x h)) (part_ending (held_locks h) (IsSwept m.location None) None) (unlocks h + x.target.location.bricks + 1) (λ s. Clears m x h s) r t went refl (omega arith)
    (record { may = may_kept m x h r at s t (sym noted) v; swept = subst (λ (y : Location). IsSwept y None t) v.is_at.knows.1.name went.earned })
cleared_step m x h (Done (Some e)) r at s t went noted same v =
    let some = sweep_some m h s v.is_at.knows.0 in
    let kept = v.is_at.knows.1.may.kept in
    part_ends (sweep_stage (held_locks h) None m) (mkdir_stage (closed x.target.location h (fault_finish e))) (part_ending (held_locks h) (IsSwept m.location None) (Some e)) (unlocks h + x.target.location.bricks + 1) (λ s. Clears m x h s) r t went refl (omega arith)
    (closing_knows h (fault_finish e) s t _ r kept.order kept.fresh.scope went.earned v.moved)

-- ---- the closing

closing_step :
    (c : Closing) (learned : Option (List (Option Range))) (turn : Turn Closing Finish) (r : Reply)
    (t : Scene)
    → MatchTurn turn (λ n. GoesOn (closing_stage c) (closing_stage n) r t)
    (λ d. EndsIn (closing_stage c) (answered d) t)
    → Went (Ending c learned) r t (mkdir_closed learned turn)
closing_step c learned (Go n) r t went = went
closing_step c learned (Done f) r t went = went

-- ---- all of it

pub mkdir_moves :
    (m : Mkdir) (r : Reply) (at : ℕ) → Moves mkdir_stage ended m r at (mkdir_after m r at)
mkdir_moves (Securing x m) r at s t v =
    let part = part_served (section_stage m) (after_section x.learned x.target.location.bricks) (λ s. Secures x m s) r at s t v in
    secured_step x m (section_after m r at) r at s t (section_moves m r at s t part) (anew_next x.learned (above_of x.target) m r at s t part v.is_at.knows.1.whole) (keeps_scope m r at) (names_gone m r at s v.is_at.knows.0) (leaves_unlocks m r at s v.is_at.knows.0) v
mkdir_moves (Measuring x h) r at s t v = shown_step x h r at s t v (fault_of r) refl
mkdir_moves (Restarting x layout m) r at s t v = restarted_step x layout m (restart_after m r at) r at s t (restart_moves m r at s t (part_served (restart_stage m) (3 * x.location.bricks + 7) (λ s. Renews x m s) r at s t v)) (restart_keeps m r at) v
mkdir_moves (Sweeping m x h) r at s t v =
    let part = part_served (sweep_stage (held_locks h) None m) (unlocks h + x.target.location.bricks + 1) (λ s. Clears m x h s) r at s t v in
    cleared_step m x h (sweep_after m r) r at s t (sweep_moves (held_locks h) None m r at s t part) (sweep_noted m r) (sweep_same m r) v
mkdir_moves (Making x h) r at s t v = made_step x h r at s t v (fault_of r) refl
mkdir_moves (Copying x h b line) r at s t v = copied_step x h b line r at s t v (fault_of r) refl
mkdir_moves (Ending c learned) r at s t v = closing_step c learned (closing_after c) r t (closing_moves c r at s t v)

-- ---- what holds of each way on from a section that is held

-- a fact of each of them is one of the way that is taken
module _ (P : Mkdir → Type 0) (x : Round) (h : Held) (exists : P (refused Eexist x.target h)) (deep : P (refused Enametoolong x.target h)) (anew : P (Restarting x.target (layout_of x.target h) (first_restart h x.room))) (sweeps : (m : Sweep) (y : NewDir) → y.target ≡ x.target → P (Sweeping m y h)) (makes : (y : NewDir) → y.target ≡ x.target → P (Making y h)) where
  of_clearing : (o : Option Sweep) (y : NewDir) → y.target ≡ x.target → P (clearing o y h)
  of_clearing None y e = makes y e
  of_clearing (Some m) y e = sweeps m y e

  of_ready : (o : Option ℕ) (depth : ℕ) → P (mkdir_ready o x.target x.room h depth)
  of_ready None depth = anew
  of_ready (Some b) depth = of_clearing (first_sweep x.target.location h) (new_dir x.target x.room depth b) refl

  of_found : (w : What) (depth : ℕ) → P (mkdir_by w x.target x.room h depth)
  of_found what.Absent depth = of_ready (ready_holder x.target.location h) depth
  of_found (what.Dir g) depth = exists
  of_found (what.File f b links) depth = exists

  of_measured : (above : ℕ) → P (mkdir_measured x.target x.room h above)
  of_measured above = by (nat_lt above deepest)
    where
      by : (v : Bool) → P (if v then mkdir_by (held_looked h (entry_of x.target)).sight.what x.target x.room h (above + 1) else refused Enametoolong x.target h)
      by true = of_found (held_looked h (entry_of x.target)).sight.what (above + 1)
      by false = deep

  of_held : P (Measuring x h) → P (mkdir_held x h)
  of_held measures = by (same_gfid (above_of x.target) root)
    where
      by : (v : Bool) → P (if v then mkdir_measured x.target x.room h 0 else Measuring x h)
      by true = of_measured 0
      by false = measures

  of_shown : (o : Option ℕ) → P (Measuring x h) → P (shown_by o x h)
  of_shown None measures = measures
  of_shown (Some above) measures = of_measured above

of_copying :
    (P : Mkdir → Type 0) (x : NewDir) (h : Held) (line : ℕ) (o : Option BrickNo)
    → P (closed x.target.location h (made_at x.made line))
    → ((b : BrickNo) → P (Copying x h b line)) → P (copying o x h line)
of_copying P x h line None ends copies = ends
of_copying P x h line (Some b) ends copies = copies b

of_made :
    (P : Mkdir → Type 0) (x : NewDir) (h : Held) (at : ℕ) (v : Bool)
    → P (closed x.target.location h (made_at x.made at)) → ((b : BrickNo) → P (Copying x h b at))
    → P (Making x h) → P (made_by v x h at)
of_made P x h at true ends copies makes = of_copying P x h at (next_copy x h 0) ends copies
of_made P x h at false ends copies makes = makes

of_copied :
    (P : Mkdir → Type 0) (x : NewDir) (h : Held) (b : BrickNo) (line : ℕ) (v : Bool)
    → P (closed x.target.location h (made_at x.made line))
    → ((i : BrickNo) → P (Copying x h i line)) → P (copied_by v x h b line)
of_copied P x h b line true ends copies = of_copying P x h line (next_copy x h (b.0 + 1)) ends copies
of_copied P x h b line false ends copies = copies b

-- ---- what it learns

abbrev HasLearned : Target → Held → Mkdir → Type 0
HasLearned x h n = mkdir_layout n ≡ Some (layout_of x h)

target_layout :
    (y : NewDir) (x : Target) (h : Held) → y.target ≡ x
    → Some (layout_of y.target h) ≡ Some (layout_of x h)
target_layout y x h e = ap (λ (z : Target). Some (layout_of z h)) e

held_learned : (x : Round) (h : Held) → HasLearned x.target h (mkdir_held x h)
held_learned x h = of_held (HasLearned x.target h) x h refl refl refl (λ m y e. target_layout y x.target h e) (λ y e. target_layout y x.target h e) refl

secured_learns :
    (x : Round) (m : Section) (turn : Turn Section Opened) (r : Reply)
    → turn_layout (entry_of x.target) turn ≡ section_taught (entry_of x.target) m r
    → Learns mkdir_layout mkdir_taught (Securing x m) r (mkdir_secured x turn)
secured_learns x m (Go n) r e = ap (λ (o : Option (List (Option Range))). either o x.learned) e
secured_learns x m (Done (Holding h)) r e = held_learned x h ∙ ap (λ (o : Option (List (Option Range))). either o x.learned) e
secured_learns x m (Done (IsGone g at)) r e = refl
secured_learns x m (Done (IsStopped y)) r e = refl

-- a brick's error leaves what was learned
fault_learned :
    (x : Target) (h : Held) (o : Option Errno) (n : Mkdir) → HasLearned x h n
    → HasLearned x h (unless_fault o x.location h n)
fault_learned x h None n e = e
fault_learned x h (Some y) n e = refl

shown_learned : (x : Round) (h : Held) (r : Reply) → HasLearned x.target h (mkdir_shown x h r)
shown_learned x h r = fault_learned x.target h (fault_of r) (shown_by (depth_shown r) x h) (of_shown (HasLearned x.target h) x h refl refl refl (λ m y e. target_layout y x.target h e) (λ y e. target_layout y x.target h e) (depth_shown r) refl)

restarted_learns :
    (x : Target) (layout : List (Option Range)) (m : Restart) (turn : Turn Restart Restarted)
    (r : Reply)
    → Learns mkdir_layout mkdir_taught (Restarting x layout m) r (mkdir_restarted x layout turn)
restarted_learns x layout m (Go n) r = refl
restarted_learns x layout m (Done (Ready p room)) r = refl
restarted_learns x layout m (Done (Stopped e)) r = refl

cleared_learns :
    (m : Sweep) (x : NewDir) (h : Held) (turn : Turn Sweep (Option Errno)) (r : Reply)
    → Learns mkdir_layout mkdir_taught (Sweeping m x h) r (mkdir_cleared x h turn)
cleared_learns m x h (Go n) r = refl
cleared_learns m x h (Done fault) r = fault_learned x.target h fault (Making x h) refl

closed_learns :
    (c : Closing) (learned : Option (List (Option Range))) (turn : Turn Closing Finish) (r : Reply)
    → Learns mkdir_layout mkdir_taught (Ending c learned) r (mkdir_closed learned turn)
closed_learns c learned (Go n) r = refl
closed_learns c learned (Done f) r = refl

pub mkdir_learns :
    (m : Mkdir) (r : Reply) (at : ℕ) → Learns mkdir_layout mkdir_taught m r (mkdir_after m r at)
mkdir_learns (Securing x m) r at = secured_learns x m (section_after m r at) r (taught_at (entry_of x.target) m r at 0)
mkdir_learns (Measuring x h) r at = shown_learned x h r
mkdir_learns (Restarting x layout m) r at = restarted_learns x layout m (restart_after m r at) r
mkdir_learns (Sweeping m x h) r at = cleared_learns m x h (sweep_after m r) r
mkdir_learns (Making x h) r at = fault_learned x.target h (fault_of r) (made_by (is_carried (reply_kind r)) x h at) (of_made (HasLearned x.target h) x h at (is_carried (reply_kind r)) refl (λ b. refl) refl)
mkdir_learns (Copying x h b line) r at = fault_learned x.target h (fault_of r) (copied_by (has_copy r && nat_lt b.0 x.target.location.bricks) x h b line) (of_copied (HasLearned x.target h) x h b line (has_copy r && nat_lt b.0 x.target.location.bricks) refl (λ i. refl))
mkdir_learns (Ending c learned) r at = closed_learns c learned (closing_after c) r

-- ---- the error that it notes

abbrev Notes : Mkdir → Reply → Turn Mkdir Ended → Type 0
Notes m r turn = NotesFault mkdir_fault m (mkdir_stage m).asks.request r turn

-- an answer that is no error of a brick
abbrev IsSound : Mkdir → Type 0
IsSound n = mkdir_fault n ≡ None

held_sound : (x : Round) (h : Held) → IsSound (mkdir_held x h)
held_sound x h = of_held IsSound x h refl refl refl (λ m y e. refl) (λ y e. refl) refl

secured_notes :
    (x : Round) (m : Section) (turn : Turn Section Opened) (r : Reply)
    → MatchTurn turn (λ n. section_fault n ≡ fault_now m r) (λ d. opened_fault d ≡ fault_now m r)
    → Notes (Securing x m) r (mkdir_secured x turn)
secured_notes x m (Go n) r e = section_notes m r (section_fault n) e
secured_notes x m (Done (Holding h)) r e = held_sound x h ∙ section_notes m r None e
secured_notes x m (Done (IsGone g at)) r e = section_notes m r None e
secured_notes x m (Done (IsStopped y)) r e = section_notes m r (Some y) e

-- where a reply tells of a brick's error, that ends it
fault_notes :
    (l : Location) (h : Held) (r : Reply) (o : Option Errno) (n : Mkdir) → fault_of r ≡ o
    → IsSound n → mkdir_fault (unless_fault o l h n) ≡ fault_of r
fault_notes l h r None n e sound = sound ∙ sym e
fault_notes l h r (Some y) n e sound = ap part_fault (sym e) ∙ fault_errors r

restarted_notes :
    (x : Target) (layout : List (Option Range)) (m : Restart) (turn : Turn Restart Restarted)
    (r : Reply)
    → NotesRestart m r turn → Notes (Restarting x layout m) r (mkdir_restarted x layout turn)
restarted_notes x layout m (Go n) r e = e
restarted_notes x layout m (Done (Ready p room)) r e = e
restarted_notes x layout m (Done (Stopped y)) r e = e

swept_fault :
    (x : NewDir) (h : Held) (fault : Option Errno)
    → mkdir_fault (unless_fault fault x.target.location h (Making x h)) ≡ part_fault fault
swept_fault x h None = refl
swept_fault x h (Some e) = refl

cleared_notes :
    (m : Sweep) (x : NewDir) (h : Held) (turn : Turn Sweep (Option Errno)) (r : Reply)
    → EndsByFault r turn → Notes (Sweeping m x h) r (mkdir_cleared x h turn)
cleared_notes m x h (Go n) r e = sym e
cleared_notes m x h (Done fault) r e = swept_fault x h fault ∙ (ap part_fault e ∙ fault_errors r)

closed_notes :
    (c : Closing) (learned : Option (List (Option Range))) (r : Reply) (v : Bool)
    → Notes (Ending c learned) r
    (mkdir_closed learned
    (if v
    then Go (record { scope = c.scope; place = c.place - 1; finish = c.finish })
    else Done c.finish))
closed_notes c learned r true = either_none (brick_fault c.finish.answer)
closed_notes c learned r false = either_none (brick_fault c.finish.answer)

pub mkdir_notes : (m : Mkdir) (r : Reply) (at : ℕ) → Notes m r (mkdir_after m r at)
mkdir_notes (Securing x m) r at = secured_notes x m (section_after m r at) r (notes_fault m r at)
mkdir_notes (Measuring x h) r at = fault_notes x.target.location h r (fault_of r) (shown_by (depth_shown r) x h) refl (of_shown IsSound x h refl refl refl (λ m y e. refl) (λ y e. refl) (depth_shown r) refl)
mkdir_notes (Restarting x layout m) r at = restarted_notes x layout m (restart_after m r at) r (restart_notes m r at)
mkdir_notes (Sweeping m x h) r at = cleared_notes m x h (sweep_after m r) r (sweep_noted m r)
mkdir_notes (Making x h) r at = fault_notes x.target.location h r (fault_of r) (made_by (is_carried (reply_kind r)) x h at) refl (of_made IsSound x h at (is_carried (reply_kind r)) refl (λ b. refl) refl)
mkdir_notes (Copying x h b line) r at = fault_notes x.target.location h r (fault_of r) (copied_by (has_copy r && nat_lt b.0 x.target.location.bricks) x h b line) refl (of_copied IsSound x h b line (has_copy r && nat_lt b.0 x.target.location.bricks) refl (λ i. refl))
mkdir_notes (Ending c learned) r at = closed_notes c learned r (nat_lt 0 c.place)

-- ---- what it sends again

-- a reply that shows no record shows no depth
not_shown : (r : Reply) → is_shown r ≡ false → depth_shown r ≡ None
not_shown (Carried given) e = absurd (let z : true ≡ false = e in cc)
not_shown (Declined why) e = refl
not_shown (Wait holder) e = refl
not_shown Down e = refl
not_shown Failed e = refl
not_shown NoMemory e = refl

shown_again :
    (x : Round) (h : Held) (r : Reply) → fault_of r ≡ None → is_shown r ≡ false
    → mkdir_shown x h r ≡ Measuring x h
shown_again x h r z e = ap (λ (o : Option Errno). unless_fault o x.target.location h (shown_by (depth_shown r) x h)) z ∙ ap (λ (o : Option ℕ). shown_by o x h) (not_shown r e)

pub mkdir_again :
    (m : Mkdir) (r : Reply) (at : ℕ) → IsUnanswered (mkdir_stage m) r → mkdir_after m r at ≡ Go m
mkdir_again (Securing x m) r at h = absurd (never_unanswered m r h)
mkdir_again (Measuring x k) r at h = ap Go (shown_again x k r h.0 h.1)
mkdir_again (Restarting x layout m) r at h = ap (mkdir_restarted x layout) (restart_again m r at h)
mkdir_again (Sweeping m x k) r at h = ap (mkdir_cleared x k) (sweep_again (held_locks k) None m r h)
mkdir_again (Making x k) r at h = absurd h.1
mkdir_again (Copying x k b line) r at h = absurd h.1
mkdir_again (Ending c learned) r at h = absurd h.1

-- ---- its beginning

pub first_knows :
    (bricks : ℕ) (d : Gfid) (n : List ℕ) (o : Origin) (room : HealRoom) (s : Scene)
    → MayMkdir bricks d n o room s → (mkdir_stage (first_mkdir bricks d n o room)).knows s
first_knows bricks d n o room s h = (
  one_knows bricks d Shared n s (one_fresh bricks d Shared n s h.count h.home h.deeds),
  record { comes = record { call = h.call; origin_is = h.origin_is }; scope = refl; memory = h.memory; whole = tt },
)

pub first_starts :
    (bricks : ℕ) (d : Gfid) (n : List ℕ) (o : Origin) (room : HealRoom)
    → StartsMkdir bricks d (mkdir_stage (first_mkdir bricks d n o room))
first_starts bricks d n o room =
    let x = starts bricks d Shared n in
    let v = x.variant in
    record { brick = x.brick; request = x.request; claims = x.claims; variant = omega arith }
