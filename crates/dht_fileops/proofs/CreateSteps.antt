-- The steps of a create.
use Rattle.std.proofs.Common.{◌≡◌, ◌<◌, ◌≤◌, ◌+◌, ◌*◌, ◌-◌, ◌^◌, ℕ, Bool, true, false, refl, sym, ◌∙◌, ap, subst, arith, List}
use Rattle.std.specs.Prelude.{Option, Some, None, MatchOption, is_none, length, suc, nat_lt, ◌&&◌, if◌then◌else◌}
use Rattle.dht_types.specs.Gfid.{made}
use Rattle.dht_types.specs.History.{Deeds, IsAlone, IsUndisturbed, Tells, deeds_after, is_carried}
use Rattle.dht_types.specs.Tree.{Tree, Node, IsDir, IsFile, Refuse, says, created, answer_of}
use Rattle.dht_types.specs.declared.calls.Answer.TheVariants.{Made, Fault}
use Rattle.dht_types.specs.declared.calls.Call.{Call}
use Rattle.dht_types.specs.declared.calls.Call.TheVariants.{Create as Called}
use Rattle.dht_types.specs.declared.calls.TreeStep.{TreeStep}
use Rattle.dht_types.specs.declared.calls.TreeStep.TheVariants.{AddFile}
use Rattle.dht_types.specs.declared.errors.Errno.{Errno}
use Rattle.dht_types.specs.declared.errors.Errno.TheVariants.{Eexist, Estale}
use Rattle.dht_types.specs.declared.identifiers.BrickNo.{BrickNo}
use Rattle.dht_types.specs.declared.identifiers.CallNo.{CallNo}
use Rattle.dht_types.specs.declared.identifiers.ClientNo.{ClientNo}
use Rattle.dht_types.specs.declared.identifiers.Gfid.{Gfid}
use Rattle.dht_types.specs.declared.locks.Mode.TheVariants.{Shared}
use Rattle.dht_types.specs.declared.stored.Main.{Main}
use Rattle.dht_types.specs.declared.stored.Main.TheVariants.{Dir, File, Linkto}
use Rattle.dht_types.specs.declared.stored.Record.{Record}
use Rattle.dht_types.specs.declared.stored.Slot.{Slot}
use Rattle.dht_xattr.specs.declared.range.Range.{Range}
use Rattle.dht_brick.specs.Contents.{bare}
use Rattle.dht_brick.specs.Kinds.{reply_kind}
use Rattle.dht_brick.specs.Outcome.{reply_in}
use Rattle.dht_brick.specs.Parts.{is_bare, is_linkto, with_main}
use Rattle.dht_brick.specs.declared.replies.Given.TheVariants.{Nothing}
use Rattle.dht_brick.specs.declared.replies.Reply.{Reply}
use Rattle.dht_brick.specs.declared.replies.Reply.TheVariants as reply
use Rattle.dht_brick.specs.declared.requests.NameRequest.TheVariants.{Create as Make}
use Rattle.dht_brick.specs.declared.requests.Request.TheVariants.{OnNames}
use Rattle.dht_section.proofs.ClaimLaws.{claims_more}
use Rattle.dht_section.proofs.ClosingSteps.{closes, closing_moves}
use Rattle.dht_section.proofs.FirstSection.{one_fresh, one_knows, starts}
use Rattle.dht_section.proofs.KeptLaws.{held_kept, held_left, kept_housed}
use Rattle.dht_section.proofs.LocationLaws.{looked_is}
use Rattle.dht_section.proofs.PartSteps.{part_served, part_goes_on, part_ends}
use Rattle.dht_section.proofs.SceneLaws.{carried_sound, carried_step, fault_earned, real_is, row_reply}
use Rattle.dht_section.proofs.SectionParts.{either_none, fault_errors, gone_directory, gone_earned, never_unanswered, section_notes}
use Rattle.dht_section.proofs.SectionSteps.{keeps_scope, leaves_unlocks, names_gone, notes_fault, section_moves}
use Rattle.dht_section.proofs.SlotLaws.{slot_carried}
use Rattle.dht_section.proofs.SweepSteps.{KeepsLocation, sweep_again, sweep_begins, sweep_kept, sweep_moves, sweep_noted, sweep_same}
use Rattle.dht_section.proofs.TaughtLaws.{taught_at}
use Rattle.dht_section.proofs.UnlockingSteps.{scope_moved}
use Rattle.dht_section.proofs.WholeSteps.{ends_with_holder}
use Rattle.dht_section.specs.Again.{IsUnanswered}
use Rattle.dht_section.specs.Closing.{closing_after, closing_of, closing_stage}
use Rattle.dht_section.specs.Disk.{dir_at, file_at, slot_at}
use Rattle.dht_section.specs.Ended.{Learns, ended}
use Rattle.dht_section.specs.Faults.{NotesFault, brick_fault, part_fault}
use Rattle.dht_section.specs.Invariant.{ByRecord}
use Rattle.dht_section.specs.Location.{IsHeldAt, entry_at, scope_at}
use Rattle.dht_section.specs.Looks.{IsNoDir, file_in}
use Rattle.dht_section.specs.Moves.{Guarantee, deeds_by, step_of}
use Rattle.dht_section.specs.OriginLaws.{comes_from_moved}
use Rattle.dht_section.specs.Parts.{EndsByFault, part_ending}
use Rattle.dht_section.specs.ReleaseLaws.{begins_anew}
use Rattle.dht_section.specs.Replies.{fault_of}
use Rattle.dht_section.specs.Scene.{Scene, Sound, MayAnswer, fault_finish}
use Rattle.dht_section.specs.Section.{IsLooked, KeepsScope, LeavesUnlocks, NamesGone, Outlasts, all_claimed, begun, fault_now, held_layout, held_looked, last_lock, node_seen, opened_ending, opened_fault, section_after, section_fault, section_scope, section_stage, section_taught, turn_layout}
use Rattle.dht_section.specs.Shapes.{either}
use Rattle.dht_section.specs.Stages.{Served, GoesOn, EndsIn, Moves, MatchTurn, answered}
use Rattle.dht_section.specs.Sweep.{IsKept, IsLeft, IsSwept, Sweeps, first_sweep, next_linkto, seen_linktos, sweep_after, sweep_at, sweep_stage}
use Rattle.dht_section.specs.Views.{core, visible}
use Rattle.dht_section.specs.Want.{Scoped}
use Rattle.dht_section.specs.Whole.{EndsWhole, SeesWhole}
use Rattle.dht_section.specs.declared.closing.Closing.{Closing}
use Rattle.dht_section.specs.declared.ended.Ended.{Ended}
use Rattle.dht_section.specs.declared.location.Location.{Location}
use Rattle.dht_section.specs.declared.looks.Looked.{Looked}
use Rattle.dht_section.specs.declared.looks.What.{What}
use Rattle.dht_section.specs.declared.looks.What.TheVariants as what
use Rattle.dht_section.specs.declared.machine.Ask.{Ask}
use Rattle.dht_section.specs.declared.machine.Finish.{Finish}
use Rattle.dht_section.specs.declared.machine.Turn.{Turn}
use Rattle.dht_section.specs.declared.machine.Turn.TheVariants.{Go, Done}
use Rattle.dht_section.specs.declared.origin.Origin.{Origin}
use Rattle.dht_section.specs.declared.section.Held.{Held}
use Rattle.dht_section.specs.declared.section.Opened.{Opened}
use Rattle.dht_section.specs.declared.section.Opened.TheVariants.{Held as Holding, Gone as IsGone, Stopped as IsStopped}
use Rattle.dht_section.specs.declared.section.Prepared.{Prepared}
use Rattle.dht_section.specs.declared.section.Section.{Section}
use Rattle.dht_section.specs.declared.sweep.Sweep.{Sweep}
use Rattle.dht_heal.proofs.HealBeginning.{claims_on}
use Rattle.dht_heal.proofs.HealSteps.{room_moved}
use Rattle.dht_heal.proofs.RestartSteps.{anew_next, begun_variant, has_ready, ready_holds, ready_there, restart_again, restart_keeps, restart_moves, restart_notes, restarts}
use Rattle.dht_heal.specs.Heal.{IsRoom}
use Rattle.dht_heal.specs.Restart.{EndsAnew, KeepsScope as KeepsRestart, NotesFault as NotesRestart, SeesAnew, first_dir, first_restart, ready_holder, restart_after, restart_stage, restarted_ending}
use Rattle.dht_heal.specs.declared.restart.Restart.{Restart}
use Rattle.dht_heal.specs.declared.restart.Restarted.{Restarted}
use Rattle.dht_heal.specs.declared.restart.Restarted.TheVariants.{Ready, Stopped}
use Rattle.dht_heal.specs.declared.room.HealRoom.{HealRoom}
use Rattle.dht_fileops.specs.Create.{Clears, ComesOf, IsFree, Makes, MayCreate, MayMake, Renews, Secures, StartsCreate, after_section, clearing, closed, create_after, create_answered, create_at, create_by, create_cleared, create_closed, create_fault, create_layout, create_placed, create_restarted, create_secured, create_stage, create_swept, create_taught, create_unless, first_create, held_locks, new_file, renewing}
use Rattle.dht_fileops.specs.CreateLaws.{file_unused, free_says}
use Rattle.dht_section.specs.Finish.{made_at, refused_at}
use Rattle.dht_fileops.specs.declared.create.Create.{Create}
use Rattle.dht_fileops.specs.declared.create.Create.TheVariants.{Securing, Restarting, Sweeping, Creating, Ending}
use Rattle.dht_fileops.specs.declared.create.NewFile.{NewFile}
use Rattle.dht_fileops.specs.declared.create.Target.{Target}

-- a create went on so, or ended
abbrev Went : Create → Reply → Scene → Turn Create Ended → Type 0
Went m r t turn = MatchTurn turn (λ n. GoesOn (create_stage m) (create_stage n) r t) (λ d. EndsIn (create_stage m) (ended d) t)

-- ---- the file

same_made :
    (n k : ℕ) (c d : ClientNo) (x y : CallNo) (h : ℕ) → k ≡ n → d ≡ c → y ≡ x
    → made n c x h ≡ made k d y h
same_made n k c d x y h e f g = ap (λ (i : ℕ). made i c x h) (sym e) ∙ (ap (λ (i : ClientNo). made k i x h) (sym f) ∙ ap (λ (i : CallNo). made k d i h) (sym g))

comes_moved :
    (x : Target) (s t : Scene) (a : Ask) (r : Reply) → ComesOf x s → Guarantee s a r t → ComesOf x t
comes_moved x s t a r h m = record { call = m.mine.call ∙ h.call; origin_is = comes_from_moved x.origin s t a r h.origin_is m }

makes_moved :
    (x : NewFile) (l : Location) (s t : Scene) (a : Ask) (r : Reply) → Makes x l s
    → Guarantee s a r t → Makes x l t
makes_moved x l s t a r h m = record {
  call = m.mine.call ∙ h.call;
  there = let w = h.there in let c = m.disk.count in omega arith;
  file = h.file ∙ same_made s.history.run t.history.run s.who t.who s.mine.number t.mine.number x.holder.0 m.run m.who m.mine.number;
  small = subst (λ (k : CallNo). k.0 < 2 ^ 64) (sym m.mine.number) h.small;
}

-- the file of the call's origin is the call's own
makes_own :
    (x : Target) (b : ℕ) (s : Scene) → b < s.disk.count → ComesOf x s
    → Makes (new_file x.origin b) x.location s
makes_own x b s there h =
    let o = h.origin_is in
    record {
      call = h.call;
      there = there;
      file = same_made x.origin.run s.history.run x.origin.client s.who x.origin.call s.mine.number b (sym o.run) (sym o.client) (sym o.number);
      small = subst (λ (i : CallNo). i.0 < 2 ^ 64) o.number o.small;
    }

-- under both locks the file may go to the name's holder
may_make :
    (x : Target) (h : Held) (b : ℕ) (s : Scene) → Sound s → ComesOf x s → IsHeldAt x.location h s
    → ready_holder x.location h ≡ Some b → MayMake (new_file x.origin b) x.location h s
may_make x h b s sound comes k e = record {
  makes = makes_own x b s (ready_there x.location h b s sound k e) comes;
  kept = held_kept x.location h s k;
  holder = ready_holds x.location h b e;
}

-- ---- the section

-- a name that is there is told to be
says_exists :
    (p : Tree) (d : Gfid) (n : List ℕ) (node : Node) (g : Gfid) → p.dirs d ≡ true
    → p.names (d, n) ≡ Some node → answer_of (says p (Called d n) g) ≡ Some (Fault Eexist)
says_exists p d n node g e k = ap (λ b. answer_of (if b then created d n g (p.names (d, n)) else Refuse Estale)) e ∙ ap (λ (o : Option Node). answer_of (created d n g o)) k

exists_earned :
    (bricks : ℕ) (x : Target) (y : Looked) (node : Node) (s : Scene)
    → node_seen y.sight.what ≡ Some node → ComesOf x s → s.mine.deeds ≡ None
    → IsLooked bricks (entry_at x.location) y s → MayAnswer (refused_at Eexist y.at) s
exists_earned bricks x y node s e comes fresh k = record {
  point = y.at;
  printed = refl;
  after = k.saw.after;
  before = k.saw.before;
  tells = subst (λ (d : Option Deeds). Tells s.history s.mine.call d y.at (Fault Eexist)) (sym fresh)
      (λ (g : Gfid). ap (λ (c : Call Gfid). answer_of (says (s.history.past y.at) c g)) comes.call
      ∙ says_exists (s.history.past y.at) x.location.directory x.location.name node g k.saw.directory (k.saw.node ∙ e));
}

-- after any section a file may be made
after_most : (learned : Option (List (Option Range))) (n : ℕ) → n + 1 ≤ after_section learned n
after_most None n = omega arith
after_most (Some layout) n = omega arith

-- a section of the name that is held, and what is known beside it
record Has (x : Target) (learned : Option (List (Option Range))) (room : HealRoom) (m : Section) (h : Held) (t : Scene) : Type 0 where
  sound : Sound t
  comes : ComesOf x t
  held : IsHeldAt x.location h t
  memory : IsRoom room t
  anew : EndsAnew learned x.location.directory (Holding h) t
  left : Outlasts m (Holding h)
  ends : EndsIn (section_stage m) (opened_ending (Holding h)) t

module _ (x : Target) (learned : Option (List (Option Range))) (room : HealRoom) (m : Section) (h : Held) (r : Reply) (t : Scene) (k : Has x learned room m h t) where
  goes_to : (n : Create) → (create_stage n).claims ≡ all_claimed h.scope → (create_stage n).knows t → (create_stage n).variant ≤ suc (last_lock h.scope) + (x.location.bricks + 1) → GoesOn (create_stage (Securing x learned room m)) (create_stage n) r t
  goes_to n claims knows few =
      let most = after_most learned x.location.bricks in
      let left = k.left in
      part_ends (section_stage m) (create_stage n) (opened_ending (Holding h)) (after_section learned x.location.bricks) (λ s. Secures x learned room m s) r t k.ends claims (omega arith) knows

  -- the locks are given back, and something has the name
  exists_step : (node : Node) → node_seen (held_looked h (entry_at x.location)).sight.what ≡ Some node → GoesOn (create_stage (Securing x learned room m)) (create_stage (closed x.location h (refused_at Eexist (held_looked h (entry_at x.location)).at))) r t
  exists_step node e =
      let y = held_looked h (entry_at x.location) in
      let earned = exists_earned h.scope.bricks x y node t e k.comes k.held.held.fresh.deeds (looked_is x.location h t k.held) in
      goes_to (closed x.location h (refused_at Eexist y.at)) refl (closes h (refused_at Eexist y.at) t k.ends.earned earned).knows (omega arith)

  -- or nothing has it, and linktos of it are left, or none is
  clearing_step : (b : ℕ) (o : Option BrickNo) → MatchOption (sweep_at x.location (seen_linktos x.location h) o) (IsSwept x.location None t) (λ n. Sweeps None n t) → MayMake (new_file x.origin b) x.location h t → GoesOn (create_stage (Securing x learned room m)) (create_stage (clearing (sweep_at x.location (seen_linktos x.location h) o) (new_file x.origin b) x.location h)) r t
  clearing_step b None w may = goes_to (Creating (new_file x.origin b) x.location h) refl (record { may = may; swept = w }) (omega arith)
  clearing_step b (Some c) w may = goes_to (clearing (sweep_at x.location (seen_linktos x.location h) (Some c)) (new_file x.origin b) x.location h) refl (w, record { name = refl; may = may }) (omega arith)

  placed_step : (b : ℕ) → (held_looked h (entry_at x.location)).sight.what ≡ what.Absent → ready_holder x.location h ≡ Some b → GoesOn (create_stage (Securing x learned room m)) (create_stage (create_placed x h b)) r t
  placed_step b e holds =
      let plain : IsNoDir (held_looked h (entry_at x.location)).sight.what = subst IsNoDir (sym e) tt in
      let w : IsLeft x.location None (seen_linktos x.location h) 0 t = subst (λ (y : What). IsLeft x.location (file_in y) (seen_linktos x.location h) 0 t) e (held_left x.location h t k.sound k.held plain) in
      clearing_step b (next_linkto x.location.bricks (seen_linktos x.location h) 0) (sweep_begins x.location h None t w) (may_make x h b t k.sound k.comes k.held holds)

  -- no heal is needed after one, while the call is alone
  needs_none : (layout : List (Option Range)) → learned ≡ Some layout → ready_holder x.location h ≡ None → IsAlone t.history t.mine → ⊥
  needs_none layout e none now =
      let ends : EndsWhole x.location.directory (Holding h) t = subst (λ (o : Option (List (Option Range))). EndsAnew o x.location.directory (Holding h) t) e k.anew in
      let has = ends_with_holder x.location h t k.sound k.held ends now in
      let z : Some has.brick ≡ None = sym (has_ready x.location h t has) ∙ none in
      cc

  -- or no brick can hold it: the directory is healed
  renewing_nearer : (o : Option (List (Option Range))) → learned ≡ o → ready_holder x.location h ≡ None → IsUndisturbed t.history t.mine → (restart_stage (first_restart h room)).variant + (2 * x.location.bricks + 6) < (section_stage m).variant + after_section o x.location.bricks
  renewing_nearer None e none u =
      let begins = restarts h room t k.held.held k.memory (subst (λ (w : Scoped). 0 < length w.names) (sym k.held.scope) (omega arith)) in
      let variant = begins.variant in
      let left = k.left in
      let some = k.held.held.order.some in
      let bricks = ap (λ (w : Scoped). w.bricks) k.held.scope in
      omega arith
  renewing_nearer (Some layout) e none u = absurd (needs_none layout e none (record { first = u.first; last = u.last }))

  renewing_step : ready_holder x.location h ≡ None → GoesOn (create_stage (Securing x learned room m)) (create_stage (renewing x room h)) r t
  renewing_step none =
      let begins = restarts h room t k.held.held k.memory (subst (λ (w : Scoped). 0 < length w.names) (sym k.held.scope) (omega arith)) in
      record {
        claims = k.ends.claims;
        knows = (begins.knows, record { comes = k.comes; scope = k.held.scope });
        nearer = λ u. (λ w. renewing_nearer learned refl none u, let n = renewing_nearer learned refl none u in omega arith);
      }

  absent_step : (o : Option ℕ) → (held_looked h (entry_at x.location)).sight.what ≡ what.Absent → ready_holder x.location h ≡ o → GoesOn (create_stage (Securing x learned room m)) (create_stage (create_at o x room h)) r t
  absent_step None e q = renewing_step q
  absent_step (Some b) e q = placed_step b e q

  held_by : (y : What) → (held_looked h (entry_at x.location)).sight.what ≡ y → GoesOn (create_stage (Securing x learned room m)) (create_stage (create_by y x room h)) r t
  held_by what.Absent e = absent_step (ready_holder x.location h) e refl
  held_by (what.Dir g) e = exists_step (IsDir g) (ap node_seen e)
  held_by (what.File f b links) e = exists_step (IsFile f) (ap node_seen e)

refuses_create :
    (l : Location) (p : Tree) (g : Gfid) → p.dirs l.directory ≡ false
    → answer_of (says p (Called l.directory l.name) g) ≡ Some (Fault Estale)
refuses_create l p g e = ap (λ b. answer_of (if b then created l.directory l.name g (p.names (entry_at l)) else Refuse Estale)) e

secured_step :
    (x : Target) (learned : Option (List (Option Range))) (room : HealRoom) (m : Section)
    (turn : Turn Section Opened) (r : Reply) (at : ℕ) (s t : Scene)
    → MatchTurn turn (λ n. GoesOn (section_stage m) (section_stage n) r t)
    (λ d. EndsIn (section_stage m) (opened_ending d) t)
    → MatchTurn turn (λ n. SeesAnew learned x.location.directory n t)
    (λ d. EndsAnew learned x.location.directory d t)
    → KeepsScope m turn → NamesGone m turn → LeavesUnlocks m turn
    → Served (create_stage (Securing x learned room m)) r at s t
    → Went (Securing x learned room m) r t (create_secured x learned room turn)
secured_step x learned room m (Go n) r at s t went anew same gone left v =
    let k = v.is_at.knows.1 in
    part_goes_on (section_stage m) (section_stage n) (after_section learned x.location.bricks) (λ s. Secures x learned room m s) (λ s. Secures x learned room n s) r t went
    (record { comes = comes_moved x s t _ r k.comes v.moved; scope = same ∙ k.scope; memory = room_moved room s t _ r k.memory v.moved; whole = anew })
secured_step x learned room m (Done (Holding h)) r at s t went anew same gone left v =
    let k = v.is_at.knows.1 in
    held_by x learned room m h r t (record {
      sound = v.after;
      comes = comes_moved x s t _ r k.comes v.moved;
      held = record { held = went.earned; scope = same ∙ k.scope };
      memory = room_moved room s t _ r k.memory v.moved;
      anew = anew;
      left = left;
      ends = went;
    }) (held_looked h (entry_at x.location)).sight.what refl
secured_step x learned room m (Done (IsGone g line)) r at s t went anew same gone left v =
    let k = v.is_at.knows in
    let l = x.location in
    record {
      claims = went.claims;
      earned = gone_earned l.directory (Called l.directory l.name) g line t (refuses_create l) (v.moved.mine.call ∙ k.1.comes.call) (gone_directory l (section_scope m) g k.1.scope gone) went.earned;
    }
secured_step x learned room m (Done (IsStopped e)) r at s t went anew same gone left v = record { claims = went.claims; earned = went.earned }

-- ---- the heal

-- the section begins anew
anew_step :
    (x : Target) (layout : List (Option Range)) (m : Restart) (p : Prepared) (room : HealRoom)
    (r : Reply) (t : Scene)
    → ComesOf x t → p.scope ≡ scope_at x.location
    → EndsIn (restart_stage m) (restarted_ending (Ready p room)) t
    → GoesOn (create_stage (Restarting x layout m))
    (create_stage (Securing x (Some layout) room (begun p))) r t
anew_step x layout m p room r t comes same ends =
    let variant = begun_variant x.location p same in
    record {
      claims = claims_on t _ (section_stage (begun p)).claims.locks ends.claims;
      knows = (
        begins_anew p t ends.earned.begins,
        record {
          comes = comes;
          scope = same;
          memory = ends.earned.memory;
          whole = subst (λ (g : Gfid). SeesWhole g (begun p) t) (ap first_dir same) ends.earned.whole;
        },
      );
      nearer = λ u. (λ w. omega arith, omega arith);
    }

restarted_step :
    (x : Target) (layout : List (Option Range)) (m : Restart) (turn : Turn Restart Restarted)
    (r : Reply) (at : ℕ) (s t : Scene)
    → MatchTurn turn (λ n. GoesOn (restart_stage m) (restart_stage n) r t)
    (λ d. EndsIn (restart_stage m) (restarted_ending d) t)
    → KeepsRestart m turn → Served (create_stage (Restarting x layout m)) r at s t
    → Went (Restarting x layout m) r t (create_restarted x layout turn)
restarted_step x layout m (Go n) r at s t went same v =
    let k = v.is_at.knows.1 in
    part_goes_on (restart_stage m) (restart_stage n) (2 * x.location.bricks + 6) (λ s. Renews x m s) (λ s. Renews x n s) r t went (record { comes = comes_moved x s t _ r k.comes v.moved; scope = same ∙ k.scope })
restarted_step x layout m (Done (Ready p room)) r at s t went same v =
    let k = v.is_at.knows.1 in
    anew_step x layout m p room r t (comes_moved x s t _ r k.comes v.moved) (same ∙ k.scope) went
restarted_step x layout m (Done (Stopped e)) r at s t went same v = record { claims = went.claims; earned = went.earned }

-- ---- the sweep

-- an answer that is earned is given once the locks are given back
closing_knows :
    (l : Location) (h : Held) (f : Finish) (s t : Scene) (a : Ask) (r : Reply) → IsKept l h s
    → MayAnswer f t → Guarantee s a r t → (closing_stage (closing_of h f)).knows t
closing_knows l h f s t a r k earned m =
    let some = k.order.some in
    record { order = k.order; scope = scope_moved h.scope s t a r k.fresh.scope m; within = omega arith; earned = earned }

may_kept :
    (m : Sweep) (x : NewFile) (l : Location) (h : Held) (r : Reply) (at : ℕ) (s t : Scene)
    → fault_of r ≡ None → Served (create_stage (Sweeping m x l h)) r at s t → MayMake x l h t
may_kept m x l h r at s t z v =
    let k = v.is_at.knows.1 in
    record {
      makes = makes_moved x l s t _ r k.may.makes v.moved;
      kept = subst (λ (y : Location). IsKept y h t) k.name
          (sweep_kept None m h s t r v.before v.is_at.knows.0 z v.moved (subst (λ (y : Location). IsKept y h s) (sym k.name) k.may.kept));
      holder = k.may.holder;
    }

sweep_some :
    (m : Sweep) (h : Held) (s : Scene) → Sweeps None m s
    → 0 < (sweep_stage (held_locks h) None m).variant
sweep_some m h s w = let l = w.there in omega arith

cleared_step :
    (m : Sweep) (x : NewFile) (l : Location) (h : Held) (turn : Turn Sweep (Option Errno))
    (r : Reply) (at : ℕ) (s t : Scene)
    → MatchTurn turn
    (λ n. GoesOn (sweep_stage (held_locks h) None m) (sweep_stage (held_locks h) None n) r t)
    (λ d.
    EndsIn (sweep_stage (held_locks h) None m)
    (part_ending (held_locks h) (IsSwept m.location None) d) t)
    → EndsByFault r turn → KeepsLocation m turn → Served (create_stage (Sweeping m x l h)) r at s t
    → Went (Sweeping m x l h) r t (create_cleared x l h turn)
cleared_step m x l h (Go n) r at s t went noted same v = part_goes_on (sweep_stage (held_locks h) None m) (sweep_stage (held_locks h) None n) (suc (last_lock h.scope) + 1) (λ s. Clears m x l h s) (λ s. Clears n x l h s) r t went (record { name = same ∙ v.is_at.knows.1.name; may = may_kept m x l h r at s t noted v })
cleared_step m x l h (Done None) r at s t went noted same v =
    let some = sweep_some m h s v.is_at.knows.0 in
    part_ends (sweep_stage (held_locks h) None m) (create_stage (Creating x l h)) (part_ending (held_locks h) (IsSwept m.location None) None) (suc (last_lock h.scope) + 1) (λ s. Clears m x l h s) r t went refl (omega arith)
    (record { may = may_kept m x l h r at s t (sym noted) v; swept = subst (λ (y : Location). IsSwept y None t) v.is_at.knows.1.name went.earned })
cleared_step m x l h (Done (Some e)) r at s t went noted same v =
    let some = sweep_some m h s v.is_at.knows.0 in
    part_ends (sweep_stage (held_locks h) None m) (create_stage (closed l h (fault_finish e))) (part_ending (held_locks h) (IsSwept m.location None) (Some e)) (suc (last_lock h.scope) + 1) (λ s. Clears m x l h s) r t went refl (omega arith)
    (closing_knows l h (fault_finish e) s t _ r v.is_at.knows.1.may.kept went.earned v.moved)

-- ---- the create

-- it ends with an answer that it has earned
closed_step :
    (x : NewFile) (l : Location) (h : Held) (f : Finish) (r : Reply) (at : ℕ) (s t : Scene)
    → MayAnswer f t → Served (create_stage (Creating x l h)) r at s t
    → GoesOn (create_stage (Creating x l h)) (create_stage (closed l h f)) r t
closed_step x l h f r at s t earned v = record {
  claims = claims_more _ r at s t _ v (λ b key i. i);
  knows = closing_knows l h f s t _ r v.is_at.knows.may.kept earned v.moved;
  nearer = λ u. (λ w. omega arith, omega arith);
}

made_earned :
    (x : NewFile) (l : Location) (h : Held) (r : Reply) (at : ℕ) (s t : Scene)
    → is_carried (reply_kind r) ≡ true → Served (create_stage (Creating x l h)) r at s t
    → MayAnswer (made_at x.file at) t
made_earned x l h r at s t e v =
    let free : IsFree x l h s = v.is_at.knows in
    let m = v.moved in
    let begun = v.after.begun in
    let line = v.line in
    let step : TreeStep = AddFile l.directory l.name x.file in
    let done : step_of x.holder.0 (OnNames (Make l.directory l.name x.file)) m.real ≡ Some step = ap (λ (y : Reply). step_of x.holder.0 (OnNames (Make l.directory l.name x.file)) y) (real_is s t _ r m (carried_sound r e)) ∙ carried_step x.holder.0 (Make l.directory l.name x.file) r e in
    let deeds : t.mine.deeds ≡ Some (deeds_after s.history.tree t.history.size s.mine.call None step) =
    m.mine.deeds_are
    ∙ (ap (λ (o : Option TreeStep). deeds_by s t.history.size o) done
    ∙ ap (λ (d : Option Deeds). Some (deeds_after s.history.tree t.history.size s.mine.call d step)) free.may.kept.fresh.deeds) in
    record {
      point = at;
      printed = refl;
      after = omega arith;
      before = omega arith;
      tells = subst (λ (d : Option Deeds). Tells t.history t.mine.call d at (Made x.file)) (sym deeds) (sym line, free_says x l h s v.before free);
    }

-- the holder has neither the name, nor a linkto of it, nor
-- the file, so a create that finds it up is carried out
bare_main : (m : Option Main) → visible m ≡ None → is_linkto m ≡ false → m ≡ None
bare_main None e k = refl
bare_main (Some (Dir g)) e k = absurd (let z : Some (Dir g) ≡ None = e in cc)
bare_main (Some (File f over)) e k = absurd (let z : Some (File f over) ≡ None = e in cc)
bare_main (Some (Linkto v)) e k = absurd (let z : true ≡ false = k in cc)

bare_slot : (p : Slot) → core p ≡ bare → is_linkto p.main ≡ false → p ≡ bare
bare_slot p e k =
    let m : p.main ≡ None = bare_main p.main (ap (λ (x : Slot). x.main) e) k in
    let y : p.standby ≡ None = ap (λ (x : Slot). x.standby) e in
    λ i. record { main = m i; standby = y i }

free_if : (p : Slot) (o : Option Record) → p ≡ bare → o ≡ None → (is_bare p && is_none o) ≡ true
free_if p o e k = ap (λ (x : Slot). is_bare x && is_none o) e ∙ ap (λ (y : Option Record). is_bare bare && is_none y) k

no_file :
    (x : NewFile) (l : Location) (h : Held) (s : Scene) → Sound s → MayMake x l h s
    → file_at s.disk x.holder.0 x.file ≡ None
no_file x l h s sound k = by (file_at s.disk x.holder.0 x.file) refl
  where
    by : (o : Option Record) → file_at s.disk x.holder.0 x.file ≡ o → o ≡ None
    by None e = refl
    by (Some r) e = absurd (file_unused x l h s sound k (ByRecord x.holder.0 r k.makes.there e))

carried_out :
    (x : NewFile) (l : Location) (h : Held) (r : Reply) (s t : Scene) → Sound s → fault_of r ≡ None
    → IsFree x l h s → Guarantee s (create_stage (Creating x l h)).asks r t → r ≡ reply.Ok Nothing
carried_out x l h r s t sound z k m =
    let there = k.may.makes.there in
    let p : Slot = slot_at s.disk x.holder.0 (entry_at l) in
    let empty : p ≡ bare = bare_slot p (k.swept.stands.has x.holder.0 there) (k.swept.none x.holder.0 there) in
    row_reply s t _ r m z
    ∙ ap reply_in (slot_carried (Make l.directory l.name x.file) (dir_at s.disk x.holder.0 l.directory) (is_bare p && is_none (file_at s.disk x.holder.0 x.file)) (s.disk.brick x.holder.0) (entry_at l) (with_main p (File x.file None)) (kept_housed l h x.holder.0 s k.may.kept k.may.holder) (free_if p (file_at s.disk x.holder.0 x.file) empty (no_file x l h s sound k.may)))

answered_step :
    (x : NewFile) (l : Location) (h : Held) (r : Reply) (at : ℕ) (s t : Scene) (v : Bool)
    → is_carried (reply_kind r) ≡ v → fault_of r ≡ None
    → Served (create_stage (Creating x l h)) r at s t
    → GoesOn (create_stage (Creating x l h))
    (create_stage (if v then closed l h (made_at x.file at) else Creating x l h)) r t
answered_step x l h r at s t true e z v = closed_step x l h (made_at x.file at) r at s t (made_earned x l h r at s t e v) v
answered_step x l h r at s t false e z v = absurd (let q : true ≡ false = sym (ap (λ (y : Reply). is_carried (reply_kind y)) (carried_out x l h r s t v.before z v.is_at.knows v.moved)) ∙ e in cc)

unless_step :
    (x : NewFile) (l : Location) (h : Held) (r : Reply) (at : ℕ) (s t : Scene) (o : Option Errno)
    → fault_of r ≡ o → Served (create_stage (Creating x l h)) r at s t
    → GoesOn (create_stage (Creating x l h)) (create_stage (create_unless o x l h r at)) r t
unless_step x l h r at s t None z v = answered_step x l h r at s t (is_carried (reply_kind r)) refl z v
unless_step x l h r at s t (Some e) z v = closed_step x l h (fault_finish e) r at s t (fault_earned s t _ r e z v.moved) v

-- ---- the closing

closing_step :
    (c : Closing) (learned : Option (List (Option Range))) (turn : Turn Closing Finish) (r : Reply)
    (t : Scene)
    → MatchTurn turn (λ n. GoesOn (closing_stage c) (closing_stage n) r t)
    (λ d. EndsIn (closing_stage c) (answered d) t)
    → Went (Ending c learned) r t (create_closed learned turn)
closing_step c learned (Go n) r t went = went
closing_step c learned (Done f) r t went = went

-- ---- all of it

pub create_moves :
    (m : Create) (r : Reply) (at : ℕ) → Moves create_stage ended m r at (create_after m r at)
create_moves (Securing x learned room m) r at s t v =
    let part = part_served (section_stage m) (after_section learned x.location.bricks) (λ s. Secures x learned room m s) r at s t v in
    secured_step x learned room m (section_after m r at) r at s t (section_moves m r at s t part) (anew_next learned x.location.directory m r at s t part v.is_at.knows.1.whole) (keeps_scope m r at) (names_gone m r at s v.is_at.knows.0) (leaves_unlocks m r at s v.is_at.knows.0) v
create_moves (Restarting x layout m) r at s t v =
    let part = part_served (restart_stage m) (2 * x.location.bricks + 6) (λ s. Renews x m s) r at s t v in
    restarted_step x layout m (restart_after m r at) r at s t (restart_moves m r at s t part) (restart_keeps m r at) v
create_moves (Sweeping m x l h) r at s t v =
    let part = part_served (sweep_stage (held_locks h) None m) (suc (last_lock h.scope) + 1) (λ s. Clears m x l h s) r at s t v in
    cleared_step m x l h (sweep_after m r) r at s t (sweep_moves (held_locks h) None m r at s t part) (sweep_noted m r) (sweep_same m r) v
create_moves (Creating x l h) r at s t v = unless_step x l h r at s t (fault_of r) refl v
create_moves (Ending c learned) r at s t v = closing_step c learned (closing_after c) r t (closing_moves c r at s t v)

-- ---- what it learns

clearing_learned :
    (o : Option Sweep) (x : NewFile) (l : Location) (h : Held)
    → create_layout (clearing o x l h) ≡ Some (held_layout h (entry_at l))
clearing_learned None x l h = refl
clearing_learned (Some m) x l h = refl

at_learned :
    (o : Option ℕ) (x : Target) (room : HealRoom) (h : Held)
    → create_layout (create_at o x room h) ≡ Some (held_layout h (entry_at x.location))
at_learned None x room h = refl
at_learned (Some b) x room h = clearing_learned (first_sweep x.location h) (new_file x.origin b) x.location h

held_learned :
    (y : What) (x : Target) (room : HealRoom) (h : Held)
    → create_layout (create_by y x room h) ≡ Some (held_layout h (entry_at x.location))
held_learned what.Absent x room h = at_learned (ready_holder x.location h) x room h
held_learned (what.Dir g) x room h = refl
held_learned (what.File f b n) x room h = refl

secured_learns :
    (x : Target) (learned : Option (List (Option Range))) (room : HealRoom) (m : Section)
    (turn : Turn Section Opened) (r : Reply)
    → turn_layout (entry_at x.location) turn ≡ section_taught (entry_at x.location) m r
    → Learns create_layout create_taught (Securing x learned room m) r
    (create_secured x learned room turn)
secured_learns x learned room m (Go n) r e = ap (λ (o : Option (List (Option Range))). either o learned) e
secured_learns x learned room m (Done (Holding h)) r e = held_learned (held_looked h (entry_at x.location)).sight.what x room h ∙ ap (λ (o : Option (List (Option Range))). either o learned) e
secured_learns x learned room m (Done (IsGone g at)) r e = refl
secured_learns x learned room m (Done (IsStopped y)) r e = refl

restarted_learns :
    (x : Target) (layout : List (Option Range)) (m : Restart) (turn : Turn Restart Restarted)
    (r : Reply)
    → Learns create_layout create_taught (Restarting x layout m) r (create_restarted x layout turn)
restarted_learns x layout m (Go n) r = refl
restarted_learns x layout m (Done (Ready p room)) r = refl
restarted_learns x layout m (Done (Stopped e)) r = refl

swept_learned :
    (x : NewFile) (l : Location) (h : Held) (fault : Option Errno)
    → create_layout (create_swept x l h fault) ≡ Some (held_layout h (entry_at l))
swept_learned x l h None = refl
swept_learned x l h (Some e) = refl

cleared_learns :
    (m : Sweep) (x : NewFile) (l : Location) (h : Held) (turn : Turn Sweep (Option Errno))
    (r : Reply)
    → Learns create_layout create_taught (Sweeping m x l h) r (create_cleared x l h turn)
cleared_learns m x l h (Go n) r = refl
cleared_learns m x l h (Done fault) r = swept_learned x l h fault

answered_learns :
    (x : NewFile) (l : Location) (h : Held) (at : ℕ) (v : Bool)
    → create_layout (if v then closed l h (made_at x.file at) else Creating x l h)
    ≡ Some (held_layout h (entry_at l))
answered_learns x l h at true = refl
answered_learns x l h at false = refl

unless_learns :
    (x : NewFile) (l : Location) (h : Held) (r : Reply) (at : ℕ) (o : Option Errno)
    → create_layout (create_unless o x l h r at) ≡ Some (held_layout h (entry_at l))
unless_learns x l h r at None = answered_learns x l h at (is_carried (reply_kind r))
unless_learns x l h r at (Some e) = refl

closed_learns :
    (c : Closing) (learned : Option (List (Option Range))) (turn : Turn Closing Finish) (r : Reply)
    → Learns create_layout create_taught (Ending c learned) r (create_closed learned turn)
closed_learns c learned (Go n) r = refl
closed_learns c learned (Done f) r = refl

pub create_learns :
    (m : Create) (r : Reply) (at : ℕ) → Learns create_layout create_taught m r (create_after m r at)
create_learns (Securing x learned room m) r at = secured_learns x learned room m (section_after m r at) r (taught_at (entry_at x.location) m r at 0)
create_learns (Restarting x layout m) r at = restarted_learns x layout m (restart_after m r at) r
create_learns (Sweeping m x l h) r at = cleared_learns m x l h (sweep_after m r) r
create_learns (Creating x l h) r at = unless_learns x l h r at (fault_of r)
create_learns (Ending c learned) r at = closed_learns c learned (closing_after c) r

-- ---- the error that it notes

abbrev Notes : Create → Reply → Turn Create Ended → Type 0
Notes m r turn = NotesFault create_fault m (create_stage m).asks.request r turn

clearing_sound :
    (o : Option Sweep) (x : NewFile) (l : Location) (h : Held)
    → create_fault (clearing o x l h) ≡ None
clearing_sound None x l h = refl
clearing_sound (Some m) x l h = refl

at_sound :
    (o : Option ℕ) (x : Target) (room : HealRoom) (h : Held)
    → create_fault (create_at o x room h) ≡ None
at_sound None x room h = refl
at_sound (Some b) x room h = clearing_sound (first_sweep x.location h) (new_file x.origin b) x.location h

held_sound :
    (y : What) (x : Target) (room : HealRoom) (h : Held)
    → create_fault (create_by y x room h) ≡ None
held_sound what.Absent x room h = at_sound (ready_holder x.location h) x room h
held_sound (what.Dir g) x room h = refl
held_sound (what.File f b n) x room h = refl

secured_notes :
    (x : Target) (learned : Option (List (Option Range))) (room : HealRoom) (m : Section)
    (turn : Turn Section Opened) (r : Reply)
    → MatchTurn turn (λ n. section_fault n ≡ fault_now m r) (λ d. opened_fault d ≡ fault_now m r)
    → Notes (Securing x learned room m) r (create_secured x learned room turn)
secured_notes x learned room m (Go n) r e = section_notes m r (section_fault n) e
secured_notes x learned room m (Done (Holding h)) r e = held_sound (held_looked h (entry_at x.location)).sight.what x room h ∙ section_notes m r None e
secured_notes x learned room m (Done (IsGone g at)) r e = section_notes m r None e
secured_notes x learned room m (Done (IsStopped y)) r e = section_notes m r (Some y) e

restarted_notes :
    (x : Target) (layout : List (Option Range)) (m : Restart) (turn : Turn Restart Restarted)
    (r : Reply)
    → NotesRestart m r turn → Notes (Restarting x layout m) r (create_restarted x layout turn)
restarted_notes x layout m (Go n) r e = e
restarted_notes x layout m (Done (Ready p room)) r e = e
restarted_notes x layout m (Done (Stopped y)) r e = e

swept_fault :
    (x : NewFile) (l : Location) (h : Held) (fault : Option Errno)
    → create_fault (create_swept x l h fault) ≡ part_fault fault
swept_fault x l h None = refl
swept_fault x l h (Some e) = refl

cleared_notes :
    (m : Sweep) (x : NewFile) (l : Location) (h : Held) (turn : Turn Sweep (Option Errno))
    (r : Reply)
    → EndsByFault r turn → Notes (Sweeping m x l h) r (create_cleared x l h turn)
cleared_notes m x l h (Go n) r e = sym e
cleared_notes m x l h (Done fault) r e = swept_fault x l h fault ∙ (ap part_fault e ∙ fault_errors r)

answered_notes :
    (x : NewFile) (l : Location) (h : Held) (at : ℕ) (v : Bool)
    → create_fault (if v then closed l h (made_at x.file at) else Creating x l h) ≡ None
answered_notes x l h at true = refl
answered_notes x l h at false = refl

unless_notes :
    (x : NewFile) (l : Location) (h : Held) (r : Reply) (at : ℕ) (o : Option Errno) → fault_of r ≡ o
    → create_fault (create_unless o x l h r at) ≡ fault_of r
unless_notes x l h r at None e = answered_notes x l h at (is_carried (reply_kind r)) ∙ sym e
unless_notes x l h r at (Some y) e = ap part_fault (sym e) ∙ fault_errors r

closed_notes :
    (c : Closing) (learned : Option (List (Option Range))) (r : Reply) (v : Bool)
    → Notes (Ending c learned) r
    (create_closed learned
    (if v
    then Go (record { scope = c.scope; place = c.place - 1; finish = c.finish })
    else Done c.finish))
closed_notes c learned r true = either_none (brick_fault c.finish.answer)
closed_notes c learned r false = either_none (brick_fault c.finish.answer)

pub create_notes : (m : Create) (r : Reply) (at : ℕ) → Notes m r (create_after m r at)
create_notes (Securing x learned room m) r at = secured_notes x learned room m (section_after m r at) r (notes_fault m r at)
create_notes (Restarting x layout m) r at = restarted_notes x layout m (restart_after m r at) r (restart_notes m r at)
create_notes (Sweeping m x l h) r at = cleared_notes m x l h (sweep_after m r) r (sweep_noted m r)
create_notes (Creating x l h) r at = unless_notes x l h r at (fault_of r) refl
create_notes (Ending c learned) r at = closed_notes c learned r (nat_lt 0 c.place)

-- ---- what it sends again

unless_again :
    (x : NewFile) (l : Location) (h : Held) (r : Reply) (at : ℕ) → fault_of r ≡ None
    → is_carried (reply_kind r) ≡ false → create_answered x l h r at ≡ Creating x l h
unless_again x l h r at z e = ap (λ (o : Option Errno). create_unless o x l h r at) z ∙ ap (λ (v : Bool). if v then closed l h (made_at x.file at) else Creating x l h) e

pub create_again :
    (m : Create) (r : Reply) (at : ℕ) → IsUnanswered (create_stage m) r → create_after m r at ≡ Go m
create_again (Securing x learned room m) r at h = absurd (never_unanswered m r h)
create_again (Restarting x layout m) r at h = ap (create_restarted x layout) (restart_again m r at h)
create_again (Sweeping m x l k) r at h = ap (create_cleared x l k) (sweep_again (held_locks k) None m r h)
create_again (Creating x l k) r at h = ap Go (unless_again x l k r at h.0 h.1)
create_again (Ending c learned) r at h = absurd h.1

-- ---- its beginning

pub first_knows :
    (bricks : ℕ) (d : Gfid) (n : List ℕ) (o : Origin) (room : HealRoom) (s : Scene)
    → MayCreate bricks d n o room s → (create_stage (first_create bricks d n o room)).knows s
first_knows bricks d n o room s h = (
  one_knows bricks d Shared n s (one_fresh bricks d Shared n s h.count h.home h.deeds),
  record { comes = h.comes; scope = refl; memory = h.memory; whole = tt },
)

pub first_starts :
    (bricks : ℕ) (d : Gfid) (n : List ℕ) (o : Origin) (room : HealRoom)
    → StartsCreate bricks d (create_stage (first_create bricks d n o room))
first_starts bricks d n o room =
    let x = starts bricks d Shared n in
    let v = x.variant in
    record { brick = x.brick; request = x.request; claims = x.claims; variant = omega arith }
