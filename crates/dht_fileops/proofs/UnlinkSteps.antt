-- The steps of an unlink.
use Rattle.std.proofs.Common.{◌≡◌, ◌<◌, ◌≤◌, inl, inr, ◌+◌, ℕ, Bool, true, false, refl, sym, ◌∙◌, ap, subst, arith, List}
use Rattle.std.specs.Prelude.{Option, Some, None, MatchOption, is_some, length, suc, nat_eq, nat_lt, ◌-◌, ◌&&◌, ◌||◌, if◌then◌else◌}
use Rattle.std.proofs.lemmas.Bool.Decides.{nat_tests}
use Rattle.dht_types.proofs.PutLaws.{exact_entry, exact_gfid, put_same}
use Rattle.dht_types.specs.Put.{same_entry}
use Rattle.dht_types.specs.Gfid.{root}
use Rattle.dht_types.specs.History.{Deeds, HasPoint, Tells, deeds_after, is_carried}
use Rattle.dht_types.specs.Tree.{Tree, Node, Refuse, says, unlinked as tree_unlinked, answer_of}
use Rattle.dht_types.specs.declared.calls.Answer.TheVariants.{Done as IsDone, Fault}
use Rattle.dht_types.specs.declared.calls.Call.{Call}
use Rattle.dht_types.specs.declared.calls.Call.TheVariants.{Unlink as Called}
use Rattle.dht_types.specs.declared.calls.TreeStep.{TreeStep}
use Rattle.dht_types.specs.declared.calls.TreeStep.TheVariants.{RemoveFile}
use Rattle.dht_types.specs.declared.errors.Errno.{Errno}
use Rattle.dht_types.specs.declared.errors.Errno.TheVariants.{Eisdir, Enoent, Estale}
use Rattle.dht_types.specs.declared.identifiers.Gfid.{Gfid}
use Rattle.dht_types.specs.declared.identifiers.BrickNo.{BrickNo}
use Rattle.dht_types.specs.declared.locks.Key.TheVariants.{Dir as DirKey, Entry as NameKey}
use Rattle.dht_types.specs.declared.locks.Mode.TheVariants.{Shared}
use Rattle.dht_types.specs.declared.stored.Main.{Main}
use Rattle.dht_types.specs.declared.stored.Main.TheVariants.{File as AFile}
use Rattle.dht_types.specs.declared.stored.Record.{Record}
use Rattle.dht_types.specs.declared.stored.Slot.{Slot}
use Rattle.dht_xattr.specs.declared.range.Range.{Range}
use Rattle.dht_brick.specs.Contents.{Contents, Store, bare}
use Rattle.dht_brick.specs.Kinds.{reply_kind}
use Rattle.dht_brick.specs.Links.{links}
use Rattle.dht_brick.specs.Outcome.{Do as Carries}
use Rattle.dht_brick.specs.Parts.{is_file, is_linkto, is_live, is_plain, is_standlink, with_slot, without_main}
use Rattle.dht_brick.specs.Rows.{with_store}
use Rattle.dht_brick.specs.declared.replies.Given.TheVariants as given
use Rattle.dht_brick.specs.declared.replies.Reply.{Reply}
use Rattle.dht_brick.specs.declared.replies.Reply.TheVariants as reply
use Rattle.dht_brick.specs.declared.requests.NameRequest.TheVariants.{Unlink as Remove}
use Rattle.dht_brick.specs.declared.requests.Request.TheVariants.{OnNames}
use Rattle.dht_section.proofs.ClaimLaws.{claims_more}
use Rattle.dht_section.proofs.EarlyLaws.{here_off, nat_cases}
use Rattle.dht_section.proofs.KeptLaws.{count_is, left_all, linkto_seen}
use Rattle.dht_section.proofs.SlotLaws.{TakesSlot, slot_carried, slot_new, slot_reply, slot_taken}
use Rattle.dht_section.proofs.SweepSteps.{drop_deeds, sweep_again, sweep_begins, sweep_moves, sweep_nameless, sweep_noted}
use Rattle.dht_section.proofs.ClosingSteps.{closes, closing_moves}
use Rattle.dht_section.proofs.FileLaws.{live_by, main_record, nameless_by}
use Rattle.dht_section.proofs.FirstSection.{one_fresh, one_knows, starts}
use Rattle.dht_section.proofs.LocationLaws.{looked_is, name_held}
use Rattle.dht_section.proofs.PartSteps.{part_served, part_goes_on, part_ends}
use Rattle.dht_section.proofs.ReapSteps.{reap_again, reap_moves, reap_noted}
use Rattle.dht_section.proofs.SceneLaws.{carried_sound, carried_step, fault_earned, lock_moved, real_is}
use Rattle.dht_section.proofs.SectionParts.{either_none, fault_errors, gone_directory, gone_earned, never_unanswered, section_notes}
use Rattle.dht_section.proofs.SectionSteps.{keeps_scope, leaves_unlocks, names_gone, notes_fault, section_moves}
use Rattle.dht_section.proofs.TaughtLaws.{taught_at}
use Rattle.dht_section.proofs.UnlockingSteps.{scope_moved}
use Rattle.dht_section.specs.Again.{IsUnanswered}
use Rattle.dht_section.specs.Claims.{Claim, Lock}
use Rattle.dht_section.specs.Closing.{closing_after, closing_of, closing_stage}
use Rattle.dht_section.specs.Disk.{dir_at, file_at, slot_at}
use Rattle.dht_section.specs.Ended.{Learns, ended}
use Rattle.dht_section.specs.Faults.{NotesFault, brick_fault, part_fault}
use Rattle.dht_section.specs.Location.{IsHeldAt, entry_at}
use Rattle.dht_section.specs.Looks.{file_in}
use Rattle.dht_section.specs.MayAnswerLaws.{may_answer_moved}
use Rattle.dht_section.specs.Moves.{Guarantee, deeds_by, outcome_of, step_of, tree_by}
use Rattle.dht_section.specs.Parts.{EndsByFault, part_ending}
use Rattle.dht_section.specs.Reap.{IsOrphan, reap_after, reap_ending, reap_stage}
use Rattle.dht_section.specs.Replies.{fault_of}
use Rattle.dht_section.specs.Scene.{Scene, Sound, MayAnswer, NameStands, fault_finish}
use Rattle.dht_section.specs.Section.{all_claimed, IsLooked, KeepsScope, LeavesUnlocks, NamesGone, Outlasts, fault_now, held_layout, held_looked, last_lock, node_seen, opened_ending, opened_fault, section_after, section_fault, section_scope, section_stage, section_taught, turn_layout}
use Rattle.dht_section.specs.Shapes.{Plain, either}
use Rattle.dht_section.specs.Stages.{Served, GoesOn, EndsIn, MayClaimNext, Moves, MatchTurn, answered}
use Rattle.dht_section.specs.Sweep.{IsLeft, IsSwept, Sweeps, drop_ask, first_sweep, linkto_there, next_linkto, seen_linktos, sweep_after, sweep_at, sweep_stage}
use Rattle.dht_section.specs.Views.{core, links_to, view_of}
use Rattle.dht_section.specs.Want.{Scoped}
use Rattle.dht_section.specs.declared.closing.Closing.{Closing}
use Rattle.dht_section.specs.declared.ended.Ended.{Ended}
use Rattle.dht_section.specs.declared.location.Location.{Location}
use Rattle.dht_section.specs.declared.looks.Looked.{Looked}
use Rattle.dht_section.specs.declared.looks.Place.{Place}
use Rattle.dht_section.specs.declared.looks.What.{What}
use Rattle.dht_section.specs.declared.looks.What.TheVariants.{Absent, Dir, File}
use Rattle.dht_section.specs.declared.machine.Ask.{Ask}
use Rattle.dht_section.specs.declared.machine.Finish.{Finish}
use Rattle.dht_section.specs.declared.machine.Turn.{Turn}
use Rattle.dht_section.specs.declared.machine.Turn.TheVariants.{Go, Done}
use Rattle.dht_section.specs.declared.reap.Orphan.{Orphan}
use Rattle.dht_section.specs.declared.reap.Reap.{Reap}
use Rattle.dht_section.specs.declared.reap.Reap.TheVariants.{Sealing, Dropping}
use Rattle.dht_section.specs.declared.section.Held.{Held}
use Rattle.dht_section.specs.declared.section.Opened.{Opened}
use Rattle.dht_section.specs.declared.section.Opened.TheVariants.{Held as Holding, Gone as IsGone, Stopped as IsStopped}
use Rattle.dht_section.specs.declared.section.Section.{Section}
use Rattle.dht_section.specs.declared.sweep.Sweep.{Sweep}
use Rattle.dht_section.specs.Finish.{done_at, refused_at}
use Rattle.dht_fileops.specs.Unlink.{IsLinked, IsUnlink, MayUnlink, Removes, Secures, StartsUnlink, WasLast, closed, first_unlink, is_last, orphan_of, removed, removed_closed, removed_closing, removed_finish, removed_locks, sweeping, swept, swept_by, unlink_after, unlink_answered, unlink_by, unlink_closed, unlink_fault, unlink_held, unlink_layout, unlink_reaped, unlink_secured, unlink_stage, unlink_swept, unlink_taught, unlink_unless, unlinked}
use Rattle.dht_fileops.specs.UnlinkLaws.{file_no_dir, linked_housed, linked_main, linked_says, linked_stands}
use Rattle.dht_fileops.specs.declared.unlink.Removed.{Removed}
use Rattle.dht_fileops.specs.declared.unlink.Unlink.{Unlink}
use Rattle.dht_fileops.specs.declared.unlink.Unlink.TheVariants.{Securing, Unlinking, Sweeping, Reaping, Ending}

-- an unlink went on so, or ended
abbrev Went : Unlink → Reply → Scene → Turn Unlink Ended → Type 0
Went m r t turn = MatchTurn turn (λ n. GoesOn (unlink_stage m) (unlink_stage n) r t) (λ d. EndsIn (unlink_stage m) (ended d) t)

-- ---- what is known after the section

call_moved :
    (l : Location) (s t : Scene) (a : Ask) (r : Reply) → IsUnlink l s → Guarantee s a r t
    → IsUnlink l t
call_moved l s t a r h m = m.mine.call ∙ h

-- a name at which no file is refuses the call
says_refused :
    (p : Tree) (d : Gfid) (n : List ℕ) (there : Option Node) (e : Errno) (g : Gfid)
    → answer_of (tree_unlinked d n there) ≡ Some (Fault e) → p.dirs d ≡ true
    → p.names (d, n) ≡ there → answer_of (says p (Called d n) g) ≡ Some (Fault e)
says_refused p d n there e g refused housed k =
    ap (λ b. answer_of (if b then tree_unlinked d n (p.names (d, n)) else Refuse Estale)) housed
    ∙ (ap (λ (o : Option Node). answer_of (tree_unlinked d n o)) k ∙ refused)

refused_earned :
    (bricks : ℕ) (l : Location) (x : Looked) (e : Errno) (s : Scene)
    → answer_of (tree_unlinked l.directory l.name (node_seen x.sight.what)) ≡ Some (Fault e)
    → IsUnlink l s → s.mine.deeds ≡ None → IsLooked bricks (entry_at l) x s
    → HasPoint s.history s.mine (Some x.at) (Fault e)
refused_earned bricks l x e s refused call fresh k = record {
  point = x.at;
  printed = refl;
  after = k.saw.after;
  before = k.saw.before;
  tells = subst (λ (d : Option Deeds). Tells s.history s.mine.call d x.at (Fault e)) (sym fresh)
      (λ (g : Gfid). ap (λ (c : Call Gfid). answer_of (says (s.history.past x.at) c g)) call
      ∙ says_refused (s.history.past x.at) l.directory l.name (node_seen x.sight.what) e g refused k.saw.directory k.saw.node);
}

-- ---- the section

-- the locks are given back, and no file has the name
refused_step :
    (l : Location) (m : Section) (h : Held) (f : Finish) (r : Reply) (t : Scene) → MayAnswer f t
    → Outlasts m (Holding h) → EndsIn (section_stage m) (opened_ending (Holding h)) t
    → GoesOn (unlink_stage (Securing l m)) (unlink_stage (closed l h f)) r t
refused_step l m h f r t earned left ends = part_ends (section_stage m) (unlink_stage (closed l h f)) (opened_ending (Holding h)) (l.bricks + 3) (λ s. Secures l m s) r t ends refl (omega arith) (closes h f t ends.earned earned).knows

-- or a file has it
linked_step :
    (l : Location) (m : Section) (h : Held) (p : Place) (r : Reply) (t : Scene)
    → file_in (held_looked h (entry_at l)).sight.what ≡ Some p → IsUnlink l t → IsHeldAt l h t
    → Outlasts m (Holding h) → EndsIn (section_stage m) (opened_ending (Holding h)) t
    → GoesOn (unlink_stage (Securing l m)) (unlink_stage (Unlinking p l h)) r t
linked_step l m h p r t e call held left ends = part_ends (section_stage m) (unlink_stage (Unlinking p l h)) (opened_ending (Holding h)) (l.bricks + 3) (λ s. Secures l m s) r t ends refl (omega arith) (record { call = call; held = held; there = e })

held_by :
    (x : What) (l : Location) (m : Section) (h : Held) (r : Reply) (t : Scene)
    → (held_looked h (entry_at l)).sight.what ≡ x → IsUnlink l t → IsHeldAt l h t
    → Outlasts m (Holding h) → EndsIn (section_stage m) (opened_ending (Holding h)) t
    → GoesOn (unlink_stage (Securing l m)) (unlink_stage (unlink_by x l h)) r t
held_by Absent l m h r t e call held left ends =
    let x = held_looked h (entry_at l) in
    refused_step l m h (refused_at Enoent x.at) r t (refused_earned h.scope.bricks l x Enoent t (ap (λ (y : What). answer_of (tree_unlinked l.directory l.name (node_seen y))) e) call held.held.fresh.deeds (looked_is l h t held)) left ends
held_by (Dir g) l m h r t e call held left ends =
    let x = held_looked h (entry_at l) in
    refused_step l m h (refused_at Eisdir x.at) r t (refused_earned h.scope.bricks l x Eisdir t (ap (λ (y : What). answer_of (tree_unlinked l.directory l.name (node_seen y))) e) call held.held.fresh.deeds (looked_is l h t held)) left ends
held_by (File f b n) l m h r t e call held left ends = linked_step l m h (record { brick = b; file = f }) r t (ap file_in e) call held left ends

held_step :
    (l : Location) (m : Section) (h : Held) (r : Reply) (at : ℕ) (s t : Scene)
    → h.scope ≡ section_scope m → Outlasts m (Holding h)
    → EndsIn (section_stage m) (opened_ending (Holding h)) t
    → Served (unlink_stage (Securing l m)) r at s t
    → GoesOn (unlink_stage (Securing l m)) (unlink_stage (unlink_held l h)) r t
held_step l m h r at s t scope left ends v =
    let k = v.is_at.knows.1 in
    let held : IsHeldAt l h t = record { held = ends.earned; scope = scope ∙ k.scope } in
    held_by (held_looked h (entry_at l)).sight.what l m h r t refl (call_moved l s t _ r k.call v.moved) held left ends

refuses_unlink :
    (l : Location) (p : Tree) (g : Gfid) → p.dirs l.directory ≡ false
    → answer_of (says p (Called l.directory l.name) g) ≡ Some (Fault Estale)
refuses_unlink l p g e = ap (λ b. answer_of (if b then tree_unlinked l.directory l.name (p.names (entry_at l)) else Refuse Estale)) e

secured_step :
    (l : Location) (m : Section) (turn : Turn Section Opened) (r : Reply) (at : ℕ) (s t : Scene)
    → MatchTurn turn (λ n. GoesOn (section_stage m) (section_stage n) r t)
    (λ d. EndsIn (section_stage m) (opened_ending d) t)
    → KeepsScope m turn → NamesGone m turn → LeavesUnlocks m turn
    → Served (unlink_stage (Securing l m)) r at s t
    → Went (Securing l m) r t (unlink_secured l turn)
secured_step l m (Go n) r at s t went same gone left v = part_goes_on (section_stage m) (section_stage n) (l.bricks + 3) (λ s. Secures l m s) (λ s. Secures l n s) r t went (record { call = call_moved l s t _ r v.is_at.knows.1.call v.moved; scope = same ∙ v.is_at.knows.1.scope })
secured_step l m (Done (Holding h)) r at s t went same gone left v = held_step l m h r at s t same left went v
secured_step l m (Done (IsGone g line)) r at s t went same gone left v =
    let k = v.is_at.knows in
    record {
      claims = went.claims;
      earned = gone_earned l.directory (Called l.directory l.name) g line t (refuses_unlink l) (call_moved l s t _ r k.1.call v.moved) (gone_directory l (section_scope m) g k.1.scope gone) went.earned;
    }
secured_step l m (Done (IsStopped e)) r at s t went same gone left v = record { claims = went.claims; earned = went.earned }

-- ---- the unlink

-- what is known of its closing
closing_knows :
    (p : Place) (l : Location) (k : Held) (f : Finish) (r : Reply) (at : ℕ) (s t : Scene)
    → MayAnswer f t → Served (unlink_stage (Unlinking p l k)) r at s t
    → (closing_stage (closing_of k f)).knows t
closing_knows p l k f r at s t earned h =
    let held = h.is_at.knows.held in
    let some = held.held.order.some in
    record { order = held.held.order; scope = scope_moved k.scope s t _ r held.held.fresh.scope h.moved; within = omega arith; earned = earned }

closed_step :
    (p : Place) (l : Location) (k : Held) (f : Finish) (r : Reply) (at : ℕ) (s t : Scene)
    → MayAnswer f t → Served (unlink_stage (Unlinking p l k)) r at s t
    → GoesOn (unlink_stage (Unlinking p l k)) (unlink_stage (closed l k f)) r t
closed_step p l k f r at s t earned h = record {
  claims = claims_more _ r at s t _ h (λ b key i. i);
  knows = closing_knows p l k f r at s t earned h;
  nearer = λ u. (λ w. omega arith, omega arith);
}

-- a request that was carried out took the name away
removal_done :
    (p : Place) (l : Location) (k : Held) (r : Reply) (s t : Scene)
    → is_carried (reply_kind r) ≡ true → (m : Guarantee s (unlink_stage (Unlinking p l k)).asks r t)
    → step_of p.brick.0 (OnNames (Remove l.directory l.name p.file)) m.real
    ≡ Some (RemoveFile l.directory l.name)
removal_done p l k r s t e m = ap (λ (y : Reply). step_of p.brick.0 (OnNames (Remove l.directory l.name p.file)) y) (real_is s t _ r m (carried_sound r e)) ∙ carried_step p.brick.0 (Remove l.directory l.name p.file) r e

done_earned :
    (p : Place) (l : Location) (k : Held) (r : Reply) (at : ℕ) (s t : Scene)
    → is_carried (reply_kind r) ≡ true → Served (unlink_stage (Unlinking p l k)) r at s t
    → MayAnswer (done_at at) t
done_earned p l k r at s t e h =
    let linked : IsLinked p l k s = h.is_at.knows in
    let m = h.moved in
    let begun = h.after.begun in
    let line = h.line in
    let step : TreeStep = RemoveFile l.directory l.name in
    let deeds : t.mine.deeds ≡ Some (deeds_after s.history.tree t.history.size s.mine.call None step) =
    m.mine.deeds_are
    ∙ (ap (λ (o : Option TreeStep). deeds_by s t.history.size o) (removal_done p l k r s t e m)
    ∙ ap (λ (d : Option Deeds). Some (deeds_after s.history.tree t.history.size s.mine.call d step)) linked.held.held.fresh.deeds) in
    record {
      point = at;
      printed = refl;
      after = omega arith;
      before = omega arith;
      tells = subst (λ (d : Option Deeds). Tells t.history t.mine.call d at IsDone) (sym deeds) (sym line, linked_says p l k s root h.before linked);
    }

-- ---- an unlink that finds its brick up is carried out

-- the brick of the name has a live record of the file
link_of : (f : Gfid) (p : Slot) → p.main ≡ Some (AFile f None) → links_to f p ≡ true
link_of f p e = ap (λ (m : Option Main). is_file f m || is_standlink f p.standby) e ∙ ap (λ (b : Bool). b || is_standlink f p.standby) ((exact_gfid f f).1 refl)

linked_live :
    (p : Place) (l : Location) (k : Held) (s : Scene) → Sound s → IsLinked p l k s
    → is_live (file_at s.disk p.brick.0 p.file) ≡ true
linked_live p l k s sound h =
    let there = (linked_stands p l k s h).fits in
    let x = sound.kept.things.files p.file in
    live_by (file_at s.disk p.brick.0 p.file)
    (main_record s.disk.count (view_of s.disk p.file).records x.shape p.brick.0 x.records
    (x.linked p.brick.0 (entry_at l) there (link_of p.file (slot_at s.disk p.brick.0 (entry_at l)) (linked_main p l k s h))) there)
    (λ r e. sound.early.unmoved p.file p.brick.0 r there e)

plain_if :
    (f : Gfid) (m : Option Main) (o : Option Record) → m ≡ Some (AFile f None) → is_live o ≡ true
    → (is_plain f m && is_live o) ≡ true
plain_if f m o e k = ap (λ (x : Option Main). is_plain f x && is_live o) e ∙ (ap (λ (b : Bool). b && is_live o) ((exact_gfid f f).1 refl) ∙ k)

-- what the brick stores then
abbrev removed_store : Place → Location → Scene → Store
removed_store p l s = with_slot (s.disk.brick p.brick.0).store (entry_at l) (without_main (slot_at s.disk p.brick.0 (entry_at l)))

module _ (p : Place) (l : Location) (k : Held) (r : Reply) (s t : Scene) (sound : Sound s) (z : fault_of r ≡ None) (h : IsLinked p l k s) (m : Guarantee s (unlink_stage (Unlinking p l k)).asks r t) where
  unlink_is : outcome_of s (unlink_stage (Unlinking p l k)).asks ≡ Carries (given.Links (links (removed_store p l s).slots p.file)) (with_store (s.disk.brick p.brick.0) (removed_store p l s))
  unlink_is = slot_carried (Remove l.directory l.name p.file) (dir_at s.disk p.brick.0 l.directory) (is_plain p.file (slot_at s.disk p.brick.0 (entry_at l)).main && is_live (file_at s.disk p.brick.0 p.file)) (s.disk.brick p.brick.0) (entry_at l) (without_main (slot_at s.disk p.brick.0 (entry_at l))) (linked_housed p l k s sound h) (plain_if p.file _ _ (linked_main p l k s h) (linked_live p l k s sound h))

  unlink_reply : r ≡ reply.Ok (given.Links (links (removed_store p l s).slots p.file))
  unlink_reply = slot_reply s t _ r _ (entry_at l) (without_main (slot_at s.disk p.brick.0 (entry_at l))) m unlink_is z

  unlink_new : t.disk.brick p.brick.0 ≡ with_store (s.disk.brick p.brick.0) (removed_store p l s)
  unlink_new = slot_new s t _ r _ (entry_at l) (without_main (slot_at s.disk p.brick.0 (entry_at l))) m unlink_is z

  unlink_taken : TakesSlot s t p.brick.0 (entry_at l) (without_main (slot_at s.disk p.brick.0 (entry_at l)))
  unlink_taken = slot_taken s t _ r _ (entry_at l) (without_main (slot_at s.disk p.brick.0 (entry_at l))) m unlink_is z

carried_out :
    (p : Place) (l : Location) (k : Held) (r : Reply) (s t : Scene) → Sound s → fault_of r ≡ None
    → IsLinked p l k s → Guarantee s (unlink_stage (Unlinking p l k)).asks r t
    → is_carried (reply_kind r) ≡ true
carried_out p l k r s t sound z h m = ap (λ (y : Reply). is_carried (reply_kind y)) (unlink_reply p l k r s t sound z h m)

-- ---- the file has no name left, where that was its last

last_links : (n : ℕ) (r : Reply) → r ≡ reply.Ok (given.Links n) → is_last r ≡ true → n ≡ 0
last_links n r e h = (let z : nat_eq n 0 ≡ true = sym (ap is_last e) ∙ h in grind (arith, nat_tests, z))

live_record :
    (o : Option Record) → is_live o ≡ true
    → (r : Record) × ((o ≡ Some r) × (is_live (Some r) ≡ true))
live_record None e = absurd (let z : false ≡ true = e in cc)
live_record (Some r) e = (r, (refl, e))

orphan_after :
    (p : Place) (l : Location) (k : Held) (r : Reply) (at : ℕ) (s t : Scene) → fault_of r ≡ None
    → is_last r ≡ true → Served (unlink_stage (Unlinking p l k)) r at s t
    → IsOrphan (record { bricks = l.bricks; file = p.file; brick = p.brick }) t
orphan_after p l k r at s t z last h =
    let linked : IsLinked p l k s = h.is_at.knows in
    let fits = (linked_stands p l k s linked).fits in
    let count = h.moved.disk.count in
    let there : p.brick.0 < t.disk.count = omega arith in
    let taken = unlink_taken p l k r s t h.before z linked h.moved in
    let live = live_record (file_at t.disk p.brick.0 p.file) (ap is_live (taken.files p.brick.0 p.file) ∙ linked_live p l k s h.before linked) in
    record {
      bricks = ap length h.moved.weights ∙ (linked.held.held.fresh.scope.bricks ∙ ap (λ (w : Scoped). w.bricks) linked.held.scope);
      there = there;
      nameless = nameless_by t p.file p.brick.0 live.0 h.after there live.1.0 live.1.1
          (ap (λ (c : Contents). links c.store.slots p.file) (unlink_new p l k r s t h.before z linked h.moved) ∙ last_links _ r (unlink_reply p l k r s t h.before z linked h.moved) last);
    }

was_last :
    (p : Place) (l : Location) (k : Held) (r : Reply) (at : ℕ) (s t : Scene) → fault_of r ≡ None
    → Served (unlink_stage (Unlinking p l k)) r at s t → WasLast (orphan_of p l.bricks r) t
was_last p l k r at s t z h = by (is_last r) refl
  where
    by : (v : Bool) → is_last r ≡ v → WasLast (if v then Some (record { bricks = l.bricks; file = p.file; brick = p.brick }) else None) t
    by true e = orphan_after p l k r at s t z e h
    by false e = tt

-- ---- the name is gone, and linktos of it are left

-- nothing stands at it
removed_core :
    (p : Place) (l : Location) (h : Held) (s t : Scene) → IsLinked p l h s
    → TakesSlot s t p.brick.0 (entry_at l) (without_main (slot_at s.disk p.brick.0 (entry_at l)))
    → (i : ℕ) → i < s.disk.count → core (slot_at t.disk i (entry_at l)) ≡ bare
removed_core p l h s t k taken i w = elim (nat_cases i p.brick.0) [
  | inl q ↦ ap (λ (j : ℕ). core (slot_at t.disk j (entry_at l))) q
      ∙ (ap core taken.here
      ∙ ap (λ y. let x : Slot = record { main = None; standby = y } in x) (ap (λ (x : Slot). x.standby) (stands.has p.brick.0 stands.fits)))
  | inr ne ↦ ap core (taken.off i (entry_at l) ne)
      ∙ (stands.has i w ∙ ap (λ m. let x : Slot = record { main = m; standby = None } in x) (here_off (Some (AFile p.file None)) p.brick.0 i ne))
]
  where
    stands : NameStands s (entry_at l) (Plain p.brick.0 p.file)
    stands = linked_stands p l h s k

-- nor has the tree anything
removed_node :
    (p : Place) (l : Location) (k : Held) (r : Reply) (s t : Scene)
    → is_carried (reply_kind r) ≡ true → Guarantee s (unlink_stage (Unlinking p l k)).asks r t
    → t.history.tree.names (entry_at l) ≡ None
removed_node p l k r s t e m =
    ap (λ (x : Tree). x.names (entry_at l)) (m.tree ∙ ap (λ (o : Option TreeStep). tree_by o s.history.tree) (removal_done p l k r s t e m))
    ∙ put_same same_entry exact_entry s.history.tree.names (entry_at l) None

-- a linkto stays where it was, and where the file's name was there is none
removed_linkto :
    (p : Place) (l : Location) (h : Held) (s t : Scene) → IsLinked p l h s
    → TakesSlot s t p.brick.0 (entry_at l) (without_main (slot_at s.disk p.brick.0 (entry_at l)))
    → (i : ℕ) → linkto_there t.disk i (entry_at l) ≡ linkto_there s.disk i (entry_at l)
removed_linkto p l h s t k taken i = elim (nat_cases i p.brick.0) [
  | inl q ↦ ap (λ (j : ℕ). linkto_there t.disk j (entry_at l)) q
      ∙ (ap (λ (x : Slot). is_linkto x.main) taken.here
      ∙ (sym (ap is_linkto (linked_main p l h s k)) ∙ ap (λ (j : ℕ). linkto_there s.disk j (entry_at l)) (sym q)))
  | inr ne ↦ ap (λ (x : Slot). is_linkto x.main) (taken.off i (entry_at l) ne)
]

removed_left :
    (p : Place) (l : Location) (k : Held) (r : Reply) (at : ℕ) (s t : Scene) → fault_of r ≡ None
    → Served (unlink_stage (Unlinking p l k)) r at s t → IsLeft l None (seen_linktos l k) 0 t
removed_left p l k r at s t z h =
    let linked : IsLinked p l k s = h.is_at.knows in
    let m = h.moved in
    let count = m.disk.count in
    let taken = unlink_taken p l k r s t h.before z linked m in
    let holds = name_held l k s linked.held in
    record {
      bricks = m.disk.count ∙ count_is l k s h.before linked.held;
      holds = record {
        name = lock_moved s t _ r m l.directory (NameKey l.directory l.name) tt ∙ holds.name;
        dir = ap is_some (lock_moved s t _ r m l.directory (DirKey l.directory) tt) ∙ holds.dir;
      };
      stands = record {
        fits = tt;
        has = λ i w. removed_core p l k s t linked taken i (omega arith);
        node = removed_node p l k r s t (carried_out p l k r s t h.before z linked m) m;
      };
      left = λ b w. removed_linkto p l k s t linked taken b ∙ (linkto_seen l k b s linked.held (file_no_dir (held_looked k (entry_at l)).sight.what p linked.there) w ∙ left_all (seen_linktos l k) b);
    }

-- ---- how it goes on

removes_after :
    (p : Place) (l : Location) (k : Held) (r : Reply) (at : ℕ) (s t : Scene) → fault_of r ≡ None
    → Served (unlink_stage (Unlinking p l k)) r at s t → Removes (removed p l k r at) t
removes_after p l k r at s t z h = record {
  closing = closing_knows p l k (done_at at) r at s t (done_earned p l k r at s t (carried_out p l k r s t h.before z h.is_at.knows h.moved) h) h;
  orphan = was_last p l k r at s t z h;
}

-- with the reap, or to its end
swept_claims :
    (o : Option Orphan) (x : Removed)
    → (unlink_stage (swept_by o x)).claims ≡ all_claimed x.held.scope
swept_claims None x = refl
swept_claims (Some orphan) x = refl

swept_variant :
    (o : Option Orphan) (x : Removed)
    → (unlink_stage (swept_by o x)).variant ≤ suc (last_lock x.held.scope) + 2
swept_variant None x = omega arith
swept_variant (Some orphan) x = omega arith

swept_knows :
    (o : Option Orphan) (x : Removed) (t : Scene) → WasLast o t
    → (closing_stage (removed_closing x)).knows t → (unlink_stage (swept_by o x)).knows t
swept_knows None x t last h = h
swept_knows (Some orphan) x t last h = (last, h)

sweeping_step :
    (p : Place) (l : Location) (k : Held) (r : Reply) (at : ℕ) (s t : Scene) (o : Option BrickNo)
    → MatchOption (sweep_at l (seen_linktos l k) o) (IsSwept l None t) (λ m. Sweeps None m t)
    → Removes (removed p l k r at) t → Served (unlink_stage (Unlinking p l k)) r at s t
    → GoesOn (unlink_stage (Unlinking p l k))
    (unlink_stage (sweeping (sweep_at l (seen_linktos l k) o) (removed p l k r at))) r t
sweeping_step p l k r at s t None w x h =
    let y = removed p l k r at in
    let v = swept_variant y.orphan y in
    record {
      claims = subst (λ (c : Claim). MayClaimNext t (all_claimed k.scope) c) (sym (swept_claims y.orphan y)) (claims_more _ r at s t _ h (λ b key i. i));
      knows = swept_knows y.orphan y t x.orphan x.closing;
      nearer = λ u. (λ c. omega arith, omega arith);
    }
sweeping_step p l k r at s t (Some b) w x h = record {
  claims = claims_more _ r at s t _ h (λ c key i. i);
  knows = (w, x);
  nearer = λ u. (λ c. omega arith, omega arith);
}

unlinked_step :
    (p : Place) (l : Location) (k : Held) (r : Reply) (at : ℕ) (s t : Scene) → fault_of r ≡ None
    → Served (unlink_stage (Unlinking p l k)) r at s t
    → GoesOn (unlink_stage (Unlinking p l k)) (unlink_stage (unlinked p l k r at)) r t
unlinked_step p l k r at s t z h = sweeping_step p l k r at s t (next_linkto l.bricks (seen_linktos l k) 0) (sweep_begins l k None t (removed_left p l k r at s t z h)) (removes_after p l k r at s t z h) h

answered_step :
    (p : Place) (l : Location) (k : Held) (r : Reply) (at : ℕ) (s t : Scene) (v : Bool)
    → is_carried (reply_kind r) ≡ v → fault_of r ≡ None
    → Served (unlink_stage (Unlinking p l k)) r at s t
    → GoesOn (unlink_stage (Unlinking p l k))
    (unlink_stage (if v then unlinked p l k r at else Unlinking p l k)) r t
answered_step p l k r at s t true e z h = unlinked_step p l k r at s t z h
answered_step p l k r at s t false e z h = absurd (let q : true ≡ false = sym (carried_out p l k r s t h.before z h.is_at.knows h.moved) ∙ e in cc)

unless_step :
    (p : Place) (l : Location) (k : Held) (r : Reply) (at : ℕ) (s t : Scene) (o : Option Errno)
    → fault_of r ≡ o → Served (unlink_stage (Unlinking p l k)) r at s t
    → GoesOn (unlink_stage (Unlinking p l k)) (unlink_stage (unlink_unless o p l k r at)) r t
unless_step p l k r at s t None z h = answered_step p l k r at s t (is_carried (reply_kind r)) refl z h
unless_step p l k r at s t (Some e) z h = closed_step p l k (fault_finish e) r at s t (fault_earned s t _ r e z h.moved) h

-- ---- the sweep and the reap

-- how it ends is still known
closing_kept :
    (x : Removed) (a : Ask) (r : Reply) (s t : Scene) → t.mine.deeds ≡ s.mine.deeds
    → (closing_stage (removed_closing x)).knows s → Guarantee s a r t
    → (closing_stage (removed_closing x)).knows t
closing_kept x a r s t same h g = record {
  order = h.order;
  scope = scope_moved x.held.scope s t a r h.scope g;
  within = h.within;
  earned = may_answer_moved (done_at x.at) s t a r same g h.earned;
}

-- or the error of a brick
closed_knows :
    (x : Removed) (fault : Option Errno) (t : Scene) → (closing_stage (removed_closing x)).knows t
    → MatchOption fault (Unit {0}) (λ e. MayAnswer (fault_finish e) t)
    → (closing_stage (closing_of x.held (removed_finish x fault))).knows t
closed_knows x None t h e = h
closed_knows x (Some errno) t h e = record { order = h.order; scope = h.scope; within = h.within; earned = e }

-- while linktos are dropped, the file stays without names
last_kept :
    (o : Option Orphan) (m : Sweep) (r : Reply) (s t : Scene) → Sound s → fault_of r ≡ None
    → Sweeps None m s → Guarantee s (drop_ask m.location m.brick) r t → WasLast o s → WasLast o t
last_kept None m r s t sound z w g h = tt
last_kept (Some orphan) m r s t sound z w g h =
    let there = h.there in
    let count = g.disk.count in
    record {
      bricks = ap length g.weights ∙ h.bricks;
      there = omega arith;
      nameless = sweep_nameless None m s t r orphan.file sound w z g h.nameless;
    }

removes_kept :
    (x : Removed) (m : Sweep) (r : Reply) (at : ℕ) (s t : Scene) → fault_of r ≡ None
    → Served (unlink_stage (Sweeping m x)) r at s t → Removes x t
removes_kept x m r at s t z v = record {
  closing = closing_kept x _ r s t (drop_deeds m.location m.brick s t r v.moved) v.is_at.knows.1.closing v.moved;
  orphan = last_kept x.orphan m r s t v.before z v.is_at.knows.0 v.moved v.is_at.knows.1.orphan;
}

sweep_some :
    (x : Removed) (m : Sweep) (s : Scene) → Sweeps None m s
    → 0 < (sweep_stage (removed_locks x) None m).variant
sweep_some x m s h = let l = h.there in omega arith

swept_step :
    (x : Removed) (m : Sweep) (turn : Turn Sweep (Option Errno)) (r : Reply) (at : ℕ) (s t : Scene)
    → MatchTurn turn
    (λ n.
    GoesOn (sweep_stage (removed_locks x) None m) (sweep_stage (removed_locks x) None n)
    r t)
    (λ d.
    EndsIn (sweep_stage (removed_locks x) None m)
    (part_ending (removed_locks x) (IsSwept m.location None) d) t)
    → EndsByFault r turn → Served (unlink_stage (Sweeping m x)) r at s t
    → Went (Sweeping m x) r t (unlink_swept x turn)
swept_step x m (Go n) r at s t went noted v = part_goes_on (sweep_stage (removed_locks x) None m) (sweep_stage (removed_locks x) None n) (suc (last_lock x.held.scope) + 2) (λ s. Removes x s) (λ s. Removes x s) r t went (removes_kept x m r at s t noted v)
swept_step x m (Done None) r at s t went noted v =
    let some = sweep_some x m s v.is_at.knows.0 in
    let less = swept_variant x.orphan x in
    let y = removes_kept x m r at s t (sym noted) v in
    part_ends (sweep_stage (removed_locks x) None m) (unlink_stage (swept x)) (part_ending (removed_locks x) (IsSwept m.location None) None) (suc (last_lock x.held.scope) + 2) (λ s. Removes x s) r t went (swept_claims x.orphan x) (omega arith) (swept_knows x.orphan x t y.orphan y.closing)
swept_step x m (Done (Some e)) r at s t went noted v =
    let some = sweep_some x m s v.is_at.knows.0 in
    part_ends (sweep_stage (removed_locks x) None m) (unlink_stage (removed_closed x (Some e))) (part_ending (removed_locks x) (IsSwept m.location None) (Some e)) (suc (last_lock x.held.scope) + 2) (λ s. Removes x s) r t went refl (omega arith)
    (closed_knows x (Some e) t (closing_kept x _ r s t (drop_deeds m.location m.brick s t r v.moved) v.is_at.knows.1.closing v.moved) went.earned)

-- a reap does no step
no_deed :
    (locks : List Lock) (m : Reap) (b : ℕ) (r : Reply)
    → step_of b (reap_stage locks m).asks.request r ≡ None
no_deed locks (Sealing x) b (reply.Ok g) = refl
no_deed locks (Sealing x) b r = refl
no_deed locks (Dropping x) b (reply.Ok g) = refl
no_deed locks (Dropping x) b r = refl

deeds_kept :
    (locks : List Lock) (m : Reap) (r : Reply) (s t : Scene)
    → Guarantee s (reap_stage locks m).asks r t → t.mine.deeds ≡ s.mine.deeds
deeds_kept locks m r s t g = g.mine.deeds_are ∙ ap (λ (o : Option TreeStep). deeds_by s t.history.size o) (no_deed locks m (reap_stage locks m).asks.brick.0 g.real)

reap_some : (locks : List Lock) (m : Reap) → 0 < (reap_stage locks m).variant
reap_some locks (Sealing x) = omega arith
reap_some locks (Dropping x) = omega arith

reaped_step :
    (x : Removed) (m : Reap) (turn : Turn Reap (Option Errno)) (r : Reply) (at : ℕ) (s t : Scene)
    → MatchTurn turn
    (λ n. GoesOn (reap_stage (removed_locks x) m) (reap_stage (removed_locks x) n) r t)
    (λ d. EndsIn (reap_stage (removed_locks x) m) (reap_ending (removed_locks x) d) t)
    → Served (unlink_stage (Reaping m x)) r at s t → Went (Reaping m x) r t (unlink_reaped x turn)
reaped_step x m (Go n) r at s t went v = part_goes_on (reap_stage (removed_locks x) m) (reap_stage (removed_locks x) n) (suc (last_lock x.held.scope)) (λ s. (closing_stage (removed_closing x)).knows s) (λ s. (closing_stage (removed_closing x)).knows s) r t went (closing_kept x _ r s t (deeds_kept (removed_locks x) m r s t v.moved) v.is_at.knows.1 v.moved)
reaped_step x m (Done fault) r at s t went v =
    let some = reap_some (removed_locks x) m in
    part_ends (reap_stage (removed_locks x) m) (unlink_stage (removed_closed x fault)) (reap_ending (removed_locks x) fault) (suc (last_lock x.held.scope)) (λ s. (closing_stage (removed_closing x)).knows s) r t went refl (omega arith)
    (closed_knows x fault t (closing_kept x _ r s t (deeds_kept (removed_locks x) m r s t v.moved) v.is_at.knows.1 v.moved) went.earned)

-- ---- the closing

closing_step :
    (c : Closing) (learned : Option (List (Option Range))) (turn : Turn Closing Finish) (r : Reply)
    (t : Scene)
    → MatchTurn turn (λ n. GoesOn (closing_stage c) (closing_stage n) r t)
    (λ d. EndsIn (closing_stage c) (answered d) t)
    → Went (Ending c learned) r t (unlink_closed learned turn)
closing_step c learned (Go n) r t went = went
closing_step c learned (Done f) r t went = went

-- ---- all of it

pub unlink_moves :
    (m : Unlink) (r : Reply) (at : ℕ) → Moves unlink_stage ended m r at (unlink_after m r at)
unlink_moves (Securing l m) r at s t v =
    let part = part_served (section_stage m) (l.bricks + 3) (λ s. Secures l m s) r at s t v in
    secured_step l m (section_after m r at) r at s t (section_moves m r at s t part) (keeps_scope m r at) (names_gone m r at s v.is_at.knows.0) (leaves_unlocks m r at s v.is_at.knows.0) v
unlink_moves (Unlinking p l k) r at s t v = unless_step p l k r at s t (fault_of r) refl v
unlink_moves (Sweeping m x) r at s t v =
    let part = part_served (sweep_stage (removed_locks x) None m) (suc (last_lock x.held.scope) + 2) (λ s. Removes x s) r at s t v in
    swept_step x m (sweep_after m r) r at s t (sweep_moves (removed_locks x) None m r at s t part) (sweep_noted m r) v
unlink_moves (Reaping m x) r at s t v =
    let part = part_served (reap_stage (removed_locks x) m) (suc (last_lock x.held.scope)) (λ s. (closing_stage (removed_closing x)).knows s) r at s t v in
    reaped_step x m (reap_after m r) r at s t (reap_moves (removed_locks x) m r at s t part) v
unlink_moves (Ending c learned) r at s t v = closing_step c learned (closing_after c) r t (closing_moves c r at s t v)

-- ---- what it learns

held_learned :
    (x : What) (l : Location) (h : Held)
    → unlink_layout (unlink_by x l h) ≡ Some (held_layout h (entry_at l))
held_learned Absent l h = refl
held_learned (Dir g) l h = refl
held_learned (File f b n) l h = refl

secured_learns :
    (l : Location) (m : Section) (turn : Turn Section Opened) (r : Reply)
    → turn_layout (entry_at l) turn ≡ section_taught (entry_at l) m r
    → Learns unlink_layout unlink_taught (Securing l m) r (unlink_secured l turn)
secured_learns l m (Go n) r e = ap (λ (o : Option (List (Option Range))). either o None) e
secured_learns l m (Done (Holding h)) r e = held_learned (held_looked h (entry_at l)).sight.what l h ∙ ap (λ (o : Option (List (Option Range))). either o None) e
secured_learns l m (Done (IsGone g at)) r e = refl
secured_learns l m (Done (IsStopped x)) r e = refl

swept_learns : (o : Option Orphan) (x : Removed) → unlink_layout (swept_by o x) ≡ Some x.layout
swept_learns None x = refl
swept_learns (Some orphan) x = refl

unlinked_learns : (o : Option Sweep) (x : Removed) → unlink_layout (sweeping o x) ≡ Some x.layout
unlinked_learns None x = swept_learns x.orphan x
unlinked_learns (Some m) x = refl

answered_learns :
    (p : Place) (l : Location) (h : Held) (r : Reply) (at : ℕ) (v : Bool)
    → unlink_layout (if v then unlinked p l h r at else Unlinking p l h)
    ≡ Some (held_layout h (entry_at l))
answered_learns p l h r at true = unlinked_learns (first_sweep l h) (removed p l h r at)
answered_learns p l h r at false = refl

unless_learns :
    (p : Place) (l : Location) (h : Held) (r : Reply) (at : ℕ) (o : Option Errno)
    → unlink_layout (unlink_unless o p l h r at) ≡ Some (held_layout h (entry_at l))
unless_learns p l h r at None = answered_learns p l h r at (is_carried (reply_kind r))
unless_learns p l h r at (Some e) = refl

sweep_learns :
    (m : Sweep) (x : Removed) (turn : Turn Sweep (Option Errno)) (r : Reply)
    → Learns unlink_layout unlink_taught (Sweeping m x) r (unlink_swept x turn)
sweep_learns m x (Go n) r = refl
sweep_learns m x (Done None) r = swept_learns x.orphan x
sweep_learns m x (Done (Some e)) r = refl

reaped_learns :
    (m : Reap) (x : Removed) (turn : Turn Reap (Option Errno)) (r : Reply)
    → Learns unlink_layout unlink_taught (Reaping m x) r (unlink_reaped x turn)
reaped_learns m x (Go n) r = refl
reaped_learns m x (Done fault) r = refl

closed_learns :
    (c : Closing) (learned : Option (List (Option Range))) (turn : Turn Closing Finish) (r : Reply)
    → Learns unlink_layout unlink_taught (Ending c learned) r (unlink_closed learned turn)
closed_learns c learned (Go n) r = refl
closed_learns c learned (Done f) r = refl

pub unlink_learns :
    (m : Unlink) (r : Reply) (at : ℕ) → Learns unlink_layout unlink_taught m r (unlink_after m r at)
unlink_learns (Securing l m) r at = secured_learns l m (section_after m r at) r (taught_at (entry_at l) m r at 0)
unlink_learns (Unlinking p l h) r at = unless_learns p l h r at (fault_of r)
unlink_learns (Sweeping m x) r at = sweep_learns m x (sweep_after m r) r
unlink_learns (Reaping m x) r at = reaped_learns m x (reap_after m r) r
unlink_learns (Ending c learned) r at = closed_learns c learned (closing_after c) r

-- ---- the error that it notes

abbrev Notes : Unlink → Reply → Turn Unlink Ended → Type 0
Notes m r turn = NotesFault unlink_fault m (unlink_stage m).asks.request r turn

held_notes : (x : What) (l : Location) (h : Held) → unlink_fault (unlink_by x l h) ≡ None
held_notes Absent l h = refl
held_notes (Dir g) l h = refl
held_notes (File f b n) l h = refl

secured_notes :
    (l : Location) (m : Section) (turn : Turn Section Opened) (r : Reply)
    → MatchTurn turn (λ n. section_fault n ≡ fault_now m r) (λ d. opened_fault d ≡ fault_now m r)
    → Notes (Securing l m) r (unlink_secured l turn)
secured_notes l m (Go n) r e = section_notes m r (section_fault n) e
secured_notes l m (Done (Holding h)) r e = held_notes (held_looked h (entry_at l)).sight.what l h ∙ section_notes m r None e
secured_notes l m (Done (IsGone g at)) r e = section_notes m r None e
secured_notes l m (Done (IsStopped x)) r e = section_notes m r (Some x) e

swept_sound : (o : Option Orphan) (x : Removed) → unlink_fault (swept_by o x) ≡ None
swept_sound None x = refl
swept_sound (Some orphan) x = refl

unlinked_notes : (o : Option Sweep) (x : Removed) → unlink_fault (sweeping o x) ≡ None
unlinked_notes None x = swept_sound x.orphan x
unlinked_notes (Some m) x = refl

answered_notes :
    (p : Place) (l : Location) (h : Held) (r : Reply) (at : ℕ) (v : Bool)
    → unlink_fault (if v then unlinked p l h r at else Unlinking p l h) ≡ None
answered_notes p l h r at true = unlinked_notes (first_sweep l h) (removed p l h r at)
answered_notes p l h r at false = refl

unless_notes :
    (p : Place) (l : Location) (h : Held) (r : Reply) (at : ℕ) (o : Option Errno) → fault_of r ≡ o
    → unlink_fault (unlink_unless o p l h r at) ≡ fault_of r
unless_notes p l h r at None e = answered_notes p l h r at (is_carried (reply_kind r)) ∙ sym e
unless_notes p l h r at (Some x) e = ap part_fault (sym e) ∙ fault_errors r

closed_fault :
    (x : Removed) (fault : Option Errno)
    → brick_fault (removed_finish x fault).answer ≡ part_fault fault
closed_fault x None = refl
closed_fault x (Some e) = refl

sweep_notes :
    (m : Sweep) (x : Removed) (turn : Turn Sweep (Option Errno)) (r : Reply) → EndsByFault r turn
    → Notes (Sweeping m x) r (unlink_swept x turn)
sweep_notes m x (Go n) r e = sym e
sweep_notes m x (Done None) r e = swept_sound x.orphan x ∙ e
sweep_notes m x (Done (Some errno)) r e = closed_fault x (Some errno) ∙ (ap part_fault e ∙ fault_errors r)

reaped_notes :
    (x : Removed) (turn : Turn Reap (Option Errno)) (r : Reply) → EndsByFault r turn
    → MatchTurn (unlink_reaped x turn) (λ n. unlink_fault n ≡ fault_of r) (λ d. ⊥)
reaped_notes x (Go n) r e = sym e
reaped_notes x (Done fault) r e = closed_fault x fault ∙ (ap part_fault e ∙ fault_errors r)

as_noted :
    (m : Reap) (x : Removed) (turn : Turn Unlink Ended) (r : Reply)
    → MatchTurn turn (λ n. unlink_fault n ≡ fault_of r) (λ d. ⊥) → Notes (Reaping m x) r turn
as_noted (Sealing o) x (Go n) r e = e
as_noted (Sealing o) x (Done d) r e = absurd e
as_noted (Dropping o) x (Go n) r e = e
as_noted (Dropping o) x (Done d) r e = absurd e

closed_notes :
    (c : Closing) (learned : Option (List (Option Range))) (r : Reply) (v : Bool)
    → Notes (Ending c learned) r
    (unlink_closed learned
    (if v
    then Go (record { scope = c.scope; place = c.place - 1; finish = c.finish })
    else Done c.finish))
closed_notes c learned r true = either_none (brick_fault c.finish.answer)
closed_notes c learned r false = either_none (brick_fault c.finish.answer)

pub unlink_notes : (m : Unlink) (r : Reply) (at : ℕ) → Notes m r (unlink_after m r at)
unlink_notes (Securing l m) r at = secured_notes l m (section_after m r at) r (notes_fault m r at)
unlink_notes (Unlinking p l h) r at = unless_notes p l h r at (fault_of r) refl
unlink_notes (Sweeping m x) r at = sweep_notes m x (sweep_after m r) r (sweep_noted m r)
unlink_notes (Reaping m x) r at = as_noted m x (unlink_reaped x (reap_after m r)) r (reaped_notes x (reap_after m r) r (reap_noted m r))
unlink_notes (Ending c learned) r at = closed_notes c learned r (nat_lt 0 c.place)

-- ---- what it sends again

unless_again :
    (p : Place) (l : Location) (h : Held) (r : Reply) (at : ℕ) → fault_of r ≡ None
    → is_carried (reply_kind r) ≡ false → unlink_answered p l h r at ≡ Unlinking p l h
unless_again p l h r at z e = ap (λ (o : Option Errno). unlink_unless o p l h r at) z ∙ ap (λ (v : Bool). if v then unlinked p l h r at else Unlinking p l h) e

pub unlink_again :
    (m : Unlink) (r : Reply) (at : ℕ) → IsUnanswered (unlink_stage m) r → unlink_after m r at ≡ Go m
unlink_again (Securing l m) r at h = absurd (never_unanswered m r h)
unlink_again (Unlinking p l k) r at h = ap Go (unless_again p l k r at h.0 h.1)
unlink_again (Sweeping m x) r at h = ap (unlink_swept x) (sweep_again (removed_locks x) None m r h)
unlink_again (Reaping (Sealing o) x) r at h = ap (unlink_reaped x) (reap_again (removed_locks x) (Sealing o) r h)
unlink_again (Reaping (Dropping o) x) r at h = ap (unlink_reaped x) (reap_again (removed_locks x) (Dropping o) r h)
unlink_again (Ending c learned) r at h = absurd h.1

-- ---- its beginning

pub first_knows :
    (bricks : ℕ) (d : Gfid) (n : List ℕ) (s : Scene) → MayUnlink bricks d n s
    → (unlink_stage (first_unlink bricks d n)).knows s
first_knows bricks d n s h = (one_knows bricks d Shared n s (one_fresh bricks d Shared n s h.count h.home h.deeds), record { call = h.call; scope = refl })

pub first_starts :
    (bricks : ℕ) (d : Gfid) (n : List ℕ)
    → StartsUnlink bricks d (unlink_stage (first_unlink bricks d n))
first_starts bricks d n =
    let x = starts bricks d Shared n in
    let v = x.variant in
    record { brick = x.brick; request = x.request; claims = x.claims; variant = omega arith }
