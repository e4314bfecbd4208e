-- What an rmdir learns and notes, what it sends again, and its beginning.
use Rattle.std.proofs.Common.{◌≡◌, ◌≤◌, ◌+◌, ◌-◌, ◌*◌, ℕ, Bool, true, false, refl, sym, ◌∙◌, ap, subst, arith, List}
use Rattle.std.specs.Prelude.{Option, Some, None, nat_eq, nat_le, nat_lt, if◌then◌else◌}
use Rattle.dht_types.specs.Gfid.{home}
use Rattle.dht_types.specs.History.{is_carried}
use Rattle.dht_types.specs.declared.calls.Answer.{Answer}
use Rattle.dht_types.specs.declared.calls.Answer.TheVariants as answer
use Rattle.dht_types.specs.declared.errors.Errno.{Errno}
use Rattle.dht_types.specs.declared.errors.Errno.TheVariants.{Enotempty}
use Rattle.dht_types.specs.declared.identifiers.BrickNo.{BrickNo}
use Rattle.dht_types.specs.declared.identifiers.Gfid.{Gfid}
use Rattle.dht_xattr.specs.declared.range.Range.{Range}
use Rattle.dht_brick.specs.Kinds.{reply_kind}
use Rattle.dht_brick.specs.declared.replies.Reply.{Reply}
use Rattle.dht_brick.specs.declared.replies.Reply.TheVariants as reply
use Rattle.dht_section.proofs.SectionParts.{either_none, fault_errors, never_unanswered, section_notes}
use Rattle.dht_section.proofs.SectionSteps.{notes_fault}
use Rattle.dht_section.proofs.TaughtLaws.{taught_at}
use Rattle.dht_section.specs.Again.{IsUnanswered}
use Rattle.dht_section.specs.Closing.{closing_after}
use Rattle.dht_section.specs.Ended.{Learns}
use Rattle.dht_section.specs.Faults.{NotesFault, brick_fault, part_fault}
use Rattle.dht_section.specs.Finish.{refused_at}
use Rattle.dht_section.specs.Location.{entry_at, located}
use Rattle.dht_section.specs.Pairs.{pair_room}
use Rattle.dht_section.specs.Release.{release_after}
use Rattle.dht_section.specs.Replies.{fault_of, is_shown}
use Rattle.dht_section.specs.Scene.{Scene}
use Rattle.dht_section.specs.Section.{begun, fault_now, held_layout, held_looked, opened_fault, section_after, section_fault, section_taught, turn_layout}
use Rattle.dht_section.specs.Shapes.{either}
use Rattle.dht_section.specs.Stages.{MatchTurn}
use Rattle.dht_section.specs.declared.closing.Closing.{Closing}
use Rattle.dht_section.specs.declared.ended.Ended.{Ended}
use Rattle.dht_section.specs.declared.location.Location.{Location}
use Rattle.dht_section.specs.declared.machine.Finish.{Finish}
use Rattle.dht_section.specs.declared.machine.Turn.{Turn}
use Rattle.dht_section.specs.declared.machine.Turn.TheVariants.{Go, Done}
use Rattle.dht_section.specs.declared.release.Release.{Release}
use Rattle.dht_section.specs.declared.section.Held.{Held}
use Rattle.dht_section.specs.declared.section.Opened.{Opened}
use Rattle.dht_section.specs.declared.section.Opened.TheVariants.{Held as Holding, Gone as IsGone, Stopped as IsStopped}
use Rattle.dht_section.specs.declared.section.Prepared.{Prepared}
use Rattle.dht_section.specs.declared.section.Section.{Section}
use Rattle.dht_resolve.proofs.LookupNotes.{lookup_learns, lookup_notes, unanswered_again}
use Rattle.dht_resolve.proofs.LookupSteps.{first_knows as lookup_knows, first_steps as first_lookup_steps}
use Rattle.dht_resolve.specs.Lookup.{aimed_at, ended_turn, first_lookup, holder_in, lookup_fault, lookup_layout, lookup_stage, lookup_steps, lookup_taught}
use Rattle.dht_resolve.specs.LookupName.{lookup_location}
use Rattle.dht_resolve.specs.Turns.{lookup_after}
use Rattle.dht_resolve.specs.declared.lookup.Lookup.{Lookup}
use Rattle.dht_resolve.specs.declared.lookup.Lookup.TheVariants.{LookingAtHolder, LookingEverywhere}
use Rattle.dht_resolve.specs.declared.lookup.Resolved.{Resolved}
use Rattle.dht_dirops.proofs.LookupPart.{NoneAtEnd, taught_none, with_location}
use Rattle.dht_dirops.specs.Rmdir.{MayRmdir, Resolves, closed, drop_told, drop_unless, first_rmdir, inspect_told, inspect_unless, inspected, is_dropped, is_that, resolved_as, rmdir_after, rmdir_closed, rmdir_fault, rmdir_layout, rmdir_released, rmdir_resolved, rmdir_secured, rmdir_stage, rmdir_taught, shows_name}
use Rattle.dht_dirops.specs.declared.rmdir.Removal.{Removal}
use Rattle.dht_dirops.specs.declared.rmdir.Rmdir.{Rmdir}
use Rattle.dht_dirops.specs.declared.rmdir.Rmdir.TheVariants.{Resolving, Securing, Inspecting, Dropping, Releasing, Ending}

-- a fact of two machines
choose : (P : Rmdir → Type 0) (v : Bool) (a b : Rmdir) → P a → P b → P (if v then a else b)
choose P true a b f g = f
choose P false a b f g = g

-- a lookup that looks at this brick, if it is one of the volume
abbrev aimed_if : Bool → Location → Prepared → Option (List (Option Range)) → ℕ → Lookup
aimed_if v l p learned b =
    if v
    then LookingAtHolder (record { location = l; brick = record { 0 = b }; learned = learned }) p
    else LookingEverywhere l (begun p) learned

-- a lookup once more: by its layout it has learned that, and it has noted no error
aimed_again :
    (l : Location) (p : Prepared) (learned : Option (List (Option Range))) (o : Option ℕ)
    → (lookup_layout (aimed_at l p learned o) ≡ learned)
    × (lookup_fault (aimed_at l p learned o) ≡ None)
aimed_again l p learned None = (refl, refl)
aimed_again l p learned (Some b) = by (nat_lt b l.bricks)
  where
    by : (v : Bool) → (lookup_layout (aimed_if v l p learned b) ≡ learned) × (lookup_fault (aimed_if v l p learned b) ≡ None)
    by true = (refl, refl)
    by false = (refl, refl)

-- ---- what it learns

abbrev Learned : Rmdir → Reply → Turn Rmdir Ended → Type 0
Learned m r turn = Learns rmdir_layout rmdir_taught m r turn

resolved_learns :
    (m : Lookup) (p : Prepared) (d : Resolved) (r : Reply) (a : Answer) (o : Option Prepared)
    → d.answered.layout ≡ lookup_layout m → lookup_taught m r ≡ None
    → Learned (Resolving m p) r (resolved_as a o d.answered p)
resolved_learns m p d r (answer.Dir g) (Some room) h none = h ∙ sym (ap (λ (t : Option (List (Option Range))). either t (lookup_layout m)) none)
resolved_learns m p d r (answer.Dir g) None h none = h
resolved_learns m p d r (answer.File f) o h none = h
resolved_learns m p d r (answer.Made f) o h none = h
resolved_learns m p d r answer.Done o h none = h
resolved_learns m p d r (answer.Fault e) o h none = h

lookup_part :
    (m : Lookup) (p : Prepared) (turn : Turn Lookup Resolved) (r : Reply)
    → Learns lookup_layout lookup_taught m r (ended_turn turn) → NoneAtEnd (lookup_taught m r) turn
    → Learned (Resolving m p) r (rmdir_resolved turn p)
lookup_part m p (Go n) r h none = h
lookup_part m p (Done d) r h none = resolved_learns m p d r d.answered.finish.answer d.room h none

secured_learns :
    (x : Removal) (m : Section) (room : Prepared) (learned : Option (List (Option Range)))
    (turn : Turn Section Opened) (r : Reply)
    → turn_layout (entry_at x.location) turn ≡ section_taught (entry_at x.location) m r
    → Learned (Securing x m room learned) r (rmdir_secured x room learned turn)
secured_learns x m room learned (Go n) r e = ap (λ (o : Option (List (Option Range))). either o learned) e
secured_learns x m room learned (Done (Holding h)) r e = choose (λ n. rmdir_layout n ≡ either (section_taught (entry_at x.location) m r) learned) (is_that x.directory (held_looked h (entry_at x.location)).sight.what) _ _
    (ap (λ (o : Option (List (Option Range))). either o learned) e) (ap (λ (o : Option (List (Option Range))). either o learned) e)
secured_learns x m room learned (Done (IsGone g at)) r e = refl
secured_learns x m room learned (Done (IsStopped y)) r e = refl

-- one that holds its locks has learned the layout that its section read
abbrev Knows : Removal → Held → Rmdir → Type 0
Knows x h n = rmdir_layout n ≡ Some (held_layout h (entry_at x.location))

inspect_learns :
    (x : Removal) (h : Held) (b : BrickNo) (r : Reply) (at : ℕ) (o : Option Errno)
    → Knows x h (inspect_unless o x h b r at)
inspect_learns x h b r at (Some e) = refl
inspect_learns x h b r at None = choose (Knows x h) (shows_name r) _ _ refl
    (choose (Knows x h) (is_shown r) _ _ (choose (Knows x h) (nat_le (x.location.bricks - b.0) 1) _ _ refl refl) refl)

drop_learns :
    (x : Removal) (h : Held) (b : BrickNo) (r : Reply) (at : ℕ) (o : Option Errno)
    → Knows x h (drop_unless o x h b r at)
drop_learns x h b r at (Some e) = refl
drop_learns x h b r at None = choose (Knows x h) (nat_eq b.0 (home x.directory)) _ _
    (choose (Knows x h) (is_carried (reply_kind r)) _ _ refl refl)
    (choose (Knows x h) (is_dropped r) _ _ refl refl)

released_learns :
    (l : Location) (m : Release) (room : Prepared) (layout : List (Option Range))
    (turn : Turn Release Prepared) (r : Reply)
    → Learned (Releasing l m room layout) r (rmdir_released l room layout turn)
released_learns l m room layout (Go n) r = refl
released_learns l m room layout (Done p) r = (aimed_again l room (Some layout) (holder_in layout l.name)).0

closed_learns :
    (c : Closing) (learned : Option (List (Option Range))) (turn : Turn Closing Finish) (r : Reply)
    → Learned (Ending c learned) r (rmdir_closed learned turn)
closed_learns c learned (Go n) r = refl
closed_learns c learned (Done f) r = refl

pub rmdir_learns : (m : Rmdir) (r : Reply) (at : ℕ) → Learned m r (rmdir_after m r at)
rmdir_learns (Resolving m p) r at = lookup_part m p (lookup_after m r at) r (lookup_learns m r at) (taught_none m r at)
rmdir_learns (Securing x m room learned) r at = secured_learns x m room learned (section_after m r at) r (taught_at (entry_at x.location) m r at 0)
rmdir_learns (Inspecting x h b) r at = inspect_learns x h b r at (fault_of r)
rmdir_learns (Dropping x h b) r at = drop_learns x h b r at (fault_of r)
rmdir_learns (Releasing l m room layout) r at = released_learns l m room layout (release_after m) r
rmdir_learns (Ending c learned) r at = closed_learns c learned (closing_after c) r

-- ---- the error that it notes

abbrev Notes : Rmdir → Reply → Turn Rmdir Ended → Type 0
Notes m r turn = NotesFault rmdir_fault m (rmdir_stage m).asks.request r turn

resolved_notes :
    (m : Lookup) (p : Prepared) (d : Resolved) (r : Reply) (a : Answer) (o : Option Prepared)
    → brick_fault a
    ≡ either (lookup_fault m)
    (Rattle.dht_section.specs.Faults.fault_for (lookup_stage m).asks.request r)
    → Notes (Resolving m p) r (resolved_as a o d.answered p)
resolved_notes m p d r (answer.Dir g) (Some room) h = h
resolved_notes m p d r (answer.Dir g) None h = h
resolved_notes m p d r (answer.File f) o h = h
resolved_notes m p d r (answer.Made f) o h = h
resolved_notes m p d r answer.Done o h = h
resolved_notes m p d r (answer.Fault e) o h = h

lookup_noted :
    (m : Lookup) (p : Prepared) (turn : Turn Lookup Resolved) (r : Reply)
    → NotesFault lookup_fault m (lookup_stage m).asks.request r (ended_turn turn)
    → Notes (Resolving m p) r (rmdir_resolved turn p)
lookup_noted m p (Go n) r h = h
lookup_noted m p (Done d) r h = resolved_notes m p d r d.answered.finish.answer d.room h

secured_notes :
    (x : Removal) (m : Section) (room : Prepared) (learned : Option (List (Option Range)))
    (turn : Turn Section Opened) (r : Reply)
    → MatchTurn turn (λ n. section_fault n ≡ fault_now m r) (λ d. opened_fault d ≡ fault_now m r)
    → Notes (Securing x m room learned) r (rmdir_secured x room learned turn)
secured_notes x m room learned (Go n) r e = section_notes m r (section_fault n) e
secured_notes x m room learned (Done (Holding h)) r e = choose (λ n. rmdir_fault n ≡ either (part_fault (section_fault m)) (Rattle.dht_section.specs.Faults.fault_for (Rattle.dht_section.specs.Section.section_stage m).asks.request r)) (is_that x.directory (held_looked h (entry_at x.location)).sight.what) _ _
    (section_notes m r None e) (section_notes m r None e)
secured_notes x m room learned (Done (IsGone g at)) r e = section_notes m r None e
secured_notes x m room learned (Done (IsStopped y)) r e = section_notes m r (Some y) e

-- it has noted none
abbrev IsSound : Rmdir → Type 0
IsSound n = rmdir_fault n ≡ None

inspect_sound :
    (x : Removal) (h : Held) (b : BrickNo) (r : Reply) (at : ℕ) → IsSound (inspect_told x h b r at)
inspect_sound x h b r at = choose IsSound (shows_name r) _ _ refl
    (choose IsSound (is_shown r) _ _ (choose IsSound (nat_le (x.location.bricks - b.0) 1) _ _ refl refl) refl)

inspect_notes :
    (x : Removal) (h : Held) (b : BrickNo) (r : Reply) (at : ℕ) (o : Option Errno) → fault_of r ≡ o
    → rmdir_fault (inspect_unless o x h b r at) ≡ fault_of r
inspect_notes x h b r at None e = inspect_sound x h b r at ∙ sym e
inspect_notes x h b r at (Some y) e = ap part_fault (sym e) ∙ fault_errors r

drop_sound :
    (x : Removal) (h : Held) (b : BrickNo) (r : Reply) (at : ℕ) → IsSound (drop_told x h b r at)
drop_sound x h b r at = choose IsSound (nat_eq b.0 (home x.directory)) _ _
    (choose IsSound (is_carried (reply_kind r)) _ _ refl refl)
    (choose IsSound (is_dropped r) _ _ refl refl)

drop_notes :
    (x : Removal) (h : Held) (b : BrickNo) (r : Reply) (at : ℕ) (o : Option Errno) → fault_of r ≡ o
    → rmdir_fault (drop_unless o x h b r at) ≡ fault_of r
drop_notes x h b r at None e = drop_sound x h b r at ∙ sym e
drop_notes x h b r at (Some y) e = ap part_fault (sym e) ∙ fault_errors r

released_notes :
    (l : Location) (m : Release) (room : Prepared) (layout : List (Option Range))
    (turn : Turn Release Prepared) (r : Reply)
    → Notes (Releasing l m room layout) r (rmdir_released l room layout turn)
released_notes l m room layout (Go n) r = refl
released_notes l m room layout (Done p) r = (aimed_again l room (Some layout) (holder_in layout l.name)).1

closed_notes :
    (c : Closing) (learned : Option (List (Option Range))) (r : Reply) (v : Bool)
    → Notes (Ending c learned) r
    (rmdir_closed learned
    (if v
    then Go (record { scope = c.scope; place = c.place - 1; finish = c.finish })
    else Done c.finish))
closed_notes c learned r true = either_none (brick_fault c.finish.answer)
closed_notes c learned r false = either_none (brick_fault c.finish.answer)

pub rmdir_notes : (m : Rmdir) (r : Reply) (at : ℕ) → Notes m r (rmdir_after m r at)
rmdir_notes (Resolving m p) r at = lookup_noted m p (lookup_after m r at) r (lookup_notes m r at)
rmdir_notes (Securing x m room learned) r at = secured_notes x m room learned (section_after m r at) r (notes_fault m r at)
rmdir_notes (Inspecting x h b) r at = inspect_notes x h b r at (fault_of r) refl
rmdir_notes (Dropping x h b) r at = drop_notes x h b r at (fault_of r) refl
rmdir_notes (Releasing l m room layout) r at = released_notes l m room layout (release_after m) r
rmdir_notes (Ending c learned) r at = closed_notes c learned r (nat_lt 0 c.place)

-- ---- what it sends again

no_name : (r : Reply) → is_shown r ≡ false → shows_name r ≡ false
no_name (reply.Ok given) e = absurd (let z : true ≡ false = e in cc)
no_name (reply.Refused why) e = refl
no_name (reply.Wait holder) e = refl
no_name reply.Down e = refl
no_name reply.Failed e = refl
no_name reply.NoMemory e = refl

inspect_again :
    (x : Removal) (h : Held) (b : BrickNo) (r : Reply) (at : ℕ) → fault_of r ≡ None
    → is_shown r ≡ false → inspect_unless (fault_of r) x h b r at ≡ Inspecting x h b
inspect_again x h b r at z e =
    ap (λ (o : Option Errno). inspect_unless o x h b r at) z
    ∙ (ap (λ (v : Bool). if v then closed x h (refused_at Enotempty at) else (if is_shown r then inspected x h b else Inspecting x h b)) (no_name r e)
    ∙ ap (λ (v : Bool). if v then inspected x h b else Inspecting x h b) e)

pub rmdir_again :
    (m : Rmdir) (r : Reply) (at : ℕ) → IsUnanswered (rmdir_stage m) r → rmdir_after m r at ≡ Go m
rmdir_again (Resolving m p) r at h = ap (λ (turn : Turn Lookup Resolved). rmdir_resolved turn p) (unanswered_again m r at h)
rmdir_again (Securing x m room learned) r at h = absurd (never_unanswered m r h)
rmdir_again (Inspecting x k b) r at h = ap Go (inspect_again x k b r at h.0 h.1)
rmdir_again (Dropping x k b) r at h = absurd h.1
rmdir_again (Releasing l m room layout) r at h = absurd h.1
rmdir_again (Ending c learned) r at h = absurd h.1

-- ---- its beginning

first_location :
    (l : Location) (known : Option (List (Option Range)))
    → lookup_location (first_lookup l known) ≡ l
first_location l known = with_location (Rattle.dht_section.specs.Location.prepared_at l) l known None

pub first_knows :
    (bricks : ℕ) (d : Gfid) (n : List ℕ) (known : Option (List (Option Range))) (s : Scene)
    → MayRmdir bricks d n s → (rmdir_stage (first_rmdir bricks d n known)).knows s
first_knows bricks d n known s h = (
  lookup_knows (located bricks d n) known s (record { count = h.count; home = h.home; deeds = h.deeds }),
  subst (λ (l : Location). Resolves l (pair_room bricks d n) s) (sym (first_location (located bricks d n) known)) (record { call = h.call; memory = ((d, refl), refl) }),
)

pub first_steps :
    (bricks : ℕ) (d : Gfid) (n : List ℕ) (known : Option (List (Option Range)))
    → (rmdir_stage (first_rmdir bricks d n known)).variant
    ≤ lookup_steps (located bricks d n) known + (3 * bricks + 8)
first_steps bricks d n known =
    let steps = first_lookup_steps (located bricks d n) known in
    let same : (lookup_location (first_lookup (located bricks d n) known)).bricks ≡ bricks = ap (λ (l : Location). l.bricks) (first_location (located bricks d n) known) in
    omega arith
