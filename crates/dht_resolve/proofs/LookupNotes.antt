-- What a lookup learns and notes, what it answers at once, and what it sends again.
use Rattle.std.proofs.Common.{◌≡◌, ◌+◌, ◌-◌, ℕ, Bool, true, false, List, refl, sym, ◌∙◌, ap, subst}
use Rattle.std.specs.Prelude.{Option, Some, None, nat_eq, nat_lt, nat_le, if◌then◌else◌}
use Rattle.dht_types.specs.Gfid.{home}
use Rattle.dht_section.proofs.SectionLooks.{both}
use Rattle.dht_types.specs.History.{is_carried}
use Rattle.dht_types.specs.declared.errors.Errno.{Errno}
use Rattle.dht_types.specs.declared.identifiers.BrickNo.{BrickNo}
use Rattle.dht_types.specs.declared.identifiers.Gfid.{Gfid}
use Rattle.dht_types.specs.declared.stored.Main.{Main}
use Rattle.dht_types.specs.declared.stored.Main.TheVariants as main
use Rattle.dht_xattr.specs.declared.range.Range.{Range}
use Rattle.dht_brick.specs.Kinds.{reply_kind}
use Rattle.dht_brick.specs.declared.replies.Given.TheVariants as given
use Rattle.dht_brick.specs.declared.replies.Reply.{Reply}
use Rattle.dht_brick.specs.declared.replies.Reply.TheVariants as reply
use Rattle.dht_brick.specs.declared.replies.Why.TheVariants as why
use Rattle.dht_section.proofs.SectionParts.{either_none, fault_errors, never_unanswered, section_notes}
use Rattle.dht_section.proofs.SectionSteps.{notes_fault}
use Rattle.dht_section.proofs.TaughtLaws.{taught_at}
use Rattle.dht_section.specs.Again.{IsUnanswered}
use Rattle.dht_section.specs.Disk.{file_of_main}
use Rattle.dht_section.specs.Ended.{Learns}
use Rattle.dht_section.specs.Faults.{NotesFault, brick_fault, part_fault}
use Rattle.dht_section.specs.Location.{entry_at}
use Rattle.dht_section.specs.Looks.{file_in, is_nodir, lengthened, main_shown}
use Rattle.dht_section.specs.Replies.{fault_of, file_shown, is_shown, range_shown}
use Rattle.dht_section.specs.Section.{fault_now, held_holder, held_layout, held_looked, opened_fault, section_after, section_fault, section_stage, section_taught, shows_gone, turn_layout}
use Rattle.dht_section.specs.Shapes.{either}
use Rattle.dht_section.specs.Stages.{MatchTurn}
use Rattle.dht_section.specs.Want.{claimed}
use Rattle.dht_section.specs.Release.{release_after}
use Rattle.dht_section.specs.declared.release.Release.{Release}
use Rattle.dht_section.specs.declared.location.Location.{Location}
use Rattle.dht_section.specs.declared.looks.Place.{Place}
use Rattle.dht_section.specs.declared.looks.What.{What}
use Rattle.dht_section.specs.declared.looks.What.TheVariants as what
use Rattle.dht_section.specs.declared.machine.Turn.{Turn}
use Rattle.dht_section.specs.declared.machine.Turn.TheVariants.{Go, Done}
use Rattle.dht_section.specs.declared.section.Held.{Held}
use Rattle.dht_section.specs.declared.section.Opened.{Opened}
use Rattle.dht_section.specs.declared.section.Opened.TheVariants.{Held as Holding, Gone as IsGone, Stopped as IsStopped}
use Rattle.dht_section.specs.declared.section.Section.{Section}
use Rattle.dht_section.specs.declared.section.Section.TheVariants.{Locking, Looking, Unlocking}
use Rattle.dht_resolve.specs.Found.{IsDirFound, IsFound, IsFreeLook, ShowsDir, ShowsFile, shown_as, shown_main}
use Rattle.dht_resolve.specs.Lookup.{aimed, aimed_at, ended_turn, found_answer, holder_in, lookup_fault, lookup_layout, lookup_stage, lookup_taught, survey_taught}
use Rattle.dht_resolve.specs.Turns.{answers_file, found_by, release_turned, holder_showed, laid_by, gone, linked_showed, lookup_after, placed_by, section_turned, survey_answered, surveyed, unless_fault, wants_linkto}
use Rattle.dht_resolve.specs.declared.lookup.Answered.{Answered}
use Rattle.dht_resolve.specs.declared.lookup.Lookup.{Lookup}
use Rattle.dht_resolve.specs.declared.lookup.Lookup.TheVariants.{Surveying, LookingAtHolder, FollowingLinkto, LookingEverywhere, LayingLinkto, Ending}
use Rattle.dht_resolve.specs.declared.lookup.Misplaced.{Misplaced}
use Rattle.dht_resolve.specs.declared.lookup.Resolved.{Resolved}
use Rattle.dht_resolve.specs.declared.lookup.Shown.{Shown}
use Rattle.dht_resolve.specs.declared.lookup.Shown.TheVariants.{Nothing, Dir, File, Leads}
use Rattle.dht_resolve.specs.declared.lookup.Sought.{Sought}
use Rattle.dht_section.specs.declared.section.Prepared.{Prepared}
use Rattle.dht_section.specs.Section.{begun}

-- ---- what it learns

abbrev Learned : Lookup → Reply → Turn Lookup Resolved → Type 0
Learned m r turn = Learns lookup_layout lookup_taught m r (ended_turn turn)

aimed_learns :
    (l : Location) (p : Prepared) (learned : Option (List (Option Range))) (o : Option ℕ)
    → lookup_layout (aimed_at l p learned o) ≡ learned
aimed_learns l p learned None = refl
aimed_learns l p learned (Some b) = by (nat_lt b l.bricks)
  where
    by : (v : Bool) → lookup_layout (if v then LookingAtHolder (record { location = l; brick = record { 0 = b }; learned = learned }) p else LookingEverywhere l (begun p) learned) ≡ learned
    by true = refl
    by false = refl

surveyed_learns :
    (l : Location) (p : Prepared) (b : BrickNo) (ranges : List (Option Range)) (v : Bool)
    → lookup_layout
    (if v
    then aimed l p (Some ranges) ranges
    else Surveying l p (record { 0 = b.0 + 1 }) ranges)
    ≡ (if v then Some ranges else None)
surveyed_learns l p b ranges true = aimed_learns l p (Some ranges) (holder_in ranges l.name)
surveyed_learns l p b ranges false = refl

as_taught :
    {A : Type 0} (v : Bool) (x : A)
    → (if v then Some x else None) ≡ either (if v then Some x else None) None
as_taught true x = refl
as_taught false x = refl

survey_learns :
    (l : Location) (p : Prepared) (b : BrickNo) (old : List (Option Range)) (r : Reply) (at : ℕ)
    → Learned (Surveying l p b old) r (survey_answered l p b old r at)
survey_learns l p b old r at = by (shows_gone l.directory b r) (is_shown r)
  where
    ranges : List (Option Range)
    ranges = lengthened old (range_shown r)

    by : (v w : Bool) → MatchTurn (ended_turn (if v then gone l at None else (if w then Go (surveyed l p b (lengthened old (range_shown r))) else Go (Surveying l p b old)))) (λ n. lookup_layout n ≡ either (survey_taught v w l b (lengthened old (range_shown r))) None) (λ d. d.layout ≡ None)
    by true w = refl
    by false true = surveyed_learns l p b ranges (nat_le (l.bricks - b.0) 1) ∙ as_taught (nat_le (l.bricks - b.0) 1) ranges
    by false false = refl

stop_learns :
    (m : Lookup) (l : Location) (learned : Option (List (Option Range)))
    (turn : Turn Lookup Resolved) (r : Reply) (o : Option Errno)
    → lookup_layout m ≡ learned → Learned m r turn → Learned m r (unless_fault o l learned turn)
stop_learns m l learned turn r None e h = h
stop_learns m l learned turn r (Some x) e h = sym e

holder_learns :
    (x : Sought) (p : Prepared) (shown : Shown) (r : Reply) (at : ℕ)
    → Learned (LookingAtHolder x p) r (holder_showed x p shown at)
holder_learns x p Nothing r at = refl
holder_learns x p (Dir g) r at = refl
holder_learns x p (File f) r at = refl
holder_learns x p (Leads b) r at = refl

linked_learns :
    (x : Sought) (p : Prepared) (shown : Shown) (r : Reply) (at : ℕ)
    → Learned (FollowingLinkto x p) r (linked_showed x p shown at)
linked_learns x p Nothing r at = refl
linked_learns x p (Dir g) r at = refl
linked_learns x p (File f) r at = refl
linked_learns x p (Leads b) r at = refl

-- a look that was not answered teaches nothing
if_learns :
    (m again : Lookup) (turn : Turn Lookup Resolved) (r : Reply) (v : Bool) → Learned m r turn
    → Learned m r (Go again) → Learned m r (if v then turn else Go again)
if_learns m again turn r true h k = h
if_learns m again turn r false h k = k

placed_learns :
    (l : Location) (h : Held) (p : Place) (o : Option ℕ)
    → lookup_layout (placed_by o l h p) ≡ Some (held_layout h (entry_at l))
placed_learns l h p None = refl
placed_learns l h p (Some b) = by (wants_linkto l h b p)
  where
    by : (v : Bool) → lookup_layout (if v then LayingLinkto (record { location = l; held = h; holder = record { 0 = b }; place = p }) else answers_file l h p) ≡ Some (held_layout h (entry_at l))
    by true = refl
    by false = refl

found_learns :
    (l : Location) (h : Held) (o : Option Place)
    → lookup_layout (found_by o l h) ≡ Some (held_layout h (entry_at l))
found_learns l h None = refl
found_learns l h (Some p) = placed_learns l h p (held_holder h (entry_at l))

section_learns :
    (l : Location) (m : Section) (learned : Option (List (Option Range)))
    (turn : Turn Section Opened) (r : Reply)
    → turn_layout (entry_at l) turn ≡ section_taught (entry_at l) m r
    → Learned (LookingEverywhere l m learned) r (section_turned l turn learned)
section_learns l m learned (Go n) r e = ap (λ o. either o learned) e
section_learns l m learned (Done (Holding h)) r e = found_learns l h (file_in (held_looked h (entry_at l)).sight.what) ∙ ap (λ o. either o learned) e
section_learns l m learned (Done (IsGone g at)) r e = refl
section_learns l m learned (Done (IsStopped x)) r e = refl

laid_learns :
    (y : Misplaced) (r : Reply) (o : Option Errno)
    → lookup_layout (laid_by o y r) ≡ Some (held_layout y.held (entry_at y.location))
laid_learns y r None = by (is_carried (reply_kind r))
  where
    by : (v : Bool) → lookup_layout (if v then answers_file y.location y.held y.place else LayingLinkto y) ≡ Some (held_layout y.held (entry_at y.location))
    by true = refl
    by false = refl
laid_learns y r (Some e) = refl

release_learns :
    (m : Release) (x : Answered) (r : Reply) (turn : Turn Release Prepared)
    → Learned (Ending m x) r (release_turned turn x)
release_learns m x r (Go n) = refl
release_learns m x r (Done p) = refl

pub lookup_learns : (m : Lookup) (r : Reply) (at : ℕ) → Learned m r (lookup_after m r at)
lookup_learns (Surveying l p b ranges) r at = stop_learns (Surveying l p b ranges) l None _ r (fault_of r) refl (survey_learns l p b ranges r at)
lookup_learns (LookingAtHolder x p) r at = stop_learns (LookingAtHolder x p) x.location x.learned _ r (fault_of r) refl
    (if_learns (LookingAtHolder x p) (LookingAtHolder x p) _ r (is_shown r) (holder_learns x p (shown_as x.location.bricks r) r at) refl)
lookup_learns (FollowingLinkto x p) r at = stop_learns (FollowingLinkto x p) x.location x.learned _ r (fault_of r) refl
    (if_learns (FollowingLinkto x p) (FollowingLinkto x p) _ r (is_shown r) (linked_learns x p (shown_as x.location.bricks r) r at) refl)
lookup_learns (LookingEverywhere l m learned) r at = section_learns l m learned (section_after m r at) r (taught_at (entry_at l) m r at 0)
lookup_learns (LayingLinkto y) r at = laid_learns y r (fault_of r)
lookup_learns (Ending m x) r at = release_learns m x r (release_after m)

-- ---- the error that it notes

abbrev Notes : Lookup → Reply → Turn Lookup Resolved → Type 0
Notes m r turn = NotesFault lookup_fault m (lookup_stage m).asks.request r (ended_turn turn)

-- a stage before any lock notes the error of its reply
abbrev Noted : Option Errno → Turn Lookup Resolved → Type 0
Noted o turn = MatchTurn turn (λ n. lookup_fault n ≡ o) (λ d. brick_fault d.answered.finish.answer ≡ o)

stop_notes :
    (l : Location) (learned : Option (List (Option Range))) (turn : Turn Lookup Resolved)
    (r : Reply) (o : Option Errno)
    → fault_of r ≡ o → Noted None turn → Noted (fault_of r) (unless_fault o l learned turn)
stop_notes l learned turn r None e h = subst (λ o. Noted o turn) (sym e) h
stop_notes l learned turn r (Some x) e h = ap part_fault (sym e) ∙ fault_errors r

aimed_notes :
    (l : Location) (p : Prepared) (learned : Option (List (Option Range))) (o : Option ℕ)
    → lookup_fault (aimed_at l p learned o) ≡ None
aimed_notes l p learned None = refl
aimed_notes l p learned (Some b) = by (nat_lt b l.bricks)
  where
    by : (v : Bool) → lookup_fault (if v then LookingAtHolder (record { location = l; brick = record { 0 = b }; learned = learned }) p else LookingEverywhere l (begun p) learned) ≡ None
    by true = refl
    by false = refl

surveyed_notes :
    (l : Location) (p : Prepared) (b : BrickNo) (ranges : List (Option Range)) (v : Bool)
    → lookup_fault
    (if v
    then aimed l p (Some ranges) ranges
    else Surveying l p (record { 0 = b.0 + 1 }) ranges)
    ≡ None
surveyed_notes l p b ranges true = aimed_notes l p (Some ranges) (holder_in ranges l.name)
surveyed_notes l p b ranges false = refl

survey_notes :
    (l : Location) (p : Prepared) (b : BrickNo) (old : List (Option Range)) (r : Reply) (at : ℕ)
    → Noted None (survey_answered l p b old r at)
survey_notes l p b old r at = by (shows_gone l.directory b r) (is_shown r)
  where
    ranges : List (Option Range)
    ranges = lengthened old (range_shown r)

    by : (v w : Bool) → Noted None (if v then gone l at None else (if w then Go (surveyed l p b (lengthened old (range_shown r))) else Go (Surveying l p b old)))
    by true w = refl
    by false true = surveyed_notes l p b ranges (nat_le (l.bricks - b.0) 1)
    by false false = refl

holder_notes :
    (x : Sought) (p : Prepared) (shown : Shown) (at : ℕ) → Noted None (holder_showed x p shown at)
holder_notes x p Nothing at = refl
holder_notes x p (Dir g) at = refl
holder_notes x p (File f) at = refl
holder_notes x p (Leads b) at = refl

linked_notes :
    (x : Sought) (p : Prepared) (shown : Shown) (at : ℕ) → Noted None (linked_showed x p shown at)
linked_notes x p Nothing at = refl
linked_notes x p (Dir g) at = refl
linked_notes x p (File f) at = refl
linked_notes x p (Leads b) at = refl

if_notes :
    (again : Lookup) (turn : Turn Lookup Resolved) (v : Bool) → lookup_fault again ≡ None
    → Noted None turn → Noted None (if v then turn else Go again)
if_notes again turn true e h = h
if_notes again turn false e h = e

found_fault : (x : What) → brick_fault (found_answer x) ≡ None
found_fault what.Absent = refl
found_fault (what.Dir g) = refl
found_fault (what.File f b links) = refl

placed_notes :
    (l : Location) (h : Held) (p : Place) (o : Option ℕ) → lookup_fault (placed_by o l h p) ≡ None
placed_notes l h p None = found_fault (held_looked h (entry_at l)).sight.what
placed_notes l h p (Some b) = by (wants_linkto l h b p)
  where
    by : (v : Bool) → lookup_fault (if v then LayingLinkto (record { location = l; held = h; holder = record { 0 = b }; place = p }) else answers_file l h p) ≡ None
    by true = refl
    by false = found_fault (held_looked h (entry_at l)).sight.what

found_notes : (l : Location) (h : Held) (o : Option Place) → lookup_fault (found_by o l h) ≡ None
found_notes l h None = found_fault (held_looked h (entry_at l)).sight.what
found_notes l h (Some p) = placed_notes l h p (held_holder h (entry_at l))

section_turn_notes :
    (l : Location) (m : Section) (learned : Option (List (Option Range)))
    (turn : Turn Section Opened) (r : Reply)
    → MatchTurn turn (λ n. section_fault n ≡ fault_now m r) (λ d. opened_fault d ≡ fault_now m r)
    → Notes (LookingEverywhere l m learned) r (section_turned l turn learned)
section_turn_notes l m learned (Go n) r e = section_notes m r (section_fault n) e
section_turn_notes l m learned (Done (Holding h)) r e = found_notes l h (file_in (held_looked h (entry_at l)).sight.what) ∙ section_notes m r None e
section_turn_notes l m learned (Done (IsGone g at)) r e = section_notes m r None e
section_turn_notes l m learned (Done (IsStopped x)) r e = section_notes m r (Some x) e

laid_notes :
    (y : Misplaced) (r : Reply) (o : Option Errno) → fault_of r ≡ o
    → lookup_fault (laid_by o y r) ≡ fault_of r
laid_notes y r None e = by (is_carried (reply_kind r)) ∙ sym e
  where
    by : (v : Bool) → lookup_fault (if v then answers_file y.location y.held y.place else LayingLinkto y) ≡ None
    by true = found_fault (held_looked y.held (entry_at y.location)).sight.what
    by false = refl
laid_notes y r (Some x) e = ap part_fault (sym e) ∙ fault_errors r

release_notes :
    (m : Release) (x : Answered) (r : Reply) (turn : Turn Release Prepared)
    → Notes (Ending m x) r (release_turned turn x)
release_notes m x r (Go n) = either_none (brick_fault x.finish.answer)
release_notes m x r (Done p) = either_none (brick_fault x.finish.answer)

-- before any lock, no error was noted
as_noted :
    (turn : Turn Lookup Resolved) (o : Option Errno) → Noted o turn
    → MatchTurn (ended_turn turn) (λ n. lookup_fault n ≡ o) (λ d. brick_fault d.finish.answer ≡ o)
as_noted (Go n) o h = h
as_noted (Done d) o h = h

pub lookup_notes : (m : Lookup) (r : Reply) (at : ℕ) → Notes m r (lookup_after m r at)
lookup_notes (Surveying l p b ranges) r at = as_noted _ (fault_of r) (stop_notes l None _ r (fault_of r) refl (survey_notes l p b ranges r at))
lookup_notes (LookingAtHolder x p) r at = as_noted _ (fault_of r) (stop_notes x.location x.learned _ r (fault_of r) refl
    (if_notes (LookingAtHolder x p) _ (is_shown r) refl (holder_notes x p (shown_as x.location.bricks r) at)))
lookup_notes (FollowingLinkto x p) r at = as_noted _ (fault_of r) (stop_notes x.location x.learned _ r (fault_of r) refl
    (if_notes (FollowingLinkto x p) _ (is_shown r) refl (linked_notes x p (shown_as x.location.bricks r) at)))
lookup_notes (LookingEverywhere l m learned) r at = section_turn_notes l m learned (section_after m r at) r (notes_fault m r at)
lookup_notes (LayingLinkto y) r at = laid_notes y r (fault_of r) refl
lookup_notes (Ending m x) r at = release_notes m x r (release_after m)

-- ---- what it sends again

again_by :
    (o : Option Errno) (l : Location) (learned : Option (List (Option Range)))
    (turn : Turn Lookup Resolved) (m : Lookup)
    → o ≡ None → turn ≡ Go m → unless_fault o l learned turn ≡ Go m
again_by None l learned turn m z e = e
again_by (Some x) l learned turn m z e = absurd (let k : Some x ≡ None = z in cc)

if_again :
    (m : Lookup) (turn : Turn Lookup Resolved) (v : Bool) → v ≡ false
    → (if v then turn else Go m) ≡ Go m
if_again m turn v e = ap (λ (b : Bool). if b then turn else Go m) e

nodir_shown : (r : Reply) → is_nodir r ≡ true → is_shown r ≡ true
nodir_shown (reply.Ok g) h = refl
nodir_shown (reply.Refused why.Nodir) h = refl
nodir_shown (reply.Refused w) h = absurd (let z : false ≡ true = h in cc)
nodir_shown (reply.Wait c) h = absurd (let z : false ≡ true = h in cc)
nodir_shown reply.Down h = absurd (let z : false ≡ true = h in cc)
nodir_shown reply.Failed h = absurd (let z : false ≡ true = h in cc)
nodir_shown reply.NoMemory h = absurd (let z : false ≡ true = h in cc)

survey_again :
    (l : Location) (p : Prepared) (b : BrickNo) (ranges : List (Option Range)) (r : Reply) (at : ℕ)
    → is_shown r ≡ false → survey_answered l p b ranges r at ≡ Go (Surveying l p b ranges)
survey_again l p b ranges r at e = by (shows_gone l.directory b r) refl
  where
    by : (v : Bool) → shows_gone l.directory b r ≡ v → (if v then gone l at None else (if is_shown r then Go (surveyed l p b (lengthened ranges (range_shown r))) else Go (Surveying l p b ranges))) ≡ Go (Surveying l p b ranges)
    by true k = absurd (let shown = nodir_shown r (both (is_nodir r) (nat_eq b.0 (home l.directory)) k).0 in let z : true ≡ false = sym shown ∙ e in cc)
    by false k = if_again (Surveying l p b ranges) _ (is_shown r) e

laid_again :
    (y : Misplaced) (r : Reply) (o : Option Errno) → o ≡ None → is_carried (reply_kind r) ≡ false
    → laid_by o y r ≡ LayingLinkto y
laid_again y r None z e = ap (λ (v : Bool). if v then answers_file y.location y.held y.place else LayingLinkto y) e
laid_again y r (Some x) z e = absurd (let k : Some x ≡ None = z in cc)

pub unanswered_again :
    (m : Lookup) (r : Reply) (at : ℕ) → IsUnanswered (lookup_stage m) r → lookup_after m r at ≡ Go m
unanswered_again (Surveying l p b ranges) r at h = again_by (fault_of r) l None _ (Surveying l p b ranges) h.0 (survey_again l p b ranges r at h.1)
unanswered_again (LookingAtHolder x p) r at h = again_by (fault_of r) x.location x.learned _ (LookingAtHolder x p) h.0 (if_again (LookingAtHolder x p) _ (is_shown r) h.1)
unanswered_again (FollowingLinkto x p) r at h = again_by (fault_of r) x.location x.learned _ (FollowingLinkto x p) h.0 (if_again (FollowingLinkto x p) _ (is_shown r) h.1)
unanswered_again (LookingEverywhere l m learned) r at h = absurd (never_unanswered m r h)
unanswered_again (LayingLinkto y) r at h = ap Go (laid_again y r (fault_of r) h.0 h.1)
unanswered_again (Ending m x) r at h = absurd h.1

-- ---- what it answers at once

-- a reply that shows a main part was given, and is no fault
given_shown :
    (r : Reply) (m : Main) → main_shown r ≡ Some m → (is_shown r ≡ true) × (fault_of r ≡ None)
given_shown (reply.Ok g) m e = (refl, refl)
given_shown (reply.Refused w) m e = absurd (let z : None ≡ Some m = e in cc)
given_shown (reply.Wait c) m e = absurd (let z : None ≡ Some m = e in cc)
given_shown reply.Down m e = absurd (let z : None ≡ Some m = e in cc)
given_shown reply.Failed m e = absurd (let z : None ≡ Some m = e in cc)
given_shown reply.NoMemory m e = absurd (let z : None ≡ Some m = e in cc)

-- so does one that shows a file
pub main_of :
    (m : Option Main) (f : Gfid) → file_of_main m ≡ Some f
    → (over : Option BrickNo) × (m ≡ Some (main.File f over))
main_of None f e = absurd (let z : None ≡ Some f = e in cc)
main_of (Some (main.Dir g)) f e = absurd (let z : None ≡ Some f = e in cc)
main_of (Some (main.Linkto v)) f e = absurd (let z : None ≡ Some f = e in cc)
main_of (Some (main.File x over)) f e = (over, let z : Some x ≡ Some f = e in let k : x ≡ f = cc in ap (λ g. Some (main.File g over)) k)

pub file_main : (r : Reply) → file_shown r ≡ file_of_main (main_shown r)
file_main (reply.Ok (given.Look look)) = refl
file_main (reply.Ok x) = refl
file_main r = refl

-- a turn that comes of this main part
found_turn :
    (o : Option Errno) (l : Location) (learned : Option (List (Option Range)))
    (turn : Turn Lookup Resolved) (again : Lookup) (v : Bool)
    → o ≡ None → v ≡ true → unless_fault o l learned (if v then turn else Go again) ≡ turn
found_turn None l learned turn again v z e = ap (λ (b : Bool). if b then turn else Go again) e
found_turn (Some x) l learned turn again v z e = absurd (let k : Some x ≡ None = z in cc)

pub holder_found :
    (x : Sought) (p : Prepared) (m : Main) (r : Reply) (at : ℕ) → main_shown r ≡ Some m
    → lookup_after (LookingAtHolder x p) r at
    ≡ holder_showed x p (shown_main x.location.bricks (Some m)) at
holder_found x p m r at e =
    let q = given_shown r m e in
    found_turn (fault_of r) x.location x.learned (holder_showed x p (shown_as x.location.bricks r) at) (LookingAtHolder x p) (is_shown r) q.1 q.0
    ∙ ap (λ (o : Option Main). holder_showed x p (shown_main x.location.bricks o) at) e

pub linked_found :
    (x : Sought) (p : Prepared) (m : Main) (r : Reply) (at : ℕ) → main_shown r ≡ Some m
    → lookup_after (FollowingLinkto x p) r at
    ≡ linked_showed x p (shown_main x.location.bricks (Some m)) at
linked_found x p m r at e =
    let q = given_shown r m e in
    found_turn (fault_of r) x.location x.learned (linked_showed x p (shown_as x.location.bricks r) at) (FollowingLinkto x p) (is_shown r) q.1 q.0
    ∙ ap (λ (o : Option Main). linked_showed x p (shown_main x.location.bricks o) at) e

-- the looks of its section are under locks
pub never_free :
    (m : Section) → IsFreeLook (section_stage m).asks.request (section_stage m).claims.locks → ⊥
unfolding claimed
never_free (Locking w i looks) h = h
never_free (Looking w looks n b x) h = h
never_free (Unlocking w i x) h = h

pub lookup_found :
    (m : Lookup) (r : Reply) (at : ℕ) (f : Gfid) → ShowsFile (lookup_stage m) r f
    → IsFound f at (ended_turn (lookup_after m r at))
lookup_found (Surveying l p b ranges) r at f h = absurd h.0
lookup_found (LookingAtHolder x p) r at f h =
    let q = main_of (main_shown r) f (sym (file_main r) ∙ h.1) in
    subst (λ turn. IsFound f at (ended_turn turn)) (sym (holder_found x p (main.File f q.0) r at q.1)) refl
lookup_found (FollowingLinkto x p) r at f h =
    let q = main_of (main_shown r) f (sym (file_main r) ∙ h.1) in
    subst (λ turn. IsFound f at (ended_turn turn)) (sym (linked_found x p (main.File f q.0) r at q.1)) refl
lookup_found (LookingEverywhere l m learned) r at f h = absurd (never_free m h.0)
lookup_found (LayingLinkto y) r at f h = absurd h.0
lookup_found (Ending m x) r at f h = absurd h.0

pub lookup_folder :
    (m : Lookup) (r : Reply) (at : ℕ) (g : Gfid) → ShowsDir (lookup_stage m) r g
    → IsDirFound g at (ended_turn (lookup_after m r at))
lookup_folder (Surveying l p b ranges) r at g h = absurd h.0
lookup_folder (LookingAtHolder x p) r at g h = subst (λ turn. IsDirFound g at (ended_turn turn)) (sym (holder_found x p (main.Dir g) r at h.1)) refl
lookup_folder (FollowingLinkto x p) r at g h = subst (λ turn. IsDirFound g at (ended_turn turn)) (sym (linked_found x p (main.Dir g) r at h.1)) refl
lookup_folder (LookingEverywhere l m learned) r at g h = absurd (never_free m h.0)
lookup_folder (LayingLinkto y) r at g h = absurd h.0
lookup_folder (Ending m x) r at g h = absurd h.0
