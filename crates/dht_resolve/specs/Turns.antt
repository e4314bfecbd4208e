-- How a reply takes a lookup on.
use Rattle.std.specs.Prelude.{ℕ, ◌+◌, ◌-◌, ◌&&◌, not, Bool, false, nat_eq, nat_le, if◌then◌else◌, Option, Some, None, List}
use Rattle.dht_types.specs.History.{is_carried}
use Rattle.dht_types.specs.declared.calls.Answer.{Answer}
use Rattle.dht_types.specs.declared.calls.Answer.TheVariants as answer
use Rattle.dht_types.specs.declared.errors.Errno.{Errno}
use Rattle.dht_types.specs.declared.identifiers.BrickNo.{BrickNo}
use Rattle.dht_brick.specs.Kinds.{reply_kind}
use Rattle.dht_brick.specs.declared.replies.Reply.{Reply}
use Rattle.dht_xattr.specs.declared.range.Range.{Range}
use Rattle.dht_section.specs.Release.{release_after, release_of}
use Rattle.dht_section.specs.Ended.{gone_at}
use Rattle.dht_section.specs.Location.{entry_at}
use Rattle.dht_section.specs.Looks.{lengthened, linkto_at, mark_at, file_in}
use Rattle.dht_section.specs.Replies.{fault_of, is_shown, range_shown}
use Rattle.dht_section.specs.Scene.{fault_finish}
use Rattle.dht_section.specs.Section.{held_holder, held_layout, held_looked, section_after, shows_gone}
use Rattle.dht_section.specs.declared.release.Release.{Release}
use Rattle.dht_section.specs.declared.location.Location.{Location}
use Rattle.dht_section.specs.declared.looks.Linkto.{Linkto}
use Rattle.dht_section.specs.declared.looks.Linkto.TheVariants.{To}
use Rattle.dht_section.specs.declared.looks.Place.{Place}
use Rattle.dht_section.specs.declared.machine.Finish.{Finish}
use Rattle.dht_section.specs.declared.machine.Turn.{Turn}
use Rattle.dht_section.specs.declared.machine.Turn.TheVariants.{Go, Done}
use Rattle.dht_section.specs.declared.section.Held.{Held}
use Rattle.dht_section.specs.declared.section.Opened.{Opened}
use Rattle.dht_section.specs.declared.section.Opened.TheVariants.{Held as Holding, Gone as IsGone, Stopped as IsStopped}
use Rattle.dht_section.specs.declared.section.Section.{Section}
use Rattle.dht_resolve.specs.Found.{shown_as}
use Rattle.dht_resolve.specs.Lookup.{aimed, seen_finish}
use Rattle.dht_resolve.specs.declared.lookup.Answered.{Answered}
use Rattle.dht_resolve.specs.declared.lookup.Lookup.{Lookup}
use Rattle.dht_resolve.specs.declared.lookup.Lookup.TheVariants.{Surveying, LookingAtHolder, FollowingLinkto, LookingEverywhere, LayingLinkto, Ending}
use Rattle.dht_resolve.specs.declared.lookup.Misplaced.{Misplaced}
use Rattle.dht_resolve.specs.declared.lookup.Resolved.{Resolved}
use Rattle.dht_resolve.specs.declared.lookup.Shown.{Shown}
use Rattle.dht_resolve.specs.declared.lookup.Shown.TheVariants.{Nothing, Dir, File, Leads}
use Rattle.dht_resolve.specs.declared.lookup.Sought.{Sought}
use Rattle.dht_section.specs.declared.section.Prepared.{Prepared}
use Rattle.dht_section.specs.Section.{begun}

-- ---- how it ends

abbrev pub answers_so : Location → Finish → Option BrickNo → Option (List (Option Range)) → Answered
answers_so l f place layout = record { location = l; finish = f; place = place; layout = layout }

-- with an answer from which no other part goes on
abbrev pub done_as : Location → Finish → Option (List (Option Range)) → Turn Lookup Resolved
done_as l f layout = Done (record { answered = answers_so l f None layout; room = None })

abbrev pub stopped : Location → Errno → Option (List (Option Range)) → Turn Lookup Resolved
stopped l e layout = done_as l (fault_finish e) layout

abbrev pub gone : Location → ℕ → Option (List (Option Range)) → Turn Lookup Resolved
gone l at layout = done_as l (gone_at at) layout

-- the brick that is looked at shows the name, at this line
abbrev pub shown_at : Sought → Prepared → Answer → Option BrickNo → ℕ → Turn Lookup Resolved
shown_at x p a place at = Done (record {
  answered = answers_so x.location (record { answer = a; at = Some at }) place x.learned;
  room = Some p;
})

-- a brick that is down, failed or has no memory stops it
abbrev pub unless_fault : Option Errno → Location → Option (List (Option Range))
    → Turn Lookup Resolved → Turn Lookup Resolved
unless_fault None l layout turn = turn
unless_fault (Some e) l layout turn = stopped l e layout

-- ---- the survey

-- a brick showed the directory's range, with the ranges
-- so far: the next is asked, or all have shown it
abbrev pub surveyed : Location → Prepared → BrickNo → List (Option Range) → Lookup
surveyed l p b ranges =
    if nat_le (l.bricks - b.0) 1
    then aimed l p (Some ranges) ranges
    else Surveying l p (record { 0 = b.0 + 1 }) ranges

abbrev pub survey_answered :
    Location → Prepared → BrickNo → List (Option Range) → Reply → ℕ → Turn Lookup Resolved
survey_answered l p b ranges r at =
    if shows_gone l.directory b r
    then gone l at None
    else (
    if is_shown r
    then Go (surveyed l p b (lengthened ranges (range_shown r)))
    else Go (Surveying l p b ranges))

-- ---- the looks before any lock

-- the holder showed this: a linkto is followed
abbrev pub holder_showed : Sought → Prepared → Shown → ℕ → Turn Lookup Resolved
holder_showed x p (File f) at = shown_at x p (answer.File f) (Some x.brick) at
holder_showed x p (Dir g) at = shown_at x p (answer.Dir g) None at
holder_showed x p (Leads b) at = Go (FollowingLinkto (record x { brick = b }) p)
holder_showed x p Nothing at = Go (LookingEverywhere x.location (begun p) x.learned)

-- the brick to which it leads did: it is followed once
abbrev pub linked_showed : Sought → Prepared → Shown → ℕ → Turn Lookup Resolved
linked_showed x p (File f) at = shown_at x p (answer.File f) (Some x.brick) at
linked_showed x p (Dir g) at = shown_at x p (answer.Dir g) None at
linked_showed x p shown at = Go (LookingEverywhere x.location (begun p) x.learned)

abbrev pub holder_looked : Sought → Prepared → Reply → ℕ → Turn Lookup Resolved
holder_looked x p r at =
    if is_shown r
    then holder_showed x p (shown_as x.location.bricks r) at
    else Go (LookingAtHolder x p)

abbrev pub linked_looked : Sought → Prepared → Reply → ℕ → Turn Lookup Resolved
linked_looked x p r at =
    if is_shown r
    then linked_showed x p (shown_as x.location.bricks r) at
    else Go (FollowingLinkto x p)

-- ---- the section

-- a linkto leads to this brick
abbrev pub is_to : Linkto → BrickNo → Bool
is_to (To other) b = nat_eq other.0 b.0
is_to x b = false

-- a lookup by this holder would not find the file, and a linkto there would help
abbrev pub wants_linkto : Location → Held → ℕ → Place → Bool
wants_linkto l h holder p =
    not (nat_eq holder p.brick.0)
    && mark_at (held_looked h (entry_at l)).sight.copies holder
    && not (is_to (linkto_at (held_looked h (entry_at l)).sight.linktos holder) p.brick)

-- the locks are given back, and it answers so
abbrev pub closed : Location → Held → Finish → Option BrickNo → Lookup
closed l h f place =
    Ending (release_of h) (answers_so l f place (Some (held_layout h (entry_at l))))

abbrev pub answers_file : Location → Held → Place → Lookup
answers_file l h p = closed l h (seen_finish (held_looked h (entry_at l))) (Some p.brick)

-- a file that is not on its holder gets a linkto there first
abbrev pub placed_by : Option ℕ → Location → Held → Place → Lookup
placed_by None l h p = answers_file l h p
placed_by (Some b) l h p =
    if wants_linkto l h b p
    then LayingLinkto (record { location = l; held = h; holder = record { 0 = b }; place = p })
    else answers_file l h p

abbrev pub file_found : Location → Held → Place → Lookup
file_found l h p = placed_by (held_holder h (entry_at l)) l h p

abbrev pub found_by : Option Place → Location → Held → Lookup
found_by None l h = closed l h (seen_finish (held_looked h (entry_at l))) None
found_by (Some p) l h = file_found l h p

-- after all bricks were looked at
abbrev pub looked_up : Location → Held → Lookup
looked_up l h = found_by (file_in (held_looked h (entry_at l)).sight.what) l h

-- a section that is not held has given back its locks
abbrev pub opened : Location → Option (List (Option Range)) → Opened → Turn Lookup Resolved
opened l learned (Holding h) = Go (looked_up l h)
opened l learned (IsGone g at) = gone l at learned
opened l learned (IsStopped e) = stopped l e learned

abbrev pub section_turned :
    Location → Turn Section Opened → Option (List (Option Range)) → Turn Lookup Resolved
section_turned l (Go m) learned = Go (LookingEverywhere l m learned)
section_turned l (Done out) learned = opened l learned out

-- ---- the linkto, and the release

abbrev pub laid_by : Option Errno → Misplaced → Reply → Lookup
laid_by (Some e) y r = closed y.location y.held (fault_finish e) None
laid_by None y r =
    if is_carried (reply_kind r) then answers_file y.location y.held y.place else LayingLinkto y

abbrev pub linkto_answered : Misplaced → Reply → Lookup
linkto_answered y r = laid_by (fault_of r) y r

abbrev pub release_turned : Turn Release Prepared → Answered → Turn Lookup Resolved
release_turned (Go m) x = Go (Ending m x)
release_turned (Done p) x = Done (record { answered = x; room = Some p })

-- ---- all of it

abbrev pub lookup_after : Lookup → Reply → ℕ → Turn Lookup Resolved
lookup_after (Surveying l p b ranges) r at =
    unless_fault (fault_of r) l None (survey_answered l p b ranges r at)
lookup_after (LookingAtHolder x p) r at =
    unless_fault (fault_of r) x.location x.learned (holder_looked x p r at)
lookup_after (FollowingLinkto x p) r at =
    unless_fault (fault_of r) x.location x.learned (linked_looked x p r at)
lookup_after (LookingEverywhere l m learned) r at = section_turned l (section_after m r at) learned
lookup_after (LayingLinkto y) r at = Go (linkto_answered y r)
lookup_after (Ending m x) r at = release_turned (release_after m) x
