-- A lookup stays one of its name.
use Rattle.std.proofs.Common.{◌≡◌, ◌-◌, ℕ, List, Bool, true, false, refl}
use Rattle.std.specs.Prelude.{Option, Some, None, nat_le, nat_lt, if◌then◌else◌}
use Rattle.dht_types.specs.History.{is_carried}
use Rattle.dht_types.specs.declared.errors.Errno.{Errno}
use Rattle.dht_types.specs.declared.identifiers.BrickNo.{BrickNo}
use Rattle.dht_brick.specs.Kinds.{reply_kind}
use Rattle.dht_brick.specs.declared.replies.Reply.{Reply}
use Rattle.dht_xattr.specs.declared.range.Range.{Range}
use Rattle.dht_section.specs.Location.{entry_at}
use Rattle.dht_section.specs.Looks.{file_in, lengthened}
use Rattle.dht_section.specs.Release.{release_after}
use Rattle.dht_section.specs.Replies.{fault_of, is_shown, range_shown}
use Rattle.dht_section.specs.Section.{held_holder, held_looked, section_after, shows_gone}
use Rattle.dht_section.specs.declared.location.Location.{Location}
use Rattle.dht_section.specs.declared.looks.Place.{Place}
use Rattle.dht_section.specs.declared.machine.Turn.{Turn}
use Rattle.dht_section.specs.declared.machine.Turn.TheVariants.{Go, Done}
use Rattle.dht_section.specs.declared.release.Release.{Release}
use Rattle.dht_section.specs.declared.section.Held.{Held}
use Rattle.dht_section.specs.declared.section.Opened.{Opened}
use Rattle.dht_section.specs.declared.section.Opened.TheVariants.{Held as Holding, Gone as IsGone, Stopped as IsStopped}
use Rattle.dht_section.specs.declared.section.Prepared.{Prepared}
use Rattle.dht_section.specs.declared.section.Section.{Section}
use Rattle.dht_resolve.specs.Found.{shown_as}
use Rattle.dht_resolve.specs.Lookup.{aimed_at, holder_in}
use Rattle.dht_resolve.specs.LookupName.{KeepsLocation, lookup_location}
use Rattle.dht_resolve.specs.Turns.{found_by, holder_looked, holder_showed, laid_by, linked_looked, linked_showed, lookup_after, placed_by, release_turned, section_turned, survey_answered, surveyed, unless_fault, wants_linkto}
use Rattle.dht_resolve.specs.declared.lookup.Answered.{Answered}
use Rattle.dht_resolve.specs.declared.lookup.Lookup.{Lookup}
use Rattle.dht_resolve.specs.declared.lookup.Lookup.TheVariants.{Surveying, LookingAtHolder, FollowingLinkto, LookingEverywhere, LayingLinkto, Ending}
use Rattle.dht_resolve.specs.declared.lookup.Misplaced.{Misplaced}
use Rattle.dht_resolve.specs.declared.lookup.Resolved.{Resolved}
use Rattle.dht_resolve.specs.declared.lookup.Shown.{Shown}
use Rattle.dht_resolve.specs.declared.lookup.Shown.TheVariants.{Nothing, Dir, File, Leads}
use Rattle.dht_resolve.specs.declared.lookup.Sought.{Sought}

-- it is of this name after the turn
abbrev StaysAt : Location → Turn Lookup Resolved → Type 0
StaysAt l (Go n) = lookup_location n ≡ l
StaysAt l (Done d) = d.answered.location ≡ l

-- what holds of both branches
pub of_both :
    {A : Type 0} (P : A → Type 0) (v : Bool) (x y : A) → P x → P y → P (if v then x else y)
of_both P true x y there elsewhere = there
of_both P false x y there elsewhere = elsewhere

abbrev IsAt : Location → Lookup → Type 0
IsAt l m = lookup_location m ≡ l

aimed_stays :
    (l : Location) (p : Prepared) (learned : Option (List (Option Range))) (o : Option ℕ)
    → IsAt l (aimed_at l p learned o)
aimed_stays l p learned None = refl
aimed_stays l p learned (Some b) = of_both (IsAt l) (nat_lt b l.bricks) _ _ refl refl

surveyed_stays :
    (l : Location) (p : Prepared) (b : BrickNo) (ranges : List (Option Range))
    → IsAt l (surveyed l p b ranges)
surveyed_stays l p b ranges = of_both (IsAt l) (nat_le (l.bricks - b.0) 1) _ _ (aimed_stays l p (Some ranges) (holder_in ranges l.name)) refl

survey_stays :
    (l : Location) (p : Prepared) (b : BrickNo) (ranges : List (Option Range)) (r : Reply) (at : ℕ)
    → StaysAt l (survey_answered l p b ranges r at)
survey_stays l p b ranges r at = of_both (StaysAt l) (shows_gone l.directory b r) _ _ refl (of_both (StaysAt l) (is_shown r) _ _ (surveyed_stays l p b (lengthened ranges (range_shown r))) refl)

holder_stays :
    (x : Sought) (p : Prepared) (shown : Shown) (at : ℕ)
    → StaysAt x.location (holder_showed x p shown at)
holder_stays x p (File f) at = refl
holder_stays x p (Dir g) at = refl
holder_stays x p (Leads b) at = refl
holder_stays x p Nothing at = refl

linked_stays :
    (x : Sought) (p : Prepared) (shown : Shown) (at : ℕ)
    → StaysAt x.location (linked_showed x p shown at)
linked_stays x p (File f) at = refl
linked_stays x p (Dir g) at = refl
linked_stays x p (Leads b) at = refl
linked_stays x p Nothing at = refl

served_stays :
    (o : Option Errno) (l : Location) (layout : Option (List (Option Range)))
    (turn : Turn Lookup Resolved)
    → StaysAt l turn → StaysAt l (unless_fault o l layout turn)
served_stays None l layout turn h = h
served_stays (Some e) l layout turn h = refl

placed_stays : (o : Option ℕ) (l : Location) (h : Held) (p : Place) → IsAt l (placed_by o l h p)
placed_stays None l h p = refl
placed_stays (Some b) l h p = of_both (IsAt l) (wants_linkto l h b p) _ _ refl refl

found_stays : (o : Option Place) (l : Location) (h : Held) → IsAt l (found_by o l h)
found_stays None l h = refl
found_stays (Some p) l h = placed_stays (held_holder h (entry_at l)) l h p

section_stays :
    (l : Location) (turn : Turn Section Opened) (learned : Option (List (Option Range)))
    → StaysAt l (section_turned l turn learned)
section_stays l (Go m) learned = refl
section_stays l (Done (Holding h)) learned = found_stays (file_in (held_looked h (entry_at l)).sight.what) l h
section_stays l (Done (IsGone g at)) learned = refl
section_stays l (Done (IsStopped e)) learned = refl

laid_stays : (o : Option Errno) (y : Misplaced) (r : Reply) → IsAt y.location (laid_by o y r)
laid_stays None y r = of_both (IsAt y.location) (is_carried (reply_kind r)) _ _ refl refl
laid_stays (Some e) y r = refl

release_stays :
    (turn : Turn Release Prepared) (x : Answered) → StaysAt x.location (release_turned turn x)
release_stays (Go m) x = refl
release_stays (Done p) x = refl

stays : (m : Lookup) (r : Reply) (at : ℕ) → StaysAt (lookup_location m) (lookup_after m r at)
stays (Surveying l p b ranges) r at = served_stays (fault_of r) l None (survey_answered l p b ranges r at) (survey_stays l p b ranges r at)
stays (LookingAtHolder x p) r at = served_stays (fault_of r) x.location x.learned (holder_looked x p r at) (of_both (StaysAt x.location) (is_shown r) _ _ (holder_stays x p (shown_as x.location.bricks r) at) refl)
stays (FollowingLinkto x p) r at = served_stays (fault_of r) x.location x.learned (linked_looked x p r at) (of_both (StaysAt x.location) (is_shown r) _ _ (linked_stays x p (shown_as x.location.bricks r) at) refl)
stays (LookingEverywhere l m learned) r at = section_stays l (section_after m r at) learned
stays (LayingLinkto y) r at = laid_stays (fault_of r) y r
stays (Ending m x) r at = release_stays (release_after m) x

to_turn :
    (m : Lookup) (turn : Turn Lookup Resolved) → StaysAt (lookup_location m) turn
    → KeepsLocation m turn
to_turn m (Go n) h = h
to_turn m (Done d) h = h

pub keeps_location : (m : Lookup) (r : Reply) (at : ℕ) → KeepsLocation m (lookup_after m r at)
keeps_location m r at = to_turn m (lookup_after m r at) (stays m r at)
