-- Where a lookup is between its requests.
use Rattle.std.specs.Prelude.{ℕ, suc, ◌+◌, ◌*◌, ◌-◌, ◌<◌, ◌≡◌, ◌≢◌, Bool, true, false, is_some, nat_le, nat_lt, if◌then◌else◌, Option, Some, None, List, [], length}
use Rattle.dht_types.specs.Gfid.{home}
use Rattle.dht_types.specs.Linkto.{linkto_value}
use Rattle.dht_types.specs.Tree.{IsDir}
use Rattle.dht_types.specs.Volume.{replay_names}
use Rattle.dht_types.specs.declared.identifiers.BrickNo.{BrickNo}
use Rattle.dht_types.specs.declared.identifiers.Gfid.{Gfid}
use Rattle.dht_types.specs.declared.errors.Errno.{Errno}
use Rattle.dht_types.specs.declared.errors.Errno.TheVariants.{Enoent}
use Rattle.dht_types.specs.declared.calls.Call.TheVariants as call
use Rattle.dht_types.specs.declared.calls.Answer.{Answer}
use Rattle.dht_types.specs.declared.calls.Answer.TheVariants as answer
use Rattle.dht_brick.specs.declared.requests.NameRequest.TheVariants.{Look, Dirinfo, MakeLinkto}
use Rattle.dht_brick.specs.declared.requests.Request.TheVariants.{OnNames}
use Rattle.dht_brick.specs.declared.replies.Reply.{Reply}
use Rattle.dht_hash.specs.DaviesMeyer.{dm}
use Rattle.dht_xattr.specs.Layout.{holder}
use Rattle.dht_xattr.specs.declared.range.Range.{Range}
use Rattle.dht_section.specs.Claims.{no_claim}
use Rattle.dht_section.specs.AsCall.{MayAnswerAs}
use Rattle.dht_section.specs.Release.{CanBegin, release_stage}
use Rattle.dht_section.specs.Faults.{brick_fault, part_fault}
use Rattle.dht_section.specs.Location.{IsHeldAt, entry_at, scope_at}
use Rattle.dht_section.specs.Looks.{lengthened, mark_at, file_in}
use Rattle.dht_section.specs.Parts.{as_part}
use Rattle.dht_section.specs.Replies.{is_shown, range_shown}
use Rattle.dht_section.specs.Scene.{Scene, IfAlone}
use Rattle.dht_section.specs.Section.{all_claimed, held_holder, held_layout, held_looked, last_lock, section_fault, section_scope, section_stage, section_taught, shows_gone}
use Rattle.dht_section.specs.Stages.{Stage, Ending}
use Rattle.dht_section.specs.declared.ended.Ended.{Ended}
use Rattle.dht_section.specs.declared.location.Location.{Location}
use Rattle.dht_section.specs.declared.looks.Looked.{Looked}
use Rattle.dht_section.specs.declared.looks.What.{What}
use Rattle.dht_section.specs.declared.looks.What.TheVariants.{Absent, Dir, File}
use Rattle.dht_section.specs.declared.machine.Ask.{Ask}
use Rattle.dht_section.specs.declared.machine.Finish.{Finish}
use Rattle.dht_section.specs.declared.machine.Turn.{Turn}
use Rattle.dht_section.specs.declared.machine.Turn.TheVariants.{Go, Done}
use Rattle.dht_section.specs.declared.section.Section.{Section}
use Rattle.dht_resolve.specs.declared.lookup.Lookup.{Lookup}
use Rattle.dht_resolve.specs.declared.lookup.Lookup.TheVariants.{Surveying, LookingAtHolder, FollowingLinkto, LookingEverywhere, LayingLinkto, Ending as Ends}
use Rattle.dht_resolve.specs.declared.lookup.Misplaced.{Misplaced}
use Rattle.dht_resolve.specs.declared.lookup.Answered.{Answered}
use Rattle.dht_resolve.specs.declared.lookup.Resolved.{Resolved}
use Rattle.dht_resolve.specs.declared.lookup.Sought.{Sought}
use Rattle.dht_section.specs.declared.release.Release.{Release}
use Rattle.dht_section.specs.declared.section.Prepared.{Prepared}
use Rattle.dht_section.specs.Section.{begun}
use Rattle.dht_section.specs.Location.{prepared_at}

-- ---- what it answers

-- what is answered where the name is this
abbrev pub found_answer : What → Answer
found_answer Absent = answer.Fault Enoent
found_answer (Dir g) = answer.Dir g
found_answer (File f b links) = answer.File f

-- to a name that was seen so, at the line of its last look
abbrev pub seen_finish : Looked → Finish
seen_finish x = record { answer = found_answer x.sight.what; at = Some x.at }

-- the answer is a file
abbrev pub is_file : Answer → Bool
is_file (answer.File f) = true
is_file a = false

-- a brick is told exactly where the answer is a file
abbrev pub HasPlace : Answer → Option BrickNo → Type 0
HasPlace a place = is_some place ≡ is_file a

-- a directory that is answered is not the one in which it stands
abbrev pub IsApart : Gfid → Answer → Type 0
IsApart d (answer.Dir g) = g ≢ d
IsApart d a = Unit {0}

-- the answer is right still: the name is that directory's
abbrev pub IsStillSo : Location → Answer → Scene → Type 0
IsStillSo l (answer.Dir g) s = s.history.tree.names (entry_at l) ≡ Some (IsDir g)
IsStillSo l a s = Unit {0}

-- it was right to answer so, as a lookup of the name; the call that runs has done no step
pub record IsAnswered (x : Answered) (s : Scene) : Type 0 where
  pub told : MayAnswerAs (call.Lookup x.location.directory x.location.name) x.finish s
  pub place : HasPlace x.finish.answer x.place
  pub apart : IsApart x.location.directory x.finish.answer
  pub still : IfAlone (IsStillSo x.location x.finish.answer) s
  pub deeds : s.mine.deeds ≡ None

-- a section of the name may begin with this memory
pub record IsRoom (l : Location) (p : Prepared) (s : Scene) : Type 0 where
  pub scope : p.scope ≡ scope_at l
  pub can : CanBegin p s

-- there is such memory where the name is a file or a directory
abbrev pub HasRoom : Location → Answer → Option Prepared → Scene → Type 0
HasRoom l a (Some p) s = IsRoom l p s
HasRoom l (answer.Fault e) None s = Unit {0}
HasRoom l a None s = ⊥

-- what is true of what it hands out: it claims nothing
abbrev pub resolved : Resolved → Ending
resolved d = record {
  claims = no_claim;
  earned = λ s. IsAnswered d.answered s
      × HasRoom d.answered.location d.answered.finish.answer d.room s;
}

-- what it hands out as any call does, without the brick
abbrev pub as_ended : Resolved → Ended
as_ended d = record { finish = d.answered.finish; layout = d.answered.layout }

abbrev pub ended_turn : Turn Lookup Resolved → Turn Lookup Ended
ended_turn (Go m) = Go m
ended_turn (Done d) = Done (as_ended d)

-- ---- what it knows

-- the holder of a name by a layout: the first brick whose range contains the hash of the name
abbrev pub holder_in : List (Option Range) → List ℕ → Option ℕ
holder_in ranges name = holder ranges (dm name)

-- the scene in which it begins
pub record MayLookUp (l : Location) (s : Scene) : Type 0 where
  pub count : length s.history.weights ≡ l.bricks
  pub home : home l.directory < l.bricks
  pub deeds : s.mine.deeds ≡ None

-- the section has not begun
abbrev pub Waits : Location → Prepared → Scene → Type 0
Waits l p s = IsRoom l p s

-- and the brick that is asked next is one of the volume
pub record Seeks (l : Location) (p : Prepared) (b : BrickNo) (s : Scene) : Type 0 where
  pub waits : Waits l p s
  pub within : b.0 < l.bricks

-- the section is that of the name; what stopped it, if it was
-- stopped, is an error of a brick; and the call has done no step
pub record Secures (l : Location) (m : Section) (s : Scene) : Type 0 where
  pub scope : section_scope m ≡ scope_at l
  pub fault : part_fault (section_fault m) ≡ section_fault m
  pub deeds : s.mine.deeds ≡ None

-- the section is held, and the file is not on the name's holder, which has the directory
pub record IsMisplaced (y : Misplaced) (s : Scene) : Type 0 where
  pub held : IsHeldAt y.location y.held s
  pub file : file_in (held_looked y.held (entry_at y.location)).sight.what ≡ Some y.place
  pub holds : held_holder y.held (entry_at y.location) ≡ Some y.holder.0
  pub apart : y.holder.0 ≢ y.place.brick.0
  pub copied : mark_at (held_looked y.held (entry_at y.location)).sight.copies y.holder.0 ≡ true

-- the answer is right, and the memory that is left is that of the name's section
pub record Answers (m : Release) (x : Answered) (s : Scene) : Type 0 where
  pub right : IsAnswered x s
  pub scope : m.scope ≡ scope_at x.location

-- ---- where it is

abbrev pub look_ask : Sought → Ask
look_ask x = record {
  brick = x.brick;
  request = OnNames (Look x.location.directory x.location.name);
}

-- the linkto names the file's brick
abbrev pub linkto_ask : Misplaced → Ask
linkto_ask y = record {
  brick = y.holder;
  request = OnNames (MakeLinkto y.location.directory y.location.name
      (linkto_value (replay_names y.location.bricks) y.place.brick.0));
}

abbrev pub lookup_stage : Lookup → Stage
lookup_stage (Surveying l p b ranges) = record {
  asks = record { brick = b; request = OnNames (Dirinfo l.directory) };
  claims = no_claim;
  variant = (l.bricks - b.0) + l.bricks + 7;
  knows = λ s. Seeks l p b s;
}
lookup_stage (LookingAtHolder x p) = record {
  asks = look_ask x;
  claims = no_claim;
  variant = x.location.bricks + 7;
  knows = λ s. Seeks x.location p x.brick s;
}
lookup_stage (FollowingLinkto x p) = record {
  asks = look_ask x;
  claims = no_claim;
  variant = x.location.bricks + 6;
  knows = λ s. Seeks x.location p x.brick s;
}
lookup_stage (LookingEverywhere l m learned) = as_part (section_stage m) 1 (λ s. Secures l m s)
lookup_stage (LayingLinkto y) = record {
  asks = linkto_ask y;
  claims = all_claimed y.held.scope;
  variant = suc (last_lock y.held.scope) + 1;
  knows = λ s. IsMisplaced y s;
}
lookup_stage (Ends m x) = as_part (release_stage m) 0 (λ s. Answers m x s)

-- the error of a brick that ended it
abbrev pub lookup_fault : Lookup → Option Errno
lookup_fault (LookingEverywhere l m learned) = part_fault (section_fault m)
lookup_fault (Ends m x) = brick_fault x.finish.answer
lookup_fault m = None

-- the layout that it has learned
abbrev pub lookup_layout : Lookup → Option (List (Option Range))
lookup_layout (Surveying l p b ranges) = None
lookup_layout (LookingAtHolder x p) = x.learned
lookup_layout (FollowingLinkto x p) = x.learned
lookup_layout (LookingEverywhere l m learned) = learned
lookup_layout (LayingLinkto y) = Some (held_layout y.held (entry_at y.location))
lookup_layout (Ends m x) = x.layout

-- what a reply to the survey teaches, with the ranges so far:
-- every brick has shown its range, and the directory is there
abbrev pub survey_taught :
    (gone shown : Bool) → Location → BrickNo → List (Option Range) → Option (List (Option Range))
survey_taught true shown l b ranges = None
survey_taught false false l b ranges = None
survey_taught false true l b ranges = if nat_le (l.bricks - b.0) 1 then Some ranges else None

-- the layout that a reply teaches it
abbrev pub lookup_taught : Lookup → Reply → Option (List (Option Range))
lookup_taught (Surveying l p b ranges) r =
    survey_taught (shows_gone l.directory b r) (is_shown r) l b (lengthened ranges (range_shown r))
lookup_taught (LookingEverywhere l m learned) r = section_taught (entry_at l) m r
lookup_taught m r = None

-- ---- its beginning

-- a lookup by a layout, learned or known: it looks at the holder,
-- if a brick of the volume is one, and else at all bricks
abbrev pub aimed_at : Location → Prepared → Option (List (Option Range)) → Option ℕ → Lookup
aimed_at l p learned None = LookingEverywhere l (begun p) learned
aimed_at l p learned (Some b) =
    if nat_lt b l.bricks
    then LookingAtHolder (record { location = l; brick = record { 0 = b }; learned = learned }) p
    else LookingEverywhere l (begun p) learned

abbrev pub aimed : Location → Prepared → Option (List (Option Range)) → List (Option Range) → Lookup
aimed l p learned ranges = aimed_at l p learned (holder_in ranges l.name)

-- a lookup with this memory by this layout, if there is one; the call has learned this
abbrev pub lookup_with :
    Prepared → Location → (layout learned : Option (List (Option Range))) → Lookup
lookup_with p l None learned = Surveying l p (record { 0 = 0 }) []
lookup_with p l (Some ranges) learned = aimed l p learned ranges

-- a lookup by a client that knows this layout or none
abbrev pub first_lookup : Location → Option (List (Option Range)) → Lookup
first_lookup l layout = lookup_with (prepared_at l) l layout None

-- a lookup once more, by the layout that was read, if one was
abbrev pub lookup_again : Prepared → Location → Option (List (Option Range)) → Lookup
lookup_again p l read = lookup_with p l read read

-- it sends so many requests at most
abbrev pub lookup_steps : Location → Option (List (Option Range)) → ℕ
lookup_steps l None = 2 * l.bricks + 7
lookup_steps l (Some ranges) = l.bricks + 7
