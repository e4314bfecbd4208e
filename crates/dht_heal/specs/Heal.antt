-- Where a heal is between its requests, and how a reply takes it on.
use Rattle.std.specs.Prelude.{ℕ, suc, zero, ◌+◌, ◌*◌, ◌-◌, ◌<◌, ◌≤◌, ◌≡◌, ◌≢◌, Bool, true, false, nat_lt, nat_le, if◌then◌else◌, Option, Some, None, List, [], length, slice_index_or, replicate}
use Rattle.dht_types.specs.Gfid.{root, home, same_gfid}
use Rattle.dht_types.specs.Tree.{Descent, deepest}
use Rattle.dht_types.specs.declared.calls.Answer.TheVariants as answer
use Rattle.dht_types.specs.declared.errors.Errno.{Errno}
use Rattle.dht_types.specs.declared.identifiers.Gfid.{Gfid}
use Rattle.dht_types.specs.declared.names.EntryKey.{EntryKey}
use Rattle.dht_xattr.specs.Plan.{planned}
use Rattle.dht_xattr.specs.declared.range.Range.{Range}
use Rattle.dht_brick.specs.declared.replies.Given.TheVariants as given
use Rattle.dht_brick.specs.declared.replies.Reply.{Reply}
use Rattle.dht_brick.specs.declared.replies.Reply.TheVariants.{Ok as Carried}
use Rattle.dht_brick.specs.declared.requests.NameRequest.TheVariants.{Dirinfo}
use Rattle.dht_brick.specs.declared.requests.Request.TheVariants.{OnNames}
use Rattle.dht_section.specs.Claims.{no_claim}
use Rattle.dht_section.specs.Ended.{gone_at}
use Rattle.dht_section.specs.Faults.{brick_error, brick_fault, fault_for, part_fault}
use Rattle.dht_section.specs.Healed.{IsHealed, IsWhole}
use Rattle.dht_section.specs.Looks.{is_nodir, with_at}
use Rattle.dht_section.specs.Parts.{as_part}
use Rattle.dht_section.specs.Replies.{fault_of}
use Rattle.dht_section.specs.Scene.{Scene, IfAlone, MayAnswer, fault_finish}
use Rattle.dht_section.specs.Shapes.{either}
use Rattle.dht_section.specs.Stages.{Ending, MatchTurn, Stage}
use Rattle.dht_section.specs.declared.machine.Finish.{Finish}
use Rattle.dht_section.specs.declared.machine.Turn.{Turn}
use Rattle.dht_section.specs.declared.machine.Turn.TheVariants.{Go, Done}
use Rattle.dht_heal.specs.HealOne.{first_heal_one, heal_one_after, heal_one_fault, heal_one_stage, target_of}
use Rattle.dht_heal.specs.declared.heal.Climb.{Climb}
use Rattle.dht_heal.specs.declared.heal.Heal.{Heal}
use Rattle.dht_heal.specs.declared.heal.Heal.TheVariants.{Climbing, Healing}
use Rattle.dht_heal.specs.declared.heal.HealEnd.{HealEnd}
use Rattle.dht_heal.specs.declared.heal_one.HealOne.{HealOne}
use Rattle.dht_heal.specs.declared.heal_one.HealOne.TheVariants.{Unlocking}
use Rattle.dht_heal.specs.declared.heal_one.HealedOne.{HealedOne}
use Rattle.dht_heal.specs.declared.heal_one.HealedOne.TheVariants.{Healed, Gone, Parent, Stopped}
use Rattle.dht_heal.specs.declared.room.HealRoom.{HealRoom}

-- ---- its memory

-- the most directories on a way up to the root
abbrev pub longest : ℕ
longest = 65

abbrev pub path_at : List Gfid → ℕ → Gfid
path_at path i = slice_index_or path i root

abbrev pub first_room : List ℕ → HealRoom
first_room weights = record { path = replicate longest root; weights = weights }

-- the same with a directory at a place
abbrev pub with_place : HealRoom → ℕ → Gfid → HealRoom
with_place r i g = record r { path = with_at r.path i g }

-- the plan of a directory: a volume has 32 bricks at most
abbrev pub plan_by : List ℕ → Gfid → List (Option Range)
plan_by weights g = if nat_le (length weights) 32 then planned weights g else []

-- ---- what it knows

-- the memory of a heal, in the scene's volume
pub record IsRoom (r : HealRoom) (s : Scene) : Type 0 where
  pub path : length r.path ≡ longest
  pub weights : r.weights ≡ s.history.weights

-- the directory at a place of a path stands in the next one, which may be healed too
pub record IsStep (path : List Gfid) (i : ℕ) (s : Scene) : Type 0 where
  pub name : List ℕ
  pub above : Descent
  pub stands : s.history.tree.descents (path_at path i)
      ≡ Some (record { depth = above.depth + 1; place = Some (path_at path (suc i), name) })
  pub parent : s.history.tree.descents (path_at path (suc i)) ≡ Some above
  pub shallow : above.depth + suc i ≤ deepest
  pub home : home (path_at path (suc i)) < s.disk.count

-- the directories of the path up to its place stand each in the next; the call has done no step
pub record IsPath (c : Climb) (s : Scene) : Type 0 where
  pub room : IsRoom c.room s
  pub count : length s.history.weights ≡ c.bricks
  pub home : home (path_at c.room.path 0) < c.bricks
  pub deeds : s.mine.deeds ≡ None
  pub steps : (i : ℕ) → i < c.place → IsStep c.room.path i s

-- and the last of them is not the root
pub record Climbs (c : Climb) (s : Scene) : Type 0 where
  pub path : IsPath c s
  pub below : path_at c.room.path c.place ≢ root

-- the tree had a directory at this line, or not, and the call was running
pub record WasDir (d : Gfid) (there : Bool) (at : ℕ) (s : Scene) : Type 0 where
  pub after : s.mine.since ≤ at
  pub before : at ≤ s.history.size
  pub was : (s.history.past at).dirs d ≡ there

-- the line at which a directory that is being healed was found to be gone, if it was
abbrev pub gone_line : HealedOne → Option ℕ
gone_line (Gone at) = Some at
gone_line d = None

abbrev pub heal_one_gone : HealOne → Option ℕ
heal_one_gone (Unlocking x d) = gone_line d
heal_one_gone m = None

-- one that was gone leaves none below it
abbrev pub GoneBelow : Option ℕ → Gfid → Scene → Type 0
GoneBelow None d s = Unit {0}
GoneBelow (Some at) d s = WasDir d false at s

-- the directories of the path above a place are whole
abbrev pub AllWhole : List Gfid → (place top : ℕ) → Scene → Type 0
AllWhole path place top s = (j : ℕ) → place < j → j ≤ top → IsWhole s.disk (path_at path j)

-- the path is known up to the root; if the call was alone the
-- directories above the one that is being healed are whole
pub record Heals (m : HealOne) (c : Climb) (s : Scene) : Type 0 where
  pub top : ℕ
  pub within : c.place ≤ top
  pub ends : path_at c.room.path top ≡ root
  pub path : IsPath (record c { place = top }) s
  pub whole : IfAlone (AllWhole c.room.path c.place top) s
  pub heals : (target_of m).directory ≡ path_at c.room.path c.place
  pub gone : GoneBelow (heal_one_gone m) (path_at c.room.path 0) s

-- ---- where it is between its requests

-- the directory at its place
abbrev pub asked : Climb → Gfid
asked c = path_at c.room.path c.place

-- how many requests the healing of one directory takes at most
abbrev pub one_cost : ℕ → ℕ
one_cost bricks = 3 * bricks + 2

abbrev pub heal_stage : Heal → Stage
heal_stage (Climbing c) = record {
  asks = record { brick = record { 0 = home (asked c) }; request = OnNames (Dirinfo (asked c)) };
  claims = no_claim;
  variant = (deepest - c.place) + longest * one_cost c.bricks;
  knows = λ s. Climbs c s;
}
heal_stage (Healing m c) =
    as_part (heal_one_stage m) (c.place * one_cost c.bricks) (λ s. Heals m c s)

-- the directory that it heals
abbrev pub heal_dir : Heal → Gfid
heal_dir (Climbing c) = path_at c.room.path 0
heal_dir (Healing m c) = path_at c.room.path 0

abbrev pub end_dir : HealEnd → Gfid
end_dir e = path_at e.room.path 0

-- it stays the same
abbrev pub KeepsDir : Heal → Turn Heal HealEnd → Type 0
KeepsDir m turn = MatchTurn turn (λ n. heal_dir n ≡ heal_dir m) (λ d. end_dir d ≡ heal_dir m)

-- ---- how it ends

-- the answer that it is done, at this line
abbrev pub healed_at : ℕ → Finish
healed_at at = record { answer = answer.Done; at = Some at }

-- what is true where a heal of a directory ends so: the tree had the directory
-- at that line, and all is whole if the call was alone; or the tree had none,
-- and has none if it was alone; or it was stopped by the error of a brick
pub data HealTold (d : Gfid) (f : Finish) (s : Scene) : Type 0 where
  IsDone : (at : ℕ) → f ≡ healed_at at → WasDir d true at s
      → IfAlone (λ x. IsHealed x.disk x.history.tree d) s → HealTold d f s
  IsGone : (at : ℕ) → f ≡ gone_at at → WasDir d false at s
      → IfAlone (λ x. x.history.tree.dirs d ≡ false) s → HealTold d f s
  IsStopped : (e : Errno) → f ≡ fault_finish e → brick_error e ≡ Some e → MayAnswer f s
      → HealTold d f s

-- its memory is the enclosing call's again, which has done no step
pub record HealEarned (e : HealEnd) (s : Scene) : Type 0 where
  pub told : HealTold (end_dir e) e.finish s
  pub room : IsRoom e.room s
  pub deeds : s.mine.deeds ≡ None

abbrev pub heal_ending : HealEnd → Ending
heal_ending e = record { claims = no_claim; earned = λ s. HealEarned e s }

-- ---- its beginning

-- the directory at its place is healed next
abbrev pub heal_at : Climb → Heal
heal_at c = Healing (first_heal_one c.bricks (plan_by c.room.weights (asked c)) (asked c)) c

-- the directory at its place is asked for next; the root stands nowhere, and is healed
abbrev pub heal_on : Climb → Heal
heal_on c = if same_gfid (asked c) root then heal_at c else Climbing c

abbrev pub first_climb : HealRoom → ℕ → Gfid → Climb
first_climb r bricks d = record { room = with_place r 0 d; bricks = bricks; place = 0 }

abbrev pub first_heal : HealRoom → ℕ → Gfid → Heal
first_heal r bricks d = heal_on (first_climb r bricks d)

-- the scene in which it begins
pub record MayHeal (r : HealRoom) (bricks : ℕ) (d : Gfid) (s : Scene) : Type 0 where
  pub room : IsRoom r s
  pub count : length s.history.weights ≡ bricks
  pub few : bricks ≤ 32
  pub home : home d < bricks
  pub deeds : s.mine.deeds ≡ None

-- it sends so many requests at most
abbrev pub StartsHeal : ℕ → Heal → Type 0
StartsHeal bricks m = (heal_stage m).variant ≤ 195 * bricks + 194

-- ---- how a reply takes it on

-- the directory above the one whose record a reply shows
abbrev pub place_dir : Option EntryKey → Option Gfid
place_dir None = None
place_dir (Some key) = Some key.dir

abbrev pub parent_shown : Reply → Option Gfid
parent_shown (Carried (given.Dirinfo info)) = place_dir info.place
parent_shown r = None

abbrev pub end_of : HealRoom → Finish → HealEnd
end_of r f = record { finish = f; room = r }

-- the directory at its place stands in this one
abbrev pub next_climb : Climb → Gfid → Climb
next_climb c p = record {
  room = with_place c.room (c.place + 1) p;
  bricks = c.bricks;
  place = c.place + 1;
}

abbrev pub climbed : Climb → Gfid → Heal
climbed c p = if nat_lt c.place longest then heal_on (next_climb c p) else Climbing c

abbrev pub climb_by : Option Gfid → Climb → Heal
climb_by None c = Climbing c
climb_by (Some p) c = climbed c p

abbrev pub climb_told : Bool → Climb → Reply → ℕ → Turn Heal HealEnd
climb_told true c r at = Done (end_of c.room (gone_at at))
climb_told false c r at = Go (climb_by (parent_shown r) c)

abbrev pub climb_unless : Option Errno → Climb → Reply → ℕ → Turn Heal HealEnd
climb_unless (Some e) c r at = Done (end_of c.room (fault_finish e))
climb_unless None c r at = climb_told (is_nodir r) c r at

abbrev pub climb_answered : Climb → Reply → ℕ → Turn Heal HealEnd
climb_answered c r at = climb_unless (fault_of r) c r at

-- the directory below the healed one is next, if there is one
abbrev pub healed_below : ℕ → Climb → ℕ → Turn Heal HealEnd
healed_below zero c at = Done (end_of c.room (healed_at at))
healed_below (suc place) c at = Go (heal_at (record c { place = place }))

abbrev pub heal_from : Climb → HealedOne → Turn Heal HealEnd
heal_from c (Healed at) = healed_below c.place c at
heal_from c (Gone at) = Done (end_of c.room (gone_at at))
-- a directory above was taken away and made again, perhaps: it climbs anew
heal_from c (Parent b) = Go (heal_on (record c { place = 0 }))
heal_from c (Stopped e) = Done (end_of c.room (fault_finish e))

abbrev pub heal_went : Climb → Turn HealOne HealedOne → Turn Heal HealEnd
heal_went c (Go n) = Go (Healing n c)
heal_went c (Done end) = heal_from c end

abbrev pub heal_after : Heal → Reply → ℕ → Turn Heal HealEnd
heal_after (Climbing c) r at = climb_answered c r at
heal_after (Healing m c) r at = heal_went c (heal_one_after m r at)

-- ---- the error that it notes

abbrev pub heal_fault : Heal → Option Errno
heal_fault (Climbing c) = None
heal_fault (Healing m c) = part_fault (heal_one_fault m)

abbrev pub end_fault : HealEnd → Option Errno
end_fault e = brick_fault e.finish.answer

abbrev pub NotesStop : Heal → Reply → Turn Heal HealEnd → Type 0
NotesStop m r turn =
    MatchTurn turn
    (λ n. heal_fault n ≡ either (heal_fault m) (fault_for (heal_stage m).asks.request r))
    (λ d. end_fault d ≡ either (heal_fault m) (fault_for (heal_stage m).asks.request r))
