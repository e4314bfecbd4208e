-- Where a world is, and what an event makes of it.
use Rattle.std.specs.Prelude.{ℕ, ◌+◌, ◌≡◌, true, is_some, None, List, ◌++◌, length, map, vec_len}
use Rattle.dht_types.specs.History.{History, history_of}
use Rattle.dht_types.specs.Volume.{VolumeInfo, replay_info}
use Rattle.dht_types.specs.declared.events.Event.{Event}
use Rattle.dht_types.specs.declared.lines.Line.{Line}
use Rattle.dht_brick.specs.declared.brick.Brick.{Ghosts as BrickGhosts}
use Rattle.dht_section.specs.declared.caller.Caller.{Ghosts as CallerGhosts}
use Rattle.dht_world.specs.Bricks.{disk_of, journals_of, volume_of, remounted_in, AreFresh, AreReady, AreReadyInEither, SomeBecame}
use Rattle.dht_world.specs.Following.{cause_of, Block}
use Rattle.dht_world.specs.World.{Summary, At, EndsWell, HoldersCall}
use Rattle.dht_world.specs.declared.events.World.{World}

-- what it keeps of its lines
abbrev pub summary_of : {B C : Type 0} → World B C → Summary
summary_of w = record {
  run = w.run;
  calls = w.calls;
  lines = w.lines;
  requests = w.requests;
  answers = w.answers.items;
}

-- the world is where these lines lead to
abbrev pub IsLed : {B C : Type 0} → BrickGhosts B → CallerGhosts C → World B C → List Line → Type 0
IsLed b c w past =
    At c (disk_of b.state w.bricks.items) (journals_of b.state w.bricks.items)
    w.clients.items w.weights (summary_of w) past

-- and its bricks are ready; and what the last line tells holds
pub record IsAt {B C : Type 0} (b : BrickGhosts B) (c : CallerGhosts C) (w : World B C)
    (past : List Line) : Type 0 where
  pub led : IsLed b c w past
  pub ready : AreReady b.state w.weights w.run (history_of past).down w.bricks.items
  pub ends : EndsWell (disk_of b.state w.bricks.items) past

-- nothing changed but how many lines the world has written
pub record StaysSilent {B C : Type 0} (b : BrickGhosts B) (old new : World B C) : Type 0 where
  pub bricks : map b.state new.bricks.items ≡ map b.state old.bricks.items
  pub clients : new.clients ≡ old.clients
  pub weights : new.weights ≡ old.weights
  pub run : new.run ≡ old.run
  pub calls : new.calls ≡ old.calls
  pub requests : new.requests ≡ old.requests
  pub answers : new.answers.items ≡ old.answers.items

-- nothing changed
abbrev pub Stays : {B C : Type 0} → BrickGhosts B → World B C → World B C → Type 0
Stays b old new = StaysSilent b old new × (new.lines ≡ old.lines)

-- the volume that is mounted next, where it has these weights
abbrev pub next_volume : {B C : Type 0} → World B C → List ℕ → VolumeInfo
next_volume w ws = replay_info ws (w.run + 1)

-- these bricks may join the world in a remount with these weights
abbrev pub MayJoin : {B C : Type 0} → BrickGhosts B → World B C → List ℕ → List B → Type 0
MayJoin b w ws fresh = AreFresh b.state (vec_len w.bricks) ws (w.run + 1) fresh

-- each brick was mounted anew in the next volume, and then these came
abbrev pub Mounts : {B C : Type 0} → BrickGhosts B → (old new : World B C) → List ℕ
    → (fresh : List B) → Type 0
Mounts b old new ws fresh =
    map b.state new.bricks.items
    ≡ map (remounted_in (next_volume old ws)) (map b.state old.bricks.items) ++ map b.state fresh

-- memory ran out while these weights were mounted: the world is where these lines lead to, but some
-- bricks know the volume that was to be, and others that which is
pub record IsRemounting {B C : Type 0} (b : BrickGhosts B) (c : CallerGhosts C)
    (w : World B C) (ws : List ℕ) (past : List Line) : Type 0 where
  pub led : IsLed b c w past
  pub ready : AreReadyInEither b.state (volume_of (length w.bricks.items) w.weights w.run)
      (next_volume w ws) (history_of past).down w.bricks.items

-- then some bricks were mounted anew, or all, or none; none came, and nothing else changed
pub record StaysInPart {B C : Type 0} (b : BrickGhosts B)
    (old new : World B C) (ws : List ℕ) : Type 0 where
  pub bricks : SomeBecame (remounted_in (next_volume old ws))
      (map b.state old.bricks.items) (map b.state new.bricks.items)
  pub clients : new.clients ≡ old.clients
  pub weights : new.weights ≡ old.weights
  pub run : new.run ≡ old.run
  pub calls : new.calls ≡ old.calls
  pub requests : new.requests ≡ old.requests
  pub answers : new.answers.items ≡ old.answers.items
  pub lines : new.lines ≡ old.lines

-- the event is refused, for whatever cause
abbrev pub IsRefused : History → Event → Type 0
IsRefused s event = is_some (cause_of s event) ≡ true

-- these lines came of the event of the schedule's n-th line, and the
-- world is where they lead to, where each lock is held by a client
-- whose call is pending; an event that is refused changes nothing
pub record Advances {B C : Type 0} (b : BrickGhosts B) (c : CallerGhosts C) (old new : World B C)
    (n : ℕ) (event : Event) (past lines : List Line) : Type 0 where
  pub at : IsAt b c new (past ++ lines)
  pub block : Block (history_of past) n event lines
  pub held : HoldersCall (disk_of b.state new.bricks.items) (history_of (past ++ lines))
  pub refused : IsRefused (history_of past) event → StaysSilent b old new

-- the event's lines were appended to those of before
abbrev pub Adds :
    {B C : Type 0} → BrickGhosts B → CallerGhosts C → (old new : World B C) → ℕ → Event
    → (past before after : List Line) → Type 0
Adds b c old new n event past before after =
    (lines : List Line) × (after ≡ before ++ lines) × Advances b c old new n event past lines

-- wherever the world is, the event is not refused; and it is somewhere
pub record IsAccepted {B C : Type 0} (b : BrickGhosts B) (c : CallerGhosts C) (w : World B C)
    (event : Event) : Type 0 where
  pub past : List Line
  pub at : IsAt b c w past
  pub accepted : (lines : List Line) → IsAt b c w lines → cause_of (history_of lines) event ≡ None

-- what an event that is accepted makes of the world, whichever line of the schedule it is of
abbrev pub Comes :
    {B C : Type 0} → BrickGhosts B → CallerGhosts C → (old new : World B C) → Event
    → (before after : List Line) → Type 0
Comes b c old new event before after =
    (n : ℕ) (past : List Line) → IsAt b c old past → Adds b c old new n event past before after
