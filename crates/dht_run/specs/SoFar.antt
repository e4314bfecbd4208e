-- What a run keeps true while it carries out one event after another.
use Rattle.std.specs.Prelude.{ℕ, ◌*◌, ◌≤◌, ◌<◌, ◌≡◌, ◌⊎◌, Option, IfSome, List, [], ◌∷◌, ◌++◌, length, take}
use Rattle.dht_types.specs.History.{history_of, start}
use Rattle.dht_types.specs.declared.events.Event.{Event}
use Rattle.dht_types.specs.declared.events.Event.TheVariants.{Remount}
use Rattle.dht_types.specs.declared.lines.Line.{Line}
use Rattle.dht_sched.specs.Schedule.{schedule_text}
use Rattle.dht_sched.specs.Transcript.{lines_text}
use Rattle.dht_world.specs.Following.{ComesFrom, IsSpent, step_limit}
use Rattle.dht_world.specs.Places.{IsAt, IsRemounting, Advances}
use Rattle.dht_brick.specs.declared.brick.Brick.{Ghosts as BrickGhosts}
use Rattle.dht_section.specs.declared.caller.Caller.{Ghosts as CallerGhosts}
use Rattle.dht_world.specs.declared.events.World.{World}
use Rattle.dht_run.specs.LineReader.{Reader, input_of, HasNoNewline}
use Rattle.dht_run.specs.Outside.{before_told, after_told, IsAtEnd}
use Rattle.dht_run.specs.Written.{TakesPrefix}
use Rattle.dht_run.specs.Replay.{schedule_of, IsSchedule, MayCome, IsMalformed, IsPastLimit}
use Rattle.dht_run.specs.declared.ending.Ending.{Ending}
use Rattle.dht_run.specs.declared.ending.Ending.TheVariants.{Done, Usage, Malformed, SourceFailed, SinkFailed, OutOfMemory, Limit}
use Rattle.dht_run.specs.declared.line_reader.TheConstants.{INPUT_LIMIT}

-- these events were carried out, so many, and gave these lines; what is left of the text is this
pub record Carried {B C : Type 0} (b : BrickGhosts B) (c : CallerGhosts C) (w : World B C)
    (count : ℕ) (text rest : Option (List ℕ)) (events : List Event) (lines : List Line)
    : Type 0 where
  pub at : IsAt b c w lines
  pub follows : ComesFrom start 1 events lines
  pub schedule : IsSchedule events
  pub counted : count ≡ length events
  pub some : 0 < count
  pub limit : length (schedule_of events) ≤ INPUT_LIMIT
  pub shorter : count ≤ length (schedule_of events)
  pub few : w.lines ≤ 3 * count
  pub limited : (history_of lines).requests ≤ step_limit
  pub prefix : text ≡ before_told (schedule_of events) rest

-- between two events
pub record SoFar {B C : Type 0} (b : BrickGhosts B) (c : CallerGhosts C) (w : World B C) (count : ℕ)
    (r : Reader) (text rest before taken : Option (List ℕ)) : Type 0 where
  pub events : List Event
  pub lines : List Line
  pub carried : Carried b c w count text (input_of r rest) events lines
  pub cut : r.cut ≡ length (schedule_of events)
  pub written : taken ≡ after_told before (lines_text lines)

-- the run was cut short: so many events were carried
-- out, and a prefix of their lines' text was written
pub record Stopped {B C : Type 0} (b : BrickGhosts B) (c : CallerGhosts C) (w : World B C)
    (text before taken : Option (List ℕ)) : Type 0 where
  pub events : List Event
  pub lines : List Line
  pub count : ℕ
  pub input : Option (List ℕ)
  pub carried : Carried b c w count text input events lines
  pub written : TakesPrefix before (lines_text lines) taken

-- memory ran out in a remount, that of the line that comes next: so far the world
-- was here, and so many events were carried out, and their lines were written
pub record StoppedInRemount {B C : Type 0} (b : BrickGhosts B) (c : CallerGhosts C)
    (w : World B C) (text before taken : Option (List ℕ)) : Type 0 where
  pub was : World B C
  pub events : List Event
  pub lines : List Line
  pub count : ℕ
  pub weights : List ℕ
  pub after : Option (List ℕ)
  pub may : MayCome events (Remount weights)
  pub carried : Carried b c was count text
      (before_told (schedule_text (Remount weights) ++ 10 ∷ []) after) events lines
  pub remounting : IsRemounting b c w weights lines
  pub written : taken ≡ after_told before (lines_text lines)

-- the events so far were carried out, their lines
-- were written, and what is left of the text is this
pub record Reached {B C : Type 0} (b : BrickGhosts B) (c : CallerGhosts C) (w : World B C)
    (count : ℕ) (text input before taken : Option (List ℕ)) : Type 0 where
  pub events : List Event
  pub lines : List Line
  pub carried : Carried b c w count text input events lines
  pub written : taken ≡ after_told before (lines_text lines)

-- the same, and what comes next is no event that may come
pub record ReachedBad {B C : Type 0} (b : BrickGhosts B) (c : CallerGhosts C) (w : World B C)
    (count : ℕ) (text before taken : Option (List ℕ)) : Type 0 where
  pub events : List Event
  pub lines : List Line
  pub input : Option (List ℕ)
  pub carried : Carried b c w count text input events lines
  pub malformed : IfSome input (IsMalformed events)
  pub written : taken ≡ after_told before (lines_text lines)

-- the same, and what comes next is a step that is one too many
pub record ReachedLimit {B C : Type 0} (b : BrickGhosts B) (c : CallerGhosts C) (w : World B C)
    (count : ℕ) (text before taken : Option (List ℕ)) : Type 0 where
  pub events : List Event
  pub lines : List Line
  pub input : Option (List ℕ)
  pub carried : Carried b c w count text input events lines
  pub past_limit : IsPastLimit events lines input
  pub written : taken ≡ after_told before (lines_text lines)

-- how the loop over the events ends
abbrev pub EndsSo :
    {B C : Type 0} → BrickGhosts B → CallerGhosts C → World B C → ℕ → Reader
    → (text rest before taken : Option (List ℕ)) → Ending → Type 0
EndsSo b c w count r text rest before taken Done =
    Reached b c w count text rest before taken × IsAtEnd rest
EndsSo b c w count r text rest before taken Malformed = ReachedBad b c w count text before taken
EndsSo b c w count r text rest before taken SourceFailed =
    Reached b c w count text (input_of r rest) before taken × HasNoNewline r.pending
EndsSo b c w count r text rest before taken SinkFailed = Stopped b c w text before taken
EndsSo b c w count r text rest before taken OutOfMemory =
    Stopped b c w text before taken ⊎ StoppedInRemount b c w text before taken
EndsSo b c w count r text rest before taken Limit = ReachedLimit b c w count text before taken
EndsSo b c w count r text rest before taken Usage = ⊥

-- an event was carried out, which the run still had
-- steps for, its lines were written, or a prefix of them
pub record Wrote {B C : Type 0} (b : BrickGhosts B) (c : CallerGhosts C) (old new : World B C)
    (n : ℕ) (event : Event) (past lines : List Line) (before taken : Option (List ℕ))
    (text : List ℕ) : Type 0 where
  pub advances : Advances b c old new n event past lines
  pub unspent : ¬ IsSpent (history_of past) event
  pub written : taken ≡ after_told before text

-- the event is a remount in which memory ran out
pub record IsInRemount {B C : Type 0} (b : BrickGhosts B) (c : CallerGhosts C)
    (w : World B C) (event : Event) (past : List Line) : Type 0 where
  pub weights : List ℕ
  pub is : event ≡ Remount weights
  pub remounting : IsRemounting b c w weights past

-- an event was carried out, and a prefix of its lines' text
-- was written; or memory ran out before it was carried out
abbrev pub WroteInPart :
    {B C : Type 0} → BrickGhosts B → CallerGhosts C → (old new : World B C) → ℕ → Event → List Line
    → (before taken : Option (List ℕ)) → Type 0
WroteInPart b c old new n event past before taken =
    (IsAt b c new past × (taken ≡ before))
    ⊎ ((lines : List Line)
    × ((m : ℕ) × Wrote b c old new n event past lines before taken (take m (lines_text lines))))

-- an event did not happen, since the run has had all its steps
pub record Spends {B C : Type 0} (b : BrickGhosts B) (c : CallerGhosts C) (new : World B C)
    (event : Event) (past : List Line) (before taken : Option (List ℕ)) : Type 0 where
  pub at : IsAt b c new past
  pub spent : IsSpent (history_of past) event
  pub written : taken ≡ before
