-- What a run over the bytes of a schedule does: which events it carries out, and what it writes.
use Rattle.std.specs.Prelude.{ℕ, ◌+◌, ◌<◌, ◌≤◌, ◌≡◌, ◌≢◌, ◌⊎◌, Option, Some, IfSome, List, [], ◌∷◌, ◌++◌, length}
use Rattle.dht_types.specs.Cost.{cost}
use Rattle.dht_types.specs.Gfid.{Entry}
use Rattle.dht_types.specs.Tree.{IsFile}
use Rattle.dht_types.specs.Volume.{replay_info}
use Rattle.dht_types.specs.declared.identifiers.Gfid.{Gfid}
use Rattle.dht_types.specs.History.{PendingCall, IsUndisturbed, Legal, history_of, start}
use Rattle.dht_types.specs.declared.events.Event.{Event}
use Rattle.dht_types.specs.declared.events.Event.TheVariants.{Volume, Remount, Call, Step, Down, Up, Die}
use Rattle.dht_types.specs.declared.lines.Line.{Line}
use Rattle.dht_types.specs.declared.lines.DumpLine.{DumpLine}
use Rattle.dht_types.specs.declared.lines.DumpLine.TheVariants.{End}
use Rattle.dht_brick.specs.Bricks.{BrickState}
use Rattle.dht_brick.specs.Dump.{dump_of}
use Rattle.dht_brick.specs.declared.journal.JournalEntry.{JournalEntry}
use Rattle.dht_section.specs.Disk.{Disk}
use Rattle.dht_section.specs.Truth.{Stands, Placed}
use Rattle.dht_sched.specs.Schedule.{schedule_text, IsScheduled}
use Rattle.dht_sched.specs.Transcript.{lines_text, dump_lines_text, malformed_text, limit_text}
use Rattle.dht_world.specs.Bricks.{disk_of, journals_of, volume_of, Logged, AreNoted, AreReady, AreReadyInEither}
use Rattle.dht_world.specs.Following.{ComesFrom, InTimeFrom, IsSpent, step_limit}
use Rattle.dht_world.specs.World.{EndsWell, HoldersCall}
use Rattle.dht_run.specs.LineReader.{HasNoNewline}
use Rattle.dht_run.specs.Outside.{before_told, after_told, IsAtEnd}
use Rattle.dht_run.specs.Written.{TakesPrefix}
use Rattle.dht_run.specs.declared.ending.Ending.{Ending}
use Rattle.dht_run.specs.declared.ending.Ending.TheVariants.{Done, Usage, Malformed, SourceFailed, SinkFailed, OutOfMemory, Limit}
use Rattle.dht_run.specs.declared.line_reader.TheConstants.{INPUT_LIMIT}

-- the text of events, a line each
abbrev pub schedule_of : List Event → List ℕ
schedule_of [] = []
schedule_of (e ∷ es) = schedule_text e ++ 10 ∷ schedule_of es

-- the volume comes first and alone
abbrev pub IsAfterFirst : Event → Type 0
IsAfterFirst (Volume w) = ⊥
IsAfterFirst (Remount w) = Unit {0}
IsAfterFirst (Call c call) = Unit {0}
IsAfterFirst (Step c) = Unit {0}
IsAfterFirst (Down b) = Unit {0}
IsAfterFirst (Up b) = Unit {0}
IsAfterFirst (Die c) = Unit {0}

abbrev pub IsFirst : Event → Type 0
IsFirst (Volume w) = Unit {0}
IsFirst (Remount w) = ⊥
IsFirst (Call c call) = ⊥
IsFirst (Step c) = ⊥
IsFirst (Down b) = ⊥
IsFirst (Up b) = ⊥
IsFirst (Die c) = ⊥

-- the event has a line, and may come after these
abbrev pub MayCome : List Event → Event → Type 0
MayCome [] e = IsScheduled e × IsFirst e
MayCome (first ∷ more) e = IsScheduled e × IsAfterFirst e

-- the events are those of a schedule
abbrev pub AreAfterFirst : List Event → Type 0
AreAfterFirst [] = Unit {0}
AreAfterFirst (e ∷ es) = IsScheduled e × IsAfterFirst e × AreAfterFirst es

abbrev pub IsSchedule : List Event → Type 0
IsSchedule [] = Unit {0}
IsSchedule (e ∷ es) = IsScheduled e × IsFirst e × AreAfterFirst es

-- the text is that of a whole schedule, within the limit of the input
pub record IsWhole (text : Option (List ℕ)) : Type 0 where
  pub events : List Event
  pub some : events ≢ []
  pub schedule : IsSchedule events
  pub limit : length (schedule_of events) ≤ INPUT_LIMIT
  pub is : text ≡ Some (schedule_of events)

-- after these events, what is left of the text does not begin with a line that
-- may come next, within the limit of the input; and it is not a schedule's end
pub record IsMalformed (events : List Event) (rest : List ℕ) : Type 0 where
  pub no_end : rest ≡ [] → events ≡ []
  pub no_line :
      (e : Event) (more : List ℕ) → MayCome events e → rest ≡ schedule_text e ++ 10 ∷ more
      → length (schedule_of events) + length (schedule_text e) + 1 ≤ INPUT_LIMIT → ⊥

-- after these events, which gave these lines, what is left of the text begins
-- with the line of a step that is not refused, and the run has had all its steps
pub record IsPastLimit (events : List Event) (lines : List Line) (rest : Option (List ℕ))
    : Type 0 where
  pub event : Event
  pub after : Option (List ℕ)
  pub next : rest ≡ before_told (schedule_text event ++ 10 ∷ []) after
  pub may : MayCome events event
  pub spent : IsSpent (history_of lines) event
  pub within : length (schedule_of events) + length (schedule_text event) + 1 ≤ INPUT_LIMIT

-- the lines are a transcript of the events, over bricks that contain and served this in the end:
-- they are legal, come from the events one by one, and agree with the bricks' journals; no more
-- of them tell of requests than a run may have; the bricks stand for the lines' tree, and each
-- file's name stands once, on its holder, as long as the volume was never mounted anew; each call
-- that nobody disturbs answers in time; and each lock is held by a client that has a pending call
pub record IsTranscript (events : List Event) (lines : List Line) (d : Disk)
    (js : ℕ → List JournalEntry) : Type 0 where
  pub legal : Legal lines
  pub follows : ComesFrom start 1 events lines
  pub logged : Logged js (history_of lines)
  pub noted : AreNoted js start lines
  pub stands : events ≢ [] → Stands d (history_of lines).tree
  pub placed :
      (e : Entry) (f : Gfid) → (history_of lines).run ≡ 1
      → (history_of lines).tree.names e ≡ Some (IsFile f) → Placed d e
  pub in_time : InTimeFrom start lines
  pub answers :
      (c : ℕ) (r : PendingCall) → (history_of lines).pending c ≡ Some r
      → IsUndisturbed (history_of lines) r → r.steps < cost (length (history_of lines).weights) r.call
  pub held : HoldersCall d (history_of lines)
  pub limited : (history_of lines).requests ≤ step_limit
  pub counted : d.count ≡ length (history_of lines).weights

-- the dump of a brick of this number
abbrev pub brick_dump : ℕ → BrickState → List DumpLine
brick_dump n s = dump_of (record { 0 = n }) s.is_up s.contents.store

-- the dump of bricks, numbered from here
abbrev pub dump_from : {B : Type 0} → (B → BrickState) → ℕ → List B → List DumpLine
dump_from state n [] = []
dump_from state n (b ∷ bricks) = brick_dump n (state b) ++ dump_from state (n + 1) bricks

-- the dump of all bricks, and its end
abbrev pub dump_all : {B : Type 0} → (B → BrickState) → List B → List DumpLine
dump_all state bricks = dump_from state 0 bricks ++ End ∷ []

-- what every run has done: a schedule's events were carried out, which are a prefix of the
-- text; the lines are their transcript, over these bricks; what is left of the text is this
pub record CarriedOut {B : Type 0} (state : B → BrickState) (bricks : List B)
    (text rest : Option (List ℕ)) (events : List Event) (lines : List Line) : Type 0 where
  pub schedule : IsSchedule events
  pub limit : length (schedule_of events) ≤ INPUT_LIMIT
  pub transcript : IsTranscript events lines (disk_of state bricks) (journals_of state bricks)
  pub prefix : text ≡ before_told (schedule_of events) rest

-- and each brick knows the lines' volume, and is up unless the lines say that it is
-- down; and what the last line tells of a call that was alone holds of the bricks
pub record Replays {B : Type 0} (state : B → BrickState) (bricks : List B)
    (text rest : Option (List ℕ)) (events : List Event) (lines : List Line) : Type 0 where
  pub done : CarriedOut state bricks text rest events lines
  pub ready : AreReady state (history_of lines).weights (history_of lines).run
      (history_of lines).down bricks
  pub ends : EndsWell (disk_of state bricks) lines

-- the text was carried out whole, and the transcript and the dump were written
pub record IsDone {B : Type 0} (state : B → BrickState) (bricks : List B)
    (text left before taken : Option (List ℕ)) : Type 0 where
  pub events : List Event
  pub lines : List Line
  pub replays : Replays state bricks text left events lines
  pub some : events ≢ []
  pub at_end : IsAtEnd left
  pub written :
      taken ≡ after_told before (lines_text lines ++ dump_lines_text (dump_all state bricks))

-- an invalid line was reached; all before it was carried
-- out, and written with a last line that has its number
pub record StopsAtLine {B : Type 0} (state : B → BrickState) (bricks : List B)
    (text before taken : Option (List ℕ)) : Type 0 where
  pub events : List Event
  pub lines : List Line
  pub rest : Option (List ℕ)
  pub replays : Replays state bricks text rest events lines
  pub malformed : IfSome rest (IsMalformed events)
  pub written : taken ≡ after_told before (lines_text lines ++ malformed_text (length events + 1))

-- a step came that is one too many; all before it was
-- carried out, and written with a last line that says so
pub record StopsAtLimit {B : Type 0} (state : B → BrickState) (bricks : List B)
    (text before taken : Option (List ℕ)) : Type 0 where
  pub events : List Event
  pub lines : List Line
  pub rest : Option (List ℕ)
  pub replays : Replays state bricks text rest events lines
  pub past_limit : IsPastLimit events lines rest
  pub written : taken ≡ after_told before (lines_text lines ++ limit_text)

-- the source failed; the events are all whole lines
-- that it gave, and their whole transcript was written
pub record StopsAtSource {B : Type 0} (state : B → BrickState) (bricks : List B)
    (text left before taken : Option (List ℕ)) : Type 0 where
  pub events : List Event
  pub lines : List Line
  pub pending : List ℕ
  pub replays : Replays state bricks text (before_told pending left) events lines
  pub no_line : HasNoNewline pending
  pub written : taken ≡ after_told before (lines_text lines)

-- what stands behind the lines of the events before the n-th line at
-- this ending: the dump, or the line of an invalid line or of the limit
abbrev pub last_text : {B : Type 0} → (B → BrickState) → List B → ℕ → Ending → List ℕ
last_text state bricks n Done = dump_lines_text (dump_all state bricks)
last_text state bricks n Malformed = malformed_text n
last_text state bricks n Limit = limit_text
last_text state bricks n ending = []

-- what may stand behind the lines of these events where this is left of the text: nothing;
-- the dump, where nothing is left of it; the line of an invalid line, where what is left
-- is malformed; or the line of the limit, where it begins with a step that is one too many
abbrev pub MayFollow :
    {B : Type 0} → (B → BrickState) → List B → List Event → List Line → Option (List ℕ) → List ℕ
    → Type 0
MayFollow state bricks events lines rest last =
    (last ≡ [])
    ⊎ ((events ≢ []) × IsAtEnd rest × (last ≡ last_text state bricks (length events + 1) Done))
    ⊎ (IfSome rest (IsMalformed events)
    × (last ≡ last_text state bricks (length events + 1) Malformed))
    ⊎ (IsPastLimit events lines rest × (last ≡ last_text state bricks (length events + 1) Limit))

-- the run was cut short; what was written is a prefix
-- of the lines' text and of what may stand behind it
pub record IsCutShort {B : Type 0} (state : B → BrickState) (bricks : List B)
    (text before taken : Option (List ℕ)) : Type 0 where
  pub events : List Event
  pub lines : List Line
  pub rest : Option (List ℕ)
  pub last : List ℕ
  pub replays : Replays state bricks text rest events lines
  pub follows : MayFollow state bricks events lines rest last
  pub written : TakesPrefix before (lines_text lines ++ last) taken

-- memory ran out in a remount, that of the line that comes next; all before it was
-- carried out, and written. Some bricks may have been mounted anew: each knows the volume
-- of the lines, or the one that was to be, and is up unless the lines say that it is down
pub record IsCutInRemount {B : Type 0} (state : B → BrickState) (bricks : List B)
    (text before taken : Option (List ℕ)) : Type 0 where
  pub events : List Event
  pub lines : List Line
  pub weights : List ℕ
  pub after : Option (List ℕ)
  pub may : MayCome events (Remount weights)
  pub done : CarriedOut state bricks text
      (before_told (schedule_text (Remount weights) ++ 10 ∷ []) after) events lines
  pub ready : AreReadyInEither state
      (volume_of (length bricks) (history_of lines).weights (history_of lines).run)
      (replay_info weights ((history_of lines).run + 1)) (history_of lines).down bricks
  pub written : taken ≡ after_told before (lines_text lines)

-- how a replay ends: by its ending, what was carried out and what was written
abbrev pub EndsAs :
    {B : Type 0} → (B → BrickState) → List B → (text left before taken : Option (List ℕ)) → Ending
    → Type 0
EndsAs state bricks text left before taken Done = IsDone state bricks text left before taken
EndsAs state bricks text left before taken Malformed = StopsAtLine state bricks text before taken
EndsAs state bricks text left before taken SourceFailed =
    StopsAtSource state bricks text left before taken
EndsAs state bricks text left before taken SinkFailed = IsCutShort state bricks text before taken
EndsAs state bricks text left before taken OutOfMemory =
    IsCutShort state bricks text before taken ⊎ IsCutInRemount state bricks text before taken
EndsAs state bricks text left before taken Limit = StopsAtLimit state bricks text before taken
EndsAs state bricks text left before taken Usage = ⊥
