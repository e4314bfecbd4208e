-- How the lines of a transcript come from the events of a schedule,
-- one event after the other, and how soon a call answers.
use Rattle.std.specs.Prelude.{ℕ, ◌+◌, ◌<◌, ◌≤◌, ◌≡◌, ◌≢◌, ◌⊎◌, ◌↔◌, Bool, true, false, not, nat_lt, if◌then◌else◌, Option, Some, None, is_some, MatchOption, List, [], ◌∷◌, ◌++◌, length}
use Rattle.dht_types.specs.Calls.{named_call, refusal_at_start}
use Rattle.dht_types.specs.Cost.{cost}
use Rattle.dht_types.specs.History.{History, PendingCall, IsUndisturbed, is_empty, with_line, with_lines}
use Rattle.dht_types.specs.declared.calls.Answer.TheVariants.{Fault}
use Rattle.dht_types.specs.declared.calls.Call.{Call}
use Rattle.dht_types.specs.declared.errors.Errno.{Errno}
use Rattle.dht_types.specs.declared.errors.Errno.TheVariants.{Enomem, Estale}
use Rattle.dht_types.specs.declared.identifiers.BrickNo.{BrickNo}
use Rattle.dht_types.specs.declared.identifiers.CallNo.{CallNo}
use Rattle.dht_types.specs.declared.identifiers.ClientNo.{ClientNo}
use Rattle.dht_types.specs.declared.identifiers.Gfid.{Gfid}
use Rattle.dht_types.specs.declared.events.Event.{Event}
use Rattle.dht_types.specs.declared.events.Event.TheVariants as event
use Rattle.dht_types.specs.declared.lines.RequestKind.{RequestKind}
use Rattle.dht_types.specs.declared.lines.RequestKind.TheVariants.{Unlock}
use Rattle.dht_types.specs.declared.lines.ReplyKind.{ReplyKind}
use Rattle.dht_types.specs.declared.lines.ReplyKind.TheVariants.{Ok as Carried, Wait, Down, Failed}
use Rattle.dht_types.specs.declared.lines.Cause.{Cause}
use Rattle.dht_types.specs.declared.lines.Cause.TheVariants.{Unknown, Dead, Busy, Idle, Open, Fewer}
use Rattle.dht_types.specs.declared.lines.Cause.TheVariants as cause
use Rattle.dht_types.specs.declared.lines.Line.{Line}
use Rattle.dht_types.specs.declared.lines.Line.TheVariants.{Volume, Remounted, Called, Stepped, Waited, Tree, Answered, WentDown, CameUp, Died, Refused}

-- ---- which events are refused

-- why an event of a client is refused: there are 64 clients,
-- and those that died do nothing; else it may be for this
abbrev pub client_cause : History → ℕ → Option Cause → Option Cause
client_cause s c other =
    if nat_lt c 64 then (if s.dead c then Some Dead else other) else Some Unknown

-- a call is refused that names a directory by the answer of a call that has answered none
abbrev pub answer_cause : Option (Call Gfid) → Option Cause
answer_cause (Some what) = None
answer_cause None = Some cause.Answer

-- and, before that, one whose client has a pending call; a step where none is
abbrev pub call_cause : Option PendingCall → Option (Call Gfid) → Option Cause
call_cause None what = answer_cause what
call_cause (Some r) what = Some Busy

abbrev pub step_cause : Option PendingCall → Option Cause
step_cause None = Some Idle
step_cause (Some r) = None

-- an event of a brick is refused where there is no such brick
abbrev pub brick_cause : History → ℕ → Option Cause
brick_cause s b = if nat_lt b (length s.weights) then None else Some Unknown

-- a remount is refused while a call of a living client is pending, and where it takes a brick away
abbrev pub remount_cause : History → List ℕ → Option Cause
remount_cause s ws =
    if not (is_empty s.callers) then Some Open
    else if nat_lt (length ws) (length s.weights) then Some Fewer else None

-- the first cause for which an event is refused after this history, if there is one
abbrev pub cause_of : History → Event → Option Cause
cause_of s (event.Volume w) = None
cause_of s (event.Remount w) = remount_cause s w
cause_of s (event.Call c call) =
    client_cause s c (call_cause (s.pending c) (named_call s.answered call))
cause_of s (event.Step c) = client_cause s c (step_cause (s.pending c))
cause_of s (event.Down b) = brick_cause s b
cause_of s (event.Up b) = brick_cause s b
cause_of s (event.Die c) = client_cause s c None

abbrev pub is_step : Event → Bool
is_step (event.Step c) = true
is_step e = false

-- how many step and wait lines a run has at most
abbrev pub step_limit : ℕ
step_limit = 200000

-- the event is a step that is not refused, and the run has had all its steps
abbrev pub IsSpent : History → Event → Type 0
IsSpent s (event.Step c) = (cause_of s (event.Step c) ≡ None) × (step_limit ≤ s.requests)
IsSpent s e = ⊥

-- ---- the head line of an event

-- a step of a call is one request to one brick. It is told that the brick is down
-- exactly where the brick is, and the request is no unlock; an unlock is carried out
pub record IsStep (s : History) (c : ℕ) (r : PendingCall) (line : Line) : Type 0 where
  pub brick : BrickNo
  pub request : RequestKind
  pub reply : ReplyKind
  pub is : line ≡ Stepped r.number (record { 0 = c }) brick request reply
  pub there : brick.0 < length s.weights
  pub down : (reply ≡ Down) ↔ ((s.down brick.0 ≡ true) × (request ≢ Unlock))
  pub sound : (reply ≢ Failed) × (reply ≢ Wait)
  pub unlocked : request ≡ Unlock → reply ≡ Carried

-- or it waits for a lock that another client holds, a call of which is pending
pub record IsWait (s : History) (c : ℕ) (r : PendingCall) (line : Line) : Type 0 where
  pub brick : BrickNo
  pub holder : ClientNo
  pub is : line ≡ Waited r.number (record { 0 = c }) brick holder
  pub there : brick.0 < length s.weights
  pub up : s.down brick.0 ≡ false
  pub other : holder.0 ≢ c
  pub pending : is_some (s.pending holder.0) ≡ true

-- the head line of an event that is accepted
abbrev pub Accepted : History → Event → Line → Type 0
Accepted s (event.Volume w) line = line ≡ Volume w
Accepted s (event.Remount w) line = line ≡ Remounted w
-- a call has the next number, and names its directory by a gfid
Accepted s (event.Call c call) line =
    (what : Call Gfid) × (named_call s.answered call ≡ Some what)
    × (line ≡ Called (record { 0 = s.calls + 1 }) (record { 0 = c }) what)
-- a step is one of the client's pending call
Accepted s (event.Step c) line =
    (r : PendingCall) × (s.pending c ≡ Some r) × (IsStep s c r line ⊎ IsWait s c r line)
Accepted s (event.Down b) line = line ≡ WentDown (record { 0 = b })
Accepted s (event.Up b) line = line ≡ CameUp (record { 0 = b })
Accepted s (event.Die c) line = line ≡ Died (record { 0 = c })

-- the head line of the event of the schedule's n-th line, after this history
abbrev pub Head : History → ℕ → Event → Line → Type 0
Head s n e line = MatchOption (cause_of s e) (Accepted s e line) (λ cause. line ≡ Refused n cause)

-- ---- what stands under it

-- nothing, or the answer of this call of this client
abbrev pub IsEnd : CallNo → ClientNo → List Line → Type 0
IsEnd k c [] = Unit {0}
IsEnd k c (Answered j d at a ∷ []) = (j ≡ k) × (d ≡ c)
IsEnd k c lines = ⊥

-- under a step line: the tree line of its call, where there is one, and then the end
abbrev pub IsUnderStep : CallNo → ClientNo → List Line → Type 0
IsUnderStep k c (Tree j step ∷ lines) = (j ≡ k) × IsEnd k c lines
IsUnderStep k c lines = IsEnd k c lines

-- the point of a refusal at the start: for a directory that is none of the tree it is the call line
abbrev pub refusal_point : ℕ → Errno → Option ℕ
refusal_point line Estale = Some line
refusal_point line e = None

-- under the call line of a call that is to be refused at the start: this refusal; under that of
-- another one: nothing, or that it had no memory to begin
abbrev pub IsUnderCall : ℕ → CallNo → ClientNo → Option Errno → List Line → Type 0
IsUnderCall line k c (Some e) lines = lines ≡ Answered k c (refusal_point line e) (Fault e) ∷ []
IsUnderCall line k c None lines = (lines ≡ []) ⊎ (lines ≡ Answered k c None (Fault Enomem) ∷ [])

-- what may stand under a head line that comes after this history
abbrev pub IsUnder : History → Line → List Line → Type 0
IsUnder s (Volume w) lines = lines ≡ []
IsUnder s (Remounted w) lines = lines ≡ []
IsUnder s (Called k c what) lines =
    IsUnderCall (s.size + 1) k c (refusal_at_start (length s.weights) what) lines
IsUnder s (Stepped k c b q r) lines = IsUnderStep k c lines
IsUnder s (Waited k c b h) lines = IsEnd k c lines
IsUnder s (WentDown b) lines = lines ≡ []
IsUnder s (CameUp b) lines = lines ≡ []
IsUnder s (Died c) lines = lines ≡ []
IsUnder s (Refused n cause) lines = lines ≡ []
IsUnder s (Tree k step) lines = ⊥
IsUnder s (Answered k c at a) lines = ⊥

-- the lines of one event: its head line, and what stands under it
pub record Block (s : History) (n : ℕ) (e : Event) (lines : List Line) : Type 0 where
  pub first : Line
  pub more : List Line
  pub all : lines ≡ first ∷ more
  pub is_head : Head s n e first
  pub is_under : IsUnder s first more

-- the lines come from the events, the first of which is of the schedule's n-th line
abbrev pub ComesFrom : History → ℕ → List Event → List Line → Type 0
ComesFrom s n [] lines = lines ≡ []
ComesFrom s n (e ∷ es) lines =
    (block : List Line) × (rest : List Line) × (lines ≡ block ++ rest) × Block s n e block
    × ComesFrom (with_lines s block) (n + 1) es rest

-- ---- how soon a call answers

-- a call that nobody disturbed takes no step once it
-- has used up its cost, and is never told to wait
abbrev pub InTime : History → Line → Type 0
InTime s (Stepped k c b q r) =
    (o : PendingCall) → s.pending c.0 ≡ Some o → IsUndisturbed s o
    → o.steps < cost (length s.weights) o.call
InTime s (Waited k c b h) = (o : PendingCall) → s.pending c.0 ≡ Some o → IsUndisturbed s o → ⊥
InTime s (Volume w) = Unit {0}
InTime s (Remounted w) = Unit {0}
InTime s (Called k c call) = Unit {0}
InTime s (Tree k step) = Unit {0}
InTime s (Answered k c at a) = Unit {0}
InTime s (WentDown b) = Unit {0}
InTime s (CameUp b) = Unit {0}
InTime s (Died c) = Unit {0}
InTime s (Refused n cause) = Unit {0}

abbrev pub InTimeFrom : History → List Line → Type 0
InTimeFrom s [] = Unit {0}
InTimeFrom s (line ∷ lines) = InTime s line × InTimeFrom (with_line s line) lines
