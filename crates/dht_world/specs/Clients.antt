-- The 64 places of clients, and what holds of each.
use Rattle.std.specs.Prelude.{ℕ, ◌+◌, ◌≤◌, ◌≡◌, Bool, true, false, if◌then◌else◌, MatchBool, Option, Some, None, Result, is_ok, OnOk, List, length, slice_get}
use Rattle.dht_types.specs.Calls.{refusal_at_once, refusal_at_start}
use Rattle.dht_types.specs.Cost.{cost}
use Rattle.dht_types.specs.History.{History, PendingCall, IsUndisturbed}
use Rattle.dht_types.specs.declared.calls.Call.{Call}
use Rattle.dht_types.specs.declared.errors.Errno.{Errno}
use Rattle.dht_types.specs.declared.identifiers.CallNo.{CallNo}
use Rattle.dht_types.specs.declared.identifiers.ClientNo.{ClientNo}
use Rattle.dht_types.specs.declared.identifiers.Gfid.{Gfid}
use Rattle.dht_types.specs.declared.lines.Cause.{Cause}
use Rattle.dht_types.specs.declared.lines.Cause.TheVariants as cause
use Rattle.dht_section.specs.Begins.{Begins, IsRefusal}
use Rattle.dht_section.specs.Claims.{Claim, no_claim}
use Rattle.dht_section.specs.Disk.{Disk}
use Rattle.dht_section.specs.Scene.{Scene}
use Rattle.dht_section.specs.Stages.{CallMoves}
use Rattle.dht_section.specs.declared.caller.Caller.{Ghosts as CallerGhosts}
use Rattle.dht_section.specs.declared.machine.Ask.{Ask}
use Rattle.dht_section.specs.declared.machine.Finish.{Finish}
use Rattle.dht_brick.specs.declared.replies.Reply.{Reply}
use Rattle.dht_invariant.specs.Transition.{scene}
use Rattle.dht_world.specs.declared.places.Place.{Place}
use Rattle.dht_world.specs.declared.places.Place.TheVariants.{Living, Dead}

abbrev pub client : ℕ → ClientNo
client c = record { 0 = c }

-- what a client claims: nothing, unless a call of it is pending
abbrev pub claim_at : {C : Type 0} → CallerGhosts C → Option (Place C) → Claim
claim_at g None = no_claim
claim_at g (Some Dead) = no_claim
claim_at g (Some (Living x n)) = if g.is_busy x then (g.stage x).claims else no_claim

abbrev pub claims_of : {C : Type 0} → CallerGhosts C → List (Place C) → ℕ → Claim
claims_of g places c = claim_at g (slice_get places c)

-- the client's call is pending, and was not to be refused at once; its program knows what
-- it has to; and a call that nobody disturbed so far answers in time, if that stays so
pub record Works {C : Type 0} (g : CallerGhosts C) (d : Disk) (s : History) (claims : ℕ → Claim)
    (c : ℕ) (x : C) (n : CallNo) : Type 0 where
  pub mine : PendingCall
  pub runs : s.pending c ≡ Some mine
  pub number : mine.number ≡ n
  pub named : refusal_at_once mine.call ≡ None
  pub called : s.called c ≡ true
  pub begun : mine.since ≤ s.size
  pub knows : (g.stage x).knows (scene d s claims (client c) mine)
  pub in_time :
      IsUndisturbed s mine → mine.steps + (g.stage x).variant ≤ cost (length s.weights) mine.call

-- no call of the client is pending, and it knows no layout
-- if it has not called since the volume was mounted
pub record Rests {C : Type 0} (g : CallerGhosts C) (s : History) (c : ℕ) (x : C) : Type 0 where
  pub none : s.pending c ≡ None
  pub fresh : s.called c ≡ false → g.is_new x ≡ true

-- a client that lives has its place's number; one that is idle or dead has no pending call, nor is
-- there one where no client is
abbrev pub ClientFits :
    {C : Type 0} → CallerGhosts C → Disk → History → (ℕ → Claim) → ℕ → Option (Place C) → Type 0
ClientFits g d s claims c None = s.pending c ≡ None
ClientFits g d s claims c (Some Dead) = (s.dead c ≡ true) × (s.pending c ≡ None)
ClientFits g d s claims c (Some (Living x n)) =
    (s.dead c ≡ false) × (g.number x ≡ client c)
    × MatchBool (g.is_busy x) (Works g d s claims c x n) (Rests g s c x)

-- a client of a new world: it lives, has its place's
-- number, is idle, has not called, and knows no layout
abbrev pub IsNewAt : {C : Type 0} → CallerGhosts C → ℕ → Option (Place C) → Type 0
IsNewAt g c None = Unit {0}
IsNewAt g c (Some Dead) = ⊥
IsNewAt g c (Some (Living x n)) =
    (g.number x ≡ client c) × (g.is_busy x ≡ false) × (n.0 ≡ 0) × (g.is_new x ≡ true)

abbrev pub AreNewClients : {C : Type 0} → CallerGhosts C → List (Place C) → Type 0
AreNewClients g places = (c : ℕ) → IsNewAt g c (slice_get places c)

-- ---- one place

-- no client any more
abbrev pub is_dead : {C : Type 0} → Place C → Bool
is_dead (Living x n) = false
is_dead Dead = true

-- a call of the client is pending
abbrev pub is_busy_at : {C : Type 0} → CallerGhosts C → Place C → Bool
is_busy_at g (Living x n) = g.is_busy x
is_busy_at g Dead = false

-- the first cause for which an event of the client of a place is refused; where
-- one lives, these are the causes while no call of it is pending, and while one is
abbrev pub place_cause :
    {C : Type 0} → CallerGhosts C → Option (Place C) → (idle busy : Option Cause) → Option Cause
place_cause g None idle busy = Some cause.Unknown
place_cause g (Some p) idle busy =
    if is_dead p then Some cause.Dead else if is_busy_at g p then busy else idle

-- a client lives here that has a pending call
pub record IsBusy {C : Type 0} (g : CallerGhosts C) (p : Place C) : Type 0 where
  pub client : C
  pub number : CallNo
  pub is : p ≡ Living client number
  pub busy : g.is_busy client ≡ true

-- or one that has none
pub record IsIdle {C : Type 0} (g : CallerGhosts C) (p : Place C) : Type 0 where
  pub client : C
  pub number : CallNo
  pub is : p ≡ Living client number
  pub idle : g.is_busy client ≡ false

-- the pending call of a place has this number, and sends this request next
pub record Asks {C : Type 0} (g : CallerGhosts C) (p : Place C) (k : CallNo) (a : Ask)
    : Type 0 where
  pub client : C
  pub is : p ≡ Living client k
  pub asks : a ≡ (g.stage client).asks

-- the client of a place began a call of this number, or refused it and is idle
pub record Starts {C : Type 0} (g : CallerGhosts C)
    (old : Place C) (ws : List ℕ) (run : ℕ) (k : CallNo) (call : Call Gfid)
    (begun : Result (Unit {0}) Errno) (new : Place C) : Type 0 where
  pub before : C
  pub number : CallNo
  pub was : old ≡ Living before number
  pub after : C
  pub is : new ≡ Living after k
  pub refused : IsRefusal (refusal_at_start (length ws) call) begun
  pub busy : g.is_busy after ≡ is_ok begun
  pub same : g.number after ≡ g.number before
  pub copy : OnOk begun ((g.stage after).claims.copy ≡ None)
  pub knows : OnOk begun ((s : Scene)
      → Begins (g.number before) (g.is_new before) ws run k call s → (g.stage after).knows s)
  pub variant : OnOk begun ((g.stage after).variant ≤ cost (length ws) call)

-- the client of a place took the reply to its request
pub record Takes {C : Type 0} (g : CallerGhosts C) (old : Place C) (r : Reply) (at : ℕ)
    (answer : Option Finish) (new : Place C) : Type 0 where
  pub before : C
  pub number : CallNo
  pub was : old ≡ Living before number
  pub after : C
  pub is : new ≡ Living after number
  pub same : g.number after ≡ g.number before
  pub moves : CallMoves g.is_busy g.stage before after r at answer
