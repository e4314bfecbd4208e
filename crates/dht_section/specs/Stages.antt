-- Where a program is between its requests, and how a reply takes it on.
use Rattle.std.specs.Prelude.{ℕ, ◌<◌, ◌≤◌, ◌≡◌, Bool, true, false, Option, MatchOption}
use Rattle.dht_types.specs.History.{IsAlone, IsUndisturbed}
use Rattle.dht_types.specs.declared.calls.Answer.TheVariants as answer
use Rattle.dht_types.specs.declared.calls.Call.TheVariants.{Heal}
use Rattle.dht_types.specs.declared.identifiers.Gfid.{Gfid}
use Rattle.dht_brick.specs.declared.replies.Reply.{Reply}
use Rattle.dht_brick.specs.declared.replies.Reply.TheVariants.{Wait}
use Rattle.dht_section.specs.Claims.{Claim, MayClaim, no_claim}
use Rattle.dht_section.specs.Disk.{holders}
use Rattle.dht_section.specs.FirstLookup.{FindsSoon}
use Rattle.dht_section.specs.Healed.{IsHealed}
use Rattle.dht_section.specs.Moves.{Guarantee}
use Rattle.dht_section.specs.Permits.{Permitted}
use Rattle.dht_section.specs.Rely.{Rely}
use Rattle.dht_section.specs.Scene.{Scene, Sound, my_claim, MayAnswer}
use Rattle.dht_section.specs.declared.machine.Ask.{Ask}
use Rattle.dht_section.specs.declared.machine.Finish.{Finish}
use Rattle.dht_section.specs.declared.machine.Turn.{Turn}
use Rattle.dht_section.specs.declared.machine.Turn.TheVariants.{Go, Done}

-- where a program is between two requests
pub record Stage : Type 1 where
  pub asks : Ask  -- the request that it sends next
  pub claims : Claim
  pub variant : ℕ  -- how many requests it still sends at most, if nobody disturbs it
  pub knows : Scene → Type 0  -- what it knows of the scene

-- what a program hands out when it is done: what is still claimed, and what is true then
pub record Ending : Type 1 where
  pub claims : Claim
  pub earned : Scene → Type 0

-- a program is at this stage in this scene
pub record IsAt (x : Stage) (s : Scene) : Type 0 where
  pub claims : my_claim s ≡ x.claims
  pub knows : x.knows s

-- at this stage it may send its request
abbrev pub MaySend : Stage → Type 0
MaySend x = (s : Scene) → Sound s → IsAt x s → Permitted s x.asks

-- what others may do leaves true what is known at this stage
abbrev pub IsStable : Stage → Type 0
IsStable x = (s t : Scene) → x.knows s → Rely s t → x.knows t

-- and so it is for a client: its call takes no step meanwhile
abbrev pub IsCallStable : Stage → Type 0
IsCallStable x = (s t : Scene) → x.knows s → Rely s t → t.mine.steps ≡ s.mine.steps → x.knows t

-- the request of this stage was answered so between these scenes, and its last line is this one
pub record Served (x : Stage) (r : Reply) (at : ℕ) (s t : Scene) : Type 0 where
  pub before : Sound s
  pub after : Sound t
  pub is_at : IsAt x s
  pub moved : Guarantee s x.asks r t
  pub line : at ≡ t.history.size

-- the lock that was asked for is held by another client
abbrev pub is_wait : Reply → Bool
is_wait (Wait holder) = true
is_wait r = false

-- what I may claim after a stage that claimed this
abbrev pub MayClaimNext : Scene → (old new : Claim) → Type 0
MayClaimNext t old new = MayClaim t.disk.count (λ b key. holders t.disk b key t.who.0) old new

-- fewer requests are left, or as many where it had to wait
abbrev pub IsNearer : Reply → (new old : ℕ) → Type 0
IsNearer r new old = (is_wait r ≡ false → new < old) × (new ≤ old)

-- a program goes on from a stage to the next
pub record GoesOn (old new : Stage) (r : Reply) (t : Scene) : Type 0 where
  pub claims : MayClaimNext t old.claims new.claims
  pub knows : new.knows t
  pub nearer : IsUndisturbed t.history t.mine → IsNearer r new.variant old.variant

-- a program ends after a stage
pub record EndsIn (old : Stage) (end : Ending) (t : Scene) : Type 0 where
  pub claims : MayClaimNext t old.claims end.claims
  pub earned : end.earned t

-- a fact for each kind of turn
abbrev pub MatchTurn : {M D : Type 0} → Turn M D → (M → Type 0) → (D → Type 0) → Type 0
MatchTurn (Go m) P Q = P m
MatchTurn (Done d) P Q = Q d

-- whenever the request of this machine was answered
-- so, it goes on from its stage to the next, or ends
abbrev pub Moves : {M D : Type 0} → (M → Stage) → (D → Ending) → M → Reply → ℕ → Turn M D → Type 0
Moves stage ending m r at turn =
    (s t : Scene) → Served (stage m) r at s t
    → MatchTurn turn (λ n. GoesOn (stage m) (stage n) r t) (λ d. EndsIn (stage m) (ending d) t)

-- a call ends with its answer, and then claims nothing
abbrev pub answered : Finish → Ending
answered f = record { claims = no_claim; earned = MayAnswer f }

-- a heal that was alone has left its directory whole, and each above it
abbrev pub LeavesWhole : Finish → Scene → Type 0
LeavesWhole f s =
    (d : Gfid) → s.mine.call ≡ Heal d → f.answer ≡ answer.Done → IsAlone s.history s.mine
    → IsHealed s.disk s.history.tree d

-- so a client's call ends
abbrev pub call_answered : Finish → Ending
call_answered f = record { claims = no_claim; earned = λ s. MayAnswer f s × LeavesWhole f s }

-- the same of a client: its call goes on, or the client is idle and the call has ended
abbrev pub CallMoves :
    {C : Type 0} → (C → Bool) → (C → Stage) → (old new : C) → Reply → ℕ → Option Finish → Type 0
CallMoves is_busy stage old new r at answer =
    (s t : Scene) → Served (stage old) r at s t
    → MatchOption answer ((is_busy new ≡ true) × GoesOn (stage old) (stage new) r t)
    (λ f. (is_busy new ≡ false) × EndsIn (stage old) (call_answered f) t × FindsSoon f t)
