-- Parts of a program that are programs of their own.
use Rattle.std.specs.Prelude.{ℕ, ◌+◌, ◌≡◌, Option, None, MatchOption, List}
use Rattle.dht_types.specs.declared.errors.Errno.{Errno}
use Rattle.dht_brick.specs.declared.replies.Reply.{Reply}
use Rattle.dht_section.specs.Claims.{Lock, claims_locks}
use Rattle.dht_section.specs.Replies.{fault_of}
use Rattle.dht_section.specs.Scene.{Scene, MayAnswer, fault_finish}
use Rattle.dht_section.specs.Stages.{Stage, Ending, MatchTurn}
use Rattle.dht_section.specs.declared.machine.Turn.{Turn}

-- where a program is whose part is at this stage, with
-- so many requests after the part, and this known beside
abbrev pub as_part : Stage → ℕ → (Scene → Type 0) → Stage
as_part x more Beside = record {
  asks = x.asks;
  claims = x.claims;
  variant = x.variant + more;
  knows = λ s. x.knows s × Beside s;
}

-- a part ends under these locks, and then this is true; or
-- a brick's error ended it, and the call may answer that
abbrev pub part_ending : List Lock → (Scene → Type 0) → Option Errno → Ending
part_ending locks Earned fault = record {
  claims = claims_locks locks;
  earned = λ s. MatchOption fault (Earned s) (λ e. MayAnswer (fault_finish e) s);
}

-- a part ends by the error of the reply, or by none, and goes on where the reply tells of none
abbrev pub EndsByFault : {M : Type 0} → Reply → Turn M (Option Errno) → Type 0
EndsByFault r turn = MatchTurn turn (λ n. fault_of r ≡ None) (λ d. d ≡ fault_of r)
