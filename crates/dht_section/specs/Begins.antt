-- How a call begins.
use Rattle.std.specs.Prelude.{ℕ, ◌≡◌, ◌⊎◌, Bool, true, Option, Some, None, List, Result, Ok, Err}
use Rattle.dht_types.specs.declared.identifiers.Gfid.{Gfid}
use Rattle.dht_types.specs.declared.identifiers.ClientNo.{ClientNo}
use Rattle.dht_types.specs.declared.identifiers.CallNo.{CallNo}
use Rattle.dht_types.specs.declared.errors.Errno.{Errno}
use Rattle.dht_types.specs.declared.errors.Errno.TheVariants.{Enomem}
use Rattle.dht_types.specs.declared.calls.Call.{Call}
use Rattle.dht_section.specs.Scene.{Scene}

-- the scene of a call that was accepted just now, of a client that is new or is not
pub record Begins (c : ClientNo) (is_new : Bool) (ws : List ℕ) (n : ℕ) (k : CallNo)
    (what : Call Gfid) (s : Scene) : Type 0 where
  pub who : s.who ≡ c
  pub weights : s.history.weights ≡ ws
  pub run : s.history.run ≡ n
  pub number : s.mine.number ≡ k
  pub call : s.mine.call ≡ what
  pub fresh : s.mine.deeds ≡ None
  pub steps : s.mine.steps ≡ 0
  pub first : s.mine.is_first ≡ true → is_new ≡ true

-- a call that is to be refused is refused so; another begins, or has no memory to begin
abbrev pub IsRefusal : Option Errno → Result (Unit {0}) Errno → Type 0
IsRefusal (Some e) r = r ≡ Err e
IsRefusal None r = (r ≡ Ok tt) ⊎ (r ≡ Err Enomem)
