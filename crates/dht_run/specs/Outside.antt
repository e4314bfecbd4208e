-- What the outside world gives and takes: the words of faults, sources and sinks.
use Rattle.std.specs.Prelude.{◌≡◌, ℕ, ◌+◌, ◌-◌, ◌^◌, ⊤, Option, None, Some, List, [], ◌++◌, Contains, min}
use Rattle.std.specs.Option.{option_map}
use Rattle.dht_run.specs.declared.faults.FaultPlan.{FaultPlan}
use Rattle.dht_run.specs.declared.source.Got.{Got}
use Rattle.dht_run.specs.declared.source.Got.TheVariants.{Bytes as GotBytes, Failed as GotFailed}
use Rattle.dht_run.specs.declared.sink.Took.{Took}
use Rattle.dht_run.specs.declared.sink.Took.TheVariants.{Bytes as TookBytes, Failed as TookFailed}

-- one more than a count that stays at 2^64 - 1
abbrev pub counted : ℕ → ℕ
counted n = min (n + 1) (2 ^ 64 - 1)

-- the next call is one of those that are to fail
abbrev pub IsNextPlanned : FaultPlan → Type 0
IsNextPlanned plan = Contains plan.fails.items (counted plan.calls)

-- one more call was made under the plan
pub record CountsCall (old new : FaultPlan) : Type 0 where
  pub fails : new.fails ≡ old.fails
  pub calls : new.calls ≡ counted old.calls

-- these bytes, and then the bytes that are told
abbrev pub before_told : List ℕ → Option (List ℕ) → Option (List ℕ)
before_told bytes told = option_map (λ rest. bytes ++ rest) told

-- the bytes that are told, and then these
abbrev pub after_told : Option (List ℕ) → List ℕ → Option (List ℕ)
after_told told bytes = option_map (λ prefix. prefix ++ bytes) told

-- no byte is left, where the bytes are told
abbrev pub IsAtEnd : Option (List ℕ) → Type 0
IsAtEnd None = ⊤
IsAtEnd (Some bytes) = bytes ≡ []

-- a fact of the count, if the read gave bytes
abbrev pub IfGot : Got → (ℕ → Type 0) → Type 0
IfGot (GotBytes n) P = P n
IfGot GotFailed P = ⊤

-- a fact, if the read failed
abbrev pub OnGotFailed : Got → Type 0 → Type 0
OnGotFailed (GotBytes n) P = ⊤
OnGotFailed GotFailed P = P

-- a fact of the count, if the write took bytes
abbrev pub IfTook : Took → (ℕ → Type 0) → Type 0
IfTook (TookBytes n) P = P n
IfTook TookFailed P = ⊤

-- a fact, if the write failed
abbrev pub OnTookFailed : Took → Type 0 → Type 0
OnTookFailed (TookBytes n) P = ⊤
OnTookFailed TookFailed P = P
