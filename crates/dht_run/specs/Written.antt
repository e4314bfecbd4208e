-- What was written of a text, and why it was not all.
use Rattle.std.specs.Prelude.{ℕ, ◌≡◌, ◌⊎◌, Option, List, take}
use Rattle.dht_run.specs.Outside.{after_told}
use Rattle.dht_run.specs.declared.ending.Ending.{Ending}
use Rattle.dht_run.specs.declared.ending.Ending.TheVariants.{SinkFailed, OutOfMemory, Limit}

-- the sink took a prefix of the text
abbrev pub TakesPrefix : Option (List ℕ) → List ℕ → Option (List ℕ) → Type 0
TakesPrefix before text taken = (n : ℕ) × (taken ≡ after_told before (take n text))

-- why a text was not written whole: the sink failed, by this fault, or memory ran out
abbrev pub IsCause : Ending → Type 0 → Type 0
IsCause ending fault = ((ending ≡ SinkFailed) × fault) ⊎ (ending ≡ OutOfMemory)

-- why an event did not happen, or its lines were not written
-- whole: the run has had all its steps, or one of these
abbrev pub IsEventCause : Ending → Type 0 → Type 0
IsEventCause ending fault = (ending ≡ Limit) ⊎ IsCause ending fault
