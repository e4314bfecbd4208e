-- That a text was written to a sink.
use Rattle.std.specs.Prelude.{ℕ, ◌≡◌, ◌≤◌, List, Result, OnOk, OnErr, IfErr}
use Rattle.dht_types.specs.Faults.{HasFault}
use Rattle.dht_run.specs.Outside.{after_told}
use Rattle.dht_run.specs.Written.{TakesPrefix, IsCause}
use Rattle.dht_run.specs.declared.ending.Ending.{Ending}
use Rattle.dht_run.specs.declared.sink.Sink.{Ghosts as SinkGhosts}

-- the text was written; or, at an error, a prefix of it, and the error says why
pub record Writes {K : Type 0} (k : SinkGhosts K) (old new : K) (text : List ℕ)
    (result : Result (Unit {0}) Ending) : Type 0 where
  pub whole : OnOk result (k.taken new ≡ after_told (k.taken old) text)
  pub prefix : OnErr result (TakesPrefix (k.taken old) text (k.taken new))
  pub cause : IfErr result (λ e. IsCause e (HasFault (k.faults old) (k.faults new)))
  pub faults : k.faults old ≤ k.faults new
