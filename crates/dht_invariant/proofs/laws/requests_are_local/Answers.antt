use Rattle.dht_invariant.proofs.RowLocality.{rows_are_local}
use Rattle.dht_invariant.proofs.ViewLocality.{requests_are_local}
use Rattle.dht_invariant.proofs.laws.requests_are_local.Goals as goal

pub returns-clause-rows : goal.returns-clause-rows
returns-clause-rows c = rows_are_local

pub returns-clause-shown : goal.returns-clause-shown
returns-clause-shown c = requests_are_local
