use Rattle.dht_brick.proofs.RowLaws.{refusals_change_nothing, waits_change_nothing}
use Rattle.dht_brick.proofs.laws.refusals_change_nothing.Goals as goal

pub returns-clause-refused : goal.returns-clause-refused
returns-clause-refused c = refusals_change_nothing

pub returns-clause-waits : goal.returns-clause-waits
returns-clause-waits c = waits_change_nothing
