use Rattle.dht_brick.proofs.LocalityLaws.{names_are_local, files_are_local}
use Rattle.dht_brick.proofs.LockLaws.{locks_are_local}
use Rattle.dht_brick.proofs.laws.requests_are_local.Goals as goal

pub returns-clause-names : goal.returns-clause-names
returns-clause-names c = names_are_local

pub returns-clause-files : goal.returns-clause-files
returns-clause-files c = files_are_local

pub returns-clause-locks : goal.returns-clause-locks
returns-clause-locks c = locks_are_local
