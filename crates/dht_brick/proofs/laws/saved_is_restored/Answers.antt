use Rattle.dht_brick.proofs.SavingLaws.{file_is_restored, dir_is_restored}
use Rattle.dht_brick.proofs.laws.saved_is_restored.Goals as goal

pub returns-clause-file : goal.returns-clause-file
returns-clause-file c = file_is_restored

pub returns-clause-dir : goal.returns-clause-dir
returns-clause-dir c = dir_is_restored
