use Rattle.dht_brick.proofs.SavingLaws.{never_is_not_in_memory}
use Rattle.dht_brick.proofs.laws.what_never_takes_memory.Goals as goal

pub returns : goal.returns
returns c = never_is_not_in_memory
