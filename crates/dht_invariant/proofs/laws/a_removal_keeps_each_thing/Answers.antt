use Rattle.dht_invariant.proofs.RemovalKeeps.{removals_keep}
use Rattle.dht_invariant.proofs.laws.a_removal_keeps_each_thing.Goals as goal

pub returns : goal.returns
returns c = removals_keep
