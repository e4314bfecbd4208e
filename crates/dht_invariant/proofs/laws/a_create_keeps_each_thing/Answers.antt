use Rattle.dht_invariant.proofs.CreateKeeps.{create_keeps}
use Rattle.dht_invariant.proofs.laws.a_create_keeps_each_thing.Goals as goal

pub returns : goal.returns
returns c = create_keeps
