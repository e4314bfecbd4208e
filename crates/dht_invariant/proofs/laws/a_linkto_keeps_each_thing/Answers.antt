use Rattle.dht_invariant.proofs.LinktoKeeps.{linktos_keep}
use Rattle.dht_invariant.proofs.laws.a_linkto_keeps_each_thing.Goals as goal

pub returns : goal.returns
returns c = linktos_keep
