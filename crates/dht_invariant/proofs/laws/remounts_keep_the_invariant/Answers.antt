use Rattle.dht_invariant.proofs.RemountKeeps.{remounts_keep, remounts_in_part_keep}
use Rattle.dht_invariant.proofs.laws.remounts_keep_the_invariant.Goals as goal

pub returns-clause-whole : goal.returns-clause-whole
returns-clause-whole c = remounts_keep

pub returns-clause-part : goal.returns-clause-part
returns-clause-part c = remounts_in_part_keep
