use Rattle.dht_types.proofs.TreeLaws.{legal_trees}
use Rattle.dht_types.proofs.lines.each_tree_is_one.Goals as goal

pub returns : goal.returns
returns c = legal_trees
