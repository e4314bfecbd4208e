use Rattle.dht_names.specs.Kept.{dirs_in}
use Rattle.dht_names.proofs.DirLemmas.{remove-plain}
use Rattle.dht_names.proofs.dirs.DirTable.remove.Goals as goal

pub returns : goal.returns
unfolding dirs_in
returns c = remove-plain c.args.self.now.kept.entries c.remove.new.self.entries c.args.dir c.remove.ensures.updates.0
