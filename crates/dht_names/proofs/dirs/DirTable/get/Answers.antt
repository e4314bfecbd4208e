use Rattle.std.proofs.Common.{◌∙◌, sym}
use Rattle.dht_names.specs.Kept.{dirs_in}
use Rattle.dht_names.proofs.SlotLemmas.{get-plain, gfid_total}
use Rattle.dht_names.proofs.dirs.DirTable.get.Goals as goal

pub returns : goal.returns
unfolding dirs_in
returns c = c.get.ensures.value ∙ sym (get-plain gfid_total c.args.self.now.kept.entries c.args.dir)
