use Rattle.std.proofs.Common.{◌∙◌, sym, ap}
use Rattle.std.specs.Prelude.{is_some}
use Rattle.dht_names.specs.Kept.{dirs_in}
use Rattle.dht_names.proofs.SlotLemmas.{get-plain, gfid_total}
use Rattle.dht_names.proofs.dirs.DirTable.contains.Goals as goal

pub returns : goal.returns
unfolding dirs_in
returns c = c.contains_key.ensures ∙ sym (ap is_some (get-plain gfid_total c.args.self.now.kept.entries c.args.dir))
