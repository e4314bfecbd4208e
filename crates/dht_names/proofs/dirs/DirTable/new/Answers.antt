use Rattle.std.proofs.Common.{ap}
use Rattle.std.specs.FinMap.{from_entries}
use Rattle.dht_brick.specs.Contents.{gfid_cmp}
use Rattle.dht_names.specs.Kept.{dirs_in}
use Rattle.dht_names.proofs.dirs.DirTable.new.Goals as goal

pub returns : goal.returns
unfolding dirs_in
returns c = ap (from_entries {R = gfid_cmp}) c.new.ensures.empty
