use Rattle.std.proofs.Common.{◌∙◌, sym, ap, length}
use Rattle.std.specs.FinMap.{from_entries, len-entries}
use Rattle.dht_brick.specs.Contents.{gfid_cmp}
use Rattle.dht_names.specs.Kept.{dirs_in}
use Rattle.dht_names.proofs.SlotLemmas.{entries-plain, gfid_total, gfid_exact}
use Rattle.dht_names.proofs.dirs.DirTable.len.Goals as goal

pub returns : goal.returns
unfolding dirs_in
returns c =
    c.len.ensures.len
    ∙ sym (len-entries (from_entries {R = gfid_cmp} c.args.self.now.kept.entries) ∙ ap length (entries-plain gfid_total gfid_exact c.args.self.now.kept.entries c.len.ensures.ordered))
