use Rattle.std.proofs.Common.{◌∙◌, ◌++◌, ap, sym, map, append-nil}
use Rattle.dht_brick.specs.Dump.{dir_line}
use Rattle.dht_names.specs.Kept.{dirs_in}
use Rattle.dht_names.proofs.SlotLemmas.{entries-plain, gfid_total, gfid_exact}
use Rattle.dht_names.proofs.dirs.DirTable.dump.Goals as goal

pub returns : goal.returns
unfolding dirs_in
returns c =
    let ordered = c.into_iter-dir-iterator.ensures.into_iter_gives.5 in
    sym (append-nil c.loop-dir.out.items) ∙ ap (λ es. c.loop-dir.out.items ++ map (dir_line c.args.brick) es) (sym c.in-None.ensures.steps.0)
    ∙ c.loop-dir.invariant ∙ ap (λ es. c.args.out.now.items ++ map (dir_line c.args.brick) es) (sym (entries-plain gfid_total gfid_exact c.args.self.now.kept.entries ordered))
