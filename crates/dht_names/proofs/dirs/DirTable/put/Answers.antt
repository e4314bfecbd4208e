use Rattle.std.proofs.Common.{◌∙◌, sym, ap}
use Rattle.std.specs.FinMap.{from_entries}
use Rattle.dht_brick.specs.Contents.{gfid_cmp}
use Rattle.dht_brick.proofs.ResultLemmas.{on_err}
use Rattle.dht_names.specs.Kept.{dirs_in}
use Rattle.dht_names.proofs.SlotLemmas.{get-plain, gfid_total}
use Rattle.dht_names.proofs.DirLemmas.{insert-plain}
use Rattle.dht_names.proofs.dirs.DirTable.put.Goals as goal

pub returns-in_err-insert-clause-err : goal.returns-in_err-insert-clause-err
unfolding dirs_in
returns-in_err-insert-clause-err c = on_err c.from_residual.result (ap (from_entries {R = gfid_cmp}) c.in_err-insert.ensures.err)

pub returns-clause-ok : goal.returns-clause-ok
unfolding dirs_in
returns-clause-ok c = insert-plain c.args.self.now.kept.entries c.insert.new.self.entries c.args.dir c.args.new c.in_ok-insert.ensures.updates.0

pub returns-clause-old : goal.returns-clause-old
unfolding dirs_in
returns-clause-old c = c.in_ok-insert.ensures.old ∙ sym (get-plain gfid_total c.args.self.now.kept.entries c.args.dir)
