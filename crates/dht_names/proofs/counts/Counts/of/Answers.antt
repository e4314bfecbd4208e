use Rattle.std.proofs.Common.{sym, ◌∙◌}
use Rattle.dht_brick.proofs.TableLemmas.{gfid_total, get-plain}
use Rattle.dht_names.specs.Counts.{tallies_in}
use Rattle.dht_names.proofs.DirLemmas.{table_from}
use Rattle.dht_names.proofs.CountLemmas.{kept, not_kept}
use Rattle.dht_names.proofs.counts.Counts.of.Goals as goal

pub returns-in-None : goal.returns-in-None
unfolding tallies_in
returns-in-None c =
    let es = c.args.self.now.tallies.entries in
    sym (not_kept (table_from es) c.args.gfid c.args.kind (get-plain gfid_total es c.args.gfid ∙ sym c.in-None.ensures.value))

pub returns-in-Some : goal.returns-in-Some
unfolding tallies_in
returns-in-Some c =
    let es = c.args.self.now.tallies.entries in
    c.of.ensures ∙ sym (kept (table_from es) c.args.gfid c.args.kind c.in-Some.tally.now (get-plain gfid_total es c.args.gfid ∙ sym c.in-Some.ensures.value))
