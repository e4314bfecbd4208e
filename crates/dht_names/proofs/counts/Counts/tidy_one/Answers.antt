use Rattle.std.proofs.Common.{sym, subst, ◌∙◌}
use Rattle.dht_brick.proofs.TableLemmas.{gfid_total, get-plain}
use Rattle.dht_names.specs.Counts.{tallies_in, KeepsCounts}
use Rattle.dht_names.proofs.DirLemmas.{table_from, remove-plain}
use Rattle.dht_names.proofs.CountLemmas.{tidied}
use Rattle.dht_names.proofs.counts.Counts.tidy_one.Goals as goal

pub returns-then-is_none : goal.returns-then-is_none
unfolding tallies_in
returns-then-is_none c =
    let es = c.args.self.now.tallies.entries in
    let g = c.in-Some.gfid in
    subst (KeepsCounts (table_from es)) (sym (remove-plain es c.remove.new.self.entries g c.remove.ensures.updates.0))
    (tidied (table_from es) g c.in-Some-get.tally.now (get-plain gfid_total es g ∙ sym c.in-Some-get.ensures.value) (sym c.is_none.ensures ∙ c.if-is_none.true))
