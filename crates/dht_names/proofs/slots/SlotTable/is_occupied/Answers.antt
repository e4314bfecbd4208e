use Rattle.std.proofs.Common.{◌∙◌, ap, not}
use Rattle.std.specs.Prelude.{◌==◌}
use Rattle.dht_names.specs.Counts.{tallies_in}
use Rattle.dht_names.specs.Slots.{map_in}
use Rattle.dht_names.proofs.TableCounts.{visible_counted}
use Rattle.dht_names.proofs.slots.SlotTable.is_occupied.Goals as goal

pub returns : goal.returns
returns c = ap (λ n. not (n == 0)) c.of.ensures ∙ visible_counted (map_in c.args.self.now.map) (tallies_in c.args.self.now.counts) c.args.self.now.counted c.args.dir
