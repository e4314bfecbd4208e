use Rattle.dht_names.specs.Counts.{tallies_in}
use Rattle.dht_names.specs.Slots.{map_in}
use Rattle.dht_names.proofs.TableCounts.{none_counted}
use Rattle.dht_names.proofs.slots.SlotTable.new.Goals as goal

pub invariant_of-result : goal.invariant_of-result
invariant_of-result c = record { counted = none_counted (map_in c.new.result) (tallies_in c.new-2.result) c.new.ensures c.new-2.ensures }
