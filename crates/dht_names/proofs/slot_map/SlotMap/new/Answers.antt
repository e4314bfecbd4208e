use Rattle.std.proofs.Common.{ap}
use Rattle.dht_names.specs.Slots.{map_in}
use Rattle.dht_names.proofs.SlotLemmas.{slots_from}
use Rattle.dht_names.proofs.slot_map.SlotMap.new.Goals as goal

pub returns : goal.returns
unfolding map_in
returns c = ap slots_from c.new.ensures.empty
