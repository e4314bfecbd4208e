use Rattle.std.proofs.Common.{◌∙◌, sym}
use Rattle.dht_names.specs.Slots.{map_in}
use Rattle.dht_names.proofs.SlotLemmas.{len-slots}
use Rattle.dht_names.proofs.slot_map.SlotMap.len.Goals as goal

pub returns-clause-len : goal.returns-clause-len
unfolding map_in
returns-clause-len c = c.len.ensures.len ∙ sym (len-slots c.args.self.now.kept.entries c.len.ensures.ordered)
