use Rattle.std.proofs.Common.{◌∙◌, sym, ap}
use Rattle.std.specs.Option.{option_map}
use Rattle.dht_brick.specs.Contents.{entry_cmp, entry_at}
use Rattle.dht_names.specs.Slots.{map_in, slot_of}
use Rattle.dht_names.proofs.SlotLemmas.{get-shown, entry_total}
use Rattle.dht_names.proofs.slot_map.SlotMap.get.Goals as goal

pub returns : goal.returns
unfolding map_in
returns c = ap (option_map slot_of) c.get.ensures.value ∙ sym (get-shown entry_cmp entry_at slot_of entry_total c.args.self.now.kept.entries c.args.key.now)
