use Rattle.std.proofs.Common.{refl}
use Rattle.dht_brick.specs.Contents.{entry_cmp, entry_at}
use Rattle.dht_names.specs.Slots.{map_in, slot_of}
use Rattle.dht_names.proofs.SlotLemmas.{remove-shown, entry_total, entry_exact}
use Rattle.dht_names.proofs.slot_map.SlotMap.remove.Goals as goal

pub returns : goal.returns
unfolding map_in
returns c = remove-shown entry_cmp entry_at slot_of entry_total entry_exact (λ l. record { dir = l.0; name = l.1 }) (λ l. refl) c.args.self.now.kept.entries c.remove.new.self.entries c.args.key.now c.remove.ensures.updates.0
