use Rattle.std.proofs.Common.{◌≡◌}
use Rattle.dht_names.specs.Kept.{slots_in}
use Rattle.dht_names.proofs.SlotLemmas.{put_onto, slots_from}
use Rattle.dht_names.proofs.slots.SlotTable.outside.Given as goal

-- the slots that are left, put over those so far, are all
abbrev pub invariant-loop-key : goal.invariant-loop-key
invariant-loop-key l = put_onto l.key-iterator.iter (slots_in l.table) ≡ slots_from l.self.map.kept.entries
