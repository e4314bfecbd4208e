use Rattle.std.proofs.Common.{◌≡◌, ◌++◌, map}
use Rattle.dht_brick.specs.Dump.{slot_line}
use Rattle.dht_names.proofs.SlotLemmas.{shown_slots}
use Rattle.dht_names.proofs.slot_map.SlotMap.dump.Given as goal

-- the lines so far, and those of the slots that are left
abbrev pub invariant-loop-key : goal.invariant-loop-key
invariant-loop-key l = l.out.items ++ map (slot_line l.brick) (shown_slots l.key-iterator) ≡ l.initial.out.items ++ map (slot_line l.brick) (shown_slots l.self.kept.entries)
