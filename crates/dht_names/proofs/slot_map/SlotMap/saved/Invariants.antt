use Rattle.std.proofs.Common.{◌≡◌, ◌++◌, map}
use Rattle.std.specs.Prelude.{None, filter}
use Rattle.dht_types.specs.Gfid.{Entry, same_gfid}
use Rattle.dht_types.specs.declared.stored.Slot.{Slot}
use Rattle.dht_brick.specs.Saving.{saved_slot}
use Rattle.dht_names.proofs.RangeLemmas.{front, in_dir}
use Rattle.dht_names.proofs.SlotLemmas.{shown_slots}
use Rattle.dht_names.proofs.slot_map.SlotMap.saved.Given as goal

-- the slots so far, and those in the directory that are left
abbrev pub invariant-loop-key : goal.invariant-loop-key
invariant-loop-key l =
    l.saved.items ++ map saved_slot (shown_slots (front (in_dir l.dir None) l.key-iterator))
    ≡ map saved_slot (filter (λ (e : Entry × Slot). same_gfid l.dir e.0.0) (shown_slots l.self.kept.entries))
