use Rattle.std.proofs.Common.{◌≡◌}
use Rattle.dht_brick.specs.Parts.{slots_outside}
use Rattle.dht_brick.specs.Saving.{slots_restored}
use Rattle.dht_names.specs.Kept.{slots_in}
use Rattle.dht_names.proofs.slots.SlotTable.restored.Given as goal

-- the slots that are left, put over those so far, are all
abbrev pub invariant-loop-part : goal.invariant-loop-part
invariant-loop-part l = slots_restored l.dir l.part-iterator.iter.rest.now (slots_in l.table) ≡ slots_restored l.dir l.saved (slots_outside (slots_in l.self) l.dir)
