use Rattle.std.proofs.Common.{◌≡◌}
use Rattle.std.specs.FinMap.{len}
use Rattle.dht_brick.specs.Parts.{slots_outside}
use Rattle.dht_names.specs.Kept.{slots_in}
use Rattle.dht_names.proofs.slots.SlotTable.drop_dir.Given as goal

-- what is left outside the directory is what was outside it
abbrev pub invariant-loop-key : goal.invariant-loop-key
invariant-loop-key l = slots_outside (slots_in l.self) l.dir ≡ slots_outside (slots_in l.initial.self) l.dir

abbrev pub decreases-loop-key : goal.decreases-loop-key
decreases-loop-key l = len (slots_in l.self)
