use Rattle.dht_names.specs.Kept.{slot_of}
use Rattle.dht_names.proofs.kept.KeptSlot.is_visible.Goals as goal

pub returns : goal.returns
returns c = c.is_visible.ensures (slot_of c.args.self.now) c.shown.ensures
