use Rattle.dht_names.specs.Kept.{slot_of}
use Rattle.dht_names.proofs.kept.KeptSlot.is_standlink.Goals as goal

pub returns : goal.returns
returns c = c.is_standlink.ensures (slot_of c.args.self.now) c.shown.ensures
