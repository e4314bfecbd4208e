use Rattle.dht_names.specs.Kept.{slot_of}
use Rattle.dht_names.proofs.kept.KeptSlot.dir.Goals as goal

pub returns : goal.returns
returns c = c.dir.ensures (slot_of c.args.self.now) c.shown.ensures
