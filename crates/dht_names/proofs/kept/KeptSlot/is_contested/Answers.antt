use Rattle.dht_names.specs.Kept.{slot_of}
use Rattle.dht_names.proofs.kept.KeptSlot.is_contested.Goals as goal

pub returns : goal.returns
returns c = c.is_contested.ensures (slot_of c.args.self.now) c.shown.ensures
