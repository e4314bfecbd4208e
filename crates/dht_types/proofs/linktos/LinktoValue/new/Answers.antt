use Rattle.dht_types.specs.Padded.{padded_is, padded_prefix}
use Rattle.dht_types.proofs.linktos.LinktoValue.new.Goals as goal

pub invariant_of-result : goal.invariant_of-result
invariant_of-result c = rw c.place_of.ensures (padded_is 65 0 c.args.bytes.now c.requires)

pub returns : goal.returns
returns c = rw c.place_of.ensures (padded_prefix 65 0 c.args.bytes.now)
