use Rattle.dht_xattr.proofs.PaddedLemmas.{IsPadded-more, room_in}
use Rattle.dht_xattr.proofs.layout.Layout.with.Goals as goal

pub invariant_of-result : goal.invariant_of-result
invariant_of-result c =
    rw c.from.ensures (IsPadded-more c.self.inside.count c.self.inside.places c.args.range c.self.invariant (room_in c.self.inside.count c.self.inside.places c.args.self c.self.invariant c.self.view_is c.requires))
