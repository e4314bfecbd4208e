use Rattle.std.proofs.Common.{sym, subst}
use Rattle.dht_types.specs.Volume.{HasWeight}
use Rattle.dht_xattr.proofs.plan.plan.Goals as goal

pub returns-clause-once : goal.returns-clause-once
returns-clause-once c = c.plan_of.ensures.once (subst HasWeight (sym c.weights.ensures.weights) c.weights.ensures.valid.heavy)
