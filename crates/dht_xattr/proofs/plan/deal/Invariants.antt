use Rattle.std.proofs.Common.{◌≡◌, length}
use Rattle.dht_xattr.specs.Plan.{order, start}
use Rattle.dht_xattr.proofs.PlanLemmas.{AreDealt}
use Rattle.dht_xattr.proofs.plan.deal.Given as goal

abbrev pub invariant-loop-place : goal.invariant-loop-place
invariant-loop-place l = record {
  first : l.first ≡ start l.weights (order l.weights l.fn.dir) l.place;
  size : length l.ranges ≡ 32;
  dealt : AreDealt l.weights (order l.weights l.fn.dir) l.place l.ranges;
}
