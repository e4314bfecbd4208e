use Rattle.std.proofs.Common.{◌≡◌, ◌≤◌, take, length}
use Rattle.dht_xattr.specs.Plan.{heavy_from}
use Rattle.dht_xattr.proofs.plan.heavy.Given as goal

abbrev pub invariant-loop-brick : goal.invariant-loop-brick
invariant-loop-brick l = record {
  bricks : take l.count l.bricks ≡ heavy_from 0 (take l.brick l.weights);
  count : l.count ≤ l.brick;
  size : length l.bricks ≡ 32;
}
