use Rattle.std.proofs.Common.{◌≡◌, ◌≤◌, ◌+◌, ◌⊎◌}
use Rattle.std.specs.Prelude.{vec_len}
use Rattle.dht_world.specs.Bricks.{AreNew}
use Rattle.dht_run.specs.NewBricks.{first_value}
use Rattle.dht_run.proofs.bricks.new_bricks.Given as goal

abbrev pub invariant-loop-number : goal.invariant-loop-number
invariant-loop-number g l = record {
  count : vec_len l.bricks + l.from ≡ l.number;
  within : (l.number ≤ l.number-end) ⊎ (l.number ≡ l.from);
  new : AreNew g.B.Brick.state l.volume (first_value l.first l.volume.weights) l.from l.bricks.items;
}
