use Rattle.std.proofs.Common.{◌≡◌}
use Rattle.std.specs.Prelude.{map}
use Rattle.dht_world.specs.Bricks.{without_client}
use Rattle.dht_world.proofs.BrickLaws.{first_mapped}
use Rattle.dht_world.proofs.events.free_client.Given as goal

abbrev pub invariant-loop-brick : goal.invariant-loop-brick
invariant-loop-brick g l = map g.B.Brick.state l.brick-items ≡ first_mapped (without_client l.client.0) l.brick-index (map g.B.Brick.state l.fn.bricks.items)
