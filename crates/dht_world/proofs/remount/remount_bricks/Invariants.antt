use Rattle.std.proofs.Common.{◌≡◌, length}
use Rattle.std.specs.Prelude.{map}
use Rattle.dht_world.specs.Bricks.{remounted_in}
use Rattle.dht_world.proofs.BrickLaws.{first_mapped}
use Rattle.dht_world.proofs.remount.remount_bricks.Given as goal

abbrev pub invariant-loop-number : goal.invariant-loop-number
invariant-loop-number g l = record {
  many : length l.bricks.items ≡ length l.fn.bricks.items;
  mounted : map g.B.Brick.state l.bricks.items ≡ first_mapped (remounted_in l.volume) l.number (map g.B.Brick.state l.fn.bricks.items);
}
