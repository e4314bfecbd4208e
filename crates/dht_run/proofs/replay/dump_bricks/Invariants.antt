use Rattle.std.proofs.Common.{◌≡◌, ◌++◌, take}
use Rattle.dht_run.specs.Replay.{dump_from}
use Rattle.dht_run.proofs.replay.dump_bricks.Given as goal

abbrev pub invariant-loop-brick : goal.invariant-loop-brick
invariant-loop-brick g l = record {
  number : l.number ≡ l.brick-index;
  out : l.out.items ≡ l.initial.out.items ++ dump_from g.B.Brick.state 0 (take l.brick-index l.bricks);
}
