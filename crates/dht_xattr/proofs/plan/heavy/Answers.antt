use Rattle.std.proofs.Common.{◌<◌, length, arith, ◌∙◌}
use Rattle.std.proofs.lemmas.List.{length-set}
use Rattle.dht_xattr.proofs.OrderLemmas.{heavy_more_no, heavy_more_yes}
use Rattle.dht_xattr.proofs.plan.heavy.Goals as goal
use Rattle.dht_xattr.proofs.plan.heavy.Goals.{then-weights-brick-gt0, else-weights-brick-gt0}

pub loop-brick-preserved : goal.loop-brick-preserved
loop-brick-preserved c =
    let ws = c.args.weights.now in
    let brick = c.loop-brick.brick in
    let bricks = c.loop-brick.bricks in
    let count = c.loop-brick.count in
    let inside : brick < length ws = omega arith in
    elim c.if-weights-brick-gt0.branch [
      | then-weights-brick-gt0 w ↦ record {
        bricks = rw (w.bricks-is, w.count-is) (heavy_more_yes ws bricks brick count inside (omega arith) (omega arith) c.loop-brick.invariant.bricks);
        count = omega arith;
        size = rw w.bricks-is (length-set bricks count brick ∙ c.loop-brick.invariant.size);
      }
      | else-weights-brick-gt0 w ↦ record {
        bricks = rw (w.bricks-is, w.count-is, heavy_more_no ws brick inside (omega arith)) c.loop-brick.invariant.bricks;
        count = omega arith;
        size = rw w.bricks-is c.loop-brick.invariant.size;
      }
    ]
