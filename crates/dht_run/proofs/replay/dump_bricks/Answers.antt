use Rattle.std.proofs.Common.{◌+◌, ◌++◌, ◌∙◌, ap}
use Rattle.dht_run.specs.Replay.{brick_dump}
use Rattle.dht_run.proofs.PrintLaws.{one_brick_more}
use Rattle.dht_run.proofs.replay.dump_bricks.Goals as goal

pub loop-brick-preserved : goal.loop-brick-preserved
loop-brick-preserved g c =
    let number = c.loop-brick.invariant.number in
    let told = c.in_ok-dump.ensures ∙ (ap (λ n. c.loop-brick.out.items ++ brick_dump n (g.B.Brick.state c.brick-item.result)) number ∙ ap (λ b. c.loop-brick.out.items ++ brick_dump c.loop-brick.brick-index (g.B.Brick.state b)) c.brick-item.is) in
    record {
      number = ap (λ n. n + 1) number;
      out = one_brick_more g.B.Brick.state c.args.out.now.items c.loop-brick.out.items c.dump.new.out.items c.args.bricks.now c.loop-brick.brick-index c.brick-item.result c.loop-brick-test.true c.loop-brick.invariant.out told;
    }
