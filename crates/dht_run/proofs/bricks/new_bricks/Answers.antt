use Rattle.std.proofs.Common.{rules, subst, sym, inl, arith}
use Rattle.dht_world.specs.Bricks.{AreNew}
use Rattle.dht_world.proofs.NewbornLaws.{one_new_more}
use Rattle.dht_run.specs.NewBricks.{first_value}
use Rattle.dht_run.proofs.bricks.new_bricks.Goals as goal

pub loop-number-preserved : goal.loop-number-preserved
loop-number-preserved g c =
    let value = first_value c.args.first c.args.volume.now.weights in
    record {
      count = search rules;
      within = inl (let below = c.loop-number-test.true in omega arith);
      new = subst (AreNew g.B.Brick.state c.args.volume.now value c.args.from) (sym c.in_ok-push.ensures.items)
          (one_new_more g.B.Brick.state c.args.volume.now value c.args.from c.loop-number.number c.loop-number.bricks.items c.in_ok-new_brick.field-0 c.loop-number.invariant.new (omega (arith, c.loop-number.invariant.count, c.loop-number.bricks.ok.0)) c.in_ok-new_brick.ensures);
    }
