use Rattle.std.proofs.Common.{◌+◌, ℕ, subst, arith}
use Rattle.dht_world.specs.Bricks.{AreFresh}
use Rattle.dht_run.proofs.NewBrickLaws.{if_both, later_fresh}
use Rattle.dht_run.proofs.bricks.fresh_bricks.Goals as goal

pub returns-clause-join : goal.returns-clause-join
returns-clause-join g c = if_both c.new_bricks.result _ _ _ (λ v count new.
    let w = c.args.world.now in
    subst (λ (m : ℕ). AreFresh g.B.Brick.state m c.args.weights.now (w.run + 1) v.items) c.len.ensures
    (later_fresh g.B.Brick.state v.items c.in-Ok.volume c.args.weights.now (w.run + 1) c.in-Ok.ensures.volume c.len.result (let size = v.ok.0 in omega arith) new)) c.new_bricks.ensures.count c.new_bricks.ensures.new
