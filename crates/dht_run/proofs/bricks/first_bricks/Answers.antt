use Rattle.std.proofs.Common.{arith}
use Rattle.std.proofs.lemmas.Result.{IfOk-weaker}
use Rattle.dht_run.proofs.NewBrickLaws.{if_both, first_newborn, first_ready}
use Rattle.dht_run.proofs.bricks.first_bricks.Goals as goal

pub returns-clause-newborn : goal.returns-clause-newborn
returns-clause-newborn g c = IfOk-weaker c.new_bricks.result _ _ (λ v new. first_newborn g.B.Brick.state v.items c.in-Ok.volume c.args.weights.now 1 c.in-Ok.ensures.volume new) c.new_bricks.ensures.new

pub returns-clause-ready : goal.returns-clause-ready
returns-clause-ready g c = if_both c.new_bricks.result _ _ _ (λ v count new. first_ready g.B.Brick.state v.items c.in-Ok.volume c.args.weights.now 1 c.in-Ok.ensures.volume (let size = v.ok.0 in omega arith) new) c.new_bricks.ensures.count c.new_bricks.ensures.new
