use Rattle.std.proofs.Common.{arith}
use Rattle.dht_xattr.proofs.OrderLemmas.{order_is, order_none}
use Rattle.dht_xattr.proofs.plan.order.Goals as goal

pub returns-then-count-gt0-clause-order : goal.returns-then-count-gt0-clause-order
returns-then-count-gt0-clause-order c =
    order_is c.args.weights.now c.heavy-count.result.bricks c.rotate_left.new.self c.args.dir c.heavy-count.result.count (omega arith) (omega arith) c.heavy-count.ensures.heavy c.rotate_left.ensures.after

pub returns-else-count-gt0-clause-order : goal.returns-else-count-gt0-clause-order
returns-else-count-gt0-clause-order c =
    order_none c.args.weights.now c.heavy-count.result.bricks c.args.dir c.heavy-count.result.count (omega arith) c.heavy-count.ensures.heavy
