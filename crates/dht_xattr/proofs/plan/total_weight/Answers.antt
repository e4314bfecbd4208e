use Rattle.std.proofs.Common.{arith}
use Rattle.std.proofs.lemmas.List.Sums.{sum_by_more_le}
use Rattle.dht_xattr.proofs.OrderLemmas.{sum_few}
use Rattle.dht_xattr.proofs.plan.total_weight.Goals as goal

pub overflow_add-total : goal.overflow_add-total
overflow_add-total c =
    let ws = c.args.weights.now in
    let most = sum_few ws (λ k. let small = c.type_inv.weights k in omega arith) c.requires in
    let part = sum_by_more_le (λ x. x) ws c.loop-brick.brick 0 (omega arith) in
    omega arith
