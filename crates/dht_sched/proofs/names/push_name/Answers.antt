use Rattle.std.proofs.lemmas.Result.{err_from_is_err_and}
use Rattle.dht_sched.proofs.PrintLemmas.{part_behind}
use Rattle.dht_sched.proofs.names.push_name.Goals as goal

pub returns-in_err-push_byte : goal.returns-in_err-push_byte
returns-in_err-push_byte c =
    let p = err_from_is_err_and c.from_residual.result c.from_residual.ensures.1 in
    rw p.1 (part_behind _ _ _ _ c.loop-byte.invariant c.in_err-push_byte.ensures)
