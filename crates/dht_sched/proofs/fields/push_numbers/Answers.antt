use Rattle.std.proofs.lemmas.Result.{err_from_is_err_and}
use Rattle.dht_sched.proofs.PrintLemmas.{part_behind}
use Rattle.dht_sched.proofs.fields.push_numbers.Goals as goal

pub returns-in_err-push_number_word : goal.returns-in_err-push_number_word
returns-in_err-push_number_word c =
    let p = err_from_is_err_and c.from_residual.result c.from_residual.ensures.1 in
    rw p.1 (part_behind _ _ _ _ c.loop-number.invariant c.in_err-push_number_word.ensures)
