use Rattle.std.proofs.Common.{arith}
use Rattle.dht_sched.proofs.DirectoryLemmas.{no_directory, no_number}
use Rattle.dht_sched.proofs.NameLemmas.{not_empty}
use Rattle.dht_sched.proofs.calls.read_directory.Goals as goal

pub returns-in_err-first : goal.returns-in_err-first
returns-in_err-first c = rw c.from_residual.ensures (λ d h. no_directory c.args.word.now (let none = c.in_err-first.ensures.cases in omega arith) d)

pub returns-in_err-number : goal.returns-in_err-number
returns-in_err-number c =
    let some = not_empty c.in_ok-first.rest.now _ c.is_empty.ensures c.if-is_empty.false in
    rw c.from_residual-in_err-number.ensures (no_number c.args.word.now c.in_ok-first.rest.now c.in_ok-first.first.now c.in_ok-first.ensures.cases.0 c.if-first-ne64.false some c.in_err-number.ensures)
