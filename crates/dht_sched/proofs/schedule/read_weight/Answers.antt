use Rattle.std.proofs.Common.{arith}
use Rattle.dht_sched.proofs.NumberLemmas.{too_heavy}
use Rattle.dht_sched.proofs.schedule.read_weight.Goals as goal

pub returns-then-weight-from : goal.returns-then-weight-from
returns-then-weight-from c = too_heavy c.args.word.now c.in_ok-weight.weight c.in_ok-weight.ensures.0 c.in_ok-weight.ensures.1 (omega arith)
