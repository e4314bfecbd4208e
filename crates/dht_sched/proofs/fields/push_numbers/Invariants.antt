use Rattle.std.proofs.Common.{◌≡◌, ◌++◌, map, take, decimal}
use Rattle.dht_sched.specs.Printing.{behind_spaces}
use Rattle.dht_sched.proofs.fields.push_numbers.Given as goal

abbrev pub invariant-loop-number : goal.invariant-loop-number
invariant-loop-number l = l.out.items ≡ l.initial.out.items ++ behind_spaces (map decimal (take l.number-index l.numbers))
