use Rattle.std.proofs.Common.{◌≡◌, ◌≤◌, ◌++◌, map, decimal, All}
use Rattle.dht_sched.proofs.schedule.read_weights.Given as goal

abbrev pub invariant-loop-word : goal.invariant-loop-word
invariant-loop-word l = record {
  light : All (λ weight. weight ≤ 1000) l.weights.items;
  read : l.initial.word-iterator ≡ map decimal l.weights.items ++ l.word-iterator;
}
