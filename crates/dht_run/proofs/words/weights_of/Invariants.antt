use Rattle.std.proofs.Common.{◌≡◌, ◌≤◌, All, map, decimal, take}
use Rattle.dht_run.proofs.words.weights_of.Given as goal

abbrev pub invariant-loop-word : goal.invariant-loop-word
invariant-loop-word l = record {
  read : map decimal l.weights.items ≡ take l.word-index l.words;
  light : All (λ weight. weight ≤ 1000) l.weights.items;
}
