use Rattle.std.proofs.Common.{◌≢◌, ℕ, ◌≤◌, List, decimal, subst}
use Rattle.dht_run.proofs.WordLaws.{no_weights_at}
use Rattle.dht_run.proofs.words.weights_of.Goals as goal

pub returns-in_default-clause-none : goal.returns-in_default-clause-none
returns-in_default-clause-none c = λ refused ws spell.
    let none = subst (λ (word : List ℕ). (w : ℕ) → w ≤ 1000 → decimal w ≢ word) c.as_bytes.ensures c.in_default.ensures in
    no_weights_at c.args.words.now c.loop-word.weights.items c.loop-word.word-index c.word-item.result c.loop-word-test.true c.loop-word.invariant.read c.word-item.is none ws spell.1 spell.0
