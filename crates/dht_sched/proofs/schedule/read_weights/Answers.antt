use Rattle.std.proofs.Common.{◌≤◌, ◌++◌, map, decimal, sym, ap, ◌∙◌}
use Rattle.std.proofs.lemmas.List.Elements.{recursion_from_All}
use Rattle.dht_sched.proofs.LineLemmas.{no_weights}
use Rattle.dht_sched.proofs.schedule.read_weights.Goals as goal

pub returns-in_default : goal.returns-in_default
returns-in_default c = λ ws light same.
    let words = sym c.into_iter-word-iterator.ensures.into_iter_gives ∙ (c.loop-word.invariant.read ∙ ap (λ rest. map decimal c.loop-word.weights.items ++ rest) c.in-Some.ensures.steps) in
    no_weights c.loop-word.weights.items c.in-Some.word.now c.next.new.self c.in_default.ensures ws (recursion_from_All (λ w. w ≤ 1000) ws light) (same ∙ words)
