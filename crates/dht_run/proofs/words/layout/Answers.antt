use Rattle.std.proofs.Common.{ℕ, List, Option, subst}
use Rattle.std.specs.Prelude.{IfSome}
use Rattle.dht_run.specs.Program.{SpellWeights}
use Rattle.dht_run.proofs.WordLaws.{no_layout}
use Rattle.dht_run.proofs.words.layout.Goals as goal

pub returns-then-not-is_volume-clause-none : goal.returns-then-not-is_volume-clause-none
returns-then-not-is_volume-clause-none c = λ refused.
    let behind = c.args.behind.now in
    let read = subst (λ (o : Option (List ℕ)). IfSome o (SpellWeights behind)) c.in-Some.is c.in_ok-weights.ensures.some in
    let is_none = c.if-not-is_volume.true in
    let says = rw c.as_slice.ensures at c.is_volume.ensures in
    no_layout behind c.in-Some.weights read.0 read.1 (λ shape. cc (is_none, says.1 shape))
