use Rattle.std.proofs.Common.{◌≡◌, ◌++◌, ℕ, length, take, ap, ◌∙◌, sym, subst, arith}
use Rattle.dht_types.specs.Padded.{IsPadded, longer_padded, longer_is, length_back}
use Rattle.dht_types.proofs.linktos.LinktoValue.with.Goals as goal

pub invariant_of-result : goal.invariant_of-result
invariant_of-result c =
    let n = c.from-start.result in
    let start : IsPadded 65 0 n c.self.inside.bytes = subst (λ (i : ℕ). IsPadded 65 0 i c.self.inside.bytes) (sym c.from-start.ensures) c.self.invariant in
    let long = length_back 65 0 n c.self.inside.bytes start in
    let same : length (take n c.self.inside.bytes) ≡ length c.args.self.now = ap length (ap (λ (i : ℕ). take i c.self.inside.bytes) c.from-start.ensures ∙ c.self.view_is) in
    let fits = c.requires in
    longer_padded 65 n 0 c.self.inside.bytes c.args.piece.now c.overwrite.new.bytes start (omega arith) c.overwrite.ensures

pub returns : goal.returns
returns c =
    let n = c.from-start.result in
    let start : IsPadded 65 0 n c.self.inside.bytes = subst (λ (i : ℕ). IsPadded 65 0 i c.self.inside.bytes) (sym c.from-start.ensures) c.self.invariant in
    longer_is 65 n 0 c.self.inside.bytes c.args.piece.now c.overwrite.new.bytes start c.overwrite.ensures
    ∙ ap (λ xs. xs ++ c.args.piece.now) (ap (λ (i : ℕ). take i c.self.inside.bytes) c.from-start.ensures ∙ c.self.view_is)
