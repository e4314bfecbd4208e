-- What is printed line by line, and told brick by brick.
use Rattle.std.proofs.Common.{◌≡◌, ℕ, ◌+◌, ◌<◌, ◌≤◌, List, [], ◌∷◌, ◌++◌, length, take, get_or, sym, ap, ◌∙◌, append_assoc, append-nil, length-take, arith}
use Rattle.std.specs.List.{flat_map}
use Rattle.std.proofs.lemmas.List.{take_more, take_all}
use Rattle.std.proofs.lemmas.List.Concat.{flat_map-append}
use Rattle.dht_types.specs.declared.lines.DumpLine.{DumpLine}
use Rattle.dht_brick.specs.Bricks.{BrickState}
use Rattle.dht_run.specs.Replay.{brick_dump, dump_from}

-- one line more
pub one_more :
    {X : Type 0} (text : X → List ℕ) (old out new : List ℕ) (xs : List X) (i : ℕ) (d : X)
    → i < length xs → out ≡ old ++ flat_map text (take i xs) → new ≡ out ++ text (get_or xs i d)
    → new ≡ old ++ flat_map text (take (i + 1) xs)
one_more text old out new xs i d lt so_far more =
    let t : flat_map text (take (i + 1) xs) ≡ flat_map text (take i xs) ++ text (get_or xs i d) = ap (flat_map text) (take_more xs i d lt) ∙ (flat_map-append text (take i xs) (get_or xs i d ∷ []) ∙ ap (λ ys. flat_map text (take i xs) ++ ys) (append-nil (text (get_or xs i d)))) in
    more ∙ (ap (λ o. o ++ text (get_or xs i d)) so_far ∙ (append_assoc old (flat_map text (take i xs)) (text (get_or xs i d)) ∙ ap (λ y. old ++ y) (sym t)))

-- all lines
pub all_done :
    {X : Type 0} (text : X → List ℕ) (old out : List ℕ) (xs : List X) (i : ℕ) → length xs ≤ i
    → out ≡ old ++ flat_map text (take i xs) → out ≡ old ++ flat_map text xs
all_done text old out xs i all so_far = so_far ∙ ap (λ ys. old ++ flat_map text ys) (take_all i xs all)

-- one brick more
dump_from-push :
    {B : Type 0} (state : B → BrickState) (n m : ℕ) (bricks : List B) (b : B)
    → m ≡ n + length bricks
    → dump_from state n (bricks ++ b ∷ []) ≡ dump_from state n bricks ++ brick_dump m (state b)
dump_from-push state n m [] b e = append-nil (brick_dump n (state b)) ∙ ap (λ k. brick_dump k (state b)) (omega arith)
dump_from-push state n m (x ∷ xs) b e = ap (λ lines. brick_dump n (state x) ++ lines) (dump_from-push state (n + 1) m xs b (omega arith)) ∙ sym (append_assoc (brick_dump n (state x)) (dump_from state (n + 1) xs) (brick_dump m (state b)))

pub one_brick_more :
    {B : Type 0} (state : B → BrickState) (old out new : List DumpLine) (bricks : List B) (i : ℕ)
    (d : B)
    → i < length bricks → out ≡ old ++ dump_from state 0 (take i bricks)
    → new ≡ out ++ brick_dump i (state (get_or bricks i d))
    → new ≡ old ++ dump_from state 0 (take (i + 1) bricks)
one_brick_more state old out new bricks i d lt so_far more =
    let b = get_or bricks i d in
    let size : i ≡ 0 + length (take i bricks) = omega (arith, length-take i bricks) in
    let t : dump_from state 0 (take (i + 1) bricks) ≡ dump_from state 0 (take i bricks) ++ brick_dump i (state b) = ap (dump_from state 0) (take_more bricks i d lt) ∙ dump_from-push state 0 i (take i bricks) b size in
    more ∙ (ap (λ o. o ++ brick_dump i (state b)) so_far ∙ (append_assoc old (dump_from state 0 (take i bricks)) (brick_dump i (state b)) ∙ ap (λ y. old ++ y) (sym t)))
