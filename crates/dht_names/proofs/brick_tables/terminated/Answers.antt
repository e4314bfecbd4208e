use Rattle.std.proofs.Common.{◌≡◌, ℕ, ◌+◌, ◌-◌, suc, List, [], ◌∷◌, ◌++◌, length, take, drop, ap, sym, subst, refl, ◌∙◌, arith}
use Rattle.std.specs.Prelude.{replicate}
use Rattle.std.proofs.lemmas.List.{drop-replicate}
use Rattle.dht_names.proofs.brick_tables.terminated.Goals as goal

one_more : (xs ys : List ℕ) (k : ℕ) → k ≡ length xs + 1 → take k (xs ++ 0 ∷ ys) ≡ xs ++ 0 ∷ []
one_more [] ys k e = subst (λ n. take n (0 ∷ ys) ≡ 0 ∷ []) (sym e) refl
one_more (x ∷ xs) ys k e =
    let f : k ≡ suc (length xs + 1) = omega arith in
    subst (λ n. take n (x ∷ (xs ++ 0 ∷ ys)) ≡ x ∷ (xs ++ 0 ∷ [])) (sym f) (ap (λ zs. x ∷ zs) (one_more xs ys (length xs + 1) refl))

pub returns : goal.returns
returns c =
    let name = c.args.name.now in
    let n = length name in
    let short = c.requires in
    let left : 65 - n ≡ suc (64 - n) = omega arith in
    c.of.ensures
    ∙ ap (λ front. take (n + 1) (front ++ drop n (replicate 65 0))) c.copy_from_slice.ensures.after
    ∙ ap (λ zeros. take (n + 1) (name ++ zeros)) (drop-replicate n 65 0 ∙ ap (λ m. replicate m 0) left)
    ∙ one_more name (replicate (64 - n) 0) (n + 1) refl
