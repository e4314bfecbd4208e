-- A list with another element at a place.
use Rattle.std.proofs.Common.{◌≡◌, ◌≢◌, ◌<◌, ℕ, Bool, true, false, refl, ap, ◌∙◌, arith, List}
use Rattle.std.specs.Prelude.{suc, length, nat_lt, if◌then◌else◌, slice_index_or, slice_set}
use Rattle.std.proofs.Common.{length-set}
use Rattle.std.proofs.lemmas.Bool.Decides.{nat_tests}
use Rattle.std.proofs.lemmas.List.{get_or-set_same, get_or-set_other}
use Rattle.dht_section.specs.Looks.{with_at}

when : {A : Type 0} (b : Bool) (x y : A) → b ≡ true → (if b then x else y) ≡ x
when true x y e = refl
when false x y e = absurd (let z : false ≡ true = e in cc)

pub set_is :
    {A : Type 0} (xs : List A) (n : ℕ) (x : A) → n < length xs → with_at xs n x ≡ slice_set xs n x
set_is xs n x l = when (nat_lt n (length xs)) (slice_set xs n x) xs (grind (arith, nat_tests, l))

pub set_length :
    {A : Type 0} (xs : List A) (n : ℕ) (x : A) → n < length xs → length (with_at xs n x) ≡ length xs
set_length xs n x l = ap length (set_is xs n x l) ∙ length-set xs n x

pub set_there :
    {A : Type 0} (xs : List A) (n : ℕ) (x d : A) → n < length xs
    → slice_index_or (with_at xs n x) n d ≡ x
set_there xs n x d l = ap (λ ys. slice_index_or ys n d) (set_is xs n x l) ∙ get_or-set_same xs n x d l

pub set_other :
    {A : Type 0} (xs : List A) (n j : ℕ) (x d : A) → n < length xs → j ≢ n
    → slice_index_or (with_at xs n x) j d ≡ slice_index_or xs j d
set_other xs n j x d l ne = ap (λ ys. slice_index_or ys j d) (set_is xs n x l) ∙ get_or-set_other xs n j x d ne

pub below_or : (j n : ℕ) → j < suc n → j ≢ n → j < n
below_or j n m ne = less (nat_lt j n) refl
  where
    less : (b : Bool) → nat_lt j n ≡ b → j < n
    less true e = grind (arith, nat_tests, e)
    less false e = absurd (ne (grind (arith, nat_tests, e, m)))
