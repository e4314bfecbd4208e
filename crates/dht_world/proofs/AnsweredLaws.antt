-- What calls answered, as the world keeps it: one place more, and a place that is set.
use Rattle.std.proofs.Common.{◌≡◌, ◌≢◌, ◌<◌, ◌≤◌, ◌-◌, ℕ, zero, suc, Bool, true, false, refl, sym, ap, ◌∙◌, inl, inr, arith, List, [], ◌∷◌, ◌++◌, length}
use Rattle.std.specs.Prelude.{Option, None, nat_eq, if◌then◌else◌, slice_get, slice_set}
use Rattle.std.specs.Option.{option_flatten}
use Rattle.dht_types.specs.Put.{put}
use Rattle.dht_types.proofs.PutLaws.{put_elim, exact_nat}
use Rattle.dht_types.specs.declared.identifiers.Gfid.{Gfid}
use Rattle.dht_world.specs.Answers.{answered_in}
use Rattle.dht_world.proofs.BrickLaws.{get_set_same, get_set_other, none_at}
use Rattle.dht_world.proofs.LineLaws.{nat_cases}

-- calls are numbered from 1
answered_zero : (xs : List (Option Gfid)) (k : ℕ) → k ≡ 0 → answered_in xs k ≡ None
answered_zero xs k e = ap (λ (b : Bool). if b then None else option_flatten (slice_get xs (k - 1))) ((exact_nat k 0).1 e)

answered_at :
    (xs : List (Option Gfid)) (k : ℕ) → 0 < k
    → answered_in xs k ≡ option_flatten (slice_get xs (k - 1))
answered_at xs k l = by (nat_eq k 0) refl
  where
    by : (v : Bool) → nat_eq k 0 ≡ v → (if v then None else option_flatten (slice_get xs (k - 1))) ≡ option_flatten (slice_get xs (k - 1))
    by true e = absurd (let z : k ≡ 0 = (exact_nat k 0).0 e in omega arith)
    by false e = refl

-- before the first call
pub none_answered : (λ (k : ℕ). None) ≡ answered_in []
none_answered = λ i. λ k. at k i
  where
    either : (v : Bool) (o : Option Gfid) → o ≡ (if v then o else o)
    either true o = refl
    either false o = refl

    at : (k : ℕ) → None ≡ answered_in [] k
    at k = either (nat_eq k 0) None

-- a call that has not answered changes nothing
pub answered_more : (xs : List (Option Gfid)) → answered_in xs ≡ answered_in (xs ++ None ∷ [])
answered_more xs = λ i. λ k. ap (λ (o : Option Gfid). if nat_eq k 0 then None else o) (more xs (k - 1)) i
  where
    more : (ys : List (Option Gfid)) (j : ℕ) → option_flatten (slice_get ys j) ≡ option_flatten (slice_get (ys ++ None ∷ []) j)
    more [] zero = refl
    more [] (suc j) = refl
    more (y ∷ ys) zero = refl
    more (y ∷ ys) (suc j) = more ys j

-- nor has one answered that was not accepted
pub answered_beyond : (xs : List (Option Gfid)) (k : ℕ) → length xs < k → answered_in xs k ≡ None
answered_beyond xs k l = answered_at xs k (omega arith) ∙ ap option_flatten (none_at xs (k - 1) (omega arith))

-- a call answered
pub answered_set :
    (xs : List (Option Gfid)) (k : ℕ) (o : Option Gfid) → 0 < k → k ≤ length xs
    → put nat_eq (answered_in xs) k o ≡ answered_in (slice_set xs (k - 1) o)
answered_set xs k o pos l = λ i. λ m. at m i
  where
    same : (m : ℕ) → m ≡ k → o ≡ answered_in (slice_set xs (k - 1) o) m
    same m e = sym (ap (answered_in (slice_set xs (k - 1) o)) e ∙ (answered_at (slice_set xs (k - 1) o) k pos ∙ ap option_flatten (get_set_same xs (k - 1) o (omega arith))))

    other : (m : ℕ) → m ≢ k → answered_in xs m ≡ answered_in (slice_set xs (k - 1) o) m
    other m ne = elim (nat_cases m 0) [
      | inl e ↦ answered_zero xs m e ∙ sym (answered_zero (slice_set xs (k - 1) o) m e)
      | inr some ↦ (let there : 0 < m = omega arith in let differ : m - 1 ≢ k - 1 = (λ e. ne (omega arith)) in
          answered_at xs m there ∙ (ap option_flatten (sym (get_set_other xs (k - 1) o (m - 1) differ)) ∙ sym (answered_at (slice_set xs (k - 1) o) m there)))
    ]

    at : (m : ℕ) → put nat_eq (answered_in xs) k o m ≡ answered_in (slice_set xs (k - 1) o) m
    at m = put_elim (λ (x : Option Gfid). x ≡ answered_in (slice_set xs (k - 1) o) m) nat_eq exact_nat (answered_in xs) k o m (same m) (other m)
