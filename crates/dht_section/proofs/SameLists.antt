-- A list that is in order already stays as it is when it is sorted;
-- so a section of one name locks its directory and then the name.
use Rattle.std.proofs.Common.{◌≡◌, ◌<◌, ℕ, refl, sym, ◌∙◌, ap, subst, arith, inl, inr, ◌⊎◌, List, [], ◌∷◌}
use Rattle.std.specs.Prelude.{zero, suc, length, slice_index_or, Contains}
use Rattle.std.specs.Cmp.{IsTotalOrder, tied_itself}
use Rattle.std.specs.List.Sorted.{IsStrictlySortedBy}
use Rattle.std.specs.Ordering.{ordering_reverse}
use Rattle.std.specs.declared.cmp.Ordering.{Ordering}
use Rattle.std.specs.declared.cmp.Ordering.TheVariants.{Less, Equal, Greater}
use Rattle.std.proofs.lemmas.Map.Keys.{Less-from_sorted, sorted_tail}
use Rattle.dht_types.specs.Gfid.{Entry}
use Rattle.dht_types.specs.declared.identifiers.Gfid.{Gfid}
use Rattle.dht_types.specs.declared.locks.Key.TheVariants.{Dir, Entry as Name}
use Rattle.dht_types.specs.declared.locks.Mode.{Mode}
use Rattle.dht_section.proofs.KeyOrder.{key_total, entry_total, rank_is}
use Rattle.dht_section.specs.Claims.{rank_cmp}
use Rattle.dht_section.specs.Want.{Scoped, IsSorting, IsScope, IsOfOne, entry_cmp}

-- what is in a list is its first element, or in the rest
pub in_cons :
    {A : Type 0} (x : A) (xs : List A) (z : A) → Contains (x ∷ xs) z → (x ≡ z) ⊎ Contains xs z
in_cons x xs z h = by h.0 h.1 h.2
  where
    by : (k : ℕ) → k < length (x ∷ xs) → slice_index_or (x ∷ xs) k z ≡ z → (x ≡ z) ⊎ Contains xs z
    by zero l e = inl e
    by (suc k) l e = inr (k, omega arith, e)

pub at_first : {A : Type 0} (x : A) (xs : List A) → Contains (x ∷ xs) x
at_first x xs = (0, omega arith, refl)

in_rest : {A : Type 0} (x : A) (xs : List A) (z : A) → Contains xs z → Contains (x ∷ xs) z
in_rest x xs z h = let l = h.1 in (suc h.0, omega arith, h.2)

not_both : (a b : Ordering) → a ≡ ordering_reverse b → a ≡ Less → b ≡ Less → ⊥
not_both a b e p q = let z : Less ≡ Greater = sym p ∙ (e ∙ ap ordering_reverse q) in cc

module _ {A : Type 0} {R : A → A → Ordering} (o : IsTotalOrder R) where
  -- the first of a list in order is below the others
  below_rest : (x : A) (xs : List A) (z : A) → IsStrictlySortedBy R (x ∷ xs) → Contains xs z → R x z ≡ Less
  below_rest x xs z s h = let l = h.1 in subst (λ (y : A). R x y ≡ Less) h.2 (Less-from_sorted R (x ∷ xs) 0 (suc h.0) z s (omega arith) (omega arith))

  same_first : (x y : A) (xs ys : List A) → IsStrictlySortedBy R (x ∷ xs) → IsStrictlySortedBy R (y ∷ ys) → (x ≡ y) ⊎ Contains xs y → (y ≡ x) ⊎ Contains ys x → x ≡ y
  same_first x y xs ys s t (inl e) k = e
  same_first x y xs ys s t (inr h) (inl e) = sym e
  same_first x y xs ys s t (inr h) (inr k) = absurd (not_both (R x y) (R y x) (o.antisymm x y) (below_rest x xs y s h) (below_rest y ys x t k))

  rest_only : (x : A) (xs ys : List A) (z : A) → IsStrictlySortedBy R (x ∷ xs) → Contains xs z → (x ≡ z) ⊎ Contains ys z → Contains ys z
  rest_only x xs ys z s h (inl e) = absurd (let q : Less ≡ Equal = sym (below_rest x xs z s h) ∙ (ap (R x) (sym e) ∙ tied_itself o x) in cc)
  rest_only x xs ys z s h (inr k) = k

  -- lists in order that have the same elements are the same
  pub same_sorted : (xs ys : List A) → IsStrictlySortedBy R xs → IsStrictlySortedBy R ys → ((z : A) → Contains xs z → Contains ys z) → ((z : A) → Contains ys z → Contains xs z) → xs ≡ ys
  same_sorted [] [] s t f g = refl
  same_sorted [] (y ∷ ys) s t f g = absurd (let h = g y (at_first y ys) in let l = h.1 in omega arith)
  same_sorted (x ∷ xs) [] s t f g = absurd (let h = f x (at_first x xs) in let l = h.1 in omega arith)
  same_sorted (x ∷ xs) (y ∷ ys) s t f g =
      let e = same_first x y xs ys s t (in_cons x xs y (g y (at_first y ys))) (in_cons y ys x (f x (at_first x xs))) in
      let rest = same_sorted xs ys (sorted_tail R x xs s) (sorted_tail R y ys t)
      (λ z h. rest_only x xs ys z s h (subst (λ (w : A). (w ≡ z) ⊎ Contains ys z) (sym e) (in_cons y ys z (f z (in_rest x xs z h)))))
      (λ z h. rest_only y ys xs z t h (subst (λ (w : A). (w ≡ z) ⊎ Contains xs z) e (in_cons x xs z (g z (in_rest y ys z h)))))
      in
      λ i. e i ∷ rest i

  pub sorting_is : (old new : List A) → IsStrictlySortedBy R old → IsSorting R old new → new ≡ old
  sorting_is old new s h = sym (same_sorted old new s h.sorted h.kept h.none_added)

rank_total : IsTotalOrder rank_cmp
rank_total = subst (λ R. IsTotalOrder R) rank_is key_total

both_sorted : (g : Gfid) (n : List ℕ) → IsStrictlySortedBy rank_cmp (Dir g ∷ Name g n ∷ [])
unfolding IsStrictlySortedBy
both_sorted g n = ((refl, tt), (tt, tt))

one_sorted : (e : Entry) → IsStrictlySortedBy entry_cmp (e ∷ [])
unfolding IsStrictlySortedBy
one_sorted e = (tt, tt)

pub one_name :
    (bricks : ℕ) (g : Gfid) (mode : Mode) (n : List ℕ) (w : Scoped)
    → IsScope bricks (record { dirs = (g, mode) ∷ []; names = (g, n) ∷ [] }) w
    → IsOfOne bricks g mode n w
one_name bricks g mode n w h = record {
  count = h.count;
  modes = h.modes;
  locks = sorting_is rank_total (Dir g ∷ Name g n ∷ []) w.keys (both_sorted g n) h.locks;
  looks = sorting_is entry_total ((g, n) ∷ []) w.names (one_sorted (g, n)) h.looks;
}
