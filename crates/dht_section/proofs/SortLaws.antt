-- What a list is that was sorted, and from which repeats were dropped; and the order of a scope.
use Rattle.std.proofs.Common.{◌≡◌, ◌<◌, ℕ, Bool, true, false, refl, sym, ◌∙◌, ap, subst, arith, List, []}
use Rattle.std.specs.Prelude.{length, map, Contains, All}
use Rattle.std.specs.List.{dedup}
use Rattle.std.specs.List.Sorted.{IsPermutation, IsSorted}
use Rattle.std.specs.Cmp.{IsTotalOrder, eq_by_cmp_equiv}
use Rattle.std.specs.Ordering.{is_lt, is_eq, eq_by_cmp}
use Rattle.std.specs.declared.cmp.Ordering.{Ordering}
use Rattle.std.specs.declared.cmp.Ordering.TheVariants.{Less, Equal, Greater}
use Rattle.std.proofs.lemmas.List.{get_or_default, get_or-map, length-map}
use Rattle.std.proofs.lemmas.List.Elements.{Contains-get_or, Contains-append_left, Contains-append_right, All-contains, All-append, All-map, All-from_get_or}
use Rattle.std.proofs.lemmas.List.Kept.{Contains-dedup, Contains-from_dedup, IsStrictlySortedBy-dedup}
use Rattle.std.proofs.lemmas.List.Sorted.{Contains-permutation, IsPermutation-sym}
use Rattle.std.proofs.lemmas.Map.Keys.{Less-from_sorted}
use Rattle.dht_types.specs.Gfid.{Entry}
use Rattle.dht_types.specs.declared.identifiers.Gfid.{Gfid}
use Rattle.dht_types.specs.declared.locks.Key.{Key}
use Rattle.dht_types.specs.declared.locks.Key.TheVariants.{Rebalance}
use Rattle.dht_types.specs.declared.locks.Mode.{Mode}
use Rattle.dht_types.specs.declared.locks.Mode.TheVariants.{Shared}
use Rattle.dht_section.proofs.KeyOrder.{key_cmp, rank_is}
use Rattle.dht_section.specs.Claims.{rank_cmp}
use Rattle.dht_section.specs.Want.{Wanted, Scoped, IsSorting, IsScope, IsWhole, IsOrdered, IsGuard, HasKey, key_at, name_at, dir_key, name_key, keys_of}

tied : (o : Ordering) → is_eq o ≡ true → o ≡ Equal
tied Less e = absurd (let z : false ≡ true = e in cc)
tied Equal e = refl
tied Greater e = absurd (let z : false ≡ true = e in cc)

-- a list that was sorted, and from which repeats were dropped
pub sorting :
    {A : Type 0} {R : A → A → Ordering} (o : IsTotalOrder R)
    (exact : (x y : A) → R x y ≡ Equal → x ≡ y) {E : A → A → Bool}
    (ties : (x y : A) → E x y ≡ eq_by_cmp R x y) (old sorted new : List A)
    → IsPermutation old sorted → IsSorted R sorted → new ≡ dedup E sorted → IsSorting R old new
sorting {A} {R} o exact {E} ties old sorted new p up e = subst (IsSorting R old) (sym (e ∙ ap (λ (f : A → A → Bool). dedup f sorted) same)) (record {
  sorted = IsStrictlySortedBy-dedup o (λ x y. refl) sorted up;
  kept = λ x h. Contains-dedup (eq_by_cmp_equiv o) (λ a b q. exact a b (tied (R a b) q)) sorted x (Contains-permutation old sorted x p h);
  none_added = λ x h. Contains-permutation sorted old x (IsPermutation-sym old sorted p) (Contains-from_dedup (eq_by_cmp R) sorted x h);
})
  where
    same : E ≡ eq_by_cmp R
    same = λ i x y. ties x y i

pub keys_ranked : (old new : List Key) → IsSorting key_cmp old new → IsSorting rank_cmp old new
keys_ranked old new h = subst (λ R. IsSorting R old new) rank_is h

-- ---- the order of a scope

contains_map :
    {A B : Type 0} (f : A → B) (xs : List A) (x : A) → Contains xs x → Contains (map f xs) (f x)
contains_map f xs x h = (h.0, subst (λ (n : ℕ). h.0 < n) (sym (length-map xs f)) h.1, get_or-map f xs h.0 x (f x) h.1 ∙ ap f h.2)

-- a key of a list stands at some place
key_placed : (w : Scoped) (key : Key) → Contains w.keys key → HasKey w key
key_placed w key h = (h.0, h.1, get_or_default w.keys h.0 Rebalance key h.1 ∙ h.2)

less_is : (o : Ordering) → o ≡ Less → is_lt o ≡ true
less_is o e = ap is_lt e

any_dir : Gfid × Mode
any_dir = (record { 0 = 0 }, Shared)

any_name : Entry
any_name = (record { 0 = 0 }, [])

all_guards : (dirs : List (Gfid × Mode)) (names : List Entry) → All IsGuard (keys_of dirs names)
all_guards dirs names = All-append IsGuard (map dir_key dirs) (map name_key names)
    (All-map IsGuard dir_key dirs (All-from_get_or (λ d. IsGuard (dir_key d)) dirs any_dir (λ i l. tt)))
    (All-map IsGuard name_key names (All-from_get_or (λ e. IsGuard (name_key e)) names any_name (λ i l. tt)))

pub scope_ordered :
    (bricks : ℕ) (want : Wanted) (w : Scoped) → IsScope bricks want w → IsWhole want → IsOrdered w
scope_ordered bricks want w s h = record {
  some = (let k = s.locks.kept _ (Contains-append_left (map dir_key want.dirs) (map name_key want.names) _ (contains_map dir_key want.dirs _ (Contains-get_or want.dirs 0 any_dir h.some))) in let l = k.1 in omega arith);
  kinds = λ i l. All-contains IsGuard (keys_of want.dirs want.names) (key_at w i) (all_guards want.dirs want.names) (s.locks.none_added (key_at w i) (Contains-get_or w.keys i Rebalance l));
  above = λ i j below l. less_is _ (Less-from_sorted rank_cmp w.keys i j Rebalance s.locks.sorted below l);
  named = λ n l. key_placed w _ (s.locks.kept _ (Contains-append_right (map dir_key want.dirs) (map name_key want.names) _ (contains_map name_key want.names (name_at w n) (wanted n l))));
  housed = λ n l. key_placed w _ (s.locks.kept _ (Contains-append_left (map dir_key want.dirs) (map name_key want.names) _ (h.housed (name_at w n) (wanted n l))));
}
  where
    wanted : (n : ℕ) → n < length w.names → Contains want.names (name_at w n)
    wanted n l = s.looks.none_added (name_at w n) (Contains-get_or w.names n _ l)
