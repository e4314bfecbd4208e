-- Who has to be waited for, found among the holds of one key.
use Rattle.std.proofs.Common.{◌≡◌, ◌<◌, ℕ, Bool, true, false, cond, not, List, [], ◌∷◌, refl, sym, ap, subst, ◌∙◌, inl, inr, ◌⊎◌, arith}
use Rattle.std.specs.Prelude.{Option, Some, None, ◌&&◌, nat_eq, filter}
use Rattle.std.specs.List.{AllByRecursion, find}
use Rattle.std.specs.List.Sorted.{IsStrictlySortedBy}
use Rattle.std.specs.Map.{lookup, keys_of}
use Rattle.std.specs.Option.{option_map}
use Rattle.std.specs.BTreeMap.{BTreeMap, IsOrdered}
use Rattle.std.specs.BTreeMap.Range.{range_contains, entries_between}
use Rattle.std.specs.Ordering.{nat_cmp, is_le, is_lt, ordering_then}
use Rattle.std.specs.declared.cmp.Ordering.{Ordering}
use Rattle.std.specs.declared.cmp.Ordering.TheVariants.{Less, Equal, Greater}
use Rattle.std.specs.declared.ops.Bound.TheVariants.{Included}
use Rattle.std.proofs.lemmas.Bool.Decides.{nat_tests}
use Rattle.std.proofs.lemmas.List.Folds.{find_at}
use Rattle.std.proofs.lemmas.Map.Entries.{btree_map_get_place}
use Rattle.dht_types.specs.declared.identifiers.ClientNo.{ClientNo}
use Rattle.dht_types.specs.declared.locks.Key.{Key}
use Rattle.dht_types.specs.declared.locks.Mode.{Mode}
use Rattle.dht_brick.specs.LockRows.{excludes, hold_excludes, keeps_out, awaited}
use Rattle.dht_brick.proofs.LockLaws.{lowest-None, lowest-Some}
use Rattle.dht_locks.specs.Held.{is_of}
use Rattle.dht_locks.specs.declared.holds.Hold.{Hold}
use Rattle.dht_locks.proofs.HoldLemmas.{hold, key_cmp, hold_cmp, key_exact, hold_total, hold_cmp-client, is_of-both, both}
use Rattle.dht_locks.proofs.LockLemmas.{locks_of, lookup-tied}

-- ---- what is found first

module _ {X : Type 0} where
  find-filter : (p test : X → Bool) (xs : List X) → find test (filter p xs) ≡ find (λ x. p x && test x) xs
  find-filter p test [] = refl
  find-filter p test (x ∷ xs) = elim (p x) as (λ b. find test (cond b (x ∷ filter p xs) (filter p xs)) ≡ cond (b && test x) (Some x) (find (λ y. p y && test y) xs)) [
    | true ↦ ap (cond (test x) (Some x)) (find-filter p test xs)
    | false ↦ find-filter p test xs
  ]

  find-passes : (test : X → Bool) (xs : List X) (x : X) → find test xs ≡ Some x → test x ≡ true
  find-passes test [] x e = cc
  find-passes test (y ∷ ys) x e = elim (test y) as (λ b. test y ≡ b → cond b (Some y) (find test ys) ≡ Some x → test x ≡ true) [
    | true ↦ λ t k. let one : y ≡ x = cc in subst (λ z. test z ≡ true) one t
    | false ↦ λ t k. find-passes test ys x k
  ] refl e

module _ {K X : Type 0} where
  -- a key that a look-up finds
  lookup-among : (P : K → Type 0) (q : K → Bool) (es : List (K × X)) (v : X) → AllByRecursion P (keys_of es) → lookup q es ≡ Some v → (k : K) × (q k ≡ true) × P k
  lookup-among P q [] v all e = cc
  lookup-among P q (x ∷ xs) v all e = elim (q x.0) as (λ b. q x.0 ≡ b → cond b (Some x.1) (lookup q xs) ≡ Some v → (k : K) × (q k ≡ true) × P k) [
    | true ↦ λ t k. (x.0, t, all.0)
    | false ↦ λ t k. lookup-among P q xs v all.1 k
  ] refl e

  -- where none passes, that of a look-up does not
  find-none : (test : K × X → Bool) (q : K → Bool) (es : List (K × X)) (v : X) → find test es ≡ None → lookup q es ≡ Some v → (k : K) × (q k ≡ true) × (test (k, v) ≡ false)
  find-none test q [] v none e = cc
  find-none test q (x ∷ xs) v none e = elim (test x) as (λ b. test x ≡ b → cond b (Some x) (find test xs) ≡ None → (k : K) × (q k ≡ true) × (test (k, v) ≡ false)) [
    | true ↦ λ t k. cc
    | false ↦ λ t k. elim (q x.0) as (λ b. q x.0 ≡ b → cond b (Some x.1) (lookup q xs) ≡ Some v → (l : K) × (q l ≡ true) × (test (l, v) ≡ false)) [
      | true ↦ λ s l. let same : x.1 ≡ v = cc in (x.0, s, subst (λ w. test (x.0, w) ≡ false) same t)
      | false ↦ λ s l. find-none test q xs v k l
    ] refl e
  ] refl none

  -- that of a look-up does not pass, or stands at the first that does, or behind it
  find-first : (R : K → K → Ordering) (test : K × X → Bool) (q : K → Bool) (es : List (K × X)) (first : K × X) (v : X) → IsStrictlySortedBy R (keys_of es) → find test es ≡ Some first → lookup q es ≡ Some v
      → (k : K) × (q k ≡ true) × ((test (k, v) ≡ false) ⊎ ((k ≡ first.0) ⊎ (R first.0 k ≡ Less)))
  unfolding IsStrictlySortedBy
  find-first R test q [] first v s f e = cc
  find-first R test q (x ∷ xs) first v s f e = elim (test x) as (λ b. test x ≡ b → cond b (Some x) (find test xs) ≡ Some first → (k : K) × (q k ≡ true) × ((test (k, v) ≡ false) ⊎ ((k ≡ first.0) ⊎ (R first.0 k ≡ Less)))) [
    | true ↦ λ t k. let one : x ≡ first = cc in
        elim (q x.0) as (λ b. q x.0 ≡ b → cond b (Some x.1) (lookup q xs) ≡ Some v → (l : K) × (q l ≡ true) × ((test (l, v) ≡ false) ⊎ ((l ≡ first.0) ⊎ (R first.0 l ≡ Less)))) [
          | true ↦ λ p l. (x.0, p, inr (inl (ap (λ (y : K × X). y.0) one)))
          | false ↦ λ p l. let found = lookup-among (λ y. R x.0 y ≡ Less) q xs v s.0 l in (found.0, found.1, inr (inr (subst (λ (y : K × X). R y.0 found.0 ≡ Less) one found.2)))
        ] refl e
    | false ↦ λ t k.
        elim (q x.0) as (λ b. q x.0 ≡ b → cond b (Some x.1) (lookup q xs) ≡ Some v → (l : K) × (q l ≡ true) × ((test (l, v) ≡ false) ⊎ ((l ≡ first.0) ⊎ (R first.0 l ≡ Less)))) [
          | true ↦ λ p l. let same : x.1 ≡ v = cc in (x.0, p, inl (subst (λ w. test (x.0, w) ≡ false) same t))
          | false ↦ λ p l. find-first R test q xs first v s.1 k l
        ] refl e
  ] refl f

-- ---- the holds of one key

-- the hold stands between the first and the last that clients can have of a key
abbrev in_range : Key → Hold → Bool
in_range key h = range_contains hold_cmp (Included (hold key 0)) (Included (hold key 65535)) h

in_range-key : (key : Key) (h : Hold) → in_range key h ≡ true → (key ≡ h.key) × (h.client.0 < 65536)
in_range-key key h within = elim (key_cmp key h.key) as (λ o. key_cmp key h.key ≡ o → (is_le (ordering_then o (nat_cmp 0 h.client.0)) && not (is_lt (ordering_then o (nat_cmp 65535 h.client.0)))) ≡ true → (key ≡ h.key) × (h.client.0 < 65536)) [
  | Less ↦ λ t k. cc
  | Equal ↦ λ t k. (key_exact key h.key t, by_last h.client.0 (both (is_le (nat_cmp 0 h.client.0)) (not (is_lt (nat_cmp 65535 h.client.0))) k).1)
  | Greater ↦ λ t k. cc
] refl within
  where
    by_last : (c : ℕ) → not (is_lt (nat_cmp 65535 c)) ≡ true → c < 65536
    by_last c e = grind (arith, nat_tests, e)

in_range-client : (key : Key) (c : ℕ) → c < 65536 → in_range key (hold key c) ≡ true
in_range-client key c below =
    ap (λ o. is_le o && not (is_lt (hold_cmp (hold key 65535) (hold key c)))) (hold_cmp-client key 0 c)
    ∙ ap (λ o. is_le (nat_cmp 0 c) && not (is_lt o)) (hold_cmp-client key 65535 c)
    ∙ here c below
  where
    here : (n : ℕ) → n < 65536 → (is_le (nat_cmp 0 n) && not (is_lt (nat_cmp 65535 n))) ≡ true
    here n l = grind (arith, nat_tests, l)

and_false : (b : Bool) → (b && false) ≡ false
and_false true = refl
and_false false = refl

-- a client with this hold makes another one wait
abbrev pub makes_wait : ClientNo → Mode → Hold × Mode → Bool
makes_wait client asked e = not (nat_eq e.0.client.0 client.0) && excludes e.1 asked

module _ (m : BTreeMap Hold Mode) (sorted : IsOrdered hold_cmp m) (key : Key) (client : ClientNo) (asked : Mode) where
  abbrev passes : Hold × Mode → Bool
  passes e = makes_wait client asked e

  abbrev is_here : Hold × Mode → Bool
  is_here e = in_range key e.0 && passes e

  -- a hold of the key that does not pass there makes nobody wait
  no_pass : (other : ℕ) (h : Hold) (v : Mode) → other < 65536 → hold key other ≡ h → is_here (h, v) ≡ false → passes (hold key other, v) ≡ false
  no_pass other h v below one out =
      sym (ap (λ b. b && passes (hold key other, v)) (in_range-client key other below)) ∙ subst (λ k. is_here (k, v) ≡ false) (sym one) out

  one_hold : (other : ℕ) (h : Hold) → is_of key other h ≡ true → hold key other ≡ h
  one_hold other h e = let parts = is_of-both key other h e in λ i. hold (parts.0 i) (parts.1 i)

  awaited-none : find is_here m.entries ≡ None → awaited (locks_of m.entries) client key asked ≡ None
  awaited-none none = lowest-None (keeps_out (locks_of m.entries key) client.0 asked) 65536 (λ other below. by other below (lookup (is_of key other) m.entries) refl)
    where
      by : (other : ℕ) → other < 65536 → (o : Option Mode) → lookup (is_of key other) m.entries ≡ o → (not (nat_eq other client.0) && hold_excludes o asked) ≡ false
      by other below None e = and_false (not (nat_eq other client.0))
      by other below (Some v) e =
          let found = find-none is_here (is_of key other) m.entries v none e in
          no_pass other found.0 v below (one_hold other found.0 found.1) found.2

  module _ (first : Hold × Mode) (is : find is_here m.entries ≡ Some first) where
    within : (in_range key first.0 ≡ true) × (passes first ≡ true)
    within = both (in_range key first.0) (passes first) (find-passes is_here m.entries first is)

    place : (key ≡ first.0.key) × (first.0.client.0 < 65536)
    place = in_range-key key first.0 within.0

    there : locks_of m.entries key first.0.client.0 ≡ Some first.1
    there =
        ap (λ k. locks_of m.entries k first.0.client.0) place.0
        ∙ sym (lookup-tied m.entries first.0)
        ∙ btree_map_get_place hold_total m _ first.0 first.1 sorted (sym (find_at is_here m.entries) ∙ is)

    earlier : (other : ℕ) → other < first.0.client.0 → (o : Option Mode) → lookup (is_of key other) m.entries ≡ o → (not (nat_eq other client.0) && hold_excludes o asked) ≡ false
    earlier other less None e = and_false (not (nat_eq other client.0))
    earlier other less (Some v) e =
        let found = find-first hold_cmp is_here (is_of key other) m.entries first v sorted is e in
        let one = one_hold other found.0 found.1 in
        let small = place.1 in
        elim found.2 [
          | inl out ↦ no_pass other found.0 v (omega (arith, less, small)) one out
          | inr later ↦ elim later [
            | inl same ↦ absurd (let e : other ≡ first.0.client.0 = ap (λ (h : Hold). h.client.0) (one ∙ same) in omega (arith, less, e))
            | inr behind ↦ absurd (not_behind other less (sym (hold_cmp-client key first.0.client.0 other) ∙ (λ i. hold_cmp (hold (place.0 i) first.0.client.0) (one i)) ∙ behind))
          ]
        ]
      where
        not_behind : (n : ℕ) → n < first.0.client.0 → nat_cmp first.0.client.0 n ≡ Less → ⊥
        not_behind n l e = grind (arith, nat_tests, l, e)

    awaited-some : awaited (locks_of m.entries) client key asked ≡ Some first.0.client.0
    awaited-some = lowest-Some (keeps_out (locks_of m.entries key) client.0 asked) 65536 first.0.client.0 place.1 (record {
      passes = ap (λ o. not (nat_eq first.0.client.0 client.0) && hold_excludes o asked) there ∙ within.1;
      below = λ other less. earlier other less (lookup (is_of key other) m.entries) refl;
    })

  by_first : (o : Option (Hold × Mode)) → find is_here m.entries ≡ o → option_map (λ e. e.0.client.0) o ≡ awaited (locks_of m.entries) client key asked
  by_first None e = sym (awaited-none e)
  by_first (Some first) e = sym (awaited-some first e)

  -- who is found first among the holds of the key is the lowest that has to be waited for
  pub awaited-found : (a b : Hold) (r : List (Hold × Mode)) (o : Option (Hold × Mode)) → a ≡ hold key 0 → b ≡ hold key 65535 → r ≡ entries_between hold_cmp (Included a) (Included b) m.entries → o ≡ find (makes_wait client asked) r → option_map (λ e. e.0.client.0) o ≡ awaited (locks_of m.entries) client key asked
  awaited-found a b r o e f between found =
      by_first o (sym (find-filter (λ x. in_range key x.0) passes m.entries) ∙ sym (λ i. find passes (entries_between hold_cmp (Included (e i)) (Included (f i)) m.entries)) ∙ sym (ap (find passes) between) ∙ sym found)
