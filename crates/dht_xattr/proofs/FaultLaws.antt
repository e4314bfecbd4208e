-- A layout has a fault exactly where one shows at the ends of its ranges.
use Rattle.std.proofs.Common.{◌≡◌, ℕ, ◌+◌, ◌<◌, ◌≤◌, ◌^◌, ◌==◌, Bool, true, false, nat_lt, nat_le, List, length, get_or, suc, zero, ◌↔◌, true≢false, refl, sym, ap, ◌∙◌, arith, ⊎_elim}
use Rattle.std.specs.Prelude.{Option, Some, None}
use Rattle.std.specs.List.{list_any}
use Rattle.std.proofs.lemmas.Bool.{cases_lt, and_parts, and_from, or_cases, or_parts, leb-true, le-leb, ltb-true, lt-ltb, eqb-true, eq-eqb, eqb-false, true_from_ne_false}
use Rattle.std.proofs.lemmas.List.Folds.{list_any_at, Any-from_list_any}
use Rattle.dht_xattr.specs.declared.range.Range.{Range}
use Rattle.dht_xattr.specs.Range.{contains}
use Rattle.dht_xattr.specs.Layout.{HasHole, HasOverlap, covers}
use Rattle.dht_xattr.specs.Faults.{is_open_behind, is_shared_at_first, has_hole, has_overlap}
use Rattle.dht_xattr.proofs.LayoutLaws.{counted, counted_two, count_some, count_two}

some_at :
    (ranges : List (Option Range)) (test : Option Range → Bool) (k : ℕ) (o : Option Range)
    → k < length ranges → get_or ranges k None ≡ o → test o ≡ true → list_any test ranges ≡ true
some_at ranges test k o within at pass = list_any_at test ranges k None within (ap test at ∙ pass)

-- the end of a range that contains a hash
contains_parts :
    (r : Range) (hash : ℕ) → contains (Some r) hash ≡ true → (r.first ≤ hash) × (hash ≤ r.last)
contains_parts r hash t =
    let parts = and_parts (nat_le r.first hash) (nat_le hash r.last) t in (leb-true _ _ parts.0, leb-true _ _ parts.1)

contains_from :
    (r : Range) (hash : ℕ) → r.first ≤ hash → hash ≤ r.last → contains (Some r) hash ≡ true
contains_from r hash low high = and_from (nat_le r.first hash) (nat_le hash r.last) (le-leb _ _ low) (le-leb _ _ high)

open_hole :
    (ranges : List (Option Range)) (o : Option Range) → is_open_behind ranges o ≡ true
    → HasHole ranges
open_hole ranges None t = absurd (true≢false (sym t))
open_hole ranges (Some r) t =
    let parts = and_parts (nat_lt r.last 4294967295) (covers ranges (r.last + 1) == 0) t in
    let below = ltb-true r.last 4294967295 parts.0 in
    (r.last + 1, omega arith, eqb-true _ _ parts.1)

-- a hash behind one that is in some range
covered_next :
    (ranges : List (Option Range)) (h k : ℕ) (o : Option Range) → suc h < 2 ^ 32
    → list_any (is_open_behind ranges) ranges ≡ false → k < length ranges → get_or ranges k None ≡ o
    → contains o h ≡ true → 0 < covers ranges (suc h)
covered_next ranges h k None below closed within at t = absurd (true≢false (sym t))
covered_next ranges h k (Some r) below closed within at t =
    let (low, high) = contains_parts r h t in
    ⊎_elim
    (λ inner. count_some (λ range. contains range (suc h)) ranges k None within (ap (λ (o : Option Range). contains o (suc h)) at ∙ contains_from r (suc h) (omega arith) (omega arith)))
    (λ end. ⊎_elim
    (λ empty.
    let none : covers ranges (r.last + 1) ≡ 0 = let next : suc h ≡ r.last + 1 = omega arith in ap (covers ranges) (sym next) ∙ zero_of (covers ranges (suc h)) empty in
    let open_end : is_open_behind ranges (Some r) ≡ true = and_from (nat_lt r.last 4294967295) (covers ranges (r.last + 1) == 0) (lt-ltb _ _ (omega arith)) (eq-eqb _ _ none) in
    absurd (true≢false (sym (some_at ranges (is_open_behind ranges) k (Some r) within at open_end) ∙ closed)))
    (λ some. some)
    (cases_lt (covers ranges (suc h)) 1))
    (cases_lt h r.last)
  where
    zero_of : (n : ℕ) → n < 1 → n ≡ 0
    zero_of n h = omega arith

covered :
    (ranges : List (Option Range)) (h : ℕ) → h < 2 ^ 32 → (covers ranges 0 == 0) ≡ false
    → list_any (is_open_behind ranges) ranges ≡ false → 0 < covers ranges h
covered ranges zero below first closed = let some = eqb-false (covers ranges 0) 0 first in omega arith
covered ranges (suc h) below first closed =
    let (k, within, at) = counted (λ range. contains range h) ranges (covered ranges h (omega arith) first closed) in
    covered_next ranges h k (get_or ranges k None) below closed within refl (at None)

-- a layout has a hole exactly where the test says so
pub has_hole_is : (ranges : List (Option Range)) → (has_hole ranges ≡ true) ↔ HasHole ranges
has_hole_is ranges = (
  λ t. ⊎_elim
      (λ first. (0, omega arith, eqb-true _ _ first))
      (λ behind. let (k, o, within, at, pass) = Any-from_list_any (is_open_behind ranges) ranges behind in open_hole ranges o pass)
      (or_cases (covers ranges 0 == 0) (list_any (is_open_behind ranges) ranges) t),
  λ hole. true_from_ne_false (has_hole ranges) (λ none.
      let parts = or_parts (covers ranges 0 == 0) (list_any (is_open_behind ranges) ranges) none in
      let (h, below, empty) = hole in
      let some = covered ranges h below parts.0 parts.1 in
      absurd (omega arith)),
)

shared_overlap :
    (ranges : List (Option Range)) (o : Option Range) → is_shared_at_first ranges o ≡ true
    → HasOverlap ranges
shared_overlap ranges None t = absurd (true≢false (sym t))
shared_overlap ranges (Some r) t =
    let parts = and_parts (nat_lt r.first 4294967296) (nat_le 2 (covers ranges r.first)) t in
    (r.first, ltb-true _ _ parts.0, leb-true _ _ parts.1)

-- of two ranges that share a hash the one that begins later begins in both
first_shared :
    (ranges : List (Option Range)) (h i j : ℕ) (o p : Option Range) → h < 2 ^ 32 → i < j
    → j < length ranges → get_or ranges i None ≡ o → get_or ranges j None ≡ p
    → contains o h ≡ true → contains p h ≡ true → has_overlap ranges ≡ true
first_shared ranges h i j None p below before within at_i at_j s t = absurd (true≢false (sym s))
first_shared ranges h i j (Some q) None below before within at_i at_j s t = absurd (true≢false (sym t))
first_shared ranges h i j (Some q) (Some r) below before within at_i at_j s t =
    let (low_q, high_q) = contains_parts q h s in
    let (low_r, high_r) = contains_parts r h t in
    let shared = λ (m : ℕ) (in_q : contains (Some q) m ≡ true) (in_r : contains (Some r) m ≡ true).
    count_two (λ range. contains range m) ranges i j None before within (ap (λ (o : Option Range). contains o m) at_i ∙ in_q) (ap (λ (o : Option Range). contains o m) at_j ∙ in_r) in
    ⊎_elim
    (λ earlier. let two = shared r.first (contains_from q r.first (omega arith) (omega arith)) (contains_from r r.first (omega arith) (omega arith)) in
    some_at ranges (is_shared_at_first ranges) j (Some r) within at_j (and_from (nat_lt r.first 4294967296) (nat_le 2 (covers ranges r.first)) (lt-ltb _ _ (omega arith)) (le-leb _ _ two)))
    (λ later. let two = shared q.first (contains_from q q.first (omega arith) (omega arith)) (contains_from r q.first (omega arith) (omega arith)) in
    some_at ranges (is_shared_at_first ranges) i (Some q) (omega arith) at_i (and_from (nat_lt q.first 4294967296) (nat_le 2 (covers ranges q.first)) (lt-ltb _ _ (omega arith)) (le-leb _ _ two)))
    (cases_lt q.first r.first)

-- a layout has an overlap exactly where the test says so
pub has_overlap_is :
    (ranges : List (Option Range)) → (has_overlap ranges ≡ true) ↔ HasOverlap ranges
has_overlap_is ranges = (
  λ t. let (k, o, within, at, pass) = Any-from_list_any (is_shared_at_first ranges) ranges t in shared_overlap ranges o pass,
  λ (h, below, two).
      let (i, (j, before, within, at_i, at_j)) = counted_two (λ range. contains range h) ranges two in
      first_shared ranges h i j (get_or ranges i None) (get_or ranges j None) below before within refl refl (at_i None) (at_j None),
)
