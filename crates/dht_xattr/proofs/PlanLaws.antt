-- The plan of a directory has each hash in exactly one range.
use Rattle.std.proofs.Common.{◌≡◌, ℕ, zero, suc, ◌+◌, ◌*◌, ◌^◌, ◌<◌, ◌≤◌, ◌==◌, true, true≢false, nat_le, List, [], ◌∷◌, length, get_or, take, refl, sym, ap, subst, ◌∙◌, arith, ⊎_elim, All}
use Rattle.std.specs.Prelude.{Option, Some, None, IfSome, sum, sum_by, position, slice_index, slice_get}
use Rattle.std.specs.List.{position_or_len}
use Rattle.std.proofs.Math.Nat.{mul-div-le, mul-le-mul_left, le_of_mul-le-mul_left}
use Rattle.std.proofs.lemmas.Bool.{cases_lt, cases_Bool, and_parts, and_from, leb-true, le-leb, eqb-true, eqb-false, eq-eqb, cond-true, cond-false, cond_both}
use Rattle.std.proofs.lemmas.Option.{slice_get-get_or}
use Rattle.std.proofs.lemmas.List.{take-take}
use Rattle.std.proofs.lemmas.List.Sums.{sum_by-cons, sum_by_more, sum_by_more_le, sum_by-take-le}
use Rattle.std.proofs.lemmas.List.Quantifiers.{position-Some}
use Rattle.dht_types.specs.declared.identifiers.Gfid.{Gfid}
use Rattle.dht_xattr.specs.declared.range.Range.{Range}
use Rattle.std.specs.Option.{option_and_then}
use Rattle.dht_xattr.specs.Range.{contains, decoded}
use Rattle.dht_xattr.specs.Layout.{holder, covers, HasHole, HasOverlap}
use Rattle.dht_xattr.proofs.LayoutLaws.{count_one, first_place, holder_some}
use Rattle.dht_xattr.proofs.OrderLaws.{AreApart, order_apart, order_within, order_weighs, order_some, order_heavy, order_sum}
use Rattle.dht_types.specs.Volume.{HasWeight}
use Rattle.dht_xattr.proofs.RangeLaws.{decoded_encoded}
use Rattle.dht_xattr.specs.Plan.{IsPlanned, value_of, order, share, start, rest_from, run_of, range_in_turn, dealt_range, ranges_from, planned}

length_ranges : (ws os : List ℕ) (b n : ℕ) → length (ranges_from ws os b n) ≡ n
length_ranges ws os b zero = refl
length_ranges ws os b (suc n) = let rest = length_ranges ws os (suc b) n in omega arith

range_in :
    (ws os : List ℕ) (b n k : ℕ) (d : Option Range) → k < n
    → get_or (ranges_from ws os b n) k d ≡ dealt_range ws os (position (λ c. c == (b + k)) os)
range_in ws os b zero k d h = absurd (omega arith)
range_in ws os b (suc n) zero d h =
    let place : b ≡ b + 0 = omega arith in ap (λ (m : ℕ). dealt_range ws os (position (λ c. c == m) os)) place
range_in ws os b (suc n) (suc k) d h =
    let place : suc b + k ≡ b + suc k = omega arith in
    range_in ws os (suc b) n k d (omega arith) ∙ ap (λ (m : ℕ). dealt_range ws os (position (λ c. c == m) os)) place

-- the counts of bricks are within their part of all hashes
one_fits : (w m s x a b : ℕ) → w * s ≤ m * x → w * a ≤ m * b → w * (s + a) ≤ m * (x + b)
one_fits w m s x a b one rest = omega arith

shares_fit :
    (ws xs : List ℕ) → sum ws * sum_by (share ws) xs ≤ 4294967295 * sum_by (slice_index ws) xs
shares_fit ws [] = omega arith
shares_fit ws (x ∷ xs) =
    rw (sum_by-cons (share ws) x xs, sum_by-cons (slice_index ws) x xs)
    (one_fits (sum ws) 4294967295 (share ws x) (slice_index ws x) (sum_by (share ws) xs) (sum_by (slice_index ws) xs)
    (mul-div-le (4294967295 * slice_index ws x) (sum ws)) (shares_fit ws xs))

pub sum_positive : (ws : List ℕ) → HasWeight ws → 0 < sum ws
sum_positive ws (k, w, within, at, positive) = let part = sum_by_more_le (λ x. x) ws k w within in omega arith

-- each place starts at a hash
pub start_below :
    (ws : List ℕ) (dir : Gfid) (p : ℕ) → HasWeight ws → start ws (order ws dir) p ≤ 4294967295
start_below ws dir p heavy =
    let some = sum_positive ws heavy in
    let part = shares_fit ws (take p (order ws dir)) in
    let taken = sum_by-take-le (slice_index ws) (order ws dir) p in
    let whole = order_sum ws dir in
    let most : 4294967295 * sum_by (slice_index ws) (take p (order ws dir)) ≤ 4294967295 * sum ws = mul-le-mul_left 4294967295 (omega arith) in
    le_of_mul-le-mul_left {k = sum ws} (omega arith) some

pub start_more :
    (ws os : List ℕ) (p : ℕ) → p < length os
    → start ws os (p + 1) ≡ start ws os p + share ws (slice_index os p)
start_more ws os p h = sum_by_more (share ws) os p 0 h

start_rising : (ws os : List ℕ) (p q : ℕ) → p ≤ q → start ws os p ≤ start ws os q
start_rising ws os p q h =
    let taken = sum_by-take-le (share ws) (take q os) p in
    let same : sum_by (share ws) (take p (take q os)) ≡ start ws os p = ap (sum_by (share ws)) (take-take p q os h) in
    omega arith

-- which hashes are in a run
run_has : (first n h : ℕ) → contains (run_of first n) h ≡ true → (first ≤ h) × (h < first + n)
run_has first zero h t = absurd (true≢false (sym t))
run_has first (suc m) h t =
    let parts = and_parts (nat_le first h) (nat_le h (first + m)) t in
    let low = leb-true first h parts.0 in
    let high = leb-true h (first + m) parts.1 in
    (low, omega arith)

has_run : (first n h : ℕ) → first ≤ h → h < first + n → contains (run_of first n) h ≡ true
has_run first zero h low high = absurd (omega arith)
has_run first (suc m) h low high =
    and_from (nat_le first h) (nat_le h (first + m)) (le-leb first h low) (le-leb h (first + m) (omega arith))

-- which hashes are at a place
pub record IsAt (ws os : List ℕ) (h p : ℕ) : Type 0 where
  pub place : p < length os
  pub from : start ws os p ≤ h
  pub to : p + 1 < length os → h < start ws os (p + 1)

place_has :
    (ws os : List ℕ) (h p : ℕ) → p < length os → contains (range_in_turn ws os p) h ≡ true
    → IsAt ws os h p
place_has ws os h p place t = ⊎_elim
    (λ last.
    let whole = ap (λ (o : Option Range). contains o h) (cond-true (p + 1 == length os) (rest_from (start ws os p)) (run_of (start ws os p) (share ws (slice_index os p))) last) in
    let parts = and_parts (nat_le (start ws os p) h) (nat_le h 4294967295) (sym whole ∙ t) in
    let end = eqb-true (p + 1) (length os) last in
    record { place = place; from = leb-true _ _ parts.0; to = λ more. absurd (omega arith) })
    (λ inner.
    let part = ap (λ (o : Option Range). contains o h) (cond-false (p + 1 == length os) (rest_from (start ws os p)) (run_of (start ws os p) (share ws (slice_index os p))) inner) in
    let (low, high) = run_has (start ws os p) (share ws (slice_index os p)) h (sym part ∙ t) in
    let next = start_more ws os p place in
    record { place = place; from = low; to = λ more. omega arith })
    (cases_Bool (p + 1 == length os))

has_place :
    (ws os : List ℕ) (h p : ℕ) → h < 2 ^ 32 → IsAt ws os h p
    → contains (range_in_turn ws os p) h ≡ true
has_place ws os h p below at =
    let place = at.place in
    let low = at.from in
    ⊎_elim
    (λ last.
    let whole = ap (λ (o : Option Range). contains o h) (cond-true (p + 1 == length os) (rest_from (start ws os p)) (run_of (start ws os p) (share ws (slice_index os p))) last) in
    whole ∙ and_from (nat_le (start ws os p) h) (nat_le h 4294967295) (le-leb _ _ low) (le-leb _ _ (omega arith)))
    (λ inner.
    let part = ap (λ (o : Option Range). contains o h) (cond-false (p + 1 == length os) (rest_from (start ws os p)) (run_of (start ws os p) (share ws (slice_index os p))) inner) in
    let next = start_more ws os p place in
    let open_end : p + 1 < length os = let apart = eqb-false (p + 1) (length os) inner in omega arith in
    let high = at.to open_end in
    part ∙ has_run (start ws os p) (share ws (slice_index os p)) h low (omega arith))
    (cases_Bool (p + 1 == length os))

-- a hash is at one place at most
at_one : (ws os : List ℕ) (h p q : ℕ) → IsAt ws os h p → IsAt ws os h q → p ≡ q
at_one ws os h p q at_p at_q =
    let p_place = at_p.place in
    let q_place = at_q.place in
    let p_from = at_p.from in
    let q_from = at_q.from in
    ⊎_elim
    (λ below. let rise = start_rising ws os (p + 1) q (omega arith) in let high = at_p.to (omega arith) in absurd (omega arith))
    (λ from. ⊎_elim
    (λ above. let rise = start_rising ws os (q + 1) p (omega arith) in let high = at_q.to (omega arith) in absurd (omega arith))
    (λ under. omega arith) (cases_lt q p))
    (cases_lt p q)

-- and at one at least
found_before :
    (ws os : List ℕ) (h k : ℕ) → k < length os → h < start ws os (k + 1) → (p : ℕ) × IsAt ws os h p
found_before ws os h zero inside high = (zero, record { place = inside; from = omega arith; to = λ more. high })
found_before ws os h (suc k) inside high = ⊎_elim
    (λ below. found_before ws os h k (omega arith) below)
    (λ from. let same : start ws os (suc k) ≡ start ws os (k + 1) = let place : suc k ≡ k + 1 = omega arith in ap (start ws os) place in
    (suc k, record { place = inside; from = omega arith; to = λ more. high }))
    (cases_lt h (start ws os (k + 1)))

found : (ws os : List ℕ) (h n : ℕ) → length os ≡ suc n → (p : ℕ) × IsAt ws os h p
found ws os h zero size = (zero, record { place = omega arith; from = omega arith; to = λ more. absurd (omega arith) })
found ws os h (suc n) size = ⊎_elim
    (λ below. let same : start ws os (suc n) ≡ start ws os (n + 1) = let place : suc n ≡ n + 1 = omega arith in ap (start ws os) place in
    found_before ws os h n (omega arith) (omega arith))
    (λ from. (suc n, record { place = omega arith; from = from; to = λ more. absurd (omega arith) }))
    (cases_lt h (start ws os (suc n)))

found_some : (ws os : List ℕ) (h : ℕ) (n : ℕ) → length os ≡ n → 0 < n → (p : ℕ) × IsAt ws os h p
found_some ws os h zero size some = absurd (omega arith)
found_some ws os h (suc n) size some = found ws os h n size

-- the place of an element of a list in which none comes twice
pub place_is :
    (os : List ℕ) (p : ℕ) → AreApart os → p < length os
    → position (λ c. c == slice_index os p) os ≡ Some p
place_is os p apart h =
    let test = λ (c : ℕ). c == slice_index os p in
    let (early, at) = first_place test os p 0 h (eq-eqb (slice_index os p) (slice_index os p) refl) in
    let (within, pass, before) = position-Some test os (position_or_len test os) 0 at in
    let same = apart (position_or_len test os) p 0 within h (eqb-true _ _ pass) in
    at ∙ ap Some same

-- a hash that is in the range of a brick is at the brick's place
brick_has :
    (ws os : List ℕ) (h b : ℕ) (o : Option ℕ) → position (λ c. c == b) os ≡ o
    → contains (dealt_range ws os o) h ≡ true → (p : ℕ) × (slice_index os p ≡ b) × IsAt ws os h p
brick_has ws os h b None at t = absurd (true≢false (sym t))
brick_has ws os h b (Some p) at t =
    let (within, pass, before) = position-Some (λ c. c == b) os p 0 at in
    (p, eqb-true _ _ pass, place_has ws os h p within t)

-- each brick has a range or none
pub planned_length : (ws : List ℕ) (dir : Gfid) → length (planned ws dir) ≡ length ws
unfolding planned
planned_length ws dir = length_ranges ws (order ws dir) 0 (length ws)

pub planned_at :
    (ws : List ℕ) (dir : Gfid) (b : ℕ) (d : Option Range) → b < length ws
    → get_or (planned ws dir) b d
    ≡ dealt_range ws (order ws dir) (position (λ c. c == b) (order ws dir))
unfolding planned
planned_at ws dir b d h =
    let same : 0 + b ≡ b = omega arith in
    range_in ws (order ws dir) 0 (length ws) b d h ∙ ap (λ (m : ℕ). dealt_range ws (order ws dir) (position (λ c. c == m) (order ws dir))) same

-- each hash is in exactly one range of the plan
pub planned_once :
    (ws : List ℕ) (dir : Gfid) (h : ℕ) → HasWeight ws → h < 2 ^ 32 → covers (planned ws dir) h ≡ 1
planned_once ws dir h heavy below =
    let os = order ws dir in
    let (p, at) = found_some ws os h (length os) refl (order_some ws dir heavy) in
    let place : p < length os = at.place in
    let b = slice_index os p in
    let size = planned_length ws dir in
    let inside : b < length ws = order_within ws dir p 0 place in
    let here : contains (get_or (planned ws dir) b None) h ≡ true =
    ap (λ (o : Option Range). contains o h) (planned_at ws dir b None inside ∙ ap (dealt_range ws os) (place_is os p (order_apart ws dir) place))
    ∙ has_place ws os h p below at in
    count_one (λ range. contains range h) (planned ws dir) b None (omega arith) here
    (λ k e hk pass.
    let fits : k < length ws = omega arith in
    let (q, same, at_q) = brick_has ws os h k (position (λ c. c == k) os) refl (sym (ap (λ (o : Option Range). contains o h) (planned_at ws dir k e fits)) ∙ pass) in
    sym same ∙ ap (slice_index os) (at_one ws os h q p at_q at))

-- each hash has a holder
pub planned_holder :
    (ws : List ℕ) (dir : Gfid) (h : ℕ) → HasWeight ws → h < 2 ^ 32
    → (b : ℕ) × (b < length ws) × (holder (planned ws dir) h ≡ Some b)
planned_holder ws dir h heavy below =
    let once = planned_once ws dir h heavy below in
    let size = planned_length ws dir in
    let (b, inside, held) = holder_some (planned ws dir) h (omega arith) in
    (b, omega arith, held)

run_valid : (first n : ℕ) → first + n ≤ 2 ^ 32 → IfSome (run_of first n) IsPlanned
run_valid first zero h = tt
run_valid first (suc m) h = record { commit = refl; range = record { committed = omega arith; ordered = omega arith; below = omega arith } }

place_valid :
    (ws : List ℕ) (dir : Gfid) (p : ℕ) → HasWeight ws → p < length (order ws dir)
    → IfSome (range_in_turn ws (order ws dir) p) IsPlanned
place_valid ws dir p heavy place =
    let os = order ws dir in
    let first = start ws os p in
    let count = share ws (slice_index os p) in
    let here = start_below ws dir p heavy in
    let next = start_below ws dir (p + 1) heavy in
    let more = start_more ws os p place in
    cond_both (p + 1 == length os) (rest_from first) (run_of first count) (λ (o : Option Range). IfSome o IsPlanned)
    (λ last. record { commit = refl; range = record { committed = omega arith; ordered = here; below = omega arith } })
    (λ inner. run_valid first count (omega arith))

range_valid :
    (ws : List ℕ) (dir : Gfid) (b : ℕ) (o : Option ℕ) → HasWeight ws
    → position (λ c. c == b) (order ws dir) ≡ o → IfSome (dealt_range ws (order ws dir) o) IsPlanned
range_valid ws dir b None heavy at = tt
range_valid ws dir b (Some p) heavy at = place_valid ws dir p heavy (position-Some (λ c. c == b) (order ws dir) p 0 at).0

-- the ranges of the plan are not empty, and no run has settled them
pub planned_valid :
    (ws : List ℕ) (dir : Gfid) → HasWeight ws
    → All (λ range. IfSome range IsPlanned) (planned ws dir)
planned_valid ws dir heavy k d h =
    let size = planned_length ws dir in
    subst (λ (o : Option Range). IfSome o IsPlanned) (sym (planned_at ws dir k d (omega arith)))
    (range_valid ws dir k (position (λ c. c == k) (order ws dir)) heavy refl)

light_none :
    (ws : List ℕ) (dir : Gfid) (b : ℕ) (o : Option ℕ) → slice_index ws b ≡ 0
    → position (λ c. c == b) (order ws dir) ≡ o → dealt_range ws (order ws dir) o ≡ None
light_none ws dir b None weightless at = refl
light_none ws dir b (Some p) weightless at =
    let (within, pass, before) = position-Some (λ c. c == b) (order ws dir) p 0 at in
    let same : slice_index (order ws dir) p ≡ b = eqb-true _ _ pass in
    let weighs : 0 < slice_index ws b = subst (λ (c : ℕ). 0 < slice_index ws c) same (order_weighs ws dir p 0 within) in
    absurd (omega arith)

-- a brick of weight 0 has no range
pub planned_light :
    (ws : List ℕ) (dir : Gfid) (b : ℕ) → b < length ws → slice_index ws b ≡ 0
    → slice_get (planned ws dir) b ≡ Some None
planned_light ws dir b inside weightless =
    let size = planned_length ws dir in
    slice_get-get_or (planned ws dir) b None (omega arith)
    ∙ ap Some (planned_at ws dir b None inside ∙ light_none ws dir b (position (λ c. c == b) (order ws dir)) weightless refl)

range_read : (o : Option Range) → IfSome o IsPlanned → option_and_then decoded (value_of o) ≡ o
range_read None good = refl
range_read (Some r) good = decoded_encoded r good.range.committed good.range.ordered good.range.below

dealt_read :
    (ws : List ℕ) (dir : Gfid) (b : ℕ) (o : Option ℕ) → position (λ c. c == b) (order ws dir) ≡ o
    → option_and_then decoded (value_of (dealt_range ws (order ws dir) o)) ≡ dealt_range ws (order ws dir) o
dealt_read ws dir b None at = refl
dealt_read ws dir b (Some p) at =
    let place = (position-Some (λ c. c == b) (order ws dir) p 0 at).0 in
    range_read (range_in_turn ws (order ws dir) p) (place_valid ws dir p (order_heavy ws dir p place) place)

-- the attribute of a range of the plan is read as that range
pub planned_read :
    (ws : List ℕ) (dir : Gfid)
    → All (λ range. option_and_then decoded (value_of range) ≡ range) (planned ws dir)
planned_read ws dir k d h =
    let size = planned_length ws dir in
    subst (λ (o : Option Range). option_and_then decoded (value_of o) ≡ o) (sym (planned_at ws dir k d (omega arith)))
    (dealt_read ws dir k (position (λ c. c == k) (order ws dir)) refl)

-- no hash is in no range of the plan, and none in two
pub planned_no_hole : (ws : List ℕ) (dir : Gfid) → HasWeight ws → ¬ HasHole (planned ws dir)
planned_no_hole ws dir heavy (h, below, none) = let once = planned_once ws dir h heavy below in omega arith

pub planned_no_overlap : (ws : List ℕ) (dir : Gfid) → HasWeight ws → ¬ HasOverlap (planned ws dir)
planned_no_overlap ws dir heavy (h, below, two) = let once = planned_once ws dir h heavy below in omega arith
