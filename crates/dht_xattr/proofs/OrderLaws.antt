-- The order in which hashes are dealt out has each brick of weight above 0 once.
use Rattle.std.proofs.Common.{◌≡◌, ℕ, zero, suc, ◌+◌, ◌-◌, ◌/◌, ◌%◌, ◌^◌, ◌<◌, ◌≤◌, Bool, true, false, if◌then◌else◌, nat_lt, List, [], ◌∷◌, length, get_or, take, drop, refl, sym, ap, subst, ◌∙◌, arith, ⊎_elim}
use Rattle.std.specs.Prelude.{sum, sum_by, slice_index}
use Rattle.std.proofs.Math.Nat.{mod-lt}
use Rattle.std.proofs.lemmas.Bool.{cases_lt}
use Rattle.std.proofs.lemmas.Bool.Decides.{nat_tests}
use Rattle.std.proofs.lemmas.List.{get_or_default, length-append, length-drop, length-take, get_or_append_left, get_or-append_right, get_or-drop, get_or-take}
use Rattle.std.proofs.lemmas.List.Sums.{sum_by-cons, sum_by-append, sum_by-take-drop}
use Rattle.dht_types.specs.declared.identifiers.Gfid.{Gfid}
use Rattle.dht_types.specs.Volume.{HasWeight}
use Rattle.dht_xattr.specs.Plan.{heavy_from, turn, rotated, order}

heavy_within :
    (b : ℕ) (ws : List ℕ) (k d : ℕ) → k < length (heavy_from b ws)
    → (b ≤ get_or (heavy_from b ws) k d) × (get_or (heavy_from b ws) k d < b + length ws)
heavy_within b [] k d h = absurd (omega arith)
heavy_within b (zero ∷ ws) k d h = let (low, high) = heavy_within (suc b) ws k d h in (omega arith, omega arith)
heavy_within b (suc w ∷ ws) zero d h = (omega arith, omega arith)
heavy_within b (suc w ∷ ws) (suc k) d h = let (low, high) = heavy_within (suc b) ws k d (omega arith) in (omega arith, omega arith)

heavy_weighs :
    (f : ℕ → ℕ) (b : ℕ) (ws : List ℕ) (k d : ℕ)
    → ((i : ℕ) → i < length ws → f (b + i) ≡ slice_index ws i) → k < length (heavy_from b ws)
    → 0 < f (get_or (heavy_from b ws) k d)
heavy_weighs f b [] k d same h = absurd (omega arith)
heavy_weighs f b (zero ∷ ws) k d same h =
    heavy_weighs f (suc b) ws k d (λ i l. let place : suc b + i ≡ b + suc i = omega arith in ap f place ∙ same (suc i) (omega arith)) h
heavy_weighs f b (suc w ∷ ws) zero d same h =
    let here : f b ≡ suc w = let place : b ≡ b + 0 = omega arith in ap f place ∙ same 0 (omega arith) in omega arith
heavy_weighs f b (suc w ∷ ws) (suc k) d same h =
    heavy_weighs f (suc b) ws k d (λ i l. let place : suc b + i ≡ b + suc i = omega arith in ap f place ∙ same (suc i) (omega arith)) (omega arith)

heavy_rising :
    (b : ℕ) (ws : List ℕ) (i j d : ℕ) → i < j → j < length (heavy_from b ws)
    → get_or (heavy_from b ws) i d < get_or (heavy_from b ws) j d
heavy_rising b [] i j d before h = absurd (omega arith)
heavy_rising b (zero ∷ ws) i j d before h = heavy_rising (suc b) ws i j d before h
heavy_rising b (suc w ∷ ws) i zero d before h = absurd (omega arith)
heavy_rising b (suc w ∷ ws) zero (suc j) d before h = let (low, high) = heavy_within (suc b) ws j d (omega arith) in omega arith
heavy_rising b (suc w ∷ ws) (suc i) (suc j) d before h = heavy_rising (suc b) ws i j d (omega arith) (omega arith)

heavy_some :
    (b : ℕ) (ws : List ℕ) (k d : ℕ) → k < length ws → 0 < get_or ws k d
    → 0 < length (heavy_from b ws)
heavy_some b [] k d h positive = absurd (omega arith)
heavy_some b (zero ∷ ws) zero d h positive = absurd (omega arith)
heavy_some b (zero ∷ ws) (suc k) d h positive = heavy_some (suc b) ws k d (omega arith) positive
heavy_some b (suc w ∷ ws) k d h positive = omega arith

-- all the weight is theirs
heavy_sum :
    (f : ℕ → ℕ) (b : ℕ) (ws : List ℕ) → ((k : ℕ) → k < length ws → f (b + k) ≡ slice_index ws k)
    → sum_by f (heavy_from b ws) ≡ sum ws
heavy_sum f b [] same = refl
heavy_sum f b (zero ∷ ws) same =
    let moved : (k : ℕ) → k < length ws → f (suc b + k) ≡ slice_index ws k =
    λ k h. let place : suc b + k ≡ b + suc k = omega arith in ap f place ∙ same (suc k) (omega arith) in
    let rest = heavy_sum f (suc b) ws moved in
    let right = sum_by-cons (λ x. x) zero ws in
    omega arith
heavy_sum f b (suc w ∷ ws) same =
    let moved : (k : ℕ) → k < length ws → f (suc b + k) ≡ slice_index ws k =
    λ k h. let place : suc b + k ≡ b + suc k = omega arith in ap f place ∙ same (suc k) (omega arith) in
    let here : f b ≡ suc w = let place : b ≡ b + 0 = omega arith in ap f place ∙ same 0 (omega arith) in
    let rest = heavy_sum f (suc b) ws moved in
    let left = sum_by-cons f b (heavy_from (suc b) ws) in
    let right = sum_by-cons (λ x. x) (suc w) ws in
    omega arith

pub heavy_positive : (ws : List ℕ) → HasWeight ws → 0 < length (heavy_from 0 ws)
heavy_positive ws (k, w, within, at, positive) = heavy_some 0 ws k w within (omega arith)

pub length-rotated :
    (n : ℕ) (xs : List ℕ) → (0 < length xs → n ≤ length xs) → length (rotated n xs) ≡ length xs
length-rotated n xs fits =
    let whole = length-append (drop n xs) (take n xs) in
    let back = length-drop n xs in
    let part = length-take n xs in
    ⊎_elim (λ some. let h = fits some in omega arith) (λ none. omega arith) (cases_lt 0 (length xs))

-- an element before the seam, and one behind it
rotated_before :
    (n : ℕ) (xs : List ℕ) (k d : ℕ) → n + k < length xs
    → get_or (rotated n xs) k d ≡ get_or xs (n + k) d
rotated_before n xs k d h =
    let back = length-drop n xs in
    get_or_append_left (drop n xs) (take n xs) d k (omega arith) ∙ get_or-drop n xs k d

rotated_behind :
    (n : ℕ) (xs : List ℕ) (k d : ℕ) → n ≤ length xs → length xs ≤ n + k → k < length xs
    → get_or (rotated n xs) k d ≡ get_or xs (k - (length xs - n)) d
rotated_behind n xs k d fits from h =
    get_or-append_right (drop n xs) (take n xs) (length xs - n) k d (length-drop n xs) (omega arith)
    ∙ get_or-take n xs (k - (length xs - n)) d (omega arith)

-- the place in a list of an element of the list that is turned
seam : ℕ → List ℕ → ℕ → ℕ
seam n xs k = if nat_lt (n + k) (length xs) then n + k else k - (length xs - n)

seam_is :
    (n : ℕ) (xs : List ℕ) (k d : ℕ) → n ≤ length xs → k < length xs
    → (seam n xs k < length xs) × (get_or (rotated n xs) k d ≡ get_or xs (seam n xs k) d)
unfolding seam
seam_is n xs k d fits h = go (nat_lt (n + k) (length xs)) refl where
  go : (t : Bool) → nat_lt (n + k) (length xs) ≡ t → ((if t then n + k else k - (length xs - n)) < length xs) × (get_or (rotated n xs) k d ≡ get_or xs (if t then n + k else k - (length xs - n)) d)
  go true e = let below : n + k < length xs = grind (arith, nat_tests, e) in (below, rotated_before n xs k d below)
  go false e = let from : length xs ≤ n + k = grind (arith, nat_tests, e) in (omega arith, rotated_behind n xs k d fits from h)

seam_apart :
    (n : ℕ) (xs : List ℕ) (i j : ℕ) → n ≤ length xs → i < length xs → j < length xs
    → seam n xs i ≡ seam n xs j → i ≡ j
unfolding seam
seam_apart n xs i j fits hi hj same = go (nat_lt (n + i) (length xs)) (nat_lt (n + j) (length xs)) refl refl same where
  go : (s t : Bool) → nat_lt (n + i) (length xs) ≡ s → nat_lt (n + j) (length xs) ≡ t → (if s then n + i else i - (length xs - n)) ≡ (if t then n + j else j - (length xs - n)) → i ≡ j
  go true true e f same = omega arith
  go true false e f same = let below : n + i < length xs = grind (arith, nat_tests, e) in let from : length xs ≤ n + j = grind (arith, nat_tests, f) in omega arith
  go false true e f same = let from : length xs ≤ n + i = grind (arith, nat_tests, e) in let below : n + j < length xs = grind (arith, nat_tests, f) in omega arith
  go false false e f same = let one : length xs ≤ n + i = grind (arith, nat_tests, e) in let two : length xs ≤ n + j = grind (arith, nat_tests, f) in omega arith

-- no two places of the list have one element
abbrev pub AreApart : List ℕ → Type 0
AreApart xs = (i j d : ℕ) → i < length xs → j < length xs → get_or xs i d ≡ get_or xs j d → i ≡ j

heavy_apart : (b : ℕ) (ws : List ℕ) → AreApart (heavy_from b ws)
heavy_apart b ws i j d hi hj same = ⊎_elim
    (λ below. let up = heavy_rising b ws i j d below hj in absurd (omega arith))
    (λ from. ⊎_elim (λ above. let up = heavy_rising b ws j i d above hi in absurd (omega arith)) (λ under. omega arith) (cases_lt j i))
    (cases_lt i j)

rotated_apart :
    (n : ℕ) (xs : List ℕ) → (0 < length xs → n ≤ length xs) → AreApart xs → AreApart (rotated n xs)
rotated_apart n xs fits apart i j d hi hj same =
    let size = length-rotated n xs fits in
    let h : n ≤ length xs = fits (omega arith) in
    let (hi', at_i) = seam_is n xs i d h (omega arith) in
    let (hj', at_j) = seam_is n xs j d h (omega arith) in
    seam_apart n xs i j h (omega arith) (omega arith) (apart (seam n xs i) (seam n xs j) d hi' hj' (sym at_i ∙ same ∙ at_j))

pub turn_fits : (dir : Gfid) (count : ℕ) → 0 < count → turn dir count ≤ count
turn_fits dir count some = let below = mod-lt (dir.0 / 2 ^ 16 % 2 ^ 32) some in omega arith

pub order_apart : (ws : List ℕ) (dir : Gfid) → AreApart (order ws dir)
unfolding order
order_apart ws dir =
    rotated_apart (turn dir (length (heavy_from 0 ws))) (heavy_from 0 ws) (turn_fits dir (length (heavy_from 0 ws))) (heavy_apart 0 ws)

pub order_within :
    (ws : List ℕ) (dir : Gfid) (k d : ℕ) → k < length (order ws dir)
    → get_or (order ws dir) k d < length ws
unfolding order
order_within ws dir k d h =
    let bricks = heavy_from 0 ws in
    let size = length-rotated (turn dir (length bricks)) bricks (turn_fits dir (length bricks)) in
    let fits = turn_fits dir (length bricks) (omega arith) in
    let (inside, at) = seam_is (turn dir (length bricks)) bricks k d fits (omega arith) in
    let (low, high) = heavy_within 0 ws (seam (turn dir (length bricks)) bricks k) d inside in
    omega arith

-- each brick of the order has weight
pub order_weighs :
    (ws : List ℕ) (dir : Gfid) (k d : ℕ) → k < length (order ws dir)
    → 0 < slice_index ws (get_or (order ws dir) k d)
unfolding order
order_weighs ws dir k d h =
    let bricks = heavy_from 0 ws in
    let size = length-rotated (turn dir (length bricks)) bricks (turn_fits dir (length bricks)) in
    let fits = turn_fits dir (length bricks) (omega arith) in
    let (inside, at) = seam_is (turn dir (length bricks)) bricks k d fits (omega arith) in
    let weighs = heavy_weighs (slice_index ws) 0 ws (seam (turn dir (length bricks)) bricks k) d (λ i l. let place : 0 + i ≡ i = omega arith in ap (slice_index ws) place) inside in
    subst (λ (b : ℕ). 0 < slice_index ws b) (sym at) weighs

-- where a brick has a place in the order, some brick has weight
pub order_heavy : (ws : List ℕ) (dir : Gfid) (k : ℕ) → k < length (order ws dir) → HasWeight ws
order_heavy ws dir k h =
    let brick = get_or (order ws dir) k 0 in
    let inside = order_within ws dir k 0 h in
    (brick, slice_index ws brick, inside, get_or_default ws brick (slice_index ws brick) 0 inside, order_weighs ws dir k 0 h)

pub order_some : (ws : List ℕ) (dir : Gfid) → HasWeight ws → 0 < length (order ws dir)
unfolding order
order_some ws dir heavy =
    let bricks = heavy_from 0 ws in
    let some = heavy_positive ws heavy in
    let size = length-rotated (turn dir (length bricks)) bricks (turn_fits dir (length bricks)) in
    omega arith

-- all the weight is theirs
pub order_sum : (ws : List ℕ) (dir : Gfid) → sum_by (slice_index ws) (order ws dir) ≡ sum ws
unfolding order
order_sum ws dir =
    let bricks = heavy_from 0 ws in
    let n = turn dir (length bricks) in
    let turned = sum_by-append (slice_index ws) (drop n bricks) (take n bricks) in
    let parts = sum_by-take-drop (slice_index ws) bricks n in
    let whole = heavy_sum (slice_index ws) 0 ws (λ k h. let place : 0 + k ≡ k = omega arith in ap (slice_index ws) place) in
    omega arith
