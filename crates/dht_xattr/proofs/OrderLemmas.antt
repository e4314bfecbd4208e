-- How the order of bricks is made, and what weighs how much.
use Rattle.std.proofs.Common.{◌≡◌, ℕ, zero, suc, ◌+◌, ◌<◌, ◌≤◌, List, [], ◌∷◌, ◌++◌, length, take, drop, set, refl, sym, ap, ◌∙◌, arith}
use Rattle.std.specs.Prelude.{sum, slice_index}
use Rattle.std.proofs.Math.Seq.{take-append_seam}
use Rattle.std.proofs.lemmas.List.{get_or_default, take_more, take_more_set, length-take-le}
use Rattle.std.proofs.lemmas.List.Sums.{sum_by-le}
use Rattle.dht_types.specs.declared.identifiers.Gfid.{Gfid}
use Rattle.dht_xattr.specs.Plan.{heavy_from, turn, rotated, order}
use Rattle.dht_xattr.proofs.OrderLaws.{length-rotated, turn_fits}

-- a brick more, of weight 0 or above
heavy_none : (b : ℕ) (ws : List ℕ) (w : ℕ) → w ≡ 0 → heavy_from b (ws ++ w ∷ []) ≡ heavy_from b ws
heavy_none b [] w same = ap (λ (x : ℕ). heavy_from b (x ∷ [])) same
heavy_none b (zero ∷ ws) w same = heavy_none (suc b) ws w same
heavy_none b (suc v ∷ ws) w same = ap (λ (rest : List ℕ). b ∷ rest) (heavy_none (suc b) ws w same)

heavy_one :
    (b : ℕ) (ws : List ℕ) (w : ℕ)
    → heavy_from b (ws ++ suc w ∷ []) ≡ heavy_from b ws ++ (b + length ws) ∷ []
heavy_one b [] w = let place : b ≡ b + 0 = omega arith in ap (λ (x : ℕ). x ∷ []) place
heavy_one b (zero ∷ ws) w =
    let place : suc b + length ws ≡ b + suc (length ws) = omega arith in
    heavy_one (suc b) ws w ∙ ap (λ (x : ℕ). heavy_from (suc b) ws ++ x ∷ []) place
heavy_one b (suc v ∷ ws) w =
    let place : suc b + length ws ≡ b + suc (length ws) = omega arith in
    ap (λ (rest : List ℕ). b ∷ rest) (heavy_one (suc b) ws w ∙ ap (λ (x : ℕ). heavy_from (suc b) ws ++ x ∷ []) place)

heavy_some :
    (b : ℕ) (ws : List ℕ) (w : ℕ) → 0 < w
    → heavy_from b (ws ++ w ∷ []) ≡ heavy_from b ws ++ (b + length ws) ∷ []
heavy_some b ws zero positive = absurd (omega arith)
heavy_some b ws (suc w) positive = heavy_one b ws w

-- the step of a loop over all weights
pub heavy_more_no :
    (ws : List ℕ) (k : ℕ) → k < length ws → slice_index ws k ≡ 0
    → heavy_from 0 (take (k + 1) ws) ≡ heavy_from 0 (take k ws)
heavy_more_no ws k h none = ap (heavy_from 0) (take_more ws k 0 h) ∙ heavy_none 0 (take k ws) (slice_index ws k) none

pub heavy_more_yes :
    (ws bricks : List ℕ) (k n : ℕ) → k < length ws → n < length bricks → 0 < slice_index ws k
    → take n bricks ≡ heavy_from 0 (take k ws)
    → take (n + 1) (set bricks n k) ≡ heavy_from 0 (take (k + 1) ws)
heavy_more_yes ws bricks k n h room positive so_far =
    let size = length-take-le k ws (omega arith) in
    let place : 0 + length (take k ws) ≡ k = omega arith in
    take_more_set bricks n k room
    ∙ ap (λ (start : List ℕ). start ++ k ∷ []) so_far
    ∙ ap (λ (x : ℕ). heavy_from 0 (take k ws) ++ x ∷ []) (sym place)
    ∙ sym (heavy_some 0 (take k ws) (slice_index ws k) positive)
    ∙ ap (heavy_from 0) (sym (take_more ws k 0 h))

-- weights of 16 bits, of 32 bricks at most, are below 2 ^ 21 together
pub sum_few :
    (ws : List ℕ) → ((k : ℕ) → slice_index ws k < 65536) → length ws ≤ 32 → sum ws ≤ 2097120
sum_few ws each few =
    let most = sum_by-le (λ x. x) 65535 ws (λ k d h. let same = get_or_default ws k d 0 h in let small = each k in omega arith) in
    omega arith

-- a prefix of the bricks is turned
pub order_is :
    (ws bricks turned_bricks : List ℕ) (dir : Gfid) (n : ℕ) → n ≤ length bricks → 0 < n
    → take n bricks ≡ heavy_from 0 ws
    → turned_bricks ≡ rotated (turn dir n) (take n bricks) → take n (turned_bricks ++ drop n bricks) ≡ order ws dir
unfolding order
order_is ws bricks turned_bricks dir n few positive heavy turned =
    let size = length-take-le n bricks few in
    let same : length turned_bricks ≡ n = ap length turned ∙ length-rotated (turn dir n) (take n bricks) (λ some. let fits = turn_fits dir n positive in omega arith) ∙ size in
    let count : n ≡ length (heavy_from 0 ws) = sym size ∙ ap length heavy in
    ap (λ (k : ℕ). take k (turned_bricks ++ drop n bricks)) (sym same)
    ∙ take-append_seam turned_bricks (drop n bricks)
    ∙ turned
    ∙ ap (rotated (turn dir n)) heavy
    ∙ ap (λ (k : ℕ). rotated (turn dir k) (heavy_from 0 ws)) count

rotated_none : (n : ℕ) → rotated n [] ≡ []
rotated_none zero = refl
rotated_none (suc n) = refl

-- where no brick has weight, none has a place in the order
pub order_none :
    (ws bricks : List ℕ) (dir : Gfid) (n : ℕ) → n ≤ 0 → take n bricks ≡ heavy_from 0 ws
    → take n bricks ≡ order ws dir
unfolding order
order_none ws bricks dir zero none heavy =
    sym (rotated_none (turn dir 0)) ∙ ap (λ (bs : List ℕ). rotated (turn dir (length bs)) bs) heavy
order_none ws bricks dir (suc n) none heavy = absurd (omega arith)
