-- How a plan is made, from one place of the order to the next.
use Rattle.std.proofs.Common.{◌≡◌, ◌≢◌, ℕ, ◌+◌, ◌<◌, ◌≤◌, ◌==◌, nat_lt, if◌then◌else◌, List, length, get_or, take, set, refl, sym, ap, ◌∙◌, arith, ⊎_elim}
use Rattle.std.specs.Prelude.{Option, Some, None, position, sum, slice_index, replicate}
use Rattle.std.proofs.lemmas.Bool.{cases_lt, cases_eq, lt-ltb, le-ltb, eqb-true, cond-true, cond-false}
use Rattle.std.proofs.lemmas.List.{same_lists, length-set, length-take-le, get_or-take, get_or-set_same, get_or-set_other, get_or-replicate}
use Rattle.std.proofs.lemmas.List.Quantifiers.{position-Some}
use Rattle.dht_types.specs.declared.identifiers.Gfid.{Gfid}
use Rattle.dht_xattr.specs.declared.range.Range.{Range}
use Rattle.dht_xattr.proofs.OrderLaws.{AreApart, order_within, order_heavy}
use Rattle.dht_xattr.specs.Plan.{order, share, start, rest_from, run_of, range_in_turn, dealt_range, planned}
use Rattle.dht_xattr.proofs.PlanLaws.{sum_positive, start_more, start_below, place_is, planned_length, planned_at}

-- the range of a brick, where the places before p have theirs
abbrev pub dealt : List ℕ → List ℕ → ℕ → Option ℕ → Option Range
dealt ws os p None = None
dealt ws os p (Some place) = if nat_lt place p then range_in_turn ws os place else None

-- the ranges of all bricks, where the places before p have theirs
abbrev pub AreDealt : List ℕ → List ℕ → ℕ → List (Option Range) → Type 0
AreDealt ws os p ranges = (b : ℕ) (d : Option Range) → b < length ranges → get_or ranges b d ≡ dealt ws os p (position (λ c. c == b) os)

none_dealt : (ws os : List ℕ) (o : Option ℕ) → dealt ws os 0 o ≡ None
none_dealt ws os None = refl
none_dealt ws os (Some place) = cond-false (nat_lt place 0) (range_in_turn ws os place) None (le-ltb place 0 (omega arith))

pub AreDealt-none : (ws os : List ℕ) → AreDealt ws os 0 (replicate 32 None)
AreDealt-none ws os b d h =
    get_or-replicate {A = Option Range} 32 b None d h ∙ sym (none_dealt ws os (position (λ c. c == b) os))

-- one place more changes no other
other_dealt :
    (ws os : List ℕ) (p b : ℕ) (o : Option ℕ) → position (λ c. c == b) os ≡ o → b ≢ slice_index os p
    → dealt ws os p o ≡ dealt ws os (p + 1) o
other_dealt ws os p b None at differ = refl
other_dealt ws os p b (Some q) at differ =
    let (within, pass, before) = position-Some (λ c. c == b) os q 0 at in
    let another : q ≢ p = λ same. differ (sym (eqb-true (slice_index os q) b pass) ∙ ap (slice_index os) same) in
    ⊎_elim
    (λ below. cond-true (nat_lt q p) _ _ (lt-ltb q p below) ∙ sym (cond-true (nat_lt q (p + 1)) (range_in_turn ws os q) None (lt-ltb q (p + 1) (omega arith))))
    (λ from. cond-false (nat_lt q p) _ _ (le-ltb q p from) ∙ sym (cond-false (nat_lt q (p + 1)) (range_in_turn ws os q) None (le-ltb q (p + 1) (omega arith))))
    (cases_lt q p)

pub AreDealt-more :
    (ws os : List ℕ) (p b : ℕ) (range : Option Range) (ranges : List (Option Range)) → AreApart os
    → p < length os → slice_index os p ≡ b
    → range ≡ range_in_turn ws os p → AreDealt ws os p ranges → AreDealt ws os (p + 1) (set ranges b range)
AreDealt-more ws os p b range ranges apart place brick next so_far k d h =
    let size = length-set ranges b range in
    ⊎_elim
    (λ same.
    let at : position (λ c. c == k) os ≡ Some p = ap (λ (m : ℕ). position (λ c. c == m) os) (same ∙ sym brick) ∙ place_is os p apart place in
    ap (λ (m : ℕ). get_or (set ranges b range) m d) same
    ∙ get_or-set_same ranges b range d (omega arith)
    ∙ next
    ∙ sym (cond-true (nat_lt p (p + 1)) (range_in_turn ws os p) None (lt-ltb p (p + 1) (omega arith)))
    ∙ ap (dealt ws os (p + 1)) (sym at))
    (λ differ.
    get_or-set_other ranges b k range d differ
    ∙ so_far k d (omega arith)
    ∙ other_dealt ws os p k (position (λ c. c == k) os) refl (λ same. differ (same ∙ brick)))
    (cases_eq k b)

-- in the end each place has its range
all_dealt :
    (ws os : List ℕ) (b : ℕ) (o : Option ℕ) → position (λ c. c == b) os ≡ o
    → dealt ws os (length os) o ≡ dealt_range ws os o
all_dealt ws os b None at = refl
all_dealt ws os b (Some p) at =
    cond-true (nat_lt p (length os)) (range_in_turn ws os p) None (lt-ltb p (length os) (position-Some (λ c. c == b) os p 0 at).0)

pub AreDealt-planned :
    (ws : List ℕ) (dir : Gfid) (p n : ℕ) (ranges : List (Option Range)) → n ≡ length ws
    → n ≤ length ranges → p ≡ length (order ws dir)
    → AreDealt ws (order ws dir) p ranges → take n ranges ≡ planned ws dir
AreDealt-planned ws dir p n ranges bricks room all dealt_so =
    let os = order ws dir in
    let size = length-take-le n ranges room in
    let whole = planned_length ws dir in
    same_lists (take n ranges) (planned ws dir) (omega arith) (λ k d h.
    get_or-take n ranges k d (omega arith)
    ∙ dealt_so k d (omega arith)
    ∙ ap (λ (m : ℕ). dealt ws os m (position (λ c. c == k) os)) all
    ∙ all_dealt ws os k (position (λ c. c == k) os) refl
    ∙ sym (planned_at ws dir k d (omega arith)))

-- how many bricks are in the order
pub order_size :
    (os bricks : List ℕ) (n : ℕ) → take n bricks ≡ os → n ≤ length bricks → length os ≡ n
order_size os bricks n same few = ap length (sym same) ∙ length-take-le n bricks few

-- the brick at a place of the order is one of those that have a weight
pub placed_within :
    (ws : List ℕ) (dir : Gfid) (bricks : List ℕ) (n p : ℕ) → take n bricks ≡ order ws dir
    → n ≤ length bricks → p < n → slice_index bricks p < length ws
placed_within ws dir bricks n p same few place =
    let size = order_size (order ws dir) bricks n same few in
    let inside = order_within ws dir p 0 (omega arith) in
    let brick = ap (λ (xs : List ℕ). slice_index xs p) (sym same) ∙ get_or-take n bricks p 0 place in
    omega arith

pub placed_weighs :
    (ws : List ℕ) (dir : Gfid) (bricks : List ℕ) (n p : ℕ) → take n bricks ≡ order ws dir
    → n ≤ length bricks → p < n → 0 < sum ws
placed_weighs ws dir bricks n p same few place =
    let size = order_size (order ws dir) bricks n same few in
    sum_positive ws (order_heavy ws dir p (omega arith))

-- what is known at a place of the order: its brick, and the first hash of the place behind it
pub record Step (ws : List ℕ) (dir : Gfid) (bricks : List ℕ) (n p first count : ℕ) : Type 0 where
  pub size : length (order ws dir) ≡ n
  pub brick : slice_index (order ws dir) p ≡ slice_index bricks p
  pub small : slice_index bricks p < 32
  pub share : count ≡ share ws (slice_index (order ws dir) p)
  pub next : first + count ≡ start ws (order ws dir) (p + 1)
  pub most : first + count ≤ 4294967295

pub step_at :
    (ws : List ℕ) (dir : Gfid) (bricks : List ℕ) (n p first count : ℕ) → length ws ≤ 32
    → take n bricks ≡ order ws dir → n ≤ length bricks → p < n
    → first ≡ start ws (order ws dir) p → count ≡ share ws (slice_index bricks p) → Step ws dir bricks n p first count
step_at ws dir bricks n p first count volume same few place begin part =
    let os = order ws dir in
    let size : length os ≡ n = order_size os bricks n same few in
    let brick : slice_index os p ≡ slice_index bricks p = ap (λ (xs : List ℕ). slice_index xs p) (sym same) ∙ get_or-take n bricks p 0 place in
    let inside = placed_within ws dir bricks n p same few place in
    let heavy = order_heavy ws dir p (omega arith) in
    let count_is : count ≡ share ws (slice_index os p) = part ∙ ap (share ws) (sym brick) in
    let more = start_more ws os p (omega arith) in
    let below = start_below ws dir (p + 1) heavy in
    let next : first + count ≡ start ws os (p + 1) = ap (λ (f : ℕ). f + count) begin ∙ ap (λ (k : ℕ). start ws os p + k) count_is ∙ sym more in
    record { size = size; brick = brick; small = omega arith; share = count_is; next = next; most = omega arith }

-- the range that goes to a place is that of the plan
pub next_range :
    (ws os : List ℕ) (p n first count : ℕ) (range : Option Range) → length os ≡ n
    → first ≡ start ws os p → count ≡ share ws (slice_index os p)
    → range ≡ (if p + 1 == n then rest_from first else run_of first count) → range ≡ range_in_turn ws os p
next_range ws os p n first count range size begin part made =
    made
    ∙ ap (λ (m : ℕ). if p + 1 == m then rest_from first else run_of first count) (sym size)
    ∙ ap (λ (f : ℕ). if p + 1 == length os then rest_from f else run_of f count) begin
    ∙ ap (λ (k : ℕ). if p + 1 == length os then rest_from (start ws os p) else run_of (start ws os p) k) part
