-- A volume that has no fault is one, and a replay's bricks have good names.
use Rattle.std.proofs.Common.{◌≡◌, ◌≢◌, ℕ, zero, suc, ◌+◌, ◌/◌, ◌%◌, ◌^◌, ◌<◌, ◌≤◌, ◌==◌, Bool, true, false, true≢false, not, ◌&&◌, nat_lt, nat_le, if◌then◌else◌, List, [], ◌∷◌, ◌++◌, length, length-append, get_or, All, Any, Option, Some, None, Result, Ok, codes, decimal, eq-eqb, arith, refl, sym, ap, ◌∙◌, inl, inr}
use Rattle.std.specs.List.{AllPairs, list_all, list_any, position, slice_get}
use Rattle.std.specs.Str.{bytes_eq}
use Rattle.std.specs.Result.{result_err}
use Rattle.std.proofs.lemmas.Bool.{false_from_ne_true, not_from_false, and_parts, and_from, not-true, cases_lt}
use Rattle.std.proofs.lemmas.Bool.Decides.{nat_tests}
use Rattle.std.proofs.lemmas.Option.{slice_get-get_or}
use Rattle.std.proofs.lemmas.Slice.Eq.{bytes_eq-Decides}
use Rattle.std.proofs.lemmas.List.Sums.{AllPass-from_list_all, list_all-from_AllPass}
use Rattle.std.proofs.lemmas.List.Folds.{Any-from_list_any, list_any_at, list_any_none, list_all-append}
use Rattle.std.proofs.lemmas.List.Elements.{All-nil, All-push}
use Rattle.std.proofs.lemmas.List.Kept.{AllPairs-cons}
use Rattle.std.proofs.lemmas.List.Quantifiers.{all_pairs_push, position-Some}
use Rattle.std.proofs.lemmas.List.{append_cancel_left, get_or_append_left, get_or_push, length_push}
use Rattle.std.proofs.lemmas.Fmt.{decimal_digit, decimal_step, decimal_injective, length-decimal-le}
use Rattle.dht_types.specs.declared.volumes.VolumeFault.{VolumeFault}
use Rattle.dht_types.specs.declared.volumes.VolumeFault.TheVariants.{Bricks, Name, Weight, Run}
use Rattle.dht_types.specs.Volume.{VolumeInfo, IsVolume, fault_of, late_fault_of, replay_fault_of, replay_info, replay_name, replay_names, is_brick_byte, is_brick_name, are_distinct, are_names, is_count, is_light, is_positive, are_weights}

some_is_not : (fault : VolumeFault) → ◌≡◌ {A = Option VolumeFault} (Some fault) None → ⊥
some_is_not fault same = cc

-- no test but the last failed
passed :
    (test : Bool) (fault : VolumeFault) (rest : Option VolumeFault)
    → (if not test then Some fault else rest) ≡ None → (test ≡ true) × (rest ≡ None)
passed true fault rest same = (refl, same)
passed false fault rest same = absurd (some_is_not fault same)

last_passed : (is_zero : Bool) → (if is_zero then Some Run else None) ≡ None → is_zero ≡ false
last_passed true same = absurd (some_is_not Run same)
last_passed false same = refl

-- names of which none comes twice
distinct : (names : List (List ℕ)) → are_distinct names ≡ true → AllPairs (λ a b. a ≢ b) names
distinct [] each = λ i j d before within. absurd (omega arith)
distinct (name ∷ names) each =
    let parts = and_parts (not (list_any (bytes_eq name) names)) (are_distinct names) each in
    let none : list_any (bytes_eq name) names ≡ false = not-true (list_any (bytes_eq name) names) parts.0 in
    let differ : All (λ other. name ≢ other) names = λ k d within same.
    true≢false (sym (list_any_at (bytes_eq name) names k d within ((bytes_eq-Decides name (get_or names k d)).1 same)) ∙ none) in
    AllPairs-cons (λ a b. a ≢ b) name names differ (distinct names parts.1)

-- weights that are good
light : (weights : List ℕ) → are_weights weights ≡ true → All (λ w. w ≤ 1000) weights
light weights good = λ k d within.
    let each = AllPass-from_list_all is_light weights (and_parts (list_all is_light weights) (list_any is_positive weights) good).0 k d within in
    grind (arith, nat_tests, each)

heavy : (weights : List ℕ) → are_weights weights ≡ true → Any (λ w. 0 < w) weights
heavy weights good =
    let (k, w, within, at, positive) = Any-from_list_any is_positive weights (and_parts (list_all is_light weights) (list_any is_positive weights) good).1 in
    (k, w, within, at, grind (arith, nat_tests, positive))

-- a volume by its parts
volume :
    (v : VolumeInfo) → is_count (length v.names) ≡ true → length v.weights ≡ length v.names
    → All (λ name. is_brick_name name ≡ true) v.names
    → AllPairs (λ a b. a ≢ b) v.names → late_fault_of v.weights v.run ≡ None → IsVolume v
volume v count weighed named differ late =
    let size = and_parts (nat_lt 0 (length v.names)) (nat_le (length v.names) 32) count in
    let good = passed (are_weights v.weights) Weight (if v.run == 0 then Some Run else None) late in
    let run = last_passed (v.run == 0) good.1 in
    record {
      positive = grind (arith, nat_tests, size.0);
      few = grind (arith, nat_tests, size.1);
      weighed = weighed;
      named = named;
      distinct = differ;
      light = light v.weights good.0;
      heavy = heavy v.weights good.0;
      counted = grind (arith, nat_tests, run);
    }

-- a volume with no fault is one
pub IsVolume-fault_of : (v : VolumeInfo) → fault_of v.names v.weights v.run ≡ None → IsVolume v
IsVolume-fault_of v none =
    let first = passed (is_count (length v.names) && (length v.weights == length v.names)) Bricks (if not (are_names v.names) then Some Name else late_fault_of v.weights v.run) none in
    let second = passed (are_names v.names) Name (late_fault_of v.weights v.run) first.1 in
    let bricks = and_parts (is_count (length v.names)) (length v.weights == length v.names) first.0 in
    let names = and_parts (list_all is_brick_name v.names) (are_distinct v.names) second.0 in
    volume v bricks.0 (grind (arith, nat_tests, bricks.1)) (AllPass-from_list_all is_brick_name v.names names.0) (distinct v.names names.1) second.1

test_lt : (a b : ℕ) → a < b → nat_lt a b ≡ true
test_lt a b below = grind (arith, nat_tests)

test_le : (a b : ℕ) → a ≤ b → nat_le a b ≡ true
test_le a b below = grind (arith, nat_tests)

told_distinct : (names : List (List ℕ)) → AllPairs (λ a b. a ≢ b) names → are_distinct names ≡ true
told_distinct [] differ = refl
told_distinct (name ∷ names) differ =
    let none : list_any (bytes_eq name) names ≡ false =
    list_any_none (bytes_eq name) names (λ k d within.
    false_from_ne_true (bytes_eq name (get_or names k d)) (λ same. differ 0 (suc k) d (omega arith) (omega arith) ((bytes_eq-Decides name (get_or names k d)).0 same))) in
    and_from (not (list_any (bytes_eq name) names)) (are_distinct names) (not_from_false (list_any (bytes_eq name) names) none)
    (told_distinct names (λ i j d before within. differ (suc i) (suc j) d (omega arith) (omega arith)))

told_weights :
    (weights : List ℕ) → All (λ w. w ≤ 1000) weights → Any (λ w. 0 < w) weights
    → are_weights weights ≡ true
told_weights weights light heavy =
    let (k, w, within, at, positive) = heavy in
    and_from (list_all is_light weights) (list_any is_positive weights)
    (list_all-from_AllPass is_light weights (λ j d h. test_le (get_or weights j d) 1000 (light j d h)))
    (list_any_at is_positive weights k w within (ap is_positive at ∙ test_lt 0 w positive))

-- a volume has no fault
pub fault_of-IsVolume : (v : VolumeInfo) → IsVolume v → fault_of v.names v.weights v.run ≡ None
fault_of-IsVolume v is_one =
    let count = and_from (nat_lt 0 (length v.names)) (nat_le (length v.names) 32) (test_lt 0 (length v.names) is_one.positive) (test_le (length v.names) 32 is_one.few) in
    let bricks = and_from (is_count (length v.names)) (length v.weights == length v.names) count (eq-eqb (length v.weights) (length v.names) is_one.weighed) in
    let names = and_from (list_all is_brick_name v.names) (are_distinct v.names) (list_all-from_AllPass is_brick_name v.names is_one.named) (told_distinct v.names is_one.distinct) in
    let weights = told_weights v.weights is_one.light is_one.heavy in
    let counted = is_one.counted in
    let run : (v.run == 0) ≡ false = grind (arith, nat_tests) in
    rw (bricks, names, weights, run) refl

-- the names of a replay's bricks
pub length-replay_names : (count : ℕ) → length (replay_names count) ≡ count
unfolding replay_names
length-replay_names zero = refl
length-replay_names (suc count) = omega (arith, length_push (replay_names count) (replay_name count), length-replay_names count)

name_at : (count k : ℕ) (d : List ℕ) → k < count → get_or (replay_names count) k d ≡ replay_name k
unfolding replay_names
name_at zero k d within = absurd (omega arith)
name_at (suc count) k d within =
    elim (cases_lt k count) [
      | inl under ↦ get_or_append_left (replay_names count) (replay_name count ∷ []) d k (rw (length-replay_names count) under) ∙ name_at count k d under
      | inr over ↦
          let last : k ≡ count = omega arith in
          get_or_push (replay_names count) (replay_name count) d k (length-replay_names count ∙ sym last) ∙ ap replay_name (sym last)
    ]

digit_fits : (n : ℕ) → n < 10 → is_brick_byte (48 + n) ≡ true
digit_fits n small = grind (arith, nat_tests)

digits_fit : (n : ℕ) → n < 10 → list_all is_brick_byte ((48 + n) ∷ []) ≡ true
digits_fit n small = and_from (is_brick_byte (48 + n)) true (digit_fits n small) refl

decimal_fits : (n : ℕ) → n < 100 → list_all is_brick_byte (decimal n) ≡ true
decimal_fits n small =
    elim (cases_lt n 10) [
      | inl one ↦ ap (list_all is_brick_byte) (decimal_digit n one) ∙ digits_fit n one
      | inr two ↦
          let text : decimal n ≡ (48 + n / 10) ∷ (48 + n % 10) ∷ [] =
          decimal_step n two (omega arith) ∙ ap (λ ds. ds ++ (48 + n % 10) ∷ []) (decimal_digit (n / 10) (omega arith)) in
          ap (list_all is_brick_byte) text
          ∙ and_from (is_brick_byte (48 + n / 10)) (list_all is_brick_byte ((48 + n % 10) ∷ [])) (digit_fits (n / 10) (omega arith)) (digits_fit (n % 10) (omega arith))
    ]

name_fits : (brick : ℕ) → brick < 32 → is_brick_name (replay_name brick) ≡ true
name_fits brick small =
    let short : length (decimal brick) ≤ 2 = length-decimal-le 2 brick (omega arith) (omega arith) (omega arith) in
    let size : length (replay_name brick) ≡ 6 + length (decimal brick) = length-append (codes "brick-") (decimal brick) in
    let positive : nat_lt 0 (length (replay_name brick)) ≡ true = rw size (test_lt 0 (6 + length (decimal brick)) (omega arith)) in
    let long : nat_le (length (replay_name brick)) 64 ≡ true = rw size (test_le (6 + length (decimal brick)) 64 (omega arith)) in
    and_from (nat_lt 0 (length (replay_name brick)) && nat_le (length (replay_name brick)) 64) (list_all is_brick_byte (replay_name brick))
    (and_from (nat_lt 0 (length (replay_name brick))) (nat_le (length (replay_name brick)) 64) positive long)
    (list_all-append is_brick_byte (codes "brick-") (decimal brick) ∙ decimal_fits brick (omega arith))

replay_names_fit :
    (count : ℕ) → count ≤ 32 → All (λ name. is_brick_name name ≡ true) (replay_names count)
unfolding replay_names
replay_names_fit zero few = All-nil (λ name. is_brick_name name ≡ true)
replay_names_fit (suc count) few =
    All-push (λ name. is_brick_name name ≡ true) (replay_names count) (replay_name count) (replay_names_fit count (omega arith)) (name_fits count (omega arith))

replay_name_tells : (m n : ℕ) → m < 2 ^ 64 → n < 2 ^ 64 → replay_name m ≡ replay_name n → m ≡ n
replay_name_tells m n m_fits n_fits same =
    decimal_injective m n m_fits n_fits (append_cancel_left (codes "brick-") (decimal m) (decimal n) same)

replay_names_differ : (count : ℕ) → count ≤ 32 → AllPairs (λ a b. a ≢ b) (replay_names count)
unfolding replay_names
replay_names_differ zero few = λ i j d before within. absurd (omega arith)
replay_names_differ (suc count) few =
    all_pairs_push (λ a b. a ≢ b) (replay_names count) (replay_name count) (replay_names_differ count (omega arith))
    (λ k d within same.
    let under : k < count = rw (length-replay_names count) at within in
    let tied = replay_name_tells k count (omega arith) (omega arith) (sym (name_at count k d under) ∙ same) in
    omega arith)

-- a replay's volume with no fault is a volume
pub IsVolume-replay_fault_of :
    (weights : List ℕ) (run : ℕ) → replay_fault_of weights run ≡ None
    → IsVolume (replay_info weights run)
IsVolume-replay_fault_of weights run none =
    let first = passed (is_count (length weights)) Bricks (late_fault_of weights run) none in
    let few : length weights ≤ 32 = grind (arith, nat_tests, (and_parts (nat_lt 0 (length weights)) (nat_le (length weights) 32) first.0).1) in
    volume (replay_info weights run) (rw (length-replay_names (length weights)) first.0) (sym (length-replay_names (length weights)))
    (replay_names_fit (length weights) few) (replay_names_differ (length weights) few) first.1

-- the place of a name
pub place_holds :
    (names : List (List ℕ)) (name : List ℕ) (k : ℕ)
    → position (λ other. bytes_eq other name) names ≡ Some k → slice_get names k ≡ Some name
place_holds names name k found =
    let facts = position-Some (λ other. bytes_eq other name) names k name found in
    slice_get-get_or names k name facts.0 ∙ ap Some ((bytes_eq-Decides (get_or names k name) name).0 facts.1)

-- what the checks before a volume is made say
pub no_fault :
    {T : Type 0} (r : Result T VolumeFault) (x : T) (fault : Option VolumeFault)
    → result_err r ≡ fault → r ≡ Ok x → fault ≡ None
no_fault r x fault is_it fine = sym is_it ∙ ap result_err fine

pub no_replay_fault :
    (weights : List ℕ) (run : ℕ) → is_count (length weights) ≡ true
    → late_fault_of weights run ≡ None → replay_fault_of weights run ≡ None
no_replay_fault weights run count late = rw count late
