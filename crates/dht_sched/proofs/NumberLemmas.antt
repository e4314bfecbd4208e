-- A number is read by printing it again.
use Rattle.std.proofs.Common.{◌≡◌, ◌≢◌, ℕ, ◌^◌, ◌<◌, ◌≤◌, arith, Bool, true, false, leb, List, Some, None, Result, Ok, Err, decimal, sym, ap, ◌∙◌}
use Rattle.std.specs.Prelude.{IsUtf8}
use Rattle.std.specs.Bool.{then_some}
use Rattle.std.specs.Result.{MatchResult, result_ok}
use Rattle.std.specs.Str.{bytes_eq}
use Rattle.std.specs.Str.Parse.{ParsesUnsigned}
use Rattle.std.proofs.lemmas.Bool.{le-leb}
use Rattle.std.proofs.lemmas.Fmt.{parse-decimal, IsAscii-decimal, decimal_injective, decimal_is_IsNumeral}
use Rattle.std.proofs.lemmas.List.Elements.{All-from_get_or}
use Rattle.std.proofs.lemmas.List.Sums.{list_all-from_AllPass}
use Rattle.std.proofs.lemmas.Str.Parse.{digit_at}
use Rattle.std.proofs.lemmas.Slice.Eq.{bytes_eq-Decides}
use Rattle.std.proofs.lemmas.Str.{IsUtf8-from_ascii}
use Rattle.dht_sched.specs.Reading.{Reads}
use Rattle.dht_sched.proofs.WordLemmas.{IsWord}

pub at_none :
    {A E : Type 0} (P : A → Type 0) (Q : E → Type 0) (r : Result A E) → MatchResult r P Q
    → None ≡ result_ok r → (e : E) × Q e
at_none P Q (Ok x) h e = absurd cc
at_none P Q (Err d) h e = (d, h)

pub at_some :
    {A E : Type 0} (P : A → Type 0) (Q : E → Type 0) (r : Result A E) (x : A) → MatchResult r P Q
    → Some x ≡ result_ok r → P x
at_some P Q (Ok y) x h e = let same : y ≡ x = cc in let R = P in rw (← same) h
at_some P Q (Err d) x h e = absurd cc

pub IsUtf8-decimal : (n : ℕ) → n < 2 ^ 64 → IsUtf8 (decimal n)
IsUtf8-decimal n lt = IsUtf8-from_ascii (decimal n) (IsAscii-decimal n lt)

-- what parses as no number is the decimal of none
pub not_parsed :
    {E : Type 0} (word : List ℕ) (r : Result ℕ E) → ParsesUnsigned 64 10 word r → None ≡ result_ok r
    → (n : ℕ) → n < 2 ^ 64 → decimal n ≡ word → ⊥
not_parsed word r parses none n lt same =
    let ok = parse-decimal 64 n word r lt lt (sym same) parses in
    cc (ok, none)

-- what parses as a number is the decimal of no other
pub only_parsed :
    {E : Type 0} (word : List ℕ) (r : Result ℕ E) (number : ℕ) → ParsesUnsigned 64 10 word r
    → Some number ≡ result_ok r → (n : ℕ) → n < 2 ^ 64 → decimal n ≡ word → n ≡ number
only_parsed word r number parses some n lt same =
    let ok = parse-decimal 64 n word r lt lt (sym same) parses in
    cc (ok, some)

pub number_read :
    (word printed : List ℕ) (number : ℕ) (b : Bool) → b ≡ bytes_eq printed word
    → printed ≡ decimal number → number < 2 ^ 64
    → ((n : ℕ) → n < 2 ^ 64 → decimal n ≡ word → n ≡ number)
    → Reads decimal (λ n. n < 2 ^ 64) word (then_some b number)
number_read word printed number true e p lt only = (lt, sym p ∙ (bytes_eq-Decides printed word).0 (sym e))
number_read word printed number false e p lt only = λ n small same.
    let again : printed ≡ word = p ∙ (sym (ap decimal (only n small same)) ∙ same) in
    let yes = (bytes_eq-Decides printed word).1 again in
    cc (e, yes)

pub too_heavy :
    (word : List ℕ) (n : ℕ) → n < 2 ^ 64 → decimal n ≡ word → 1000 < n → (w : ℕ) → w ≤ 1000
    → decimal w ≢ word
too_heavy word n small same heavy w light again =
    let w_is : w ≡ n = decimal_injective w n (omega arith) small (again ∙ sym same) in
    omega arith

-- a number is a word
pub decimal_word : (n : ℕ) → n < 2 ^ 64 → IsWord (decimal n)
decimal_word n small =
    let digits = (decimal_is_IsNumeral n small).0.1 in
    list_all-from_AllPass (λ b. leb 33 b) (decimal n) (All-from_get_or (λ b. leb 33 b ≡ true) (decimal n) 0 (λ i lt. let digit = digit_at (decimal n) i digits lt in le-leb 33 _ (omega arith)))
