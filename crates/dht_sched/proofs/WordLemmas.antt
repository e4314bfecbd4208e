-- A line is cut into words, and put together again.
use Rattle.std.proofs.Common.{◌≡◌, ℕ, ◌+◌, ◌-◌, ◌<◌, ◌≤◌, Bool, true, false, eqb, ltb, leb, Contains, length-append, List, [], ◌∷◌, length, take, drop, All, Some, None, refl, ap, ◌∙◌, arith, inl, inr, length-drop}
use Rattle.std.specs.List.{position, position_or_len, list_all, AllByRecursion}
use Rattle.std.proofs.lemmas.Bool.{cases_lt, ltb-true, lt-ltb, leb-true, le-leb, false≢true}
use Rattle.std.proofs.lemmas.Bool.Decides.{nat_tests}
use Rattle.std.proofs.lemmas.Option.{cond_some}
use Rattle.std.proofs.lemmas.List.{take_all}
use Rattle.std.proofs.lemmas.List.Elements.{All-from_get_or, All-weaker, All-contains}
use Rattle.std.proofs.lemmas.List.Sums.{fails_before_first, AllPass-from_list_all, list_all-from_AllPass}
use Rattle.std.proofs.lemmas.List.Folds.{list_all-append}
use Rattle.std.proofs.lemmas.List.Splits.{slice_split_first, slice_split_none, slice_split_at, join_with_byte-slice_split}
use Rattle.dht_sched.specs.Spelling.{spaced, words_of}

-- the first word ends at the first space
pub words_of_space :
    (text : List ℕ) (at : ℕ) → position (λ b. eqb b 32) text ≡ Some at
    → words_of text ≡ take at text ∷ words_of (take (length text - (at + 1)) (drop (at + 1) text))
unfolding words_of
words_of_space text at e =
    let c = cond_some (ltb (position_or_len (λ b. eqb b 32) text) (length text)) (position_or_len (λ b. eqb b 32) text) at e in
    let there : position_or_len (λ b. eqb b 32) text < length text = ltb-true _ _ c.0 in
    let whole : take (length text - (at + 1)) (drop (at + 1) text) ≡ drop (at + 1) text = take_all (length text - (at + 1)) (drop (at + 1) text) (omega (arith, length-drop (at + 1) text)) in
    rw (whole, ← c.1) (slice_split_first (λ b. eqb b 32) text 0 there)

-- without a space the text is one word
pub words_of_none :
    (text : List ℕ) → position (λ b. eqb b 32) text ≡ None → words_of text ≡ text ∷ []
unfolding words_of
words_of_none text e =
    elim (cases_lt (position_or_len (λ b. eqb b 32) text) (length text)) [
      | inl lt ↦ absurd (let at : ltb (position_or_len (λ b. eqb b 32) text) (length text) ≡ true = lt-ltb _ _ lt in let h = rw at at e in cc)
      | inr le ↦ slice_split_none (λ b. eqb b 32) text (All-from_get_or (λ x. eqb x 32 ≡ false) text 0 (λ i lt. fails_before_first (λ b. eqb b 32) text i 0 (omega arith)))
    ]

-- the words of a line make the line
pub spaced-words_of : (line : List ℕ) → spaced (words_of line) ≡ line
unfolding words_of
spaced-words_of line = join_with_byte-slice_split 32 line

-- each byte of a word is above a space's
abbrev pub is_word : List ℕ → Bool
is_word word = list_all (λ b. leb 33 b) word

above_space : (b : ℕ) → leb 33 b ≡ true → eqb b 32 ≡ false
above_space b h = let le = leb-true 33 b h in grind (arith, nat_tests)

no_space : (word : List ℕ) → is_word word ≡ true → All (λ b. eqb b 32 ≡ false) word
no_space word h = All-weaker (λ b. leb 33 b ≡ true) (λ b. eqb b 32 ≡ false) above_space word (AllPass-from_list_all (λ b. leb 33 b) word h)

abbrev pub IsWord : List ℕ → Type 0
IsWord word = is_word word ≡ true

-- a line of words has these words
pub words_of-spaced :
    (word : List ℕ) (words : List (List ℕ)) → AllByRecursion IsWord (word ∷ words)
    → words_of (spaced (word ∷ words)) ≡ word ∷ words
unfolding words_of
words_of-spaced word [] h = slice_split_none (λ b. eqb b 32) word (no_space word h.0)
words_of-spaced word (next ∷ words) h =
    slice_split_at (λ b. eqb b 32) word 32 (spaced (next ∷ words)) (no_space word h.0) refl ∙ ap (λ ws. word ∷ ws) (words_of-spaced next words h.1)

-- no byte of a line of words is below a space
from_space : (word : List ℕ) → IsWord word → list_all (λ b. leb 32 b) word ≡ true
from_space word h = list_all-from_AllPass (λ b. leb 32 b) word (All-weaker (λ b. leb 33 b ≡ true) (λ b. leb 32 b ≡ true) (λ b above. let le = leb-true 33 b above in le-leb 32 b (omega arith)) word (AllPass-from_list_all (λ b. leb 33 b) word h))

line_from_space :
    (words : List (List ℕ)) → AllByRecursion IsWord words
    → list_all (λ b. leb 32 b) (spaced words) ≡ true
line_from_space [] h = refl
line_from_space (word ∷ []) h = from_space word h.0
line_from_space (word ∷ next ∷ words) h =
    rw (list_all-append (λ b. leb 32 b) word (32 ∷ spaced (next ∷ words)), from_space word h.0) (line_from_space (next ∷ words) h.1)

pub no_newline :
    (words : List (List ℕ)) → AllByRecursion IsWord words → Contains (spaced words) 10 → ⊥
no_newline words h there = false≢true (All-contains (λ b. leb 32 b ≡ true) (spaced words) 10 (AllPass-from_list_all (λ b. leb 32 b) (spaced words) (line_from_space words h)) there)

-- the room that words take, each with a space
abbrev pub room : List (List ℕ) → ℕ
room [] = 0
room (word ∷ words) = length word + 1 + room words

pub length-spaced-le : (words : List (List ℕ)) → length (spaced words) ≤ room words
length-spaced-le [] = omega arith
length-spaced-le (word ∷ []) = omega arith
length-spaced-le (word ∷ next ∷ words) =
    let others = length-spaced-le (next ∷ words) in
    omega (arith, length-append word (32 ∷ spaced (next ∷ words)))
