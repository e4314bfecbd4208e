-- A range is read from its own bytes.
use Rattle.std.proofs.Common.{◌≡◌, ℕ, ◌+◌, ◌-◌, ◌^◌, ◌<◌, ◌≤◌, true, nat_le, List, [], ◌∷◌, ◌++◌, length, take, drop, slice_index, sym, ap, ◌∙◌, arith}
use Rattle.std.specs.Prelude.{Some, None}
use Rattle.std.proofs.lemmas.Bool.{le-leb, cond-true}
use Rattle.std.proofs.lemmas.List.{take-append-drop, drop-drop, drop_all, take_all, length-drop, get_or-drop}
use Rattle.byteorder.specs.Endian.{big_number}
use Rattle.dht_xattr.specs.declared.range.Range.{Range}
use Rattle.dht_xattr.specs.Range.{IsRange, word, number, encoded, is_encoded, decoded}

-- the number of a word's bytes is the word
number_word : (n : ℕ) (rest : List ℕ) → n < 2 ^ 32 → number (word n ++ rest) ≡ n
number_word n rest h = omega arith

same_range :
    {c f l : ℕ} {r : Range} → c ≡ r.commit → f ≡ r.first → l ≡ r.last
    → ◌≡◌ {A = Range} (record { commit = c; first = f; last = l }) r
same_range commit first last = λ i. record { commit = commit i; first = first i; last = last i }

pub decoded_encoded :
    (r : Range) → r.commit < 2 ^ 32 → r.first ≤ r.last → r.last < 2 ^ 32
    → decoded (encoded r) ≡ Some r
decoded_encoded r committed ordered below =
    let commit : number (encoded r) ≡ r.commit = number_word r.commit (word 0 ++ word r.first ++ word r.last) committed in
    let first : number (drop 8 (encoded r)) ≡ r.first = number_word r.first (word r.last) (omega arith) in
    let last : number (drop 12 (encoded r)) ≡ r.last = number_word r.last [] below in
    let order : nat_le (number (drop 8 (encoded r))) (number (drop 12 (encoded r))) ≡ true = le-leb _ _ (omega arith) in
    let good : is_encoded (encoded r) ≡ true = order in
    cond-true (is_encoded (encoded r)) (Some (record { commit = number (encoded r); first = number (drop 8 (encoded r)); last = number (drop 12 (encoded r)) })) None good
    ∙ ap Some (same_range commit first last)

-- the first bytes make the word of their number
bytes_four :
    {a b c d e f g h : ℕ} → a ≡ e → b ≡ f → c ≡ g → d ≡ h
    → ◌≡◌ {A = List ℕ} (a ∷ b ∷ c ∷ d ∷ []) (e ∷ f ∷ g ∷ h ∷ [])
bytes_four p q r s = λ i. p i ∷ q i ∷ r i ∷ s i ∷ []

word_number :
    (v : List ℕ) → 4 ≤ length v → ((i : ℕ) → slice_index v i < 256) → take 4 v ≡ word (number v)
word_number [] long bytes = absurd (omega arith)
word_number (a ∷ []) long bytes = absurd (omega arith)
word_number (a ∷ b ∷ []) long bytes = absurd (omega arith)
word_number (a ∷ b ∷ c ∷ []) long bytes = absurd (omega arith)
word_number (a ∷ b ∷ c ∷ d ∷ rest) long bytes =
    let first : a < 256 = bytes 0 in
    let second : b < 256 = bytes 1 in
    let third : c < 256 = bytes 2 in
    let fourth : d < 256 = bytes 3 in
    bytes_four (omega arith) (omega arith) (omega arith) (omega arith)

word_prefix :
    (k : ℕ) (v : List ℕ) → k + 4 ≤ length v → ((i : ℕ) → slice_index v i < 256)
    → drop k v ≡ word (number (drop k v)) ++ drop (k + 4) v
word_prefix k v long bytes =
    let size = length-drop k v in
    let rest : (i : ℕ) → slice_index (drop k v) i < 256 = λ i. let same = get_or-drop k v i 0 in let byte = bytes (k + i) in omega arith in
    sym (take-append-drop 4 (drop k v))
    ∙ ap (λ (start : List ℕ). start ++ drop 4 (drop k v)) (word_number (drop k v) (omega arith) rest)
    ∙ ap (λ (back : List ℕ). word (number (drop k v)) ++ back) (drop-drop 4 k v)

-- bytes that are a range's are the bytes of that range
pub encoded_decoded : (v : List ℕ) (r : Range) → length v ≡ 16 → ((i : ℕ) → slice_index v i < 256)
    → r.commit ≡ number v → number (drop 4 v) ≡ 0 → r.first ≡ number (drop 8 v) → r.last ≡ number (drop 12 v) → v ≡ encoded r
encoded_decoded v r size bytes commit kind first last =
    let end : drop 16 v ≡ [] = drop_all 16 v (omega arith) in
    word_prefix 0 v (omega arith) bytes
    ∙ ap (λ (n : ℕ). word n ++ drop 4 v) (sym commit)
    ∙ ap (λ (back : List ℕ). word r.commit ++ back) (word_prefix 4 v (omega arith) bytes
    ∙ ap (λ (n : ℕ). word n ++ drop 8 v) kind
    ∙ ap (λ (back : List ℕ). word 0 ++ back) (word_prefix 8 v (omega arith) bytes
    ∙ ap (λ (n : ℕ). word n ++ drop 12 v) (sym first)
    ∙ ap (λ (back : List ℕ). word r.first ++ back) (word_prefix 12 v (omega arith) bytes
    ∙ ap (λ (n : ℕ). word n ++ drop 16 v) (sym last)
    ∙ ap (λ (back : List ℕ). word r.last ++ back) end)))

-- the bytes of a range have its numbers
pub encoded_parts : (v : List ℕ) (r : Range) → IsRange r → v ≡ encoded r
    → (length v ≡ 16) × (number (drop 4 v) ≡ 0) × (number (drop 8 v) ≡ r.first) × (number (drop 12 v) ≡ r.last)
encoded_parts v r good same =
    let ordered = good.ordered in
    let below = good.below in
    let first : number (drop 8 (encoded r)) ≡ r.first = number_word r.first (word r.last) (omega arith) in
    let last : number (drop 12 (encoded r)) ≡ r.last = number_word r.last [] below in
    (ap length same, ap (λ (w : List ℕ). number (drop 4 w)) same, ap (λ (w : List ℕ). number (drop 8 w)) same ∙ first, ap (λ (w : List ℕ). number (drop 12 w)) same ∙ last)

-- a number that is read from a place on
pub read_number :
    (k : ℕ) (v : List ℕ) → big_number 4 (take (length v - k) (drop k v)) ≡ number (drop k v)
read_number k v =
    let rest : take (length v - k) (drop k v) ≡ drop k v = take_all (length v - k) (drop k v) (omega (arith, length-drop k v)) in
    let same : big_number 4 (drop k v) ≡ number (drop k v) = omega arith in
    ap (big_number 4) rest ∙ same
