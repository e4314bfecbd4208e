-- The text of a gfid.
use Rattle.std.proofs.Common.{◌≡◌, ℕ, zero, suc, ◌+◌, ◌/◌, ◌%◌, ◌^◌, ◌<◌, List, [], ◌∷◌, length, All, Some, get_or, inl, Result, IsOk, is_ok, true, false, ◌↔◌, arith, refl, sym, ap, ◌∙◌}
use Rattle.std.specs.Int.{byte_at, bytes_high_first, to_be_bytes, from_be_bytes, w128}
use Rattle.uuid.specs.Text.{hyphenated_text, simple_text, lower, by_index, nibble, parsed}
use Rattle.uuid.proofs.RoundTrips.{parses_hyphenated}
use Rattle.uuid.specs.Text as uuid
use Rattle.uuid.proofs.TextLemmas.{by_index_same, by_index_length}
use Rattle.std.specs.Str.{bytes_eq}
use Rattle.std.proofs.lemmas.Cmp.{nat_list_eq_equiv}
use Rattle.std.proofs.lemmas.Bool.Decides.{nat_tests}
use Rattle.std.proofs.lemmas.List.Elements.{All-nil, All-cons, All-head, All-tail}
use Rattle.dht_types.specs.declared.identifiers.Gfid.{Gfid}
use Rattle.dht_types.specs.Text.{hex_digit, hex_bytes, hyphenated, gfid_text}
use Rattle.dht_types.proofs.HexLemmas.{hex_number_lem, byte_small, from_be_bytes-to_be_bytes}

-- one digit, and two digits, as a UUID has them
hex_digit_lem : (d : ℕ) → hex_digit d ≡ uuid.hex_digit lower d
hex_digit_lem d = grind (arith, nat_tests)

nibble_above : (x : ℕ) (xs : List ℕ) (k : ℕ) → nibble (x ∷ xs) (suc (suc k)) ≡ nibble xs k
nibble_above x xs k =
    let half : suc (suc k) / 2 ≡ suc (k / 2) = omega arith in
    let odd : suc (suc k) % 2 ≡ k % 2 = omega arith in
    rw (half, odd) refl

-- the digits of bytes are those of their halves
digit_at :
    (xs : List ℕ) (k d : ℕ) → All (λ b. b < 256) xs → k < length xs + length xs
    → get_or (hex_bytes xs) k d ≡ uuid.hex_digit lower (nibble xs k)
digit_at [] k d small within = absurd (omega arith)
digit_at (x ∷ xs) zero d small within =
    let fits : x < 256 = All-head (λ b. b < 256) x xs small in
    let half : x / 16 ≡ x / 16 % 16 = omega arith in
    ap hex_digit half ∙ hex_digit_lem (x / 16 % 16)
digit_at (x ∷ xs) (suc zero) d small within = hex_digit_lem (x % 16)
digit_at (x ∷ xs) (suc (suc k)) d small within =
    digit_at xs k d (All-tail (λ b. b < 256) x xs small) (omega arith) ∙ ap (uuid.hex_digit lower) (sym (nibble_above x xs k))

length-hex_bytes : (xs : List ℕ) → length (hex_bytes xs) ≡ length xs + length xs
length-hex_bytes [] = refl
length-hex_bytes (x ∷ xs) = omega (arith, length-hex_bytes xs)

hex_bytes_lem :
    (xs : List ℕ) → length xs ≡ 16 → All (λ b. b < 256) xs → hex_bytes xs ≡ simple_text lower xs
hex_bytes_lem xs len small =
    by_index_same (hex_bytes xs) 32 (λ k. uuid.hex_digit lower (nibble xs k)) (omega (arith, length-hex_bytes xs)) (λ k d h. digit_at xs k d small (omega arith))

-- the text of 16 bytes as a UUID has it
pub hyphenated-hex_bytes :
    (xs : List ℕ) → length xs ≡ 16 → All (λ b. b < 256) xs
    → hyphenated (hex_bytes xs) ≡ hyphenated_text lower xs
unfolding by_index
hyphenated-hex_bytes xs len small = ap hyphenated (hex_bytes_lem xs len small) ∙ refl

bytes_small : (k n : ℕ) → All (λ b. b < 256) (bytes_high_first k n)
bytes_small zero n = All-nil (λ b. b < 256)
bytes_small (suc k) n = All-cons (λ b. b < 256) (byte_at k n) (bytes_high_first k n) (byte_small k n) (bytes_small k n)

-- the text of a gfid is that of a UUID
pub gfid_text_lem : (g : Gfid) → gfid_text g ≡ hyphenated_text lower (to_be_bytes w128 g.0)
unfolding gfid_text
gfid_text_lem g = ap hyphenated (hex_number_lem 16 g.0) ∙ hyphenated-hex_bytes (to_be_bytes w128 g.0) refl (bytes_small 16 g.0)

-- the bytes of a text
parsed-gfid_text : (g : Gfid) → parsed (gfid_text g) ≡ Some (to_be_bytes w128 g.0)
parsed-gfid_text g =
    ap parsed (gfid_text_lem g) ∙ sym (parses_hyphenated lower (to_be_bytes w128 g.0) (inl refl) refl (bytes_small 16 g.0))

bytes_tell : (m n : ℕ) → m < 2 ^ 128 → n < 2 ^ 128 → to_be_bytes w128 m ≡ to_be_bytes w128 n → m ≡ n
bytes_tell m n m_fits n_fits same =
    sym (from_be_bytes-to_be_bytes m m_fits) ∙ ap (from_be_bytes w128) same ∙ from_be_bytes-to_be_bytes n n_fits

pub gfid_text_tells :
    (a b : Gfid) → a.0 < 2 ^ 128 → b.0 < 2 ^ 128 → gfid_text a ≡ gfid_text b → a ≡ b
gfid_text_tells a b a_fits b_fits same =
    let bytes : Some (to_be_bytes w128 a.0) ≡ Some (to_be_bytes w128 b.0) = sym (parsed-gfid_text a) ∙ ap parsed same ∙ parsed-gfid_text b in
    let number : a.0 ≡ b.0 = bytes_tell a.0 b.0 a_fits b_fits (cc) in
    let of_number : ℕ → Gfid = λ n. record { 0 = n } in
    ap of_number number

pub length-gfid_text : (g : Gfid) → length (gfid_text g) ≡ 36
length-gfid_text g = rw (gfid_text_lem g) (by_index_length 36 _)

-- a text that was written as a UUID's
pub text_written :
    (g : Gfid) (uuid shown text : List ℕ) → uuid ≡ to_be_bytes w128 g.0 → shown ≡ uuid
    → text ≡ hyphenated_text lower shown → text ≡ gfid_text g
text_written g uuid shown text of_number is_it written =
    written ∙ ap (hyphenated_text lower) (is_it ∙ of_number) ∙ sym (gfid_text_lem g)

-- a text that is no UUID's is no gfid's
pub refused-is_none :
    {E : Type 0} (r : Result (List ℕ) E) (text : List ℕ)
    → (IsOk r ↔ ((u : List ℕ) × (parsed text ≡ Some u))) → is_ok r ≡ false
    → (g : Gfid) → text ≡ gfid_text g → ⊥
refused-is_none r text ok refused g same =
    let passes : is_ok r ≡ true = ok.1 (to_be_bytes w128 g.0, ap parsed same ∙ parsed-gfid_text g) in
    cc

-- the number of the UUID of a gfid's text is the gfid's
pub number_of_text :
    (g : Gfid) (text uuid : List ℕ) (n : ℕ) → g.0 < 2 ^ 128 → text ≡ gfid_text g
    → Some uuid ≡ parsed text → n ≡ from_be_bytes w128 uuid → n ≡ g.0
number_of_text g text uuid n fits same is_parsed is_number =
    let bytes : Some uuid ≡ Some (to_be_bytes w128 g.0) = is_parsed ∙ ap parsed same ∙ parsed-gfid_text g in
    let is_bytes : uuid ≡ to_be_bytes w128 g.0 = cc in
    is_number ∙ ap (from_be_bytes w128) is_bytes ∙ from_be_bytes-to_be_bytes g.0 fits

pub bytes_differ : (xs ys : List ℕ) → bytes_eq xs ys ≡ false → xs ≡ ys → ⊥
bytes_differ xs ys differ same =
    let equal : bytes_eq xs ys ≡ true = ap (bytes_eq xs) (sym same) ∙ nat_list_eq_equiv.refl xs in
    cc
