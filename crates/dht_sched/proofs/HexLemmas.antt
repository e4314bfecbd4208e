-- The digits of the crate hex are those of a gfid's text.
use Rattle.std.proofs.Common.{◌≡◌, ℕ, zero, suc, ◌<◌, ◌/◌, ◌%◌, List, [], ◌∷◌, slice_index, refl, sym, ◌∙◌, arith}
use Rattle.std.specs.Int.{to_be_bytes, w32}
use Rattle.std.specs.List.{AllByRecursion}
use Rattle.hex.specs.Hex.{lower_digits, encode_lower, encode_with}
use Rattle.dht_types.specs.Text.{hex_digit, hex_bytes, hex_number}
use Rattle.dht_types.proofs.HexLemmas.{hex_number_lem, byte_small}

digit_is : (d : ℕ) → d < 16 → slice_index lower_digits d ≡ hex_digit d
digit_is zero h = refl
digit_is (suc zero) h = refl
digit_is (suc (suc zero)) h = refl
digit_is (suc (suc (suc zero))) h = refl
digit_is (suc (suc (suc (suc zero)))) h = refl
digit_is (suc (suc (suc (suc (suc zero))))) h = refl
digit_is (suc (suc (suc (suc (suc (suc zero)))))) h = refl
digit_is (suc (suc (suc (suc (suc (suc (suc zero))))))) h = refl
digit_is (suc (suc (suc (suc (suc (suc (suc (suc zero)))))))) h = refl
digit_is (suc (suc (suc (suc (suc (suc (suc (suc (suc zero))))))))) h = refl
digit_is (suc (suc (suc (suc (suc (suc (suc (suc (suc (suc zero)))))))))) h = refl
digit_is (suc (suc (suc (suc (suc (suc (suc (suc (suc (suc (suc zero))))))))))) h = refl
digit_is (suc (suc (suc (suc (suc (suc (suc (suc (suc (suc (suc (suc zero)))))))))))) h = refl
digit_is (suc (suc (suc (suc (suc (suc (suc (suc (suc (suc (suc (suc (suc zero))))))))))))) h = refl
digit_is (suc (suc (suc (suc (suc (suc (suc (suc (suc (suc (suc (suc (suc (suc zero)))))))))))))) h = refl
digit_is (suc (suc (suc (suc (suc (suc (suc (suc (suc (suc (suc (suc (suc (suc (suc zero))))))))))))))) h = refl
digit_is (suc (suc (suc (suc (suc (suc (suc (suc (suc (suc (suc (suc (suc (suc (suc (suc d)))))))))))))))) h = absurd (omega arith)

pub encode_one : (b : ℕ) → b < 256 → encode_lower (b ∷ []) ≡ hex_bytes (b ∷ [])
unfolding encode_with
encode_one b small = rw (digit_is (b / 16) (omega arith), digit_is (b % 16) (omega arith)) refl

encode_all :
    (bytes : List ℕ) → AllByRecursion (λ b. b < 256) bytes → encode_lower bytes ≡ hex_bytes bytes
unfolding encode_with
encode_all [] small = refl
encode_all (b ∷ bytes) small =
    let fits : b < 256 = small.0 in
    let high : slice_index lower_digits (b / 16) ≡ hex_digit (b / 16) = digit_is (b / 16) (omega arith) in
    let low : slice_index lower_digits (b % 16) ≡ hex_digit (b % 16) = digit_is (b % 16) (omega arith) in
    let rest = encode_all bytes small.1 in
    cc

-- the digits of a word of 32 bits
pub encode_word : (n : ℕ) → encode_lower (to_be_bytes w32 n) ≡ hex_number 8 n
encode_word n = encode_all (to_be_bytes w32 n) (byte_small 3 n, (byte_small 2 n, (byte_small 1 n, (byte_small 0 n, tt)))) ∙ sym (hex_number_lem 4 n)
