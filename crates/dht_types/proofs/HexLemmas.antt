-- A number's hexadecimal digits are those of its bytes, and its bytes are read back.
use Rattle.std.proofs.Common.{◌≡◌, ℕ, zero, suc, ◌+◌, ◌-◌, ◌*◌, ◌/◌, ◌%◌, ◌^◌, ◌<◌, List, [], ◌∷◌, ◌++◌, append_assoc, slice_index, arith, refl, sym, ap, ◌∙◌}
use Rattle.std.proofs.Math.Nat.{div-div-eq-div-mul, pow-suc, pow-succ', suc-sub-suc, sub-zero, mod-eq_of_lt}
use Rattle.std.proofs.Math.Arith.{mod-mul}
use Rattle.std.specs.Int.{byte_at, byte_worth, bytes_high_first, sum_through, to_be_bytes, from_be_bytes, w128}
use Rattle.dht_types.specs.Text.{hex_digit, hex_bytes, hex_number}

-- the byte above the lowest
byte_above : (k n : ℕ) → byte_at (suc k) n ≡ byte_at k (n / 256)
byte_above zero n = refl
byte_above (suc k) n =
    ap (λ m. m % 256) (ap (λ p. n / p) (pow-succ' 256 (suc k)) ∙ sym (div-div-eq-div-mul n 256 (256 ^ suc k)))

pub byte_small : (k n : ℕ) → byte_at k n < 256
byte_small zero n = omega arith
byte_small (suc k) n = omega arith

-- the lowest byte comes last
bytes-last : (k n : ℕ) → bytes_high_first (suc k) n ≡ bytes_high_first k (n / 256) ++ (n % 256) ∷ []
bytes-last zero n = refl
bytes-last (suc k) n = rw (byte_above k n) (ap (λ bytes. byte_at k (n / 256) ∷ bytes) (bytes-last k n))

hex_bytes-append : (xs ys : List ℕ) → hex_bytes (xs ++ ys) ≡ hex_bytes xs ++ hex_bytes ys
hex_bytes-append [] ys = refl
hex_bytes-append (x ∷ xs) ys = ap (λ rest. hex_digit (x / 16) ∷ hex_digit (x % 16) ∷ rest) (hex_bytes-append xs ys)

-- the digits of a number are those of its bytes
pub hex_number_lem : (k n : ℕ) → hex_number (k + k) n ≡ hex_bytes (bytes_high_first k n)
unfolding hex_number
hex_number_lem zero n = refl
hex_number_lem (suc k) n =
    let two_more : suc k + suc k ≡ suc (suc (k + k)) = omega arith in
    let high : n / 16 / 16 ≡ n / 256 = div-div-eq-div-mul n 16 16 in
    let middle : n / 16 % 16 ≡ n % 256 / 16 = omega arith in
    let low : n % 16 ≡ n % 256 % 16 = omega arith in
    ap (λ m. hex_number m n) two_more
    ∙ append_assoc (hex_number (k + k) (n / 16 / 16)) (hex_digit (n / 16 % 16) ∷ []) (hex_digit (n % 16) ∷ [])
    ∙ ap (λ m. hex_number (k + k) m ++ hex_digit (n / 16 % 16) ∷ hex_digit (n % 16) ∷ []) high
    ∙ ap (λ ds. ds ++ hex_digit (n / 16 % 16) ∷ hex_digit (n % 16) ∷ []) (hex_number_lem k (n / 256))
    ∙ ap (λ d. hex_bytes (bytes_high_first k (n / 256)) ++ hex_digit d ∷ hex_digit (n % 16) ∷ []) middle
    ∙ ap (λ d. hex_bytes (bytes_high_first k (n / 256)) ++ hex_digit (n % 256 / 16) ∷ hex_digit d ∷ []) low
    ∙ sym (hex_bytes-append (bytes_high_first k (n / 256)) ((n % 256) ∷ []))
    ∙ ap hex_bytes (sym (bytes-last k n))

-- a sum with its first part apart
sum_through-suc : (f : ℕ → ℕ) (k : ℕ) → sum_through f (suc k) ≡ f 0 + sum_through (λ i. f (suc i)) k
sum_through-suc f zero = refl
sum_through-suc f (suc k) = omega (arith, sum_through-suc f k)

power_positive : (k : ℕ) → 0 < 256 ^ k
power_positive zero = omega arith
power_positive (suc k) = omega (arith, pow-suc 256 k, power_positive k)

read_back :
    (k n : ℕ)
    → sum_through (λ i. byte_worth (k - i) (slice_index (bytes_high_first (suc k) n) i)) k
    ≡ n % 256 ^ suc k
read_back zero n = refl
read_back (suc k) n =
    let bytes = bytes_high_first (suc k) n in
    let f : ℕ → ℕ = λ i. byte_worth (suc k - i) (slice_index (byte_at (suc k) n ∷ bytes) i) in
    let rest : sum_through (λ i. byte_worth (suc k - suc i) (slice_index bytes i)) k ≡ n % 256 ^ suc k = simp suc-sub-suc (read_back k n) in
    let first : f 0 ≡ n / 256 ^ suc k % 256 * 256 ^ suc k = simp sub-zero in
    sum_through-suc f k
    ∙ ap (λ m. m + sum_through (λ i. f (suc i)) k) first
    ∙ ap (λ m. n / 256 ^ suc k % 256 * 256 ^ suc k + m) rest
    ∙ sym (mod-mul n {m = 256} {c = 256 ^ suc k} (omega arith) (power_positive (suc k)))
    ∙ ap (λ p. n % p) (sym (pow-succ' 256 (suc k)))

pub from_be_bytes-to_be_bytes : (n : ℕ) → n < 2 ^ 128 → from_be_bytes w128 (to_be_bytes w128 n) ≡ n
from_be_bytes-to_be_bytes n fits = read_back 15 n ∙ mod-eq_of_lt fits
