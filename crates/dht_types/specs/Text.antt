-- Hexadecimal texts.
use Rattle.std.specs.Prelude.{ℕ, ◌+◌, ◌/◌, ◌%◌, if◌then◌else◌, nat_lt, List, [], ◌∷◌, ◌++◌, take, drop, suc, zero}
use Rattle.dht_types.specs.declared.identifiers.Gfid.{Gfid}

-- a digit from 0 to 15, in lower case
abbrev pub hex_digit : ℕ → ℕ
hex_digit d = if nat_lt d 10 then 48 + d else 87 + d

-- each byte as two digits
abbrev pub hex_bytes : List ℕ → List ℕ
hex_bytes [] = []
hex_bytes (b ∷ bs) = hex_digit (b / 16) ∷ hex_digit (b % 16) ∷ hex_bytes bs

-- the last so many digits of a number, the highest first
unfoldable pub hex_number : ℕ → ℕ → List ℕ
hex_number zero n = []
hex_number (suc k) n = hex_number k (n / 16) ++ hex_digit (n % 16) ∷ []

-- 32 digits in groups of 8, 4, 4, 4 and 12, with a hyphen between two groups
abbrev pub hyphenated : List ℕ → List ℕ
hyphenated h =
    take 8 h ++ 45 ∷ take 4 (drop 8 h) ++ 45 ∷ take 4 (drop 12 h) ++ 45 ∷ take 4 (drop 16 h) ++ 45
    ∷ drop 20 h

-- the text of a gfid
unfoldable pub gfid_text : Gfid → List ℕ
gfid_text g = hyphenated (hex_number 32 g.0)
