-- How words and names are spelled in a line.
use Rattle.std.specs.Prelude.{ℕ, Bool, ◌/◌, ◌%◌, ◌==◌, ◌<◌, ◌&&◌, not, nat_le, if◌then◌else◌, Option, Some, None, List, [], ◌∷◌, length, map, codes, decimal, All, IfSome}
use Rattle.std.specs.List.{flat_map, join_with_byte, slice_split}
use Rattle.dht_types.specs.Text.{hex_digit}

-- words, with one space between two
abbrev pub spaced : List (List ℕ) → List ℕ
spaced words = join_with_byte 32 words

-- the words of a line: what stands between its spaces
unfoldable pub words_of : List ℕ → List (List ℕ)
words_of line = slice_split (λ b. b == 32) line

-- the words of what is left of a line, if anything is
abbrev pub words_left : Option (List ℕ) → List (List ℕ)
words_left None = []
words_left (Some rest) = words_of rest

-- the bricks of a volume: how many there are, and the weight of each
abbrev pub bricks_words : List ℕ → List (List ℕ)
bricks_words w = decimal (length w) ∷ map decimal w

-- a byte that stands for itself in a name: it prints, and is no space and no `%`
abbrev pub is_plain : ℕ → Bool
is_plain b = nat_le 33 b && nat_le b 126 && not (b == 37)

-- any other byte is `%` and its two digits
unfoldable pub spelled_byte : ℕ → List ℕ
spelled_byte b = if is_plain b then b ∷ [] else 37 ∷ hex_digit (b / 16) ∷ hex_digit (b % 16) ∷ []

-- a name; the empty one is `%-`
abbrev pub spelled : List ℕ → List ℕ
spelled [] = codes "%-"
spelled (b ∷ bs) = flat_map spelled_byte (b ∷ bs)

-- the bytes that a name may have
abbrev pub AreBytes : List ℕ → Type 0
AreBytes name = All (λ b. b < 256) name

-- the name of a call, if it has one
abbrev pub name_words : Option (List ℕ) → List (List ℕ)
name_words None = []
name_words (Some name) = spelled name ∷ []

abbrev pub HasBytes : Option (List ℕ) → Type 0
HasBytes name = IfSome name AreBytes
