-- A layout: the range of each brick, in the bricks' order.
use Rattle.std.specs.Prelude.{ℕ, ◌≡◌, ◌^◌, ◌≤◌, ◌<◌, Option, List, position, count_by}
use Rattle.dht_xattr.specs.declared.range.Range.{Range}
use Rattle.dht_xattr.specs.Range.{contains}

-- the first brick whose range contains the hash
abbrev pub holder : List (Option Range) → ℕ → Option ℕ
holder ranges hash = position (λ range. contains range hash) ranges

-- in how many ranges a hash is
abbrev pub covers : List (Option Range) → ℕ → ℕ
covers ranges hash = count_by (λ range. contains range hash) ranges

-- some hash is in no range
abbrev pub HasHole : List (Option Range) → Type 0
HasHole ranges = (hash : ℕ) × (hash < 2 ^ 32) × (covers ranges hash ≡ 0)

-- some hash is in two ranges
abbrev pub HasOverlap : List (Option Range) → Type 0
HasOverlap ranges = (hash : ℕ) × (hash < 2 ^ 32) × (2 ≤ covers ranges hash)
