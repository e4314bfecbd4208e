-- The value of a linkto file: the name of the brick that has the file, and a zero byte.
use Rattle.std.specs.Prelude.{ℕ, ◌-◌, Bool, if◌then◌else◌, Option, List, [], ◌∷◌, ◌++◌, length, take, drop, unwrap_or, slice_get, position}
use Rattle.std.specs.Str.{bytes_eq}

-- the value that names a brick, by its number among these names
abbrev pub linkto_value : List (List ℕ) → ℕ → List ℕ
linkto_value names brick = unwrap_or (slice_get names brick) [] ++ 0 ∷ []

abbrev pub ends_in_zero : List ℕ → Bool
ends_in_zero value = bytes_eq (drop (length value - 1) value) (0 ∷ [])

-- the value less one zero byte at its end, if it has one
abbrev pub without_zero : List ℕ → List ℕ
without_zero value = if ends_in_zero value then take (length value - 1) value else value

-- the brick that a value names, if it names one
abbrev pub linked_brick : List (List ℕ) → List ℕ → Option ℕ
linked_brick names value = position (λ name. bytes_eq name (without_zero value)) names
