-- A range of hashes and its 16 bytes: four numbers
-- below 2 ^ 32, each as four bytes, the highest first.
use Rattle.std.specs.Prelude.{ℕ, ◌+◌, ◌*◌, ◌/◌, ◌%◌, ◌^◌, ◌≤◌, ◌<◌, ◌==◌, Bool, false, ◌&&◌, nat_le, if◌then◌else◌, Option, Some, None, List, [], ◌∷◌, ◌++◌, length, drop, slice_index}
use Rattle.dht_xattr.specs.declared.range.Range.{Range}

-- a number as four bytes
abbrev pub word : ℕ → List ℕ
word n = n / 2 ^ 24 % 2 ^ 8 ∷ n / 2 ^ 16 % 2 ^ 8 ∷ n / 2 ^ 8 % 2 ^ 8 ∷ n % 2 ^ 8 ∷ []

-- the number of the first four bytes
abbrev pub number : List ℕ → ℕ
number bytes =
    slice_index bytes 0 * 2 ^ 24 + slice_index bytes 1 * 2 ^ 16 + slice_index bytes 2 * 2 ^ 8
    + slice_index bytes 3

-- the bytes of a range: its commit word, the type 0, its first and its last hash
abbrev pub encoded : Range → List ℕ
encoded r = word r.commit ++ word 0 ++ word r.first ++ word r.last

-- whether the bytes are 16, of type 0, and the first hash is at most the last
abbrev pub is_encoded : List ℕ → Bool
is_encoded value =
    (length value == 16) && (number (drop 4 value) == 0)
    && nat_le (number (drop 8 value)) (number (drop 12 value))

-- the range of such bytes
abbrev pub decoded : List ℕ → Option Range
decoded value =
    if is_encoded value
    then Some
    (record {
      commit = number value;
      first = number (drop 8 value);
      last = number (drop 12 value);
    })
    else None

-- whether a hash is in a range; both ends are
abbrev pub contains : Option Range → ℕ → Bool
contains None hash = false
contains (Some r) hash = nat_le r.first hash && nat_le hash r.last

-- a range of hashes that is not empty
pub record IsRange (r : Range) : Type 0 where
  pub committed : r.commit < 2 ^ 32
  pub ordered : r.first ≤ r.last
  pub below : r.last < 2 ^ 32
