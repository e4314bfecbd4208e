-- What a reader of lines has of its input, and what cutting off the next line means.
use Rattle.std.specs.Prelude.{◌≡◌, ◌≢◌, ℕ, ◌+◌, ◌<◌, ◌≤◌, ◌⊎◌, Option, List, ◌∷◌, [], ◌++◌, length, take, slice_index, All}
use Rattle.dht_sched.specs.declared.schedule.TheConstants.{LINE_LIMIT}
use Rattle.dht_run.specs.declared.line_reader.TheConstants.{INPUT_LIMIT}
use Rattle.dht_run.specs.Outside.{before_told}

-- a reader of lines, as its callers see it
pub record Reader : Type 0 where
  pub line : List ℕ  -- the line that was cut off last, without its newline
  pub pending : List ℕ  -- the bytes that are held, not yet cut
  pub cut : ℕ  -- how many bytes of the input were cut into lines

-- no byte is a newline
abbrev pub HasNoNewline : List ℕ → Type 0
HasNoNewline bytes = All (λ b. b ≢ 10) bytes

-- what is to be cut, where the source tells the bytes that it has left
abbrev pub input_of : Reader → Option (List ℕ) → Option (List ℕ)
input_of reader left = before_told reader.pending left

-- a line of this length, after so many bytes of the input, is within the limits with its newline
abbrev pub IsWithinLimits : ℕ → ℕ → Type 0
IsWithinLimits cut len = (len + 1 ≤ LINE_LIMIT) × (cut + len + 1 ≤ INPUT_LIMIT)

-- after so many bytes, this input goes on, and not with a whole line within the limits
pub record HasNoLine (cut : ℕ) (input : List ℕ) : Type 0 where
  pub goes_on : input ≢ []
  pub no_line :
      (line rest : List ℕ) → input ≡ line ++ 10 ∷ rest → HasNoNewline line
      → ¬ IsWithinLimits cut (length line)

-- a line was cut off the input
pub record CutsLine (old new : Reader) (variant_before left_after : Option (List ℕ)) : Type 0 where
  pub no_newline : HasNoNewline new.line
  pub prefix :
      input_of old variant_before ≡ before_told (new.line ++ 10 ∷ []) (input_of new left_after)
  pub counted : new.cut ≡ old.cut + length new.line + 1
  pub within : IsWithinLimits old.cut (length new.line)

-- nothing was cut off the input
pub record CutsNothing (old new : Reader) (variant_before left_after : Option (List ℕ))
    : Type 0 where
  pub line : new.line ≡ []
  pub input : input_of new left_after ≡ input_of old variant_before
  pub counted : new.cut ≡ old.cut

-- the first newline stands at this place
pub record IsFirstNewline (bytes : List ℕ) (at : ℕ) : Type 0 where
  pub within : at < length bytes
  pub newline : slice_index bytes at ≡ 10
  pub before : HasNoNewline (take at bytes)

-- the bytes that are held are as many as a line, or the whole input, may have
abbrev pub IsFull : Reader → Type 0
IsFull r =
    (0 < length r.pending)
    × ((LINE_LIMIT ≤ length r.pending) ⊎ (INPUT_LIMIT ≤ r.cut + length r.pending))

-- this many bytes of the source were added to those that are held
pub record Adds (old new : Reader) (n : ℕ) (variant_before left_after : Option (List ℕ))
    : Type 0 where
  pub added : List ℕ
  pub many : length added ≡ n
  pub held : new.pending ≡ old.pending ++ added
  pub given : variant_before ≡ before_told added left_after
