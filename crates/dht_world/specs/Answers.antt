-- What calls answered, as a world keeps it.
use Rattle.std.specs.Prelude.{ℕ, ◌-◌, nat_eq, if◌then◌else◌, Option, None, List, slice_get}
use Rattle.std.specs.Option.{option_flatten}
use Rattle.dht_types.specs.declared.identifiers.Gfid.{Gfid}

-- what the call of this number answered, where the calls answered these, the first call first
abbrev pub answered_in : List (Option Gfid) → ℕ → Option Gfid
answered_in answers k = if nat_eq k 0 then None else option_flatten (slice_get answers (k - 1))
