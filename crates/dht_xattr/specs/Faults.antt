-- The tests by which a fault of a layout is found: it shows at the ends of some range.
use Rattle.std.specs.Prelude.{◌+◌, ◌==◌, Bool, false, ◌&&◌, ◌||◌, nat_lt, nat_le, Option, Some, None, List}
use Rattle.std.specs.List.{list_any}
use Rattle.dht_xattr.specs.declared.range.Range.{Range}
use Rattle.dht_xattr.specs.Layout.{covers}

-- whether there is a hash behind a range, and it is in none of these ranges
abbrev pub is_open_behind : List (Option Range) → Option Range → Bool
is_open_behind ranges None = false
is_open_behind ranges (Some r) = nat_lt r.last 4294967295 && (covers ranges (r.last + 1) == 0)

-- whether the first of a range is a hash, and in two of these ranges
abbrev pub is_shared_at_first : List (Option Range) → Option Range → Bool
is_shared_at_first ranges None = false
is_shared_at_first ranges (Some r) = nat_lt r.first 4294967296 && nat_le 2 (covers ranges r.first)

-- whether hash 0, or the one behind some range, is in no range
abbrev pub has_hole : List (Option Range) → Bool
has_hole ranges = (covers ranges 0 == 0) || list_any (is_open_behind ranges) ranges

-- whether the first hash of some range is in two ranges
abbrev pub has_overlap : List (Option Range) → Bool
has_overlap ranges = list_any (is_shared_at_first ranges) ranges
