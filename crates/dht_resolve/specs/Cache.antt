-- A cache of layouts: directories with their layouts, the oldest first.
use Rattle.std.specs.Prelude.{ℕ, ◌≡◌, ◌≤◌, List, [], ◌∷◌, ◌++◌, Option, Some, None, if◌then◌else◌, is_some, nat_lt, length, map, drop, slice_get}
use Rattle.std.specs.List.{IsDistinct}
use Rattle.std.specs.Map.{keys_of, lookup, set_value}
use Rattle.dht_types.specs.Gfid.{same_gfid}
use Rattle.dht_types.specs.declared.identifiers.Gfid.{Gfid}
use Rattle.dht_xattr.specs.declared.range.Range.{Range}
use Rattle.indexmap.specs.IndexMap.{IndexMap}

-- a directory and its layout
abbrev pub CachedLayout : Type 0
CachedLayout = Gfid × List (Option Range)

-- at most 256 directories, and none twice
pub record IsCache (cache : List CachedLayout) : Type 0 where
  pub few : length cache ≤ 256
  pub once : IsDistinct same_gfid (keys_of cache)

-- the layout of a directory, where it is in the cache
abbrev pub layout_at : List CachedLayout → Gfid → Option (List (Option Range))
layout_at cache dir = lookup (same_gfid dir) cache

-- without the oldest directory, where there are 256
abbrev pub with_room : List CachedLayout → List CachedLayout
with_room cache = if nat_lt (length cache) 256 then cache else drop 1 cache

-- a directory's layout is set: in its place, or else last, and the oldest makes room for it
abbrev pub cached : List CachedLayout → Gfid → List (Option Range) → List CachedLayout
cached cache dir layout =
    if is_some (layout_at cache dir)
    then set_value (same_gfid dir) cache layout
    else with_room cache ++ (dir, layout) ∷ []

-- there were 256 without dir, other was the oldest of them, and is gone
pub record GivesWay (old : List CachedLayout) (dir other : Gfid) (new : List CachedLayout)
    : Type 0 where
  pub full : length old ≡ 256
  pub absent : layout_at old dir ≡ None
  pub oldest : slice_get (keys_of old) 0 ≡ Some other
  pub gone : layout_at new other ≡ None

-- an entry that is kept under the number of a directory
abbrev pub shown : ℕ × List (Option Range) → CachedLayout
shown e = (record { 0 = e.0 }, e.1)

-- the entries of a map from the numbers of directories
abbrev pub each_shown : {S : Type 0} → IndexMap ℕ (List (Option Range)) S → List CachedLayout
each_shown m = map shown m.entries

-- the entries of such a map, where there is one
abbrev pub all_shown : {S : Type 0} → Option (IndexMap ℕ (List (Option Range)) S)
    → List CachedLayout
all_shown None = []
all_shown (Some m) = each_shown m
