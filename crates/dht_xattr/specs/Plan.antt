-- How the hashes of a directory are shared among the bricks of a volume.
use Rattle.std.specs.Prelude.{ℕ, zero, suc, ◌+◌, ◌*◌, ◌/◌, ◌%◌, ◌^◌, ◌≡◌, ◌==◌, if◌then◌else◌, Option, Some, None, List, [], ◌∷◌, ◌++◌, length, take, drop, sum, sum_by, position, slice_index, slice_index_or}
use Rattle.dht_types.specs.declared.identifiers.Gfid.{Gfid}
use Rattle.dht_xattr.specs.declared.range.Range.{Range}
use Rattle.dht_xattr.specs.Range.{IsRange, encoded}

-- the bricks of weight above 0 in rising order, where the first of these weights is that of brick b
abbrev pub heavy_from : ℕ → List ℕ → List ℕ
heavy_from b [] = []
heavy_from b (zero ∷ ws) = heavy_from (suc b) ws
heavy_from b (suc w ∷ ws) = b ∷ heavy_from (suc b) ws

-- which of so many bricks comes first in a directory
abbrev pub turn : Gfid → ℕ → ℕ
turn dir count = dir.0 / 2 ^ 16 % 2 ^ 32 % count

-- the list turned so that its element at n comes first
abbrev pub rotated : ℕ → List ℕ → List ℕ
rotated n bricks = drop n bricks ++ take n bricks

-- the bricks of weight above 0, in the order in which a directory's hashes are dealt out
unfoldable pub order : List ℕ → Gfid → List ℕ
order weights dir = let bricks = heavy_from 0 weights in rotated (turn dir (length bricks)) bricks

-- how many hashes go to a brick that is not the last, by its part of all weight
abbrev pub share : List ℕ → ℕ → ℕ
share weights brick = 4294967295 * slice_index weights brick / sum weights

-- the first hash at a place of the order: the sum of the counts before it
abbrev pub start : List ℕ → List ℕ → ℕ → ℕ
start weights bricks place = sum_by (share weights) (take place bricks)

-- so many hashes from a first one on, if there are any
abbrev pub run_of : ℕ → ℕ → Option Range
run_of first zero = None
run_of first (suc more) = Some (record { commit = 0; first = first; last = first + more })

-- all hashes from a first one on
abbrev pub rest_from : ℕ → Option Range
rest_from first = Some (record { commit = 0; first = first; last = 4294967295 })

-- the range at a place of the order; the last takes all that is left
abbrev pub range_in_turn : List ℕ → List ℕ → ℕ → Option Range
range_in_turn weights bricks place =
    let first = start weights bricks place in
    if place + 1 == length bricks
    then rest_from first
    else run_of first (share weights (slice_index bricks place))

-- the range of a brick; one that has no place in the order has none
abbrev pub dealt_range : List ℕ → List ℕ → Option ℕ → Option Range
dealt_range weights bricks None = None
dealt_range weights bricks (Some place) = range_in_turn weights bricks place

-- the ranges of so many bricks, from brick b on
abbrev pub ranges_from : List ℕ → List ℕ → ℕ → ℕ → List (Option Range)
ranges_from weights bricks b zero = []
ranges_from weights bricks b (suc more) =
    dealt_range weights bricks (position (λ c. c == b) bricks)
    ∷ ranges_from weights bricks (suc b) more

-- the plan of a directory: the range of each brick
unfoldable pub planned : List ℕ → Gfid → List (Option Range)
planned weights dir = ranges_from weights (order weights dir) 0 (length weights)

-- the attribute that says a range, where there is one
abbrev pub value_of : Option Range → Option (List ℕ)
value_of None = None
value_of (Some r) = Some (encoded r)

-- the attribute that is planned for a brick
abbrev pub planned_value : List ℕ → Gfid → ℕ → Option (List ℕ)
planned_value weights dir b = value_of (slice_index_or (planned weights dir) b None)

-- a range that holds some hash, and that no run has settled
pub record IsPlanned (r : Range) : Type 0 where
  pub commit : r.commit ≡ 0
  pub range : IsRange r
