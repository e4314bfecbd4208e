-- Ranges of a directory that are those of its plan.
use Rattle.std.specs.Prelude.{ℕ, ◌<◌, ◌≡◌, ◌⊎◌, Option, Some, None, List, slice_index_or}
use Rattle.dht_types.specs.declared.identifiers.Gfid.{Gfid}
use Rattle.dht_types.specs.declared.stored.DirRecord.{DirRecord}
use Rattle.dht_xattr.specs.Plan.{planned}
use Rattle.dht_xattr.specs.declared.range.Range.{Range}
use Rattle.dht_section.specs.Disk.{Disk, dir_at, range_of}

-- the hashes of a range, whatever its commit word
abbrev pub bounds : Option Range → Option (ℕ × ℕ)
bounds None = None
bounds (Some r) = Some (r.first, r.last)

-- each brick has the planned range of the directory, or none
abbrev pub AllPlanned : Disk → List ℕ → Gfid → Type 0
AllPlanned d weights g =
    (b : ℕ) (r : DirRecord) → b < d.count → dir_at d b g ≡ Some r
    → (bounds (range_of (Some r)) ≡ None)
    ⊎ (bounds (range_of (Some r)) ≡ bounds (slice_index_or (planned weights g) b None))
