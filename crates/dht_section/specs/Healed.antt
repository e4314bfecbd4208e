-- Directories that are whole: what a heal leaves.
use Rattle.std.specs.Prelude.{ℕ, ◌<◌, ◌≡◌, true, is_some, Some}
use Rattle.dht_types.specs.Gfid.{Entry}
use Rattle.dht_types.specs.Tree.{Tree, IsDir}
use Rattle.dht_types.specs.declared.identifiers.Gfid.{Gfid}
use Rattle.dht_xattr.specs.Layout.{HasHole, HasOverlap}
use Rattle.dht_section.specs.Disk.{Disk, dir_at, layout_of}

-- every brick has a copy of the directory, and each hash is in the range of one of them
pub record IsWhole (d : Disk) (g : Gfid) : Type 0 where
  pub copies : (b : ℕ) → b < d.count → is_some (dir_at d b g) ≡ true
  pub no_hole : HasHole (layout_of d g) → ⊥
  pub no_overlap : HasOverlap (layout_of d g) → ⊥

-- the second directory is the first, or stands above it in the tree
pub data IsAbove (t : Tree) (g : Gfid) : Gfid → Type 0 where
  Self : IsAbove t g g
  Above : (e : Entry) (p : Gfid) → IsAbove t g p → t.names e ≡ Some (IsDir p) → IsAbove t g e.0

-- the directory is whole, and so is each above it
abbrev pub IsHealed : Disk → Tree → Gfid → Type 0
IsHealed d t g = (p : Gfid) → IsAbove t g p → IsWhole d p
