-- All bricks at one time: what they have at a name, of a
-- file and of a directory, and how their locks are held.
use Rattle.std.specs.Prelude.{ℕ, zero, suc, ◌≡◌, nat_eq, Option, Some, None, List, [], ◌∷◌, ◌++◌}
use Rattle.dht_types.specs.Put.{put}
use Rattle.dht_types.specs.Gfid.{Entry, anchor}
use Rattle.dht_types.specs.declared.identifiers.Gfid.{Gfid}
use Rattle.dht_types.specs.declared.identifiers.ClientNo.{ClientNo}
use Rattle.dht_types.specs.declared.locks.Key.{Key}
use Rattle.dht_types.specs.declared.locks.Mode.{Mode}
use Rattle.dht_types.specs.declared.stored.DirRecord.{DirRecord}
use Rattle.dht_types.specs.declared.stored.Main.{Main}
use Rattle.dht_types.specs.declared.stored.Main.TheVariants.{File}
use Rattle.dht_types.specs.declared.stored.Slot.{Slot}
use Rattle.dht_types.specs.declared.stored.Record.{Record}
use Rattle.dht_hash.specs.DaviesMeyer.{dm}
use Rattle.dht_xattr.specs.Range.{decoded}
use Rattle.dht_xattr.specs.Layout.{holder}
use Rattle.dht_xattr.specs.declared.range.Range.{Range}
use Rattle.dht_brick.specs.Contents.{Contents, slot, dir, file}

-- all bricks
pub record Disk : Type 0 where
  pub count : ℕ
  pub brick : ℕ → Contents

-- the file of a main part, if it is a file
abbrev pub file_of_main : Option Main → Option Gfid
file_of_main (Some (File f over)) = Some f
file_of_main m = None

abbrev pub file_in : Slot → Option Gfid
file_in p = file_of_main p.main

-- what a brick has at a name, the file that the name is
-- there, and what it has of a file and of a directory
abbrev pub slot_at : Disk → ℕ → Entry → Slot
slot_at d b e = slot (d.brick b).store e

abbrev pub name_at : Disk → ℕ → Entry → Option Gfid
name_at d b e = file_in (slot_at d b e)

abbrev pub file_at : Disk → ℕ → Gfid → Option Record
file_at d b f = file (d.brick b).store f

abbrev pub dir_at : Disk → ℕ → Gfid → Option DirRecord
dir_at d b g = dir (d.brick b).store g

-- the range of hashes that an attribute gives a brick, if it gives one
unfoldable pub range_of_value : Option (List ℕ) → Option Range
range_of_value None = None
range_of_value (Some v) = decoded v

-- the range that a brick has of a directory, by the directory's record there
abbrev pub range_of : Option DirRecord → Option Range
range_of None = None
range_of (Some r) = range_of_value r.value

abbrev pub range_at : Disk → Gfid → ℕ → Option Range
range_at d g b = range_of (dir_at d b g)

-- the ranges of a directory on the bricks below a limit, in the bricks' order
unfoldable pub ranges_below : Disk → Gfid → ℕ → List (Option Range)
ranges_below d g zero = []
ranges_below d g (suc b) = ranges_below d g b ++ range_at d g b ∷ []

-- the layout of a directory: its range on each brick
abbrev pub layout_of : Disk → Gfid → List (Option Range)
layout_of d g = ranges_below d g d.count

-- the holder of a name: the first brick whose range of the directory contains the hash of the name
abbrev pub holder_of : Disk → Entry → Option ℕ
holder_of d e = holder (layout_of d e.0) (dm e.1)

-- how a client holds a lock: the locks of a directory and its names stand on the directory's anchor
abbrev pub lock_at : Disk → Gfid → Key → ClientNo → Option Mode
lock_at d g key c = (d.brick (anchor g d.count)).locks key c.0

-- how each client holds a lock on a brick
abbrev pub holders : Disk → ℕ → Key → ℕ → Option Mode
holders d b key = (d.brick b).locks key

-- one brick changed, and the others did not
pub record ChangesOneBrick (d : Disk) (b : ℕ) (new : Contents) (e : Disk) : Type 0 where
  pub count : e.count ≡ d.count
  pub brick : e.brick ≡ put nat_eq d.brick b new
