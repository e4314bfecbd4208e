-- The truth of a name and of a file's bytes, told from
-- all bricks, and that the bricks stand for a tree.
use Rattle.std.specs.Prelude.{ℕ, ◌<◌, ◌≡◌, ◌≢◌, ◌⊎◌, true, is_some, Option, Some, None, List}
use Rattle.dht_types.specs.Gfid.{Entry, home, anchor}
use Rattle.dht_types.specs.Tree.{Tree, Node, IsFile, IsDir}
use Rattle.dht_types.specs.declared.identifiers.Gfid.{Gfid}
use Rattle.dht_types.specs.declared.stored.Main.{Main}
use Rattle.dht_types.specs.declared.stored.Main.TheVariants.{Dir, File}
use Rattle.dht_types.specs.declared.stored.Standby.{Standby}
use Rattle.dht_types.specs.declared.stored.Standby.TheVariants.{StandLink, Copy}
use Rattle.dht_types.specs.declared.stored.Slot.{Slot}
use Rattle.dht_types.specs.declared.stored.Record.{Record}
use Rattle.dht_types.specs.declared.stored.Record.TheVariants.{Live, Moving, Standby as Copied}
use Rattle.dht_brick.specs.Contents.{bare}
use Rattle.dht_brick.specs.OpenRows.{registrations}
use Rattle.dht_brick.specs.Parts.{is_live}
use Rattle.dht_section.specs.Disk.{Disk, slot_at, file_at, dir_at, holder_of}

-- no brick shows anything
abbrev pub NoneShows : {A : Type 0} → ℕ → (ℕ → Option A) → Type 0
NoneShows count shown = (b : ℕ) → b < count → shown b ≡ None

-- some brick shows this, and none shows anything else
pub record AllShow {A : Type 0} (count : ℕ) (shown : ℕ → Option A) (x : A) : Type 0 where
  pub brick : ℕ
  pub there : brick < count
  pub shows : shown brick ≡ Some x
  pub same : (b : ℕ) (y : A) → b < count → shown b ≡ Some y → y ≡ x

-- the truth is what main parts show, or else what standby parts do,
-- or else nothing: there is none where several of a kind differ
abbrev pub TruthIs : {A : Type 0} → ℕ → (main standby : ℕ → Option A) → Option A → Type 0
TruthIs count main standby None = NoneShows count main × NoneShows count standby
TruthIs count main standby (Some x) =
    AllShow count main x ⊎ (NoneShows count main × AllShow count standby x)

-- what a name means: a file or a directory
pub data Meaning : Type 0 where
  AFile : Gfid → Meaning
  ADirectory : Gfid → Meaning

-- what a main part and a standby part show of their name: a linkto shows nothing
abbrev pub main_shows : Option Main → Option Meaning
main_shows (Some (File f over)) = Some (AFile f)
main_shows (Some (Dir g)) = Some (ADirectory g)
main_shows m = None

abbrev pub standby_shows : Option Standby → Option Meaning
standby_shows None = None
standby_shows (Some (StandLink f)) = Some (AFile f)
standby_shows (Some (Copy f)) = Some (AFile f)

-- what the tree says of a name
abbrev pub meaning_of : Option Node → Option Meaning
meaning_of None = None
meaning_of (Some (IsFile f)) = Some (AFile f)
meaning_of (Some (IsDir g)) = Some (ADirectory g)

-- the truth of a name is this
abbrev pub NameTruth : Disk → Entry → Option Node → Type 0
NameTruth d e node =
    TruthIs d.count (λ b. main_shows (slot_at d b e).main)
    (λ b. standby_shows (slot_at d b e).standby)
    (meaning_of node)

-- the bytes of a live or moving record, and those of a copy: a forward shows none
abbrev pub main_bytes : Option Record → Option (List ℕ)
main_bytes (Some (Live hop bytes)) = Some bytes
main_bytes (Some (Moving hop dest bytes)) = Some bytes
main_bytes r = None

abbrev pub standby_bytes : Option Record → Option (List ℕ)
standby_bytes (Some (Copied c)) = Some c.bytes
standby_bytes r = None

-- the truth of a file's bytes is this
abbrev pub FileTruth : Disk → Gfid → Option (List ℕ) → Type 0
FileTruth d f bytes =
    TruthIs d.count (λ b. main_bytes (file_at d b f)) (λ b. standby_bytes (file_at d b f)) bytes

-- a brick has bytes of the file
abbrev pub HasBytes : Disk → ℕ → Gfid → Type 0
HasBytes d b f =
    (is_some (main_bytes (file_at d b f)) ≡ true) ⊎ (is_some (standby_bytes (file_at d b f)) ≡ true)

-- the file has a name or a registration, or it is one of the tree of which a brick has bytes
pub data IsInUse (d : Disk) (t : Tree) (f : Gfid) : Type 0 where
  ByName : (e : Entry) → t.names e ≡ Some (IsFile f) → IsInUse d t f
  ByOpen : 0 < registrations (d.brick (anchor f d.count)).opens f → IsInUse d t f
  ByBytes : t.bytes f ≢ None → (b : ℕ) → b < d.count → HasBytes d b f → IsInUse d t f

-- the bricks stand for the tree: each name's truth is what the tree says
-- of it, a directory is one of the tree exactly where its home brick has
-- its record, and the truth of the bytes of each file in use is the tree's
pub record Stands (d : Disk) (t : Tree) : Type 0 where
  pub names : (e : Entry) → NameTruth d e (t.names e)
  pub dirs : (g : Gfid) → t.dirs g ≡ is_some (dir_at d (home g) g)
  pub bytes : (f : Gfid) → IsInUse d t f → FileTruth d f (t.bytes f)

-- the slot of a file's name, where nothing is under way
abbrev pub plain : Gfid → Slot
plain f = record { main = Some (File f None); standby = None }

-- and that of a directory's
abbrev pub folder : Gfid → Slot
folder g = record { main = Some (Dir g); standby = None }

-- a name stands once: on its holder, which has the live
-- record of the name's file, and on no other brick
pub record Placed (d : Disk) (e : Entry) : Type 0 where
  pub brick : ℕ
  pub there : brick < d.count
  pub holds : holder_of d e ≡ Some brick
  pub file : Gfid
  pub slot : slot_at d brick e ≡ plain file
  pub recorded : is_live (file_at d brick file) ≡ true
  pub alone : (b : ℕ) → b < d.count → b ≢ brick → slot_at d b e ≡ bare
