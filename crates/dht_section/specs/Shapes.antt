-- How a name stands on all bricks, and how the records of a file do, as data: each state that the
-- invariant allows is a variant. A request takes one to another.
use Rattle.std.specs.Prelude.{ℕ, Bool, true, false, ◌<◌, ◌≤◌, ◌≡◌, ◌≢◌, nat_eq, if◌then◌else◌, Option, Some, None, List}
use Rattle.dht_types.specs.Gfid.{home}
use Rattle.dht_types.specs.Tree.{Node, IsFile, IsDir}
use Rattle.dht_types.specs.declared.identifiers.Gfid.{Gfid}
use Rattle.dht_types.specs.declared.identifiers.BrickNo.{BrickNo}
use Rattle.dht_types.specs.declared.stored.Main.{Main}
use Rattle.dht_types.specs.declared.stored.Main.TheVariants.{Dir, File}
use Rattle.dht_types.specs.declared.stored.Standby.{Standby}
use Rattle.dht_types.specs.declared.stored.Standby.TheVariants.{StandLink, Copy}
use Rattle.dht_types.specs.declared.stored.Slot.{Slot}
use Rattle.dht_types.specs.declared.stored.StandbyRecord.{StandbyRecord}
use Rattle.dht_types.specs.declared.stored.Record.{Record}
use Rattle.dht_types.specs.declared.stored.Record.TheVariants as stored

-- how a name stands on all bricks
pub data NameShape : Type 0 where
  Bare : NameShape  -- nothing stands there
  Folder : Gfid → (ℕ → Bool) → NameShape  -- a directory, with copies on these bricks
  Plain : ℕ → Gfid → NameShape  -- a file, on this brick
  Marked : ℕ → Gfid → BrickNo → NameShape  -- marked for a rename to this other brick
  Contested : ℕ → Gfid → BrickNo → Gfid → NameShape  -- and readied there for this file
  Standing : ℕ → Gfid → NameShape  -- readied for a file of this brick, and nothing else
  Copied : ℕ → Gfid → ℕ → NameShape  -- a file that is copied, with its copy on this brick
  Committed : ℕ → Gfid → NameShape  -- the copy on this brick, and nothing else

-- v at brick b, and nothing elsewhere
abbrev pub here : {A : Type 0} → Option A → ℕ → ℕ → Option A
here v b i = if nat_eq i b then v else None

-- v, if it is there
abbrev pub when_on : {A : Type 0} → Bool → A → Option A
when_on true v = Some v
when_on false v = None

-- what a brick has of a name in this shape: its main part and its standby part
abbrev pub main_at : NameShape → ℕ → Option Main
main_at Bare i = None
main_at (Folder g on) i = when_on (on i) (Dir g)
main_at (Plain b f) i = here (Some (File f None)) b i
main_at (Marked b f x) i = here (Some (File f (Some x))) b i
main_at (Contested b f x g) i = here (Some (File f (Some x))) b i
main_at (Standing x g) i = None
main_at (Copied b f t) i = here (Some (File f None)) b i
main_at (Committed t f) i = None

abbrev pub standby_at : NameShape → ℕ → Option Standby
standby_at Bare i = None
standby_at (Folder g on) i = None
standby_at (Plain b f) i = None
standby_at (Marked b f x) i = None
standby_at (Contested b f x g) i = here (Some (StandLink g)) x.0 i
standby_at (Standing x g) i = here (Some (StandLink g)) x i
standby_at (Copied b f t) i = here (Some (Copy f)) t i
standby_at (Committed t f) i = here (Some (Copy f)) t i

-- both
abbrev pub core_at : NameShape → ℕ → Slot
core_at h i = record { main = main_at h i; standby = standby_at h i }

-- its bricks are there, and two that it names are two
abbrev pub NameFits : ℕ → NameShape → Type 0
NameFits count Bare = Unit {0}
NameFits count (Folder g on) =
    (home g < count) × (on (home g) ≡ true) × ((i : ℕ) → count ≤ i → on i ≡ false)
NameFits count (Plain b f) = b < count
NameFits count (Marked b f x) = (b < count) × (x.0 < count) × (x.0 ≢ b)
NameFits count (Contested b f x g) = (b < count) × (x.0 < count) × (x.0 ≢ b)
NameFits count (Standing x g) = x < count
NameFits count (Copied b f t) = (b < count) × (t < count) × (t ≢ b)
NameFits count (Committed t f) = t < count

-- what the tree has at a name in this shape
abbrev pub node_of : NameShape → Option Node
node_of Bare = None
node_of (Folder g on) = Some (IsDir g)
node_of (Plain b f) = Some (IsFile f)
node_of (Marked b f x) = Some (IsFile f)
node_of (Contested b f x g) = Some (IsFile f)
node_of (Standing x g) = Some (IsFile g)
node_of (Copied b f t) = Some (IsFile f)
node_of (Committed t f) = Some (IsFile f)

-- what others may make of a name that I guard: they
-- may finish a committed move, and heal a directory
abbrev pub Grows : NameShape → NameShape → Type 0
Grows (Folder g on) k =
    (more : ℕ → Bool) × (k ≡ Folder g more) × ((b : ℕ) → on b ≡ true → more b ≡ true)
Grows (Committed t f) k = (done : Bool) × (k ≡ (if done then Plain t f else Committed t f))
Grows h k = k ≡ h

-- how the records of a file stand on all bricks
pub data FileShape : Type 0 where
  Gone : FileShape  -- no brick has its bytes
  Live : ℕ → ℕ → List ℕ → FileShape  -- brick, hop, bytes
  Moving : ℕ → ℕ → BrickNo → List ℕ → FileShape  -- and where it is to go
  Copying : ℕ → ℕ → BrickNo → List ℕ → StandbyRecord → FileShape  -- and its copy there
  Moved : ℕ → StandbyRecord → FileShape  -- the copy on this brick alone: it is committed

-- a record, where it is no pointer
abbrev pub body : Option Record → Option Record
body (Some (stored.Forward hop brick)) = None
body r = r

-- the first, or else the second
abbrev pub either : {A : Type 0} → Option A → Option A → Option A
either None y = y
either (Some x) y = Some x

-- the record, but for pointers, that a brick has of a file in this shape
abbrev pub record_at : FileShape → ℕ → Option Record
record_at Gone i = None
record_at (Live b hop bytes) i = here (Some (stored.Live hop bytes)) b i
record_at (Moving b hop t bytes) i = here (Some (stored.Moving hop t bytes)) b i
record_at (Copying b hop t bytes c) i =
    either (here (Some (stored.Moving hop t bytes)) b i) (here (Some (stored.Standby c)) t.0 i)
record_at (Moved t c) i = here (Some (stored.Standby c)) t i

-- the brick that has the file
abbrev pub main_brick : FileShape → Option ℕ
main_brick Gone = None
main_brick (Live b hop bytes) = Some b
main_brick (Moving b hop t bytes) = Some b
main_brick (Copying b hop t bytes c) = Some b
main_brick (Moved t c) = None

-- the truth of its bytes
abbrev pub bytes_shown : FileShape → Option (List ℕ)
bytes_shown Gone = None
bytes_shown (Live b hop bytes) = Some bytes
bytes_shown (Moving b hop t bytes) = Some bytes
bytes_shown (Copying b hop t bytes c) = Some bytes
bytes_shown (Moved t c) = Some c.bytes

-- the hop of the record that has them
abbrev pub top_hop : FileShape → Option ℕ
top_hop Gone = None
top_hop (Live b hop bytes) = Some hop
top_hop (Moving b hop t bytes) = Some hop
top_hop (Copying b hop t bytes c) = Some hop
top_hop (Moved t c) = Some c.hop

-- its bricks are there, and two that it names are two
abbrev pub FileFits : ℕ → FileShape → Type 0
FileFits count Gone = Unit {0}
FileFits count (Live b hop bytes) = b < count
FileFits count (Moving b hop t bytes) = (b < count) × (t.0 < count) × (t.0 ≢ b)
FileFits count (Copying b hop t bytes c) = (b < count) × (t.0 < count) × (t.0 ≢ b)
FileFits count (Moved t c) = t < count
