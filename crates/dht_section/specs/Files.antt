-- The invariant of one file: its records, its names, its
-- copy, its pointers, who has it open, and its bytes.
use Rattle.std.specs.Prelude.{ℕ, ◌+◌, ◌<◌, ◌≤◌, ◌≡◌, ◌≢◌, ◌⊎◌, true, false, Option, Some, None, List, length, take}
use Rattle.dht_types.specs.Gfid.{Entry}
use Rattle.dht_types.specs.declared.identifiers.BrickNo.{BrickNo}
use Rattle.dht_types.specs.declared.stored.StandbyRecord.{StandbyRecord}
use Rattle.dht_types.specs.declared.stored.Record.{Record}
use Rattle.dht_types.specs.declared.stored.Record.TheVariants as stored
use Rattle.dht_brick.specs.FileRows.{copy_name}
use Rattle.dht_section.specs.Shapes.{FileShape, Gone, Live, Moving, Copying, Moved, FileFits, body, record_at, main_brick, bytes_shown, top_hop}
use Rattle.dht_section.specs.Views.{FileView}

-- a copy has the same bytes as its source below a place, and is no longer
pub record Agree (place : ℕ) (copy source : List ℕ) : Type 0 where
  pub same : take place copy ≡ take place source
  pub shorter : length copy ≤ length source

-- its records are those of this shape, and pointers
pub record RecordsAs (count : ℕ) (records : ℕ → Option Record) (h : FileShape) : Type 0 where
  pub fits : FileFits count h
  pub has : (b : ℕ) → b < count → body (records b) ≡ record_at h b

-- the name is the only one of the file, and is not marked
abbrev pub OnlyName : ℕ → FileView → ℕ → Entry → Type 0
OnlyName count v b e =
    (v.unmarked b e ≡ true) × ((i : ℕ) (x : Entry) → i < count → v.links i x ≡ true → x ≡ e)

-- the copy stands at this name on this brick, and nowhere else
abbrev pub OnlyCopy : ℕ → FileView → ℕ → Entry → Type 0
OnlyCopy count v t e =
    (v.copies t e ≡ true)
    × ((i : ℕ) (x : Entry) → i < count → v.copies i x ≡ true → (i ≡ t) × (x ≡ e))

-- it has no copy, and no name
abbrev pub NoCopy : ℕ → FileView → Type 0
NoCopy count v = (i : ℕ) (x : Entry) → i < count → v.copies i x ≡ false

abbrev pub NoLink : ℕ → FileView → Type 0
NoLink count v = (i : ℕ) (x : Entry) → i < count → v.links i x ≡ false

-- a copy that is not committed is dirty, or agrees
-- with its source up to where any client has copied
abbrev pub Agrees : (ℕ → ℕ) → StandbyRecord → List ℕ → Type 0
Agrees places c source = (c.is_dirty ≡ true) ⊎ ((who : ℕ) → Agree (places who) c.bytes source)

-- what its shape says of its names and copies
abbrev pub NamedAs : ℕ → FileView → (ℕ → ℕ → ℕ) → FileShape → Type 0
NamedAs count v places Gone = NoCopy count v
NamedAs count v places (Live b hop bytes) = NoCopy count v
-- a file that is moving has one name, and it has no copy yet
NamedAs count v places (Moving b hop t bytes) = NoCopy count v × (e : Entry) × OnlyName count v b e
-- or one at that very name, made from this brick, one hop above
NamedAs count v places (Copying b hop t bytes c) =
    (c.source.0 ≡ b) × (c.hop ≡ hop + 1)
    × OnlyName count v b (copy_name c) × OnlyCopy count v t.0 (copy_name c)
    × Agrees (places t.0) c bytes
-- a committed copy is clean, and stands at the name that it gives
NamedAs count v places (Moved t c) = (c.is_dirty ≡ false) × OnlyCopy count v t (copy_name c)

-- where a pointer (b, k) leads: to a record of at least that hop, to a copy of two more, or on
pub data Leads (v : FileView) (h : FileShape) (b k : ℕ) : Type 0 where
  ToMain : main_brick h ≡ Some b → (n : ℕ) → top_hop h ≡ Some n → k ≤ n → Leads v h b k
  ToMoved : (c : StandbyRecord) → h ≡ Moved b c → k ≤ c.hop → Leads v h b k
  ToCopy :
      (c : StandbyRecord) → v.records b ≡ Some (stored.Standby c) → k + 2 ≤ c.hop → Leads v h b k
  Onward :
      (n : ℕ) (next : BrickNo) → v.records b ≡ Some (stored.Forward n next) → k < n → Leads v h b k

-- each pointer of a file that has bytes leads on, and is not above the file
abbrev pub PointsOn : ℕ → FileView → FileShape → Type 0
PointsOn count v h =
    (i k n : ℕ) (b : BrickNo)
    → i < count → v.records i ≡ Some (stored.Forward k b) → top_hop h ≡ Some n
    → (b.0 < count) × (k ≤ n) × Leads v h b.0 k

-- some name is the file's, or its copy's
abbrev pub HasName : ℕ → FileView → Type 0
HasName count v =
    (i : ℕ) × (x : Entry) × (i < count) × ((v.links i x ≡ true) ⊎ (v.copies i x ≡ true))

-- no brick has the file's hop above top; places says
-- up to where each client has copied it to a brick
pub record FileInvariant (count top : ℕ) (places : ℕ → ℕ → ℕ) (v : FileView)
    (tree : Option (List ℕ)) : Type 0 where
  pub shape : FileShape
  pub records : RecordsAs count v.records shape
  pub low : (k : ℕ) → top_hop shape ≡ Some k → k ≤ top
  -- each name of it is on the brick that has it
  pub linked : (i : ℕ) (x : Entry) → i < count → v.links i x ≡ true → main_brick shape ≡ Some i
  pub names : NamedAs count v places shape
  pub points : PointsOn count v shape
  -- a sealed file has no name and no registration
  pub sealed : v.sealed ≡ true → NoLink count v × NoCopy count v × (v.opened ≡ 0)
  -- the bytes of a file that has a name or is open are the
  -- tree's; so are those of each file of the tree that has bytes
  pub truth : HasName count v → bytes_shown shape ≡ tree
  pub opened : 0 < v.opened → (bytes_shown shape ≡ tree) × (tree ≢ None)
  pub kept :
      (bytes shown : List ℕ) → tree ≡ Some bytes → bytes_shown shape ≡ Some shown → shown ≡ bytes
