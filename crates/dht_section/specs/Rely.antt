-- What all others together may do between two requests of mine.
use Rattle.std.specs.Prelude.{ℕ, Bool, true, ◌<◌, ◌≤◌, ◌≡◌, ◌≢◌, Option, Some, None, List}
use Rattle.dht_types.specs.Gfid.{Entry}
use Rattle.dht_types.specs.History.{PendingCall, IsAlone}
use Rattle.dht_types.specs.Tree.{Tree, Descent}
use Rattle.dht_types.specs.declared.identifiers.Gfid.{Gfid}
use Rattle.dht_types.specs.declared.identifiers.BrickNo.{BrickNo}
use Rattle.dht_types.specs.declared.locks.Key.{Key}
use Rattle.dht_types.specs.declared.stored.DirRecord.{DirRecord}
use Rattle.dht_types.specs.declared.stored.Record.{Record}
use Rattle.dht_types.specs.declared.stored.Record.TheVariants as stored
use Rattle.dht_section.specs.Disk.{Disk, slot_at, file_at, dir_at, range_of, holders}
use Rattle.dht_section.specs.Files.{NoLink, NoCopy}
use Rattle.dht_section.specs.Planned.{bounds, AllPlanned}
use Rattle.dht_section.specs.Scene.{Scene, HoldsDir, HoldsAlone, HoldsName, Guards, NameStands}
use Rattle.dht_section.specs.Shapes.{NameShape, Folder, Grows}
use Rattle.dht_section.specs.Views.{core, links_to, view_of}

-- a record without its bytes: what only who guards a name of the file may change
pub data Outline : Type 0 where
  NoRecord : Outline
  IsLive : ℕ → Outline
  IsMoving : ℕ → BrickNo → Outline
  IsStandby : ℕ → BrickNo → Gfid → List ℕ → Outline
  IsForward : ℕ → BrickNo → Outline

abbrev pub outline : Option Record → Outline
outline None = NoRecord
outline (Some (stored.Live hop bytes)) = IsLive hop
outline (Some (stored.Moving hop t bytes)) = IsMoving hop t
outline (Some (stored.Standby c)) = IsStandby c.hop c.source c.dir c.name
outline (Some (stored.Forward hop brick)) = IsForward hop brick

-- a copy of a directory stays, but that its commit word may be cleared
pub record CopyStays (r q : DirRecord) : Type 0 where
  pub place : q.place ≡ r.place
  pub depth : q.depth ≡ r.depth
  pub hashes : bounds (range_of (Some q)) ≡ bounds (range_of (Some r))

-- lines of others leave my call as it is, but for the count of its steps
pub record SameCall (r q : PendingCall) : Type 0 where
  pub number : q.number ≡ r.number
  pub call : q.call ≡ r.call
  pub since : q.since ≡ r.since
  pub alone : q.alone ≡ r.alone
  pub is_first : q.is_first ≡ r.is_first
  pub was_down : q.was_down ≡ r.was_down
  pub has_failed : q.has_failed ≡ r.has_failed
  pub deeds : q.deeds ≡ r.deeds

-- the gfid is used as a file's: the tree has bytes of it, or a brick has a record or a seal
pub data IsFileUsed (d : Disk) (t : Tree) (f : Gfid) : Type 0 where
  ByBytes : t.bytes f ≢ None → IsFileUsed d t f
  ByRecord : (b : ℕ) (r : Record) → b < d.count → file_at d b f ≡ Some r → IsFileUsed d t f
  BySeal : (view_of d f).sealed ≡ true → IsFileUsed d t f

-- the file has no name on any brick, and gets none: it is no new one
pub record IsNameless (d : Disk) (t : Tree) (f : Gfid) : Type 0 where
  pub used : IsFileUsed d t f
  pub links : NoLink d.count (view_of d f)
  pub copies : NoCopy d.count (view_of d f)

-- nothing was done meanwhile: the tree is as it was, and what each brick stores
pub record IsStill (s t : Scene) : Type 0 where
  pub before : IsAlone s.history s.mine
  pub tree : t.history.tree ≡ s.history.tree
  pub stores : (b : ℕ) → (t.disk.brick b).store ≡ (s.disk.brick b).store

pub record Rely (s t : Scene) : Type 0 where
  pub who : t.who ≡ s.who
  pub mine : SameCall s.mine t.mine
  pub count : t.disk.count ≡ s.disk.count
  pub run : t.history.run ≡ s.history.run
  pub weights : t.history.weights ≡ s.history.weights
  pub locks : (b : ℕ) (key : Key) → holders t.disk b key s.who.0 ≡ holders s.disk b key s.who.0
  -- a name that I guard keeps its shape, or others finish what may be finished; and its linktos
  pub names : (e : Entry) (h : NameShape)
      → Guards s e → NameStands s e h → (k : NameShape) × Grows h k × NameStands t e k
  pub slots : (e : Entry) (b : ℕ)
      → Guards s e → core (slot_at t.disk b e) ≡ core (slot_at s.disk b e)
      → slot_at t.disk b e ≡ slot_at s.disk b e
  -- the record of a file on the brick where a name that I guard is it, keeps all but its bytes
  pub outlines : (e : Entry) (b : ℕ) (f : Gfid)
      → Guards s e → b < s.disk.count → links_to f (slot_at s.disk b e) ≡ true
      → outline (file_at t.disk b f) ≡ outline (file_at s.disk b f)
  -- a directory that I hold stays, with its ranges; a copy
  -- may be added, whose range takes no hash from another
  pub dirs : (g : Gfid) (b : ℕ) (r : DirRecord)
      → HoldsDir s g → dir_at s.disk b g ≡ Some r
      → (q : DirRecord) × (dir_at t.disk b g ≡ Some q) × CopyStays r q
  pub added : (g : Gfid) (b : ℕ) (r : DirRecord)
      → HoldsDir s g → dir_at s.disk b g ≡ None → dir_at t.disk b g ≡ Some r
      → AllPlanned t.disk t.history.weights g
  pub known : (g : Gfid)
      → HoldsDir s g → s.history.tree.dirs g ≡ true → t.history.tree.dirs g ≡ true
  -- one that I hold alone, and whose name I hold, keeps its copies and gets none
  pub both : (e : Entry) (g : Gfid) (on : ℕ → Bool)
      → HoldsName s e → HoldsAlone s g → NameStands s e (Folder g on) → NameStands t e (Folder g on)
  -- what needs no lock: ranges that are all planned
  -- stay so, and a directory stands where it was made
  pub planned : (g : Gfid)
      → AllPlanned s.disk s.history.weights g → AllPlanned t.disk t.history.weights g
  pub made : (g : Gfid) (x : Descent)
      → s.history.tree.descents g ≡ Some x → t.history.tree.descents g ≡ Some x
  -- nobody does anything while my call is alone
  pub still : IsAlone t.history t.mine → IsStill s t
  pub used : (f : Gfid) → IsFileUsed s.disk s.history.tree f → IsFileUsed t.disk t.history.tree f
  pub sealed : (f : Gfid) → (view_of s.disk f).sealed ≡ true → (view_of t.disk f).sealed ≡ true
  pub nameless : (f : Gfid)
      → IsNameless s.disk s.history.tree f → IsNameless t.disk t.history.tree f
  pub later : s.history.size ≤ t.history.size
  pub past : (j : ℕ) → j ≤ s.history.size → t.history.past j ≡ s.history.past j
