-- What one client's request may touch: what it guards by a lock, and what
-- nobody's knowledge rests on. What another client touches is what others may do.
use Rattle.std.specs.Prelude.{ℕ, Bool, true, ◌<◌, ◌≡◌, ◌≢◌, ◌⊎◌, Some, None}
use Rattle.dht_types.specs.Gfid.{Entry}
use Rattle.dht_types.specs.Tree.{Tree, Descent}
use Rattle.dht_types.specs.declared.identifiers.Gfid.{Gfid}
use Rattle.dht_types.specs.declared.locks.Key.{Key}
use Rattle.dht_types.specs.declared.stored.DirRecord.{DirRecord}
use Rattle.dht_section.specs.Disk.{Disk, slot_at, file_at, dir_at, holders}
use Rattle.dht_section.specs.Names.{StandsAs}
use Rattle.dht_section.specs.Planned.{AllPlanned}
use Rattle.dht_section.specs.Rely.{CopyStays, IsFileUsed, IsNameless, outline}
use Rattle.dht_section.specs.Scene.{Scene, HoldsAlone, Guards, NameStands}
use Rattle.dht_section.specs.Shapes.{NameShape, Folder, Grows}
use Rattle.dht_section.specs.Views.{core, cores_of, links_to, view_of}

-- who owns a file's records: each name that is the file's is guarded
abbrev pub OwnsFile : Scene → Gfid → Type 0
OwnsFile o f =
    (e : Entry) (b : ℕ) → b < o.disk.count → links_to f (slot_at o.disk b e) ≡ true → Guards o e

-- what a request may do to a directory that its client does
-- not hold alone: nothing, clear a word, or add a copy
pub data DirStays (o : Scene) (e : Disk) (b : ℕ) (g : Gfid) : Type 0 where
  Same : dir_at e b g ≡ dir_at o.disk b g → DirStays o e b g
  Cleared :
      (r q : DirRecord) → dir_at o.disk b g ≡ Some r → dir_at e b g ≡ Some q → CopyStays r q
      → DirStays o e b g
  Added : dir_at o.disk b g ≡ None → AllPlanned e o.history.weights g → DirStays o e b g

-- the name grew at most
abbrev pub Grew : Disk → Tree → Entry → NameShape → Type 0
Grew e u x h = (k : NameShape) × Grows h k × StandsAs e.count (cores_of e x) (u.names x) k

-- what a request of one client touches at most
pub record Touches (o : Scene) (e : Disk) (u : Tree) : Type 0 where
  pub count : e.count ≡ o.disk.count
  pub locks : (c b : ℕ) (key : Key) → c ≢ o.who.0 → holders e b key c ≡ holders o.disk b key c
  pub names : (x : Entry) (h : NameShape) → NameStands o x h → Guards o x ⊎ Grew e u x h
  pub slots : (x : Entry) (b : ℕ)
      → core (slot_at e b x) ≡ core (slot_at o.disk b x)
      → Guards o x ⊎ (slot_at e b x ≡ slot_at o.disk b x)
  pub outlines : (b : ℕ) (f : Gfid)
      → b < o.disk.count → OwnsFile o f ⊎ (outline (file_at e b f) ≡ outline (file_at o.disk b f))
  pub dirs : (g : Gfid) (b : ℕ) → HoldsAlone o g ⊎ DirStays o e b g
  -- a name that is a directory's keeps its copies, unless its lock is mine or that of the directory
  pub both : (x : Entry) (g : Gfid) (on : ℕ → Bool)
      → NameStands o x (Folder g on)
      → Guards o x ⊎ HoldsAlone o g ⊎ StandsAs e.count (cores_of e x) (u.names x) (Folder g on)
  pub known : (g : Gfid) → o.history.tree.dirs g ≡ true → HoldsAlone o g ⊎ (u.dirs g ≡ true)
  pub planned : (g : Gfid)
      → AllPlanned o.disk o.history.weights g → AllPlanned e o.history.weights g
  pub made : (g : Gfid) (x : Descent)
      → o.history.tree.descents g ≡ Some x → u.descents g ≡ Some x
  pub used : (f : Gfid) → IsFileUsed o.disk o.history.tree f → IsFileUsed e u f
  pub sealed : (f : Gfid) → (view_of o.disk f).sealed ≡ true → (view_of e f).sealed ≡ true
  pub nameless : (f : Gfid) → IsNameless o.disk o.history.tree f → IsNameless e u f
