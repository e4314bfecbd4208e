-- What must hold when a request about a file, or about who has it open, is sent.
use Rattle.std.specs.Prelude.{ℕ, ◌<◌, ◌≡◌, ◌⊎◌, true, Some, List, [], is_some}
use Rattle.std.specs.FinMap.{contains_key}
use Rattle.dht_types.specs.Content.{read_at}
use Rattle.dht_types.specs.Gfid.{Entry, anchor}
use Rattle.dht_types.specs.declared.identifiers.CallNo.{CallNo}
use Rattle.dht_types.specs.declared.identifiers.Gfid.{Gfid}
use Rattle.dht_types.specs.declared.locks.Key.TheVariants.{Rebalance}
use Rattle.dht_types.specs.declared.stored.StandbyRecord.{StandbyRecord}
use Rattle.dht_types.specs.declared.stored.Record.TheVariants as stored
use Rattle.dht_brick.specs.Named.{file_of}
use Rattle.dht_brick.specs.OpenRows.{registration}
use Rattle.dht_brick.specs.declared.requests.FileRequest.{FileRequest}
use Rattle.dht_brick.specs.declared.requests.FileRequest.TheVariants.{Read, Write, LockedWrite, Truncate, LockedTruncate, Stat, Mark, MakeStandby, StandbyWrite, CopyWrite, ClearDirty, Promote, Drop}
use Rattle.dht_section.specs.Disk.{file_at}
use Rattle.dht_section.specs.Acts.{TakesFile}
use Rattle.dht_section.specs.Claims.{places_of}
use Rattle.dht_section.specs.Files.{Agree}
use Rattle.dht_section.specs.Rely.{IsNameless}
use Rattle.dht_section.specs.Scene.{Scene, HoldsName, HoldsBytes, NameStands, FileStands}
use Rattle.dht_section.specs.Shapes.{NameShape, FileShape, Copying, Moved}
use Rattle.dht_section.specs.Views.{view_of}

-- this client has the file open
abbrev pub HasOpen : Scene → Gfid → Type 0
HasOpen s f =
    (k : CallNo)
    × (contains_key (s.disk.brick (anchor f s.disk.count)).opens.registered (registration f s.who k)
    ≡ true)

abbrev pub HoldsRebalance : Scene → Type 0
HoldsRebalance s = is_some ((s.disk.brick 0).locks Rebalance s.who.0) ≡ true

-- no client's program has copied the file to this brick
abbrev pub IsUncopied : Scene → Gfid → ℕ → Type 0
IsUncopied s f t = (w : ℕ) → places_of s.claims f t w ≡ 0

-- a change of the source alone does no harm: each copy
-- is dirty, or empty while no program claims a place
abbrev pub IsReady : Scene → Gfid → Type 0
IsReady s f =
    (t : ℕ) (c : StandbyRecord) → t < s.disk.count → file_at s.disk t f ≡ Some (stored.Standby c)
    → (c.is_dirty ≡ true) ⊎ ((c.bytes ≡ []) × IsUncopied s f t)

-- the file is copied from brick a to brick b
abbrev pub IsCopying : Scene → ℕ → Gfid → ℕ → ℕ → List ℕ → StandbyRecord → Type 0
IsCopying s b f a hop x c = FileStands s f (Copying a hop (record { 0 = b }) x c)

-- the next piece of the source, where this client's program has copied the file up to there
abbrev pub IsNextPiece : Scene → ℕ → Gfid → ℕ → List ℕ → Type 0
IsNextPiece s b f off bytes =
    (a hop : ℕ) × (x : List ℕ) × (c : StandbyRecord) × IsCopying s b f a hop x c
    × (bytes ≡ read_at x off 65536) × (places_of s.claims f b s.who.0 ≡ off)

-- a copy here agrees with its source, up to where any program has copied it
abbrev pub MayBeCleared : Scene → ℕ → Gfid → StandbyRecord → Type 0
MayBeCleared s b f c =
    HoldsBytes s c.source.0 f × (hop : ℕ) × (x : List ℕ) × IsCopying s b f c.source.0 hop x c
    × ((w : ℕ) → Agree (places_of s.claims f b w) c.bytes x)

-- a copy here is one whose source I hold by its bytes, and it is not committed
abbrev pub IsMine : Scene → ℕ → Gfid → Type 0
IsMine s b f =
    (c : StandbyRecord) → file_at s.disk b f ≡ Some (stored.Standby c)
    → HoldsBytes s c.source.0 f × (hop : ℕ) × (x : List ℕ) × IsCopying s b f c.source.0 hop x c

-- a step of a move, under the lock of the file's one name
pub record Steps (s : Scene) (b : ℕ) (q : FileRequest) : Type 0 where
  pub name : Entry
  pub holds : HoldsName s name
  pub from : FileShape
  pub to : FileShape
  pub shape : NameShape
  pub next : NameShape
  pub keeps : FileStands s (file_of q) from
  pub stands : NameStands s name shape
  pub takes : TakesFile q b from to shape next

abbrev pub MayFile : Scene → ℕ → FileRequest → Type 0
MayFile s b (Read f off size) = Unit {0}
MayFile s b (Stat f) = Unit {0}
MayFile s b (Write f off bytes) = HasOpen s f
MayFile s b (Truncate f size) = HasOpen s f
MayFile s b (LockedWrite f off bytes) = HasOpen s f × HoldsBytes s b f × IsReady s f
MayFile s b (LockedTruncate f size) = HasOpen s f × HoldsBytes s b f × IsReady s f
MayFile s b (StandbyWrite f change) = IsMine s b f
MayFile s b (CopyWrite f off bytes) = IsMine s b f × IsNextPiece s b f off bytes
MayFile s b (ClearDirty f) =
    (c : StandbyRecord) → file_at s.disk b f ≡ Some (stored.Standby c) → MayBeCleared s b f c
MayFile s b (Mark f t) = HoldsRebalance s × Steps s b (Mark f t)
MayFile s b (MakeStandby f d n source hop) =
    HoldsRebalance s × Steps s b (MakeStandby f d n source hop) × IsUncopied s f b
MayFile s b (Promote f hop) =
    (c : StandbyRecord) → file_at s.disk b f ≡ Some (stored.Standby c) → hop ≡ c.hop
    → FileStands s f (Moved b c)
MayFile s b (Drop f) = ((view_of s.disk f).sealed ≡ true) × IsNameless s.disk s.history.tree f
MayFile s b q = Steps s b q
