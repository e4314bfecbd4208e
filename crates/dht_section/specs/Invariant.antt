-- The invariant of the volume: what holds of bricks, history and claims between any two requests,
-- whoever asks. Its parts by thing are each about one name, one file, one directory or one lock.
use Rattle.std.specs.Prelude.{ℕ, ◌+◌, ◌^◌, ◌<◌, ◌≤◌, ◌≡◌, ◌≢◌, Any, true, is_some, Some, None, length}
use Rattle.dht_types.specs.Gfid.{Entry, root}
use Rattle.dht_types.specs.Counted.{CallsCounted}
use Rattle.dht_types.specs.Tree.{Tree, IsTree}
use Rattle.dht_types.specs.History.{History, PendingCall, IsOwn}
use Rattle.dht_types.specs.declared.identifiers.Gfid.{Gfid}
use Rattle.dht_types.specs.declared.identifiers.CallNo.{CallNo}
use Rattle.dht_types.specs.declared.identifiers.ClientNo.{ClientNo}
use Rattle.dht_types.specs.declared.locks.Key.{Key}
use Rattle.dht_types.specs.declared.stored.Record.{Record}
use Rattle.dht_brick.specs.Contents.{bare}
use Rattle.dht_section.specs.Claims.{Claim, places_of}
use Rattle.dht_section.specs.Disk.{Disk, slot_at, file_at, dir_at, holders}
use Rattle.dht_section.specs.Dirs.{DirInvariant}
use Rattle.dht_section.specs.Files.{FileInvariant}
use Rattle.dht_section.specs.Locks.{LockInvariant}
use Rattle.dht_section.specs.Names.{NameInvariant}
use Rattle.dht_section.specs.Views.{cores_of, view_of, dir_view}

-- the gfid is of something: a file or directory of the tree, a directory
-- that was one, or one of which a brick has a record or a seal
pub data Used (d : Disk) (t : Tree) (g : Gfid) : Type 0 where
  ByBytes : t.bytes g ≢ None → Used d t g
  ByDir : t.dirs g ≡ true → Used d t g
  ByDescent : t.descents g ≢ None → Used d t g
  ByRecord : (b : ℕ) (r : Record) → b < d.count → file_at d b g ≡ Some r → Used d t g
  ByCopy : (b : ℕ) → b < d.count → is_some (dir_at d b g) ≡ true → Used d t g
  BySeal : (view_of d g).sealed ≡ true → Used d t g

-- how often a file may have been moved by now: bricks that are loaded have hops below 2^62
abbrev pub most_hops : History → ℕ
most_hops s = 2 ^ 62 + s.size

-- each thing is as it should be, where no file was moved more often than top
pub record Things (d : Disk) (t : Tree) (top : ℕ) (claims : ℕ → Claim) : Type 0 where
  pub names : (e : Entry) → NameInvariant d.count (cores_of d e) (t.names e)
  pub files : (f : Gfid) → FileInvariant d.count top (places_of claims f) (view_of d f) (t.bytes f)
  pub dirs : (g : Gfid) → DirInvariant d.count g (dir_view d g) (t.dirs g) (t.descents g)
  pub locks : (b : ℕ) (key : Key) → b < d.count → LockInvariant b key (holders d b key) claims
  -- a brick has slots only of directories that it has, and it has the root
  pub housed : (e : Entry) (b : ℕ)
      → b < d.count → slot_at d b e ≢ bare → is_some (dir_at d b e.0) ≡ true
  pub roots : (b : ℕ) → b < d.count → is_some (dir_at d b root) ≡ true

-- nothing has a gfid of a call that has done nothing yet
abbrev pub NothingUsed : Disk → History → Type 0
NothingUsed d s =
    (c : ClientNo) (r : PendingCall) (g : Gfid)
    → r.number.0 < 2 ^ 64 → s.pending c.0 ≡ Some r → r.deeds ≡ None
    → IsOwn s.run c r.number g → Used d s.tree g → ⊥

pub record Invariant (d : Disk) (s : History) (claims : ℕ → Claim) : Type 0 where
  pub things : Things d s.tree (most_hops s) claims
  -- the volume
  pub heavy : Any (λ w. 0 < w) s.weights
  pub some_brick : 0 < d.count
  pub counted : d.count ≡ length s.weights
  pub few : d.count ≤ 32
  -- the history
  pub tree : IsTree s.tree
  pub counts : CallsCounted s
  pub point : s.past s.size ≡ s.tree
  -- each gfid of this run was made by a call that was
  -- accepted, and by none that has done nothing yet
  pub known : (g : Gfid) (c : ClientNo) (k : CallNo)
      → k.0 < 2 ^ 64 → Used d s.tree g → IsOwn s.run c k g → k.0 ≤ s.calls
  pub fresh : NothingUsed d s
