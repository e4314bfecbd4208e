-- What must hold when a request is sent.
use Rattle.std.specs.Prelude.{ℕ, ◌+◌, ◌<◌, ◌≡◌, ◌⊎◌, true, Option, Some, None, IfSome, List, slice_index_or}
use Rattle.dht_types.specs.Gfid.{Entry, anchor, home}
use Rattle.dht_types.specs.Saved.{IsValue}
use Rattle.dht_types.specs.Tree.{deepest, depth_of}
use Rattle.dht_types.specs.declared.identifiers.Gfid.{Gfid}
use Rattle.dht_types.specs.declared.locks.Key.{Key}
use Rattle.dht_types.specs.declared.locks.Key.TheVariants.{Rebalance, Dir, Entry as Name, Content}
use Rattle.dht_brick.specs.Named.{name_named}
use Rattle.dht_section.specs.declared.machine.Ask.{Ask}
use Rattle.dht_brick.specs.declared.requests.NameRequest.{NameRequest}
use Rattle.dht_brick.specs.declared.requests.NameRequest.TheVariants.{Look, Page, Dirinfo, SetLayout, MakeDir, DropDir, Create, MakeLinkto, DropLinkto, Unlink, Link, LinkOver, StandLink, Orphans}
use Rattle.dht_brick.specs.declared.requests.FileRequest.{FileRequest}
use Rattle.dht_brick.specs.declared.requests.FileRequest.TheVariants.{Drop}
use Rattle.dht_brick.specs.declared.requests.Request.{Request}
use Rattle.dht_brick.specs.declared.requests.Request.TheVariants.{Lock, Unlock, Seal, OnNames, OnFile}
use Rattle.dht_xattr.specs.Plan.{planned}
use Rattle.dht_brick.specs.Contents.{bare}
use Rattle.dht_section.specs.Disk.{slot_at, range_of_value, holder_of}
use Rattle.dht_section.specs.Moves.{name_step}
use Rattle.dht_section.specs.Views.{core}
use Rattle.dht_section.specs.Acts.{Takes}
use Rattle.dht_section.specs.Claims.{AsksFirst}
use Rattle.dht_section.specs.FilePermits.{MayFile}
use Rattle.dht_section.specs.Invariant.{Used}
use Rattle.dht_section.specs.Planned.{AllPlanned}
use Rattle.dht_section.specs.Rely.{IsNameless}
use Rattle.dht_section.specs.Scene.{Scene, my_claim, HoldsAlone, HoldsName, NameStands, WantsAll}
use Rattle.dht_section.specs.Shapes.{NameShape, Plain}

-- the locks: that of the name; for a copy of a directory it may be the directory's instead, and to
-- drop one it is both
abbrev pub HoldsFor : Scene → NameRequest → Type 0
HoldsFor s (MakeDir d n g depth value) = HoldsName s (d, n) ⊎ HoldsAlone s g
HoldsFor s (DropDir d n g) = HoldsName s (d, n) × HoldsAlone s g
HoldsFor s q = HoldsName s (name_named q)

-- nothing has this gfid yet
abbrev pub IsUnused : Scene → Gfid → Type 0
IsUnused s g = Used s.disk s.history.tree g → ⊥

-- at its home a new directory is made under the lock of its name, one deeper than its parent;
-- elsewhere a copy of a directory of the tree, where it was made
abbrev pub HasDepth : Scene → ℕ → Gfid → List ℕ → Gfid → ℕ → Type 0
HasDepth s b d n g depth =
    ((b ≡ home g) × HoldsName s (d, n) × (depth_of s.history.tree d < deepest)
    × (depth ≡ depth_of s.history.tree d + 1) × IsUnused s g)
    ⊎ ((s.history.tree.dirs g ≡ true)
    × (s.history.tree.descents g ≡ Some (record { depth = depth; place = Some (d, n) })))

-- a value gives its brick the planned range
abbrev pub IsPlannedAt : Scene → ℕ → Gfid → Option (List ℕ) → Type 0
IsPlannedAt s b g value = range_of_value value ≡ slice_index_or (planned s.history.weights g) b None

-- or none, and has a value's length; and who does not
-- hold the directory alone adds to planned ranges
abbrev pub MayRange : Scene → ℕ → Gfid → Option (List ℕ) → Type 0
MayRange s b g value =
    ((range_of_value value ≡ None) ⊎ IsPlannedAt s b g value)
    × (HoldsAlone s g ⊎ AllPlanned s.disk s.history.weights g)
    × IfSome value IsValue

-- nothing stands in the directory on any brick
abbrev pub IsEmpty : Scene → Gfid → Type 0
IsEmpty s g = (i : ℕ) (n : List ℕ) → i < s.disk.count → core (slot_at s.disk i (g, n)) ≡ bare

-- what else must hold for a request about a name
abbrev pub Also : Scene → ℕ → NameRequest → Type 0
Also s b (MakeDir d n g depth value) = HasDepth s b d n g depth × MayRange s b g value
Also s b (DropDir d n g) = IsEmpty s g
Also s b (Create d n f) = (holder_of s.disk (d, n) ≡ Some b) × IsUnused s f
-- in the first run each file is on its holder, and needs no linkto
Also s b (MakeLinkto d n value) = IsValue value × (s.history.run ≡ 1 → ⊥)
-- a name is given to a file of another name that I hold
Also s b (Link d n f) = (x : Entry) × HoldsName s x × NameStands s x (Plain b f)
Also s b (LinkOver d n f old) = (x : Entry) × HoldsName s x × NameStands s x (Plain b f)
Also s b (StandLink d n f) = (x : Entry) × HoldsName s x × NameStands s x (Plain b f)
Also s b q = Unit {0}

-- a change of a name under its locks, from one shape to the next
pub record Changes (s : Scene) (b : ℕ) (q : NameRequest) : Type 0 where
  pub holds : HoldsFor s q
  pub from : NameShape
  pub to : NameShape
  pub stands : NameStands s (name_named q) from
  pub takes : Takes q b from to
  pub wants : WantsAll s (name_step b q)
  pub also : Also s b q

abbrev pub MayName : Scene → ℕ → NameRequest → Type 0
MayName s b (Look d n) = Unit {0}
MayName s b (Page d after) = Unit {0}
MayName s b (Dirinfo d) = Unit {0}
MayName s b (Orphans after) = Unit {0}
MayName s b (SetLayout d value) = HoldsAlone s d × IsPlannedAt s b d value × IfSome value IsValue
MayName s b q = Changes s b q

-- which requests are sent so far; a verb that needs another one changes its line
abbrev pub IsBuilt : NameRequest → Type 0
IsBuilt (Look d n) = Unit {0}
IsBuilt (Dirinfo d) = Unit {0}
IsBuilt (SetLayout d value) = Unit {0}
IsBuilt (MakeDir d n g depth value) = Unit {0}
IsBuilt (DropDir d n g) = Unit {0}
IsBuilt (Create d n f) = Unit {0}
IsBuilt (MakeLinkto d n value) = Unit {0}
IsBuilt (DropLinkto d n) = Unit {0}
IsBuilt (Unlink d n f) = Unit {0}
IsBuilt q = ⊥

abbrev pub IsFileBuilt : FileRequest → Type 0
IsFileBuilt (Drop f) = Unit {0}
IsFileBuilt q = ⊥

-- the brick of a lock
abbrev pub StandsOn : ℕ → ℕ → Key → Type 0
StandsOn count b Rebalance = b ≡ 0
StandsOn count b (Dir g) = b ≡ anchor g count
StandsOn count b (Name g n) = b ≡ anchor g count
StandsOn count b (Content f) = Unit {0}

abbrev pub May : Scene → ℕ → Request → Type 0
May s b (Lock key mode) = StandsOn s.disk.count b key × AsksFirst (my_claim s) b key
May s b (Unlock key) = StandsOn s.disk.count b key
May s b (OnNames q) = IsBuilt q × MayName s b q
May s b (OnFile q) = IsFileBuilt q × MayFile s b q
-- a file is sealed at its anchor, and has no name left
May s b (Seal f) = (b ≡ anchor f s.disk.count) × IsNameless s.disk s.history.tree f
May s b q = ⊥

pub record Permitted (s : Scene) (a : Ask) : Type 0 where
  pub there : a.brick.0 < s.disk.count
  pub may : May s a.brick.0 a.request
