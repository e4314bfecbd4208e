-- What a client's program may speak of: the scene, the locks that
-- it holds there, and how the names and files that it guards stand.
use Rattle.std.specs.Prelude.{ℕ, ◌≤◌, ◌≡◌, ◌⊎◌, true, Option, Some, None, is_some}
use Rattle.dht_types.specs.Gfid.{Entry}
use Rattle.dht_types.specs.Tree.{Fits}
use Rattle.dht_types.specs.History.{History, PendingCall, Answers, IsAlone, IsNext, MakesOwn}
use Rattle.dht_types.specs.declared.identifiers.Gfid.{Gfid}
use Rattle.dht_types.specs.declared.identifiers.ClientNo.{ClientNo}
use Rattle.dht_types.specs.declared.calls.Answer.TheVariants.{Fault}
use Rattle.dht_types.specs.declared.calls.TreeStep.{TreeStep}
use Rattle.dht_types.specs.declared.errors.Errno.{Errno}
use Rattle.dht_types.specs.declared.locks.Key.TheVariants.{Dir, Entry as Name, Content}
use Rattle.dht_types.specs.declared.locks.Mode.TheVariants.{Exclusive}
use Rattle.dht_section.specs.Claims.{Claim}
use Rattle.dht_section.specs.Disk.{Disk, lock_at}
use Rattle.dht_section.specs.Early.{Early}
use Rattle.dht_section.specs.Files.{RecordsAs}
use Rattle.dht_section.specs.Invariant.{Invariant}
use Rattle.dht_section.specs.Names.{StandsAs}
use Rattle.dht_section.specs.Shapes.{NameShape, FileShape}
use Rattle.dht_section.specs.Views.{cores_of, view_of}
use Rattle.dht_section.specs.declared.machine.Finish.{Finish}

-- what a client's program may speak of: all bricks, the history,
-- what every client's program claims, who it is, and its own call
pub record Scene : Type 0 where
  pub disk : Disk
  pub history : History
  pub claims : ℕ → Claim
  pub who : ClientNo
  pub mine : PendingCall

-- the invariant holds, and what holds for now, and the call is running
pub record Sound (s : Scene) : Type 0 where
  pub kept : Invariant s.disk s.history s.claims
  pub early : Early s.disk s.history
  pub runs : s.history.pending s.who.0 ≡ Some s.mine
  pub begun : s.mine.since ≤ s.history.size

-- what I claim
abbrev pub my_claim : Scene → Claim
my_claim s = s.claims s.who.0

-- the lock of a directory is mine in either mode, or alone
abbrev pub HoldsDir : Scene → Gfid → Type 0
HoldsDir s g = is_some (lock_at s.disk g (Dir g) s.who) ≡ true

abbrev pub HoldsAlone : Scene → Gfid → Type 0
HoldsAlone s g = lock_at s.disk g (Dir g) s.who ≡ Some Exclusive

-- the lock of a name is mine, and that of its directory
pub record HoldsName (s : Scene) (e : Entry) : Type 0 where
  pub name : lock_at s.disk e.0 (Name e.0 e.1) s.who ≡ Some Exclusive
  pub dir : HoldsDir s e.0

-- nobody else may change what the name means: I hold its lock, or its directory alone
abbrev pub Guards : Scene → Entry → Type 0
Guards s e = HoldsName s e ⊎ HoldsAlone s e.0

-- the lock of a file's bytes is mine, on the brick that has them
abbrev pub HoldsBytes : Scene → ℕ → Gfid → Type 0
HoldsBytes s b f = (s.disk.brick b).locks (Content f) s.who.0 ≡ Some Exclusive

-- how a name stands now, and how the records of a file do
abbrev pub NameStands : Scene → Entry → NameShape → Type 0
NameStands s e h = StandsAs s.disk.count (cores_of s.disk e) (s.history.tree.names e) h

abbrev pub FileStands : Scene → Gfid → FileShape → Type 0
FileStands s f h = RecordsAs s.disk.count (view_of s.disk f).records h

-- the step is the next that my call is to do, it can be done, and what it makes is this call's own
pub record Wants (s : Scene) (step : TreeStep) : Type 0 where
  pub next : IsNext s.history.tree s.mine.call s.mine.deeds step
  pub fits : Fits step s.history.tree
  pub own : MakesOwn s.history.run s.who s.mine.number step

abbrev pub WantsAll : Scene → Option TreeStep → Type 0
WantsAll s None = Unit {0}
WantsAll s (Some step) = Wants s step

-- this holds if my call was the only one in its span so far
abbrev pub IfAlone : (Scene → Type 0) → Scene → Type 0
IfAlone P s = IsAlone s.history s.mine → P s

-- the call may answer so now
abbrev pub MayAnswer : Finish → Scene → Type 0
MayAnswer f s = Answers s.history s.mine f.at f.answer

-- a call that is stopped answers this error, which has no point
abbrev pub fault_finish : Errno → Finish
fault_finish e = record { answer = Fault e; at = None }
