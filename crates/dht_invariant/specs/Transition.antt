-- What happens between two moments, as the invariant and the other clients see it.
use Rattle.std.specs.Prelude.{ℕ, ◌<◌, ◌≤◌, ◌≡◌, ◌≢◌, ◌⊎◌, ◌^◌, nat_eq, Option, Some, None}
use Rattle.dht_types.specs.Put.{put}
use Rattle.dht_types.specs.Counted.{CallsCounted}
use Rattle.dht_types.specs.History.{History, PendingCall, tells, with_line}
use Rattle.dht_types.specs.declared.identifiers.ClientNo.{ClientNo}
use Rattle.dht_types.specs.declared.lines.Line.{Line}
use Rattle.dht_brick.specs.Events.{freed}
use Rattle.dht_section.specs.Claims.{Claim}
use Rattle.dht_section.specs.Disk.{Disk}
use Rattle.dht_section.specs.Early.{Early}
use Rattle.dht_section.specs.Invariant.{Invariant}
use Rattle.dht_section.specs.Rely.{Rely}
use Rattle.dht_section.specs.Scene.{Scene}

-- the scene of a client's call
abbrev pub scene : Disk → History → (ℕ → Claim) → ClientNo → PendingCall → Scene
scene d s claims c r = record { disk = d; history = s; claims = claims; who = c; mine = r }

-- only client c did something, or none did: the invariant holds
-- afterwards, and to every other client it is what others may do
pub record Transition (c : ℕ) (d : Disk) (s : History) (p : ℕ → Claim) (e : Disk) (t : History)
    (q : ℕ → Claim) : Type 0 where
  pub count : e.count ≡ d.count
  pub kept : Invariant e t q
  pub early : Early e t
  pub later : s.size ≤ t.size
  pub pending : (w : ℕ) → w ≢ c → t.pending w ≡ s.pending w
  pub claims : (w : ℕ) → w ≢ c → q w ≡ p w
  pub elsewhere : (b : ℕ) → d.count ≤ b → e.brick b ≡ d.brick b
  pub others : (w : ClientNo) (r : PendingCall)
      → w.0 ≢ c → s.pending w.0 ≡ Some r → Rely (scene d s p w r) (scene e t q w r)

-- of the calls only my own went on
pub record OnlyMine (s t : Scene) : Type 0 where
  pub calls : t.history.calls ≡ s.history.calls
  pub counts : CallsCounted s.history → CallsCounted t.history
  pub pending : t.history.pending ≡ put nat_eq s.history.pending s.who.0 (Some t.mine)
  pub point : t.history.past t.history.size ≡ t.history.tree
  pub numbered : s.mine.number.0 ≤ s.history.calls
  pub small : s.mine.number.0 < 2 ^ 64
  pub client : s.who.0 < 65536

-- the call is the one that was pending, and has done nothing yet
pub record IsUnmoved (was : Option PendingCall) (r : PendingCall) : Type 0 where
  pub before : PendingCall
  pub was_it : was ≡ Some before
  pub number : before.number ≡ r.number
  pub fresh : before.deeds ≡ None

-- the line tells nothing of the tree, the volume and its run, and of no client's
-- call but c's; which goes on, has ended, or has a number that no call had
pub record IsQuiet (c : ℕ) (s : History) (x : Line) : Type 0 where
  pub tree : (tells s x).tree ≡ s.tree
  pub weights : (tells s x).weights ≡ s.weights
  pub run : (tells s x).run ≡ s.run
  pub calls : s.calls ≤ (tells s x).calls
  pub counts : CallsCounted s → CallsCounted (with_line s x)
  pub pending : (w : ℕ) → w ≢ c → (tells s x).pending w ≡ s.pending w
  pub own : (r : PendingCall)
      → (tells s x).pending c ≡ Some r → r.deeds ≡ None
      → IsUnmoved (s.pending c) r ⊎ (s.calls < r.number.0)

-- a client's locks and registrations were taken away on all bricks
pub record FreesClient (c : ℕ) (d e : Disk) : Type 0 where
  pub count : e.count ≡ d.count
  pub there : (b : ℕ) → b < d.count → e.brick b ≡ freed c (d.brick b)
  pub elsewhere : (b : ℕ) → d.count ≤ b → e.brick b ≡ d.brick b
