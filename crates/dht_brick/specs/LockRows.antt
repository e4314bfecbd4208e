-- The rows of locks. A lock is granted, unless another
-- client holds it in a mode that excludes the one asked for.
use Rattle.std.specs.Prelude.{ℕ, zero, suc, ◌<◌, ◌≡◌, Bool, true, false, not, ◌&&◌, nat_eq, if◌then◌else◌, Option, Some, None}
use Rattle.dht_types.specs.Gfid.{same_gfid}
use Rattle.dht_types.specs.Put.{put, same_entry}
use Rattle.dht_types.specs.declared.identifiers.ClientNo.{ClientNo}
use Rattle.dht_types.specs.declared.locks.Key.{Key}
use Rattle.dht_types.specs.declared.locks.Key.TheVariants.{Rebalance, Dir, Entry as Name, Content}
use Rattle.dht_types.specs.declared.locks.Mode.{Mode}
use Rattle.dht_types.specs.declared.locks.Mode.TheVariants.{Shared}
use Rattle.dht_brick.specs.Contents.{Locks}
use Rattle.dht_brick.specs.Outcome.{Outcome, Do, Await}
use Rattle.dht_brick.specs.declared.replies.Given.TheVariants as given

-- two keys are one
abbrev pub same_key : Key → Key → Bool
same_key Rebalance Rebalance = true
same_key (Dir g) (Dir h) = same_gfid g h
same_key (Name g m) (Name h n) = same_entry (g, m) (h, n)
same_key (Content f) (Content g) = same_gfid f g
same_key a b = false

-- the lock of a key is held so by a client, or not
abbrev pub held : Locks → Key → ℕ → Option Mode → Locks
held locks key client mode = put same_key locks key (put nat_eq (locks key) client mode)

-- a hold excludes another, unless both are shared
abbrev pub excludes : Mode → Mode → Bool
excludes Shared Shared = false
excludes held asked = true

-- so does what a client holds, if it holds the lock
abbrev pub hold_excludes : Option Mode → Mode → Bool
hold_excludes None asked = false
hold_excludes (Some held) asked = excludes held asked

-- a client is another one than the one that asks, and holds the lock so that it has to wait
abbrev pub keeps_out : (ℕ → Option Mode) → ℕ → Mode → ℕ → Bool
keeps_out holds client asked other = not (nat_eq other client) && hold_excludes (holds other) asked

-- the lowest number that passes a test
pub record IsLowest (test : ℕ → Bool) (n : ℕ) : Type 0 where
  pub passes : test n ≡ true
  pub below : (m : ℕ) → m < n → test m ≡ false

abbrev pub first_of : Option ℕ → Option ℕ → Option ℕ
first_of None second = second
first_of (Some n) second = Some n

-- the lowest number below a limit that passes a test, if one does
unfoldable pub lowest : (ℕ → Bool) → ℕ → Option ℕ
lowest test zero = None
lowest test (suc n) = first_of (lowest test n) (if test n then Some n else None)

-- the lowest client that makes another one wait; clients have numbers of 16 bits
abbrev pub awaited : Locks → ClientNo → Key → Mode → Option ℕ
awaited locks client key mode = lowest (keeps_out (locks key) client.0 mode) 65536

abbrev pub unless_awaited : Option ℕ → Outcome Locks → Outcome Locks
unless_awaited None outcome = outcome
unless_awaited (Some holder) outcome = Await (record { 0 = holder })

abbrev pub lock_row : ClientNo → Key → Mode → Locks → Outcome Locks
lock_row client key mode locks =
    unless_awaited (awaited locks client key mode)
    (Do given.Nothing (held locks key client.0 (Some mode)))

abbrev pub unlock_row : ClientNo → Key → Locks → Outcome Locks
unlock_row client key locks = Do given.Nothing (held locks key client.0 None)
