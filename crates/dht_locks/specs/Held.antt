-- The locks that clients hold, and what comes of asking for one.
use Rattle.std.specs.Prelude.{ℕ, ◌≡◌, ◌&&◌, nat_eq, Bool, Some, None}
use Rattle.std.specs.Map.{lookup}
use Rattle.dht_types.specs.declared.identifiers.ClientNo.{ClientNo}
use Rattle.dht_types.specs.declared.locks.Key.{Key}
use Rattle.dht_types.specs.declared.locks.Mode.{Mode}
use Rattle.dht_brick.specs.Contents.{Locks}
use Rattle.dht_brick.specs.LockRows.{held, awaited, same_key}
use Rattle.dht_locks.specs.declared.holds.Asked.{Asked}
use Rattle.dht_locks.specs.declared.holds.Asked.TheVariants.{Granted, Wait, OutOfMemory}
use Rattle.dht_locks.specs.declared.holds.Hold.{Hold}
use Rattle.dht_locks.specs.declared.holds.Locks.{Locks as Kept}

-- a hold is this client's of this lock
abbrev pub is_of : Key → ℕ → Hold → Bool
is_of key client hold = same_key key hold.key && nat_eq client hold.client.0

-- how each client holds each lock
unfoldable pub locks_in : Kept → Locks
locks_in l key client = lookup (is_of key client) l.held.entries

-- the lock was granted; or a client has to be waited for; or none has, and there was no memory
abbrev pub Asks : ClientNo → Key → Mode → Locks → Asked → Locks → Type 0
Asks client key mode old Granted new =
    (awaited old client key mode ≡ None) × (new ≡ held old key client.0 (Some mode))
Asks client key mode old (Wait holder) new =
    (awaited old client key mode ≡ Some holder.0) × (new ≡ old)
Asks client key mode old OutOfMemory new = (awaited old client key mode ≡ None) × (new ≡ old)
