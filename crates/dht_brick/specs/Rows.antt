-- What each request does to a brick: the row of the
-- request, as the reply and the contents after it.
use Rattle.std.specs.Prelude.{ℕ, List}
use Rattle.dht_types.specs.declared.identifiers.ClientNo.{ClientNo}
use Rattle.dht_types.specs.declared.identifiers.CallNo.{CallNo}
use Rattle.dht_brick.specs.Contents.{Contents, Store, Opens, Locks}
use Rattle.dht_brick.specs.Outcome.{Outcome, within, reply_in, left_by}
use Rattle.dht_brick.specs.NameRows.{name_row}
use Rattle.dht_brick.specs.FileRows.{file_row}
use Rattle.dht_brick.specs.OpenRows.{register_row, unregister_row, seal_row}
use Rattle.dht_brick.specs.LockRows.{lock_row, unlock_row}
use Rattle.dht_brick.specs.declared.replies.Reply.{Reply}
use Rattle.dht_brick.specs.declared.requests.Request.{Request}
use Rattle.dht_brick.specs.declared.requests.Request.TheVariants.{Lock, Unlock, Register, Unregister, Seal, OnNames, OnFile}

-- the contents with another store, other registrations and seals, or other locks
abbrev pub with_store : Contents → Store → Contents
with_store c s = record c { store = s }

abbrev pub with_opens : Contents → Opens → Contents
with_opens c o = record c { opens = o }

abbrev pub with_locks : Contents → Locks → Contents
with_locks c l = record c { locks = l }

-- what a client's request comes to, over a brick that knows bricks of these names
abbrev pub row : List (List ℕ) → ClientNo → CallNo → Request → Contents → Outcome Contents
row bricks client call (Lock key mode) c = within (with_locks c) (lock_row client key mode c.locks)
row bricks client call (Unlock key) c = within (with_locks c) (unlock_row client key c.locks)
row bricks client call (Register f) c = within (with_opens c) (register_row client call f c.opens)
row bricks client call (Unregister f opened) c =
    within (with_opens c) (unregister_row client f opened c.opens)
row bricks client call (Seal f) c = within (with_opens c) (seal_row f c.opens)
row bricks client call (OnNames q) c = within (with_store c) (name_row bricks q c.store)
row bricks client call (OnFile q) c = within (with_store c) (file_row bricks q c.store)

-- the reply to it
abbrev pub reply_of : List (List ℕ) → ClientNo → CallNo → Request → Contents → Reply
reply_of bricks client call q c = reply_in (row bricks client call q c)

-- the contents after it
abbrev pub after : List (List ℕ) → ClientNo → CallNo → Request → Contents → Contents
after bricks client call q c = left_by (row bricks client call q c) c
