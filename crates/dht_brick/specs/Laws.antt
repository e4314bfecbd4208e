-- Laws of all rows.
use Rattle.std.specs.Prelude.{ℕ, ◌<◌, ◌≤◌, ◌≡◌, ◌≢◌, List, ◌∷◌, [], Bool, false, Option, Some, IfSome}
use Rattle.std.specs.FinMap.{get}
use Rattle.dht_types.specs.Gfid.{root}
use Rattle.dht_types.specs.declared.identifiers.BrickNo.{BrickNo}
use Rattle.dht_types.specs.declared.identifiers.ClientNo.{ClientNo}
use Rattle.dht_types.specs.declared.identifiers.CallNo.{CallNo}
use Rattle.dht_types.specs.declared.lines.DumpLine.TheVariants as line
use Rattle.dht_types.specs.declared.locks.Key.{Key}
use Rattle.dht_types.specs.declared.locks.Mode.{Mode}
use Rattle.dht_types.specs.declared.identifiers.Gfid.{Gfid}
use Rattle.dht_brick.specs.Bricks.{ServesOrFails}
use Rattle.dht_brick.specs.Contents.{Contents, Store, Tables, Files, Opens, Locks, newborn}
use Rattle.dht_brick.specs.Dump.{dump_of}
use Rattle.dht_brick.specs.Events.{freed, remounted, poked}
use Rattle.dht_brick.specs.FileRows.{file_row}
use Rattle.dht_brick.specs.LockRows.{lock_row, unlock_row, held, keeps_out, IsLowest}
use Rattle.dht_brick.specs.Memory.{NeverTakesMemory, TakesNoMemory}
use Rattle.dht_brick.specs.NameRows.{name_row}
use Rattle.dht_brick.specs.OpenRows.{register_row, unregister_row, seal_row}
use Rattle.dht_brick.specs.Outcome.{Serves, Do, Await}
use Rattle.dht_brick.specs.Rows.{row, reply_of, after, with_store, with_opens, with_locks}
use Rattle.dht_brick.specs.Saving.{dir_saved, dir_restored, file_saved, file_restored}
use Rattle.dht_brick.specs.Within.{MayBeSent, StoreIsWithin, ReplyIsWithin}
use Rattle.dht_types.specs.declared.stored.DirRecord.{DirRecord}
use Rattle.dht_brick.specs.declared.pokes.PokeAt.{PokeAt}
use Rattle.dht_brick.specs.declared.replies.Given.TheVariants as given
use Rattle.dht_brick.specs.declared.replies.Reply.{Reply}
use Rattle.dht_brick.specs.declared.replies.Reply.TheVariants as reply
use Rattle.dht_brick.specs.declared.replies.Why.{Why}
use Rattle.dht_brick.specs.declared.requests.Request.{Request}
use Rattle.dht_brick.specs.declared.requests.Request.TheVariants.{Lock, Unlock, Register, Unregister, Seal, OnNames, OnFile}
use Rattle.dht_brick.specs.declared.requests.NameRequest.{NameRequest}
use Rattle.dht_brick.specs.declared.requests.FileRequest.{FileRequest}

-- a request that is refused, or waits, changes nothing
abbrev pub RefusalsChangeNothing : Type 0
RefusalsChangeNothing = (bricks : List (List ℕ)) (client : ClientNo) (call : CallNo) (q : Request) (c : Contents) (why : Why)
    → reply_of bricks client call q c ≡ reply.Refused why → after bricks client call q c ≡ c

abbrev pub WaitsChangeNothing : Type 0
WaitsChangeNothing = (bricks : List (List ℕ)) (client : ClientNo) (call : CallNo) (q : Request) (c : Contents) (holder : ClientNo)
    → reply_of bricks client call q c ≡ reply.Wait holder → after bricks client call q c ≡ c

-- the reply is that of the row, and so is what is there afterwards
pub record IsByRow (bricks : List (List ℕ)) (client : ClientNo) (call : CallNo) (q : Request) (old : Contents) (r : Reply) (new : Contents) : Type 0 where
  pub replied : r ≡ reply_of bricks client call q old
  pub left : new ≡ after bricks client call q old

-- where a request was served, its row was followed, unless memory ran out
abbrev pub ServedByRow : Type 0
ServedByRow = (bricks : List (List ℕ)) (client : ClientNo) (call : CallNo) (q : Request) (old : Contents) (r : Reply) (new : Contents)
    → Serves (row bricks client call q old) old r new → r ≢ reply.NoMemory → IsByRow bricks client call q old r new

-- to follow the row is to serve the request
abbrev pub RowServes : Type 0
RowServes = (bricks : List (List ℕ)) (client : ClientNo) (call : CallNo) (q : Request) (old : Contents)
    → Serves (row bricks client call q old) old (reply_of bricks client call q old) (after bricks client call q old)

-- a part of a brick serves a request of the whole
abbrev pub NamesServe : Type 0
NamesServe = (bricks : List (List ℕ)) (client : ClientNo) (call : CallNo) (q : NameRequest) (c : Contents) (r : Reply) (s : Store)
    → Serves (name_row bricks q c.store) c.store r s → ServesOrFails (row bricks client call (OnNames q) c) c r (with_store c s)

abbrev pub FilesServe : Type 0
FilesServe = (bricks : List (List ℕ)) (client : ClientNo) (call : CallNo) (q : FileRequest) (c : Contents) (r : Reply) (s : Store)
    → Serves (file_row bricks q c.store) c.store r s → ServesOrFails (row bricks client call (OnFile q) c) c r (with_store c s)

abbrev pub RegisterServes : Type 0
RegisterServes = (bricks : List (List ℕ)) (client : ClientNo) (call : CallNo) (f : Gfid) (c : Contents) (r : Reply) (o : Opens)
    → Serves (register_row client call f c.opens) c.opens r o → ServesOrFails (row bricks client call (Register f) c) c r (with_opens c o)

abbrev pub UnregisterServes : Type 0
UnregisterServes = (bricks : List (List ℕ)) (client : ClientNo) (call : CallNo) (f : Gfid) (opened : CallNo) (c : Contents) (r : Reply) (o : Opens)
    → Serves (unregister_row client f opened c.opens) c.opens r o → ServesOrFails (row bricks client call (Unregister f opened) c) c r (with_opens c o)

abbrev pub SealServes : Type 0
SealServes = (bricks : List (List ℕ)) (client : ClientNo) (call : CallNo) (f : Gfid) (c : Contents) (r : Reply) (o : Opens)
    → Serves (seal_row f c.opens) c.opens r o → ServesOrFails (row bricks client call (Seal f) c) c r (with_opens c o)

abbrev pub LockServes : Type 0
LockServes = (bricks : List (List ℕ)) (client : ClientNo) (call : CallNo) (key : Key) (mode : Mode) (c : Contents) (r : Reply) (l : Locks)
    → Serves (lock_row client key mode c.locks) c.locks r l → ServesOrFails (row bricks client call (Lock key mode) c) c r (with_locks c l)

abbrev pub UnlockServes : Type 0
UnlockServes = (bricks : List (List ℕ)) (client : ClientNo) (call : CallNo) (key : Key) (c : Contents) (r : Reply) (l : Locks)
    → Serves (unlock_row client key c.locks) c.locks r l → ServesOrFails (row bricks client call (Unlock key) c) c r (with_locks c l)

-- a lock is granted where no other client holds it in a mode that excludes the one asked for
abbrev pub FreeLocksAreGranted : Type 0
FreeLocksAreGranted = (client : ClientNo) (key : Key) (mode : Mode) (locks : Locks)
    → ((other : ℕ) → other < 65536 → keeps_out (locks key) client.0 mode other ≡ false) → lock_row client key mode locks ≡ Do given.Nothing (held locks key client.0 (Some mode))

-- and else is waited for, and the lowest client that holds it so is named
abbrev pub HeldLocksAreAwaited : Type 0
HeldLocksAreAwaited = (client : ClientNo) (key : Key) (mode : Mode) (locks : Locks) (holder : ClientNo)
    → holder.0 < 65536 → IsLowest (keeps_out (locks key) client.0 mode) holder.0 → lock_row client key mode locks ≡ Await holder

-- a new brick has the root alone
abbrev pub NewbornShowsTheRoot : Type 0
NewbornShowsTheRoot = (b : BrickNo) (is_up : Bool) (value : Option (List ℕ))
    → dump_of b is_up (newborn value).store ≡ line.Brick b is_up ∷ line.Dir b root value ∷ []

-- a file that is saved and restored is as it was
abbrev pub FileIsRestored : Type 0
FileIsRestored = (files : Files) (f : Gfid) → file_restored f (file_saved files f) files ≡ files

-- a directory of which there is a record, saved and restored, is as it was, with its slots
abbrev pub DirIsRestored : Type 0
DirIsRestored = (t : Tables) (g : Gfid) (r : DirRecord) → get t.dirs g ≡ Some r → dir_restored g (dir_saved t g) t ≡ t

-- what takes no memory on any brick takes none on a brick in memory
abbrev pub NeverIsNotInMemory : Type 0
NeverIsNotInMemory = (q : Request) → NeverTakesMemory q → TakesNoMemory q

-- where contents name only bricks of a volume of so many,
-- a request that may be sent leaves what names only such
abbrev pub RowsStayWithin : Type 0
RowsStayWithin = (count : ℕ) (bricks : List (List ℕ)) (client : ClientNo) (call : CallNo) (q : Request) (c : Contents)
    → StoreIsWithin count c.store → MayBeSent count q → StoreIsWithin count (after bricks client call q c).store

-- and the reply to it names only such
abbrev pub RepliesAreWithin : Type 0
RepliesAreWithin = (count : ℕ) (bricks : List (List ℕ)) (client : ClientNo) (call : CallNo) (q : Request) (c : Contents)
    → StoreIsWithin count c.store → MayBeSent count q → ReplyIsWithin count (reply_of bricks client call q c)

-- a new brick names only the first brick, which is the home of the root
abbrev pub NewbornIsWithin : Type 0
NewbornIsWithin = (count : ℕ) (value : Option (List ℕ)) → 0 < count → StoreIsWithin count (newborn value).store

-- so it stays when a client has died
abbrev pub FreedStaysWithin : Type 0
FreedStaysWithin = (count client : ℕ) (c : Contents) → StoreIsWithin count c.store → StoreIsWithin count (freed client c).store

-- when all clients are new
abbrev pub RemountedStaysWithin : Type 0
RemountedStaysWithin = (count : ℕ) (c : Contents) → StoreIsWithin count c.store → StoreIsWithin count (remounted c).store

-- when a value is set from outside
abbrev pub PokedStaysWithin : Type 0
PokedStaysWithin = (count : ℕ) (at : PokeAt) (value : List ℕ) (s : Store) → StoreIsWithin count s → IfSome (poked at value s) (StoreIsWithin count)

-- and when the volume has grown
abbrev pub GrownStaysWithin : Type 0
GrownStaysWithin = (m n : ℕ) (s : Store) → m ≤ n → StoreIsWithin m s → StoreIsWithin n s
