-- What requests name, and the journal's entry of a request.
use Rattle.std.specs.Prelude.{ℕ, [], length}
use Rattle.dht_types.specs.Gfid.{Entry}
use Rattle.dht_types.specs.declared.identifiers.Gfid.{Gfid}
use Rattle.dht_types.specs.declared.identifiers.ClientNo.{ClientNo}
use Rattle.dht_types.specs.declared.identifiers.CallNo.{CallNo}
use Rattle.dht_types.specs.declared.locks.Key.{Key}
use Rattle.dht_types.specs.declared.locks.Key.TheVariants.{Rebalance, Dir, Entry as Name, Content}
use Rattle.dht_brick.specs.Kinds.{kind_of, reply_kind}
use Rattle.dht_brick.specs.declared.journal.JournalEntry.{JournalEntry}
use Rattle.dht_brick.specs.declared.requests.Change.{Change}
use Rattle.dht_brick.specs.declared.requests.Change.TheVariants as change
use Rattle.dht_brick.specs.declared.requests.NameRequest.{NameRequest}
use Rattle.dht_brick.specs.declared.requests.NameRequest.TheVariants.{Look, Page, Dirinfo, SetLayout, MakeDir, DropDir, Create, MakeLinkto, DropLinkto, Unlink, Link, LinkOver, Contest, Uncontest, StandLink, DropStandLink, Swap, PromoteLink, Orphans}
use Rattle.dht_brick.specs.declared.requests.FileRequest.{FileRequest}
use Rattle.dht_brick.specs.declared.requests.FileRequest.TheVariants.{Read, Write, LockedWrite, Truncate, LockedTruncate, Stat, Mark, Unmark, MakeStandby, StandbyWrite, CopyWrite, ClearDirty, DropStandby, Demote, Promote, Drop}
use Rattle.dht_brick.specs.declared.requests.Request.{Request}
use Rattle.dht_brick.specs.declared.requests.Request.TheVariants.{Lock, Unlock, Register, Unregister, Seal, OnNames, OnFile}
use Rattle.dht_brick.specs.declared.replies.Reply.{Reply}

-- nothing, and a directory or file with no name
abbrev pub nothing : Entry
nothing = (record { 0 = 0 }, [])

abbrev pub alone : Gfid → Entry
alone g = (g, [])

abbrev pub key_named : Key → Entry
key_named Rebalance = nothing
key_named (Dir g) = alone g
key_named (Name g n) = (g, n)
key_named (Content f) = alone f

-- the slot that a request names, or else the directory
abbrev pub name_named : NameRequest → Entry
name_named (Look d n) = (d, n)
name_named (Page d after) = alone d
name_named (Dirinfo d) = alone d
name_named (SetLayout d value) = alone d
name_named (MakeDir d n g depth value) = (d, n)
name_named (DropDir d n g) = (d, n)
name_named (Create d n f) = (d, n)
name_named (MakeLinkto d n value) = (d, n)
name_named (DropLinkto d n) = (d, n)
name_named (Unlink d n f) = (d, n)
name_named (Link d n f) = (d, n)
name_named (LinkOver d n f over) = (d, n)
name_named (Contest d n f brick) = (d, n)
name_named (Uncontest d n f) = (d, n)
name_named (StandLink d n f) = (d, n)
name_named (DropStandLink d n f) = (d, n)
name_named (Swap d n f value) = (d, n)
name_named (PromoteLink d n f) = (d, n)
name_named (Orphans after) = nothing

-- the file that a request names
abbrev pub file_of : FileRequest → Gfid
file_of (Read f offset size) = f
file_of (Write f offset bytes) = f
file_of (LockedWrite f offset bytes) = f
file_of (Truncate f size) = f
file_of (LockedTruncate f size) = f
file_of (Stat f) = f
file_of (Mark f dest) = f
file_of (Unmark f) = f
file_of (MakeStandby f d n source hop) = f
file_of (StandbyWrite f c) = f
file_of (CopyWrite f offset bytes) = f
file_of (ClearDirty f) = f
file_of (DropStandby f) = f
file_of (Demote f d n) = f
file_of (Promote f hop) = f
file_of (Drop f) = f

-- the slot that a request names, or else the file
abbrev pub file_named : FileRequest → Entry
file_named (MakeStandby f d n source hop) = (d, n)
file_named (Demote f d n) = (d, n)
file_named q = alone (file_of q)

abbrev pub named : Request → Entry
named (Lock key mode) = key_named key
named (Unlock key) = key_named key
named (Register f) = alone f
named (Unregister f call) = alone f
named (Seal f) = alone f
named (OnNames q) = name_named q
named (OnFile q) = file_named q

-- the offset and the length of the bytes that are read or written
abbrev pub change_span : Change → ℕ × ℕ
change_span (change.Write offset bytes) = (offset, length bytes)
change_span (change.Cut size) = (0, size)

abbrev pub file_span : FileRequest → ℕ × ℕ
file_span (Read f offset size) = (offset, size)
file_span (Write f offset bytes) = (offset, length bytes)
file_span (LockedWrite f offset bytes) = (offset, length bytes)
file_span (Truncate f size) = (0, size)
file_span (LockedTruncate f size) = (0, size)
file_span (StandbyWrite f c) = change_span c
file_span (CopyWrite f offset bytes) = (offset, length bytes)
file_span q = (0, 0)

abbrev pub span : Request → ℕ × ℕ
span (OnFile q) = file_span q
span q = (0, 0)

abbrev pub entry_of : ClientNo → CallNo → Request → Reply → JournalEntry
entry_of client call q r = record {
  client = client;
  call = call;
  request = kind_of q;
  gfid = (named q).0;
  name = (named q).1;
  offset = (span q).0;
  length = (span q).1;
  reply = reply_kind r;
}
