-- The kinds of requests and replies.
use Rattle.dht_guard.specs.declared.file_table.FileRow.{FileRow}
use Rattle.dht_guard.specs.declared.file_table.FileRow.TheVariants as row
use Rattle.dht_types.specs.declared.lines.RequestKind.{RequestKind}
use Rattle.dht_types.specs.declared.lines.RequestKind.TheVariants as kind
use Rattle.dht_types.specs.declared.lines.ReplyKind.{ReplyKind}
use Rattle.dht_types.specs.declared.lines.ReplyKind.TheVariants as outcome
use Rattle.dht_types.specs.declared.lines.Refusal.{Refusal}
use Rattle.dht_types.specs.declared.lines.Refusal.TheVariants as refusal
use Rattle.dht_brick.specs.declared.requests.NameRequest.{NameRequest}
use Rattle.dht_brick.specs.declared.requests.NameRequest.TheVariants.{Look, Page, Dirinfo, SetLayout, MakeDir, DropDir, Create, MakeLinkto, DropLinkto, Unlink, Link, LinkOver, Contest, Uncontest, StandLink, DropStandLink, Swap, PromoteLink, Orphans}
use Rattle.dht_brick.specs.declared.requests.FileRequest.{FileRequest}
use Rattle.dht_brick.specs.declared.requests.FileRequest.TheVariants.{Read, Write, LockedWrite, Truncate, LockedTruncate, Stat, Mark, Unmark, MakeStandby, StandbyWrite, CopyWrite, ClearDirty, DropStandby, Demote, Promote, Drop}
use Rattle.dht_brick.specs.declared.requests.Request.{Request}
use Rattle.dht_brick.specs.declared.requests.Request.TheVariants.{Lock, Unlock, Register, Unregister, Seal, OnNames, OnFile}
use Rattle.dht_brick.specs.declared.replies.Why.{Why}
use Rattle.dht_brick.specs.declared.replies.Why.TheVariants as why
use Rattle.dht_brick.specs.declared.replies.Reply.{Reply}
use Rattle.dht_brick.specs.declared.replies.Reply.TheVariants as reply

abbrev pub name_kind : NameRequest → RequestKind
name_kind (Look d n) = kind.Look
name_kind (Page d after) = kind.Page
name_kind (Dirinfo d) = kind.Dirinfo
name_kind (SetLayout d value) = kind.SetLayout
name_kind (MakeDir d n g depth value) = kind.MakeDir
name_kind (DropDir d n g) = kind.DropDir
name_kind (Create d n f) = kind.Create
name_kind (MakeLinkto d n value) = kind.MakeLinkto
name_kind (DropLinkto d n) = kind.DropLinkto
name_kind (Unlink d n f) = kind.Unlink
name_kind (Link d n f) = kind.Link
name_kind (LinkOver d n f over) = kind.LinkOver
name_kind (Contest d n f brick) = kind.Contest
name_kind (Uncontest d n f) = kind.Uncontest
name_kind (StandLink d n f) = kind.StandLink
name_kind (DropStandLink d n f) = kind.DropStandLink
name_kind (Swap d n f value) = kind.Swap
name_kind (PromoteLink d n f) = kind.PromoteLink
name_kind (Orphans after) = kind.Orphans

abbrev pub file_kind : FileRequest → RequestKind
file_kind (Read f offset size) = kind.Read
file_kind (Write f offset bytes) = kind.Write
file_kind (LockedWrite f offset bytes) = kind.LockedWrite
file_kind (Truncate f size) = kind.Truncate
file_kind (LockedTruncate f size) = kind.LockedTruncate
file_kind (Stat f) = kind.Stat
file_kind (Mark f dest) = kind.Mark
file_kind (Unmark f) = kind.Unmark
file_kind (MakeStandby f d n source hop) = kind.MakeStandby
file_kind (StandbyWrite f c) = kind.StandbyWrite
file_kind (CopyWrite f offset bytes) = kind.CopyWrite
file_kind (ClearDirty f) = kind.ClearDirty
file_kind (DropStandby f) = kind.DropStandby
file_kind (Demote f d n) = kind.Demote
file_kind (Promote f hop) = kind.Promote
file_kind (Drop f) = kind.Drop

-- the row of a request in the table of dht_guard
abbrev pub row_of : FileRequest → FileRow
row_of (Read f offset size) = row.Read
row_of (Write f offset bytes) = row.Write
row_of (LockedWrite f offset bytes) = row.LockedWrite
row_of (Truncate f size) = row.Truncate
row_of (LockedTruncate f size) = row.LockedTruncate
row_of (Stat f) = row.Stat
row_of (Mark f dest) = row.Mark
row_of (Unmark f) = row.Unmark
row_of (MakeStandby f d n source hop) = row.MakeStandby
row_of (StandbyWrite f c) = row.StandbyWrite
row_of (CopyWrite f offset bytes) = row.CopyWrite
row_of (ClearDirty f) = row.ClearDirty
row_of (DropStandby f) = row.DropStandby
row_of (Demote f d n) = row.Demote
row_of (Promote f hop) = row.Promote
row_of (Drop f) = row.Drop

abbrev pub kind_of : Request → RequestKind
kind_of (Lock key mode) = kind.Lock
kind_of (Unlock key) = kind.Unlock
kind_of (Register f) = kind.Register
kind_of (Unregister f call) = kind.Unregister
kind_of (Seal f) = kind.Seal
kind_of (OnNames q) = name_kind q
kind_of (OnFile q) = file_kind q

abbrev pub refusal_of : Why → Refusal
refusal_of why.Nodir = refusal.Nodir
refusal_of (why.Slot parts) = refusal.Slot
refusal_of why.NotEmpty = refusal.NotEmpty
refusal_of why.Absent = refusal.Absent
refusal_of why.Live = refusal.Live
refusal_of (why.Moving dest) = refusal.Moving
refusal_of (why.Standby source hop) = refusal.Standby
refusal_of (why.Forward brick hop) = refusal.Forward
refusal_of (why.Links n) = refusal.Links
refusal_of why.Dirty = refusal.Dirty
refusal_of why.Sealed = refusal.Sealed
refusal_of (why.Open n) = refusal.Open

abbrev pub reply_kind : Reply → ReplyKind
reply_kind (reply.Ok given) = outcome.Ok
reply_kind (reply.Refused w) = outcome.Refused (refusal_of w)
reply_kind (reply.Wait holder) = outcome.Wait
reply_kind reply.Down = outcome.Down
reply_kind reply.Failed = outcome.Failed
reply_kind reply.NoMemory = outcome.NoMemory
