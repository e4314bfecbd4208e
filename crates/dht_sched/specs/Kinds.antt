-- The words of calls, requests and replies.
use Rattle.std.specs.Prelude.{ℕ, Bool, true, false, List, ◌++◌, codes}
use Rattle.dht_types.specs.declared.calls.Call.{Call}
use Rattle.dht_types.specs.declared.calls.Call.TheVariants as call
use Rattle.dht_types.specs.declared.lines.RequestKind.{RequestKind}
use Rattle.dht_types.specs.declared.lines.RequestKind.TheVariants as request
use Rattle.dht_types.specs.declared.lines.Refusal.{Refusal}
use Rattle.dht_types.specs.declared.lines.Refusal.TheVariants as refusal
use Rattle.dht_types.specs.declared.lines.ReplyKind.{ReplyKind}
use Rattle.dht_types.specs.declared.lines.ReplyKind.TheVariants as reply

-- the word of a call
abbrev pub verb_word : {D : Type 0} → Call D → List ℕ
verb_word (call.Lookup d n) = codes "lookup"
verb_word (call.Create d n) = codes "create"
verb_word (call.Mkdir d n) = codes "mkdir"
verb_word (call.Unlink d n) = codes "unlink"
verb_word (call.Rmdir d n) = codes "rmdir"
verb_word (call.Heal d) = codes "heal"

abbrev pub request_word : RequestKind → List ℕ
request_word request.Lock = codes "lock"
request_word request.Unlock = codes "unlock"
request_word request.Register = codes "register"
request_word request.Unregister = codes "unregister"
request_word request.Seal = codes "seal"
request_word request.Look = codes "look"
request_word request.Page = codes "page"
request_word request.Dirinfo = codes "dirinfo"
request_word request.SetLayout = codes "setlayout"
request_word request.MakeDir = codes "mkdir"
request_word request.DropDir = codes "dropdir"
request_word request.Create = codes "create"
request_word request.MakeLinkto = codes "mklinkto"
request_word request.DropLinkto = codes "droplinkto"
request_word request.Unlink = codes "unlink"
request_word request.Link = codes "link"
request_word request.LinkOver = codes "linkover"
request_word request.Contest = codes "contest"
request_word request.Uncontest = codes "uncontest"
request_word request.StandLink = codes "standlink"
request_word request.DropStandLink = codes "dropstandlink"
request_word request.Swap = codes "swap"
request_word request.PromoteLink = codes "promotelink"
request_word request.Orphans = codes "orphans"
request_word request.Read = codes "read"
request_word request.Write = codes "write"
request_word request.LockedWrite = codes "lwrite"
request_word request.Truncate = codes "truncate"
request_word request.LockedTruncate = codes "ltruncate"
request_word request.Stat = codes "stat"
request_word request.Mark = codes "mark"
request_word request.Unmark = codes "unmark"
request_word request.MakeStandby = codes "mkstandby"
request_word request.StandbyWrite = codes "standbywrite"
request_word request.CopyWrite = codes "copywrite"
request_word request.ClearDirty = codes "cleardirty"
request_word request.DropStandby = codes "dropstandby"
request_word request.Demote = codes "demote"
request_word request.Promote = codes "promote"
request_word request.Drop = codes "drop"

-- whether a request is on a file's record
abbrev pub is_on_file : RequestKind → Bool
is_on_file request.Read = true
is_on_file request.Write = true
is_on_file request.LockedWrite = true
is_on_file request.Truncate = true
is_on_file request.LockedTruncate = true
is_on_file request.Stat = true
is_on_file request.Mark = true
is_on_file request.Unmark = true
is_on_file request.MakeStandby = true
is_on_file request.StandbyWrite = true
is_on_file request.CopyWrite = true
is_on_file request.ClearDirty = true
is_on_file request.DropStandby = true
is_on_file request.Demote = true
is_on_file request.Promote = true
is_on_file request.Drop = true
is_on_file q = false

abbrev pub refusal_word : Refusal → List ℕ
refusal_word refusal.Nodir = codes "nodir"
refusal_word refusal.Slot = codes "slot"
refusal_word refusal.NotEmpty = codes "notempty"
refusal_word refusal.Absent = codes "absent"
refusal_word refusal.Live = codes "live"
refusal_word refusal.Moving = codes "moving"
refusal_word refusal.Standby = codes "standby"
refusal_word refusal.Forward = codes "forward"
refusal_word refusal.Links = codes "links"
refusal_word refusal.Dirty = codes "dirty"
refusal_word refusal.Sealed = codes "sealed"
refusal_word refusal.Open = codes "open"

-- the word of a reply on a step line
abbrev pub reply_word : ReplyKind → List ℕ
reply_word reply.Ok = codes "ok"
reply_word (reply.Refused why) = codes "refused:" ++ refusal_word why
reply_word reply.Wait = codes "wait"
reply_word reply.Down = codes "down"
reply_word reply.Failed = codes "failed"
reply_word reply.NoMemory = codes "nomem"
