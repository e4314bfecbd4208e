-- Bricks that are down, fail or have no memory: which replies tell of one, and which answers.
use Rattle.std.specs.Prelude.{◌≡◌, Option, Some, None, MatchOption}
use Rattle.dht_types.specs.declared.errors.Errno.{Errno}
use Rattle.dht_types.specs.declared.errors.Errno.TheVariants.{Enoent, Enomem, Eexist, Einval, Enametoolong, Enotdir, Eisdir, Enotempty, Estale, Enotconn, Eio}
use Rattle.dht_types.specs.declared.calls.Answer.{Answer}
use Rattle.dht_types.specs.declared.calls.Answer.TheVariants.{File, Dir, Made, Done, Fault}
use Rattle.dht_brick.specs.declared.requests.Request.{Request}
use Rattle.dht_brick.specs.declared.requests.Request.TheVariants.{Unlock}
use Rattle.dht_brick.specs.declared.replies.Reply.{Reply}
use Rattle.dht_section.specs.Replies.{fault_of}
use Rattle.dht_section.specs.Shapes.{either}
use Rattle.dht_section.specs.Stages.{MatchTurn}
use Rattle.dht_section.specs.declared.machine.Finish.{Finish}
use Rattle.dht_section.specs.declared.machine.Turn.{Turn}
use Rattle.dht_section.specs.declared.ended.Ended.{Ended}

-- the error that a reply to a request tells of; an unlock is always carried out
abbrev pub fault_for : Request → Reply → Option Errno
fault_for (Unlock key) r = None
fault_for q r = fault_of r

-- an error that only a brick brings about
abbrev pub brick_error : Errno → Option Errno
brick_error Enotconn = Some Enotconn
brick_error Eio = Some Eio
brick_error Enomem = Some Enomem
brick_error Enoent = None
brick_error Eexist = None
brick_error Einval = None
brick_error Enametoolong = None
brick_error Enotdir = None
brick_error Eisdir = None
brick_error Enotempty = None
brick_error Estale = None

-- the error of a brick that stopped a part of a call
abbrev pub part_fault : Option Errno → Option Errno
part_fault None = None
part_fault (Some e) = brick_error e

-- and that an answer tells of
abbrev pub brick_fault : Answer → Option Errno
brick_fault (File f) = None
brick_fault (Dir g) = None
brick_fault (Made f) = None
brick_fault Done = None
brick_fault (Fault e) = brick_error e

-- at a turn a machine notes the first error that a reply to one of its requests
-- tells of; and the call answers it, and no error of a brick where there is none
abbrev pub NotesFault :
    {M : Type 0} → (M → Option Errno) → M → Request → Reply → Turn M Ended → Type 0
NotesFault fault m q r turn =
    MatchTurn turn (λ n. fault n ≡ either (fault m) (fault_for q r))
    (λ d. brick_fault d.finish.answer ≡ either (fault m) (fault_for q r))

-- so does a client, from what was noted before to what is noted then
abbrev pub CallNotesFault : (before after : Option Errno) → Request → Reply → Option Finish → Type 0
CallNotesFault before after q r answer =
    MatchOption answer (after ≡ either before (fault_for q r))
    (λ f. brick_fault f.answer ≡ either before (fault_for q r))
