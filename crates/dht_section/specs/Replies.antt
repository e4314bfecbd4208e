-- What a program reads in a reply.
use Rattle.std.specs.Prelude.{Bool, true, false, Option, Some, None}
use Rattle.dht_types.specs.declared.identifiers.Gfid.{Gfid}
use Rattle.dht_types.specs.declared.errors.Errno.{Errno}
use Rattle.dht_types.specs.declared.errors.Errno.TheVariants.{Enotconn, Eio, Enomem}
use Rattle.dht_xattr.specs.declared.range.Range.{Range}
use Rattle.dht_brick.specs.declared.replies.Given.TheVariants.{Look, Dirinfo}
use Rattle.dht_brick.specs.declared.replies.Reply.{Reply}
use Rattle.dht_brick.specs.declared.replies.Reply.TheVariants.{Ok as Carried, Refused as Declined, Down, Failed, NoMemory}
use Rattle.dht_brick.specs.declared.replies.Why.TheVariants.{Nodir}
use Rattle.dht_section.specs.Disk.{file_in, range_of_value}

-- the error that ends a call whose request was answered so, if it ends the call
abbrev pub fault_of : Reply → Option Errno
fault_of Down = Some Enotconn
fault_of Failed = Some Eio
fault_of NoMemory = Some Enomem
fault_of r = None

-- the brick showed what was asked for, or that it has no record of the directory
abbrev pub is_shown : Reply → Bool
is_shown (Carried given) = true
is_shown (Declined Nodir) = true
is_shown r = false

-- the file that a look found at the name
abbrev pub file_shown : Reply → Option Gfid
file_shown (Carried (Look look)) = file_in look.slot
file_shown r = None

-- the range of the directory that a look or a directory's record shows;
-- a brick that has no record of the directory has no range of it
abbrev pub range_shown : Reply → Option Range
range_shown (Carried (Look look)) = range_of_value look.value
range_shown (Carried (Dirinfo info)) = range_of_value info.value
range_shown r = None
