-- What a call names, and when it is refused at once.
use Rattle.std.specs.Prelude.{ℕ, nat_lt, if◌then◌else◌, Option, Some, None, List, option_map}
use Rattle.dht_types.specs.Gfid.{root, home}
use Rattle.dht_types.specs.Name.{refusal_of}
use Rattle.dht_types.specs.declared.errors.Errno.{Errno}
use Rattle.dht_types.specs.declared.errors.Errno.TheVariants.{Estale}
use Rattle.dht_types.specs.declared.identifiers.Gfid.{Gfid}
use Rattle.dht_types.specs.declared.calls.Call.{Call}
use Rattle.dht_types.specs.declared.calls.Call.TheVariants.{Lookup, Create, Mkdir, Unlink, Rmdir, Heal}
use Rattle.dht_types.specs.declared.events.Directory.{Directory}
use Rattle.dht_types.specs.declared.events.Directory.TheVariants.{Root, OfCall, Gfid as OfGfid}

-- the directory of the call's name, or the one that it names
abbrev pub directory_of : {D : Type 0} → Call D → D
directory_of (Lookup d n) = d
directory_of (Create d n) = d
directory_of (Mkdir d n) = d
directory_of (Unlink d n) = d
directory_of (Rmdir d n) = d
directory_of (Heal d) = d

-- its name, if it has one
abbrev pub name_of : {D : Type 0} → Call D → Option (List ℕ)
name_of (Lookup d n) = Some n
name_of (Create d n) = Some n
name_of (Mkdir d n) = Some n
name_of (Unlink d n) = Some n
name_of (Rmdir d n) = Some n
name_of (Heal d) = None

-- the same call in another directory
abbrev pub in_directory : {D E : Type 0} → Call D → E → Call E
in_directory (Lookup d n) e = Lookup e n
in_directory (Create d n) e = Create e n
in_directory (Mkdir d n) e = Mkdir e n
in_directory (Unlink d n) e = Unlink e n
in_directory (Rmdir d n) e = Rmdir e n
in_directory (Heal d) e = Heal e

-- the gfid of a directory that a schedule names, where the calls have answered these
abbrev pub named_gfid : (ℕ → Option Gfid) → Directory → Option Gfid
named_gfid answered Root = Some root
named_gfid answered (OfCall k) = answered k
named_gfid answered (OfGfid g) = Some g

-- the call that a schedule names
abbrev pub named_call : (ℕ → Option Gfid) → Call Directory → Option (Call Gfid)
named_call answered call = option_map (in_directory call) (named_gfid answered (directory_of call))

-- why a name is refused, if there is one
abbrev pub name_refusal : Option (List ℕ) → Option Errno
name_refusal None = None
name_refusal (Some n) = refusal_of n

-- why a call is refused before its first request: its name is none
abbrev pub refusal_at_once : {D : Type 0} → Call D → Option Errno
refusal_at_once call = name_refusal (name_of call)

-- a directory whose home is none of so many bricks is none of the tree
abbrev pub refusal_of_home : ℕ → Gfid → Option Errno
refusal_of_home bricks d = if nat_lt (home d) bricks then None else Some Estale

-- the first of two refusals
abbrev pub first_refusal : Option Errno → Option Errno → Option Errno
first_refusal (Some e) later = Some e
first_refusal None later = later

-- what a call answers before its first request, over so many bricks
abbrev pub refusal_at_start : ℕ → Call Gfid → Option Errno
refusal_at_start bricks call =
    first_refusal (refusal_at_once call) (refusal_of_home bricks (directory_of call))
