-- Where a request changes what a brick stores.
use Rattle.std.specs.Prelude.{ℕ, ◌≡◌, ◌≢◌, Option, Some, None, List}
use Rattle.std.specs.FinMap.{get}
use Rattle.dht_types.specs.Gfid.{Entry}
use Rattle.dht_types.specs.declared.identifiers.Gfid.{Gfid}
use Rattle.dht_types.specs.declared.identifiers.ClientNo.{ClientNo}
use Rattle.dht_types.specs.declared.identifiers.CallNo.{CallNo}
use Rattle.dht_types.specs.declared.locks.Key.{Key}
use Rattle.dht_types.specs.declared.stored.Record.{Record}
use Rattle.dht_types.specs.declared.stored.Record.TheVariants.{Standby as Copied}
use Rattle.dht_brick.specs.Contents.{Contents, Store, file}
use Rattle.dht_brick.specs.FileRows.{file_row, copy_name}
use Rattle.dht_brick.specs.NameRows.{name_row}
use Rattle.dht_brick.specs.Named.{name_named, file_of}
use Rattle.dht_brick.specs.Outcome.{Outcome, Do, Refuse, Await}
use Rattle.dht_brick.specs.Rows.{after}
use Rattle.dht_brick.specs.declared.requests.Request.{Request}
use Rattle.dht_brick.specs.declared.requests.NameRequest.{NameRequest}
use Rattle.dht_brick.specs.declared.requests.NameRequest.TheVariants.{Look, Page, Dirinfo, SetLayout, MakeDir, DropDir, Create, Orphans}
use Rattle.dht_brick.specs.declared.requests.FileRequest.{FileRequest}
use Rattle.dht_brick.specs.declared.requests.FileRequest.TheVariants.{MakeStandby, DropStandby, Demote, Promote}

-- one slot, the record of one directory and that of one file
-- at most, and the slots in a directory that is dropped
pub record Places : Type 0 where
  pub slot : Option Entry
  pub dir : Option Gfid
  pub file : Option Gfid
  pub dropped : Option Gfid

-- elsewhere the one store is as the other
pub record ChangesOnly (p : Places) (old new : Store) : Type 0 where
  pub slots :
      (e : Entry) → p.slot ≢ Some e → p.dropped ≢ Some e.0 → get new.slots e ≡ get old.slots e
  pub dirs : (g : Gfid) → p.dir ≢ Some g → get new.dirs g ≡ get old.dirs g
  pub files : (f : Gfid) → p.file ≢ Some f → get new.files f ≡ get old.files f

-- what is done changes a store at these places only
abbrev pub IsLocal : Places → Store → Outcome Store → Type 0
IsLocal p old (Do given new) = ChangesOnly p old new
IsLocal p old (Refuse why) = Unit {0}
IsLocal p old (Await holder) = Unit {0}

abbrev pub nowhere : Places
nowhere = record { slot = None; dir = None; file = None; dropped = None }

abbrev pub at_slot : Entry → Places
at_slot e = record nowhere { slot = Some e }

-- the places of a request about names
abbrev pub name_places : NameRequest → Places
name_places (Look d n) = nowhere
name_places (Page d after) = nowhere
name_places (Dirinfo d) = nowhere
name_places (SetLayout d value) = record nowhere { dir = Some d }
name_places (MakeDir d n g depth value) = record nowhere { slot = Some (d, n); dir = Some g }
name_places (DropDir d n g) = record nowhere { slot = Some (d, n); dir = Some g; dropped = Some g }
name_places (Create d n f) = record nowhere { slot = Some (d, n); file = Some f }
name_places (Orphans after) = nowhere
name_places q = at_slot (name_named q)

-- the slot that a request about a file may change, by the
-- file's record: that of a copy, or of the name that it gives
abbrev pub file_slot : FileRequest → Option Record → Option Entry
file_slot (MakeStandby f d n source hop) r = Some (d, n)
file_slot (Demote f d n) r = Some (d, n)
file_slot (DropStandby f) (Some (Copied c)) = Some (copy_name c)
file_slot (Promote f hop) (Some (Copied c)) = Some (copy_name c)
file_slot q r = None

-- the places of a request about a file
abbrev pub file_places : FileRequest → Option Record → Places
file_places q r = record nowhere { slot = file_slot q r; file = Some (file_of q) }

abbrev pub NamesAreLocal : Type 0
NamesAreLocal =
    (bricks : List (List ℕ)) (q : NameRequest) (s : Store)
    → IsLocal (name_places q) s (name_row bricks q s)

abbrev pub FilesAreLocal : Type 0
FilesAreLocal =
    (bricks : List (List ℕ)) (q : FileRequest) (s : Store)
    → IsLocal (file_places q (file s (file_of q))) s (file_row bricks q s)

-- a request changes no lock of another client
abbrev pub LocksAreLocal : Type 0
LocksAreLocal =
    (bricks : List (List ℕ)) (client : ClientNo) (call : CallNo) (q : Request) (c : Contents)
    (key : Key) (other : ℕ)
    → other ≢ client.0 → (after bricks client call q c).locks key other ≡ c.locks key other
