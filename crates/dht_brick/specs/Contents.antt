-- What a brick contains: finite maps.
use Rattle.std.specs.Prelude.{ℕ, Option, None, List, unwrap_or}
use Rattle.std.specs.FinMap.{FinMap, get, insert, empty}
use Rattle.std.specs.Ordering.{nat_cmp, ordering_then}
use Rattle.std.specs.Cmp.Lexicographic.{slice_cmp}
use Rattle.std.specs.declared.cmp.Ordering.{Ordering}
use Rattle.dht_types.specs.Gfid.{Entry, root}
use Rattle.dht_types.specs.declared.identifiers.Gfid.{Gfid}
use Rattle.dht_types.specs.declared.locks.Key.{Key}
use Rattle.dht_types.specs.declared.locks.Mode.{Mode}
use Rattle.dht_types.specs.declared.names.EntryKey.{EntryKey}
use Rattle.dht_types.specs.declared.stored.DirRecord.{DirRecord}
use Rattle.dht_types.specs.declared.stored.Record.{Record}
use Rattle.dht_types.specs.declared.stored.Slot.{Slot}
use Rattle.dht_brick.specs.declared.opens.Registration.{Registration}

-- gfids by their numbers
abbrev pub gfid_cmp : Gfid → Gfid → Ordering
gfid_cmp a b = nat_cmp a.0 b.0

-- names by directory, and then by their bytes
abbrev pub entry_cmp : Entry → Entry → Ordering
entry_cmp a b = ordering_then (gfid_cmp a.0 b.0) (slice_cmp nat_cmp a.1 b.1)

-- registrations by file, client and call
abbrev pub registration_cmp : Registration → Registration → Ordering
registration_cmp a b =
    ordering_then (gfid_cmp a.file b.file)
    (ordering_then (nat_cmp a.client.0 b.client.0) (nat_cmp a.call.0 b.call.0))

-- the name of a slot
abbrev pub entry_at : EntryKey → Entry
entry_at k = (k.dir, k.name)

-- a slot with no part
abbrev pub bare : Slot
bare = record { main = None; standby = None }

abbrev pub Slots : Type 0
Slots = FinMap entry_cmp Slot

-- the parts of a slot
abbrev pub slot_in : Slots → Entry → Slot
slot_in slots e = unwrap_or (get slots e) bare

-- directory records
abbrev pub Dirs : Type 0
Dirs = FinMap gfid_cmp DirRecord

-- file records
abbrev pub Files : Type 0
Files = FinMap gfid_cmp Record

-- directory records and slots, and the names of the bricks of the volume that is known
pub record Tables : Type 0 where
  pub dirs : Dirs
  pub slots : Slots
  pub bricks : List (List ℕ)

-- what a brick stores: directory records, slots and file records
pub record Store : Type 0 where
  pub dirs : Dirs
  pub slots : Slots
  pub files : Files

-- the files that clients have opened, and those that can be
-- opened no more: sets, as maps with nothing at each key
pub record Opens : Type 0 where
  pub registered : FinMap registration_cmp (Unit {0})
  pub sealed : FinMap gfid_cmp (Unit {0})

-- how each client holds each lock
abbrev pub Locks : Type 0
Locks = Key → ℕ → Option Mode

pub record Contents : Type 0 where
  pub store : Store
  pub opens : Opens
  pub locks : Locks

abbrev pub store_of : Tables → Files → Store
store_of t f = record { dirs = t.dirs; slots = t.slots; files = f }

-- the record of a directory, the parts of a slot, and the record of a file
abbrev pub dir : Store → Gfid → Option DirRecord
dir s g = get s.dirs g

abbrev pub slot : Store → Entry → Slot
slot s e = slot_in s.slots e

abbrev pub file : Store → Gfid → Option Record
file s f = get s.files f

abbrev pub no_opens : Opens
no_opens = record { registered = empty; sealed = empty }

abbrev pub no_locks : Locks
no_locks key client = None

-- a new brick: the record of the root alone, with this attribute
abbrev pub newborn : Option (List ℕ) → Contents
newborn v = record {
  store =
      record {
        dirs = insert empty root (record { place = None; depth = 0; value = v });
        slots = empty;
        files = empty;
      };
  opens = no_opens;
  locks = no_locks;
}
