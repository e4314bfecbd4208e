-- What the tables of a brick in memory contain.
use Rattle.std.specs.FinMap.{from_entries}
use Rattle.dht_brick.specs.Contents.{Dirs, Slots, Tables as Contained, gfid_cmp}
use Rattle.dht_names.specs.Slots.{map_in}
use Rattle.dht_names.specs.declared.dirs.DirTable.{DirTable}
use Rattle.dht_names.specs.declared.slots.SlotTable.{SlotTable}
use Rattle.dht_names.specs.declared.brick_tables.Tables.{Tables}
pub use Rattle.dht_names.specs.Slots.{main_of, slot_of}

-- the directory records
unfoldable pub dirs_in : DirTable → Dirs
dirs_in t = from_entries {R = gfid_cmp} t.kept.entries

-- the slots
abbrev pub slots_in : SlotTable → Slots
slots_in t = map_in t.map

-- directory records and slots, and the names of the bricks of the volume that is known
abbrev pub tables_in : Tables → Contained
tables_in t = record { dirs = dirs_in t.dirs; slots = slots_in t.slots; bricks = t.volume.names }
