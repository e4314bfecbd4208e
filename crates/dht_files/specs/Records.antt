-- What a brick's file records are, told from the map that keeps them.
use Rattle.std.specs.Prelude.{Option, Some, None}
use Rattle.std.specs.FinMap.{from_entries, insert, remove}
use Rattle.dht_types.specs.declared.identifiers.Gfid.{Gfid}
use Rattle.dht_types.specs.declared.stored.Record.{Record}
use Rattle.dht_brick.specs.Contents.{Files as Records, gfid_cmp}
use Rattle.dht_files.specs.declared.records.Files.{Files}

-- the file records
unfoldable pub files_in : Files → Records
files_in f = from_entries {R = gfid_cmp} f.records.entries

-- a file has this record, or none
abbrev pub with_record : Records → Gfid → Option Record → Records
with_record files f None = remove files f
with_record files f (Some r) = insert files f r
