-- The lines that tell what a brick contains.
use Rattle.std.specs.Prelude.{ℕ, Bool, List, ◌∷◌, ◌++◌, map, length}
use Rattle.std.specs.FinMap.{entries}
use Rattle.sha2.specs.Sha256.{sha256}
use Rattle.dht_types.specs.Gfid.{Entry}
use Rattle.dht_types.specs.declared.identifiers.Gfid.{Gfid}
use Rattle.dht_types.specs.declared.identifiers.BrickNo.{BrickNo}
use Rattle.dht_types.specs.declared.lines.DumpLine.{DumpLine}
use Rattle.dht_types.specs.declared.lines.DumpLine.TheVariants as line
use Rattle.dht_types.specs.declared.lines.RecordLine.{RecordLine}
use Rattle.dht_types.specs.declared.lines.RecordLine.TheVariants as record_line
use Rattle.dht_types.specs.declared.stored.DirRecord.{DirRecord}
use Rattle.dht_types.specs.declared.stored.Slot.{Slot}
use Rattle.dht_types.specs.declared.stored.Record.{Record}
use Rattle.dht_types.specs.declared.stored.Record.TheVariants.{Live, Moving, Standby, Forward}
use Rattle.dht_brick.specs.Contents.{Store}
use Rattle.dht_brick.specs.Links.{links}

abbrev pub dir_line : BrickNo → Gfid × DirRecord → DumpLine
dir_line b e = line.Dir b e.0 e.1.value

abbrev pub slot_line : BrickNo → Entry × Slot → DumpLine
slot_line b e = line.Slot b e.0.0 e.0.1 e.1

-- the line of a record, of a file with so many links
abbrev pub record_told : ℕ → Record → RecordLine
record_told n (Live hop bytes) = record_line.Live hop n (length bytes) (sha256 bytes)
record_told n (Moving hop dest bytes) = record_line.Moving hop n (length bytes) (sha256 bytes) dest
record_told n (Standby c) =
    record_line.Standby c.hop c.source (length c.bytes) (sha256 c.bytes) c.is_dirty
record_told n (Forward hop brick) = record_line.Forward brick hop

abbrev pub file_line : BrickNo → Store → Gfid × Record → DumpLine
file_line b s e = line.File b e.0 (record_told (links s.slots e.0) e.1)

-- the brick and whether it is up, then its directories, slots and files, each by its key
abbrev pub dump_of : BrickNo → Bool → Store → List DumpLine
dump_of b is_up s =
    line.Brick b is_up
    ∷ (map (dir_line b) (entries s.dirs) ++ map (slot_line b) (entries s.slots)
    ++ map (file_line b s) (entries s.files))
