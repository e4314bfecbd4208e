-- A file that is here, without its bytes.
use Rattle.std.specs.Prelude.{ℕ, Option, Some, None, List}
use Rattle.dht_types.specs.declared.identifiers.BrickNo.{BrickNo}
use Rattle.dht_types.specs.declared.stored.Record.{Record}
use Rattle.dht_types.specs.declared.stored.Record.TheVariants.{Live, Moving}
use Rattle.dht_files.specs.declared.writes.Header.{Header}

-- what a record of a file that is here has beside its bytes
abbrev pub header_of : Option Record → Option Header
header_of (Some (Live hop bytes)) = Some (record { hop = hop; dest = None })
header_of (Some (Moving hop dest bytes)) = Some (record { hop = hop; dest = Some dest })
header_of r = None

abbrev pub record_at : ℕ → Option BrickNo → List ℕ → Record
record_at hop None bytes = Live hop bytes
record_at hop (Some dest) bytes = Moving hop dest bytes

-- the record of these bytes
abbrev pub record_of : Header → List ℕ → Record
record_of h bytes = record_at h.hop h.dest bytes
