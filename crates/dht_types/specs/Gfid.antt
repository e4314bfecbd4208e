-- The parts of a gfid.
use Rattle.std.specs.Prelude.{ℕ, Bool, ◌+◌, ◌*◌, ◌/◌, ◌%◌, ◌==◌, if◌then◌else◌, List}
use Rattle.dht_types.specs.declared.identifiers.Gfid.{Gfid}
use Rattle.dht_types.specs.declared.identifiers.ClientNo.{ClientNo}
use Rattle.dht_types.specs.declared.identifiers.CallNo.{CallNo}

-- the root directory
abbrev pub root : Gfid
root = record { 0 = 1 }

-- from high to low: run (32 bits), client (16 bits), call (64 bits), home brick (16 bits)
abbrev pub made : ℕ → ClientNo → CallNo → ℕ → Gfid
made run client call home = record {
  0 = (run * 65536 + client.0) * 1208925819614629174706176 + (call.0 * 65536 + home);
}

-- the run in which it was made
abbrev pub run_of : Gfid → ℕ
run_of g = g.0 / 79228162514264337593543950336

-- the low 16 bits, and 0 for the root
abbrev pub home : Gfid → ℕ
home g = if g.0 == 1 then 0 else g.0 % 65536

-- the brick of the locks of a directory and its names, among so many bricks
abbrev pub anchor : Gfid → ℕ → ℕ
anchor g bricks = g.0 / 65536 % 4294967296 % bricks

-- the call that made it
abbrev pub call_of : Gfid → ℕ
call_of g = g.0 / 65536 % 18446744073709551616

-- two gfids are one
abbrev pub same_gfid : Gfid → Gfid → Bool
same_gfid a b = a.0 == b.0

-- a name in a directory
abbrev pub Entry : Type 0
Entry = Gfid × List ℕ
