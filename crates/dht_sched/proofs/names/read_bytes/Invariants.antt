use Rattle.std.proofs.Common.{◌≡◌, ◌++◌, length}
use Rattle.std.specs.List.{flat_map}
use Rattle.dht_sched.specs.Spelling.{AreBytes, spelled_byte}
use Rattle.dht_sched.proofs.names.read_bytes.Given as goal

abbrev pub invariant-loop-rest : goal.invariant-loop-rest
invariant-loop-rest l = record {
  small : AreBytes l.bytes.items;
  read : l.fn.text ≡ flat_map spelled_byte l.bytes.items ++ l.rest;
}

abbrev pub decreases-loop-rest : goal.decreases-loop-rest
decreases-loop-rest l = length l.rest
