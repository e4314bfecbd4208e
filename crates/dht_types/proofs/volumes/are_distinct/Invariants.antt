use Rattle.std.proofs.Common.{◌≡◌, drop}
use Rattle.dht_types.specs.Volume.{are_distinct}
use Rattle.dht_types.proofs.volumes.are_distinct.Given as goal

abbrev pub invariant-loop-place : goal.invariant-loop-place
invariant-loop-place l = are_distinct l.names ≡ are_distinct (drop l.place l.names)
