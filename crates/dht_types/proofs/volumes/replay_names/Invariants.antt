use Rattle.std.proofs.Common.{◌≡◌}
use Rattle.dht_types.specs.Volume.{replay_names}
use Rattle.dht_types.proofs.volumes.replay_names.Given as goal

abbrev pub invariant-loop-brick : goal.invariant-loop-brick
invariant-loop-brick l = l.names.items ≡ replay_names l.brick
