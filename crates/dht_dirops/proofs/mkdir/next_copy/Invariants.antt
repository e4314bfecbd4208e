use Rattle.std.proofs.Common.{◌≡◌}
use Rattle.dht_dirops.specs.Mkdir.{next_copy}
use Rattle.dht_dirops.proofs.mkdir.next_copy.Given as goal

abbrev pub invariant-loop-brick : goal.invariant-loop-brick
invariant-loop-brick l = next_copy l.new l.held l.from ≡ next_copy l.new l.held l.brick
