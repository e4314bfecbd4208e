use Rattle.std.proofs.Common.{◌≡◌}
use Rattle.dht_section.specs.Sweep.{next_linkto}
use Rattle.dht_section.proofs.sweep.next_linkto.Given as goal

abbrev pub invariant-loop-brick : goal.invariant-loop-brick
invariant-loop-brick l = next_linkto l.bricks l.linktos l.from ≡ next_linkto l.bricks l.linktos l.brick
