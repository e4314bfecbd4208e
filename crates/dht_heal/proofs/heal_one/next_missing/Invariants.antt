use Rattle.std.proofs.Common.{◌≡◌}
use Rattle.dht_heal.specs.HealOne.{next_missing}
use Rattle.dht_heal.proofs.heal_one.next_missing.Given as goal

abbrev pub invariant-loop-brick : goal.invariant-loop-brick
invariant-loop-brick l = next_missing l.bricks l.survey.copies l.from ≡ next_missing l.bricks l.survey.copies l.brick
