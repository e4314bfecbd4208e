use Rattle.dht_invariant.proofs.Newborn.{new_invariant, new_early}
use Rattle.dht_invariant.proofs.laws.new_bricks_meet_the_invariant.Goals as goal

pub returns : goal.returns
returns c = λ ws d new heavy count some few. (new_invariant ws d new some heavy count few, new_early ws d new some heavy count)
