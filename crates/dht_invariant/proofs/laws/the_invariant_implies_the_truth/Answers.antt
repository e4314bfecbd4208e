use Rattle.dht_invariant.proofs.StandsLaws.{stands_of, placed_of}
use Rattle.dht_invariant.proofs.laws.the_invariant_implies_the_truth.Goals as goal

pub returns-clause-stands : goal.returns-clause-stands
returns-clause-stands c = stands_of

pub returns-clause-placed : goal.returns-clause-placed
returns-clause-placed c = placed_of
