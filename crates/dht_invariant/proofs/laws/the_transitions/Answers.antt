use Rattle.dht_invariant.proofs.TransitionLaws.{transition_laws}
use Rattle.dht_invariant.proofs.laws.the_transitions.Goals as goal

pub returns : goal.returns
returns c = transition_laws
