-- What is proved of transitions.
use Rattle.dht_invariant.specs.Laws.{TransitionLaws}
use Rattle.dht_invariant.proofs.Composes.{transitions_compose}
use Rattle.dht_invariant.proofs.DeathKeeps.{deaths_are_transitions}
use Rattle.dht_invariant.proofs.LineKeeps.{claims_are_transitions, lines_are_transitions}
use Rattle.dht_invariant.proofs.RequestKeeps.{request_transition}

pub transition_laws : TransitionLaws
transition_laws = record {
  request = request_transition;
  claim = claims_are_transitions;
  line = lines_are_transitions;
  death = deaths_are_transitions;
  compose = transitions_compose;
}
