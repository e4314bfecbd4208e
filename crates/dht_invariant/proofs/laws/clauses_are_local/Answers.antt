use Rattle.dht_invariant.proofs.ClauseLocality.{clauses_are_local, requests_leave_others, answers_leave_others}
use Rattle.dht_invariant.proofs.laws.clauses_are_local.Goals as goal

pub returns-clause-clauses : goal.returns-clause-clauses
returns-clause-clauses c = clauses_are_local

pub returns-clause-others : goal.returns-clause-others
returns-clause-others c = requests_leave_others

pub returns-clause-answers : goal.returns-clause-answers
returns-clause-answers c = answers_leave_others
