use Rattle.dht_sched.proofs.LineLemmas.{no_verb}
use Rattle.dht_sched.proofs.calls.read_call.Goals as goal

pub returns-in_default-call_of : goal.returns-in_default-call_of
returns-in_default-call_of c =
    no_verb c.args.words c.next_number.new.words c.next.new.self c.next_directory.new.words c.in-Some.verb.now c.in_ok-client.client c.in_ok-directory.directory c.in_ok-name.name
    c.in_ok-client.ensures.1 c.in-Some.ensures.steps c.in_ok-directory.ensures.1 c.in_ok-name.ensures.0 c.in_ok-name.ensures.1 c.in_default-call_of.ensures
