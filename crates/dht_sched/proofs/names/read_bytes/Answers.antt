use Rattle.dht_sched.proofs.NameLemmas.{not_empty, stops, shorter}
use Rattle.dht_sched.proofs.names.read_bytes.Goals as goal

pub returns-in_default : goal.returns-in_default
returns-in_default c =
    let some = not_empty c.loop-rest.rest.now _ c.is_empty.ensures c.loop-rest-test.true in
    stops c.args.text.now c.loop-rest.bytes.items c.loop-rest.rest.now c.loop-rest.invariant.read c.loop-rest.invariant.small some c.in_default.ensures.none

pub loop-rest-smaller : goal.loop-rest-smaller
loop-rest-smaller c = shorter c.loop-rest.rest.now c.in-Some.after.now c.in-Some.byte c.in-Some.ensures.found
