use Rattle.dht_sched.proofs.PrintLemmas.{hash_done}
use Rattle.dht_sched.proofs.commands.push_hash.Goals as goal

pub returns : goal.returns
returns c = hash_done _ _ _ _ _ _ _ _ (c.in_ok-extend_from_slice.ensures.items) c.hash_digits.ensures c.in_ok-push.ensures.items c.in_ok-push_name.ensures c.in_ok-push-2.ensures.items
