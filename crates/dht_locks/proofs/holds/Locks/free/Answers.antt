use Rattle.std.specs.Prelude.{None}
use Rattle.dht_locks.specs.Held.{locks_in}
use Rattle.dht_locks.proofs.LockLemmas.{held-updated}
use Rattle.dht_locks.proofs.holds.Locks.free.Goals as goal

pub returns : goal.returns
unfolding locks_in
returns c = held-updated c.args.self.now.held c.remove.new.self c.args.key.now c.args.client.0 None c.remove.ensures.updates
