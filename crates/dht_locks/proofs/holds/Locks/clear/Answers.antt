use Rattle.std.proofs.Common.{ap}
use Rattle.dht_locks.specs.Held.{locks_in}
use Rattle.dht_locks.proofs.LockLemmas.{locks_of}
use Rattle.dht_locks.proofs.holds.Locks.clear.Goals as goal

pub returns : goal.returns
unfolding locks_in
returns c = ap locks_of c.clear.ensures.empty
