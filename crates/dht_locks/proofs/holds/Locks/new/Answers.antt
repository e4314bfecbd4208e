use Rattle.std.proofs.Common.{ap}
use Rattle.dht_locks.specs.Held.{locks_in}
use Rattle.dht_locks.proofs.LockLemmas.{locks_of}
use Rattle.dht_locks.proofs.holds.Locks.new.Goals as goal

pub returns : goal.returns
unfolding locks_in
returns c = ap locks_of c.new.ensures.empty
