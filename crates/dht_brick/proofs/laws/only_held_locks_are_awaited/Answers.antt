use Rattle.dht_brick.proofs.LockLaws.{free_locks_are_granted, held_locks_are_awaited}
use Rattle.dht_brick.proofs.laws.only_held_locks_are_awaited.Goals as goal

pub returns-clause-granted : goal.returns-clause-granted
returns-clause-granted c = free_locks_are_granted

pub returns-clause-awaited : goal.returns-clause-awaited
returns-clause-awaited c = held_locks_are_awaited
