use Rattle.dht_invariant.proofs.DirRequests.{directories_keep}
use Rattle.dht_invariant.proofs.laws.a_directory_request_keeps_each_thing.Goals as goal

pub returns : goal.returns
returns c = directories_keep
