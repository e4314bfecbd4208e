use Rattle.dht_section.proofs.SameLists.{one_name}
use Rattle.dht_section.proofs.want.one_name_has_two_locks.Goals as goal

pub returns : goal.returns
returns c = one_name
