use Rattle.dht_types.proofs.EntryLemmas.{entry_cmp-Equal}
use Rattle.dht_types.proofs.names.equal_keys_are_one.Goals as goal

pub returns : goal.returns
returns c = entry_cmp-Equal
