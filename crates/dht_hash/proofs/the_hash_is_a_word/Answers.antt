use Rattle.dht_hash.proofs.DaviesMeyerLaws.{dm_below}
use Rattle.dht_hash.proofs.the_hash_is_a_word.Goals as goal

pub returns : goal.returns
returns c = dm_below
