use Rattle.dht_resolve.proofs.ShortLaws.{at_holder, by_linkto}
use Rattle.dht_resolve.proofs.lookup.a_first_lookup_is_short.Goals as goal

pub returns-clause-at_holder : goal.returns-clause-at_holder
returns-clause-at_holder c = at_holder

pub returns-clause-by_linkto : goal.returns-clause-by_linkto
returns-clause-by_linkto c = by_linkto
