use Rattle.dht_xattr.proofs.LayoutLaws.{holder_within, holder_some}
use Rattle.dht_xattr.proofs.layout.a_holder_is_in_the_layout.Goals as goal

pub returns-clause-within : goal.returns-clause-within
returns-clause-within c = holder_within

pub returns-clause-some : goal.returns-clause-some
returns-clause-some c = holder_some
