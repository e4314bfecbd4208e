use Rattle.dht_xattr.proofs.LinktoLaws.{linked_brick-written, linked_brick-name, linkto_value-short}
use Rattle.dht_xattr.proofs.linkto.a_linkto_leads_to_its_brick.Goals as goal

pub returns-clause-written : goal.returns-clause-written
returns-clause-written c = linked_brick-written

pub returns-clause-short : goal.returns-clause-short
returns-clause-short c = linkto_value-short

pub returns-clause-name : goal.returns-clause-name
returns-clause-name c = linked_brick-name
