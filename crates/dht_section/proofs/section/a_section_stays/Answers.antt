use Rattle.dht_section.specs.SectionLaws.{is_held_stable}
use Rattle.dht_section.proofs.HeldLaws.{found_is, directory_is, holder_is, root_holder_is, root_is_copied, linkto_is}
use Rattle.dht_section.proofs.section.a_section_stays.Goals as goal

pub returns-clause-stays : goal.returns-clause-stays
returns-clause-stays c = is_held_stable

pub returns-clause-found : goal.returns-clause-found
returns-clause-found c = found_is

pub returns-clause-holder : goal.returns-clause-holder
returns-clause-holder c = holder_is

pub returns-clause-root : goal.returns-clause-root
returns-clause-root c = root_holder_is

pub returns-clause-copied : goal.returns-clause-copied
returns-clause-copied c = root_is_copied

pub returns-clause-directory : goal.returns-clause-directory
returns-clause-directory c = directory_is

pub returns-clause-linkto : goal.returns-clause-linkto
returns-clause-linkto c = linkto_is
