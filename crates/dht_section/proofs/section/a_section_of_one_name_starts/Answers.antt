use Rattle.dht_section.proofs.FirstSection.{starts}
use Rattle.dht_section.proofs.section.a_section_of_one_name_starts.Goals as goal

pub returns : goal.returns
returns c = starts
