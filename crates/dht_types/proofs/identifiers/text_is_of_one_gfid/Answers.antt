use Rattle.dht_types.proofs.TextLemmas.{gfid_text_tells}
use Rattle.dht_types.proofs.identifiers.text_is_of_one_gfid.Goals as goal

pub returns : goal.returns
returns c = gfid_text_tells
