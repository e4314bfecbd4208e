use Rattle.dht_xattr.proofs.RangeLaws.{decoded_encoded}
use Rattle.dht_xattr.proofs.range.a_range_is_read_from_its_bytes.Goals as goal

pub returns : goal.returns
returns c = decoded_encoded
