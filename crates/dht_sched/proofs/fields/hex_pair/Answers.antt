use Rattle.std.proofs.Common.{◌∙◌, arith}
use Rattle.dht_sched.proofs.HexLemmas.{encode_one}
use Rattle.dht_sched.proofs.fields.hex_pair.Goals as goal

pub returns : goal.returns
returns c = let written = rw c.unwrap.ensures at c.encode_to_slice.ensures.written in written ∙ encode_one c.args.byte (omega arith)
