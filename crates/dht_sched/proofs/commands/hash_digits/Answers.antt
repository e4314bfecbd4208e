use Rattle.std.proofs.Common.{ap, ◌∙◌}
use Rattle.hex.specs.Hex.{encode_lower}
use Rattle.dht_sched.proofs.HexLemmas.{encode_word}
use Rattle.dht_sched.proofs.commands.hash_digits.Goals as goal

pub returns : goal.returns
returns c =
    let written = rw c.unwrap.ensures at c.encode_to_slice.ensures.written in
    written ∙ (ap encode_lower c.to_be_bytes.ensures ∙ encode_word c.args.hash)
