use Rattle.std.proofs.Common.{◌++◌, ap, ◌∙◌, arith}
use Rattle.dht_types.specs.Text.{hex_bytes}
use Rattle.dht_sched.proofs.PrintLemmas.{one_more, hex_bytes-append}
use Rattle.dht_sched.proofs.fields.push_hex.Goals as goal

pub loop-byte-preserved : goal.loop-byte-preserved
loop-byte-preserved c =
    let more = c.in_ok-extend_from_slice.ensures.items ∙ ap (λ digits. c.loop-byte.out.items ++ digits) c.hex_pair.ensures in
    one_more hex_bytes hex_bytes-append _ _ _ c.args.bytes.now c.loop-byte.byte-index 0 (omega arith) c.loop-byte.invariant more
