use Rattle.std.proofs.Common.{◌∙◌, sym, ap, length}
use Rattle.dht_types.proofs.TextLemmas.{text_written, length-gfid_text}
use Rattle.dht_types.proofs.identifiers.Gfid.text.Goals as goal

pub copy_from_slice-requires : goal.copy_from_slice-requires
copy_from_slice-requires c =
    let written = text_written c.args.self c.from_u128.result c.hyphenated.result c.encode_lower-written.result.now c.from_u128.ensures c.hyphenated.ensures c.encode_lower-written.ensures.text in
    sym (ap length (c.as_bytes.ensures.value ∙ written) ∙ length-gfid_text c.args.self)

pub returns : goal.returns
returns c =
    c.copy_from_slice.ensures.after ∙ c.as_bytes.ensures.value
    ∙ text_written c.args.self c.from_u128.result c.hyphenated.result c.encode_lower-written.result.now c.from_u128.ensures c.hyphenated.ensures c.encode_lower-written.ensures.text
