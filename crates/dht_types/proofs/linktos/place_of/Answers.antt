use Rattle.std.proofs.Common.{◌++◌, length, drop, ap, ◌∙◌}
use Rattle.std.specs.Prelude.{replicate}
use Rattle.std.proofs.lemmas.List.{drop-replicate}
use Rattle.dht_types.proofs.linktos.place_of.Goals as goal

pub returns : goal.returns
returns c =
    let bytes = c.args.bytes.now in
    ap (λ start. start ++ drop (length bytes) (replicate 65 0)) c.copy_from_slice.ensures.after ∙ ap (λ zeros. bytes ++ zeros) (drop-replicate (length bytes) 65 0)
