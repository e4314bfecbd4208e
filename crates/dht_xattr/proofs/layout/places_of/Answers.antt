use Rattle.std.proofs.Common.{List, Option, None, ◌++◌, length, drop, ap, ◌∙◌}
use Rattle.std.specs.Prelude.{replicate}
use Rattle.std.proofs.lemmas.List.{drop-replicate}
use Rattle.dht_xattr.specs.declared.range.Range.{Range}
use Rattle.dht_xattr.proofs.layout.places_of.Goals as goal

pub returns : goal.returns
returns c =
    let ranges = c.args.ranges.now in
    ap (λ (start : List (Option Range)). start ++ drop (length ranges) (replicate 32 None)) c.copy_from_slice.ensures.after
    ∙ ap (λ (rest : List (Option Range)). ranges ++ rest) (drop-replicate (length ranges) 32 None)
