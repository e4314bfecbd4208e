use Rattle.std.proofs.Common.{◌≡◌, sym, ap, ◌∙◌}
use Rattle.dht_xattr.specs.Faults.{has_hole, has_overlap}
use Rattle.dht_xattr.proofs.FaultLaws.{has_hole_is, has_overlap_is}
use Rattle.dht_xattr.proofs.faults.faults.Goals as goal

pub returns-clause-holes : goal.returns-clause-holes
returns-clause-holes c =
    let same : c.has_hole.result ≡ has_hole c.args.layout.now = c.has_hole.ensures ∙ ap has_hole c.as_slice.ensures.ranges in
    let (there, back) = has_hole_is c.args.layout.now in
    (λ t. there (sym same ∙ t), λ hole. same ∙ back hole)

pub returns-clause-overlaps : goal.returns-clause-overlaps
returns-clause-overlaps c =
    let same : c.has_overlap.result ≡ has_overlap c.args.layout.now = c.has_overlap.ensures ∙ ap has_overlap c.as_slice-2.ensures.ranges in
    let (there, back) = has_overlap_is c.args.layout.now in
    (λ t. there (sym same ∙ t), λ overlap. same ∙ back overlap)
