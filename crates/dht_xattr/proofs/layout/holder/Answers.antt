use Rattle.std.proofs.Common.{◌≡◌, List, ap, sym, subst, ◌∙◌}
use Rattle.std.specs.Prelude.{Option, Some, None, IfNone}
use Rattle.dht_types.specs.declared.identifiers.BrickNo.{BrickNo}
use Rattle.dht_xattr.specs.declared.range.Range.{Range}
use Rattle.dht_xattr.specs.Layout.{holder, covers}
use Rattle.dht_xattr.proofs.LayoutLaws.{holder_none, holder_within, holder_contains}
use Rattle.dht_xattr.proofs.layout.holder.Goals as goal

pub returns-clause-some : goal.returns-clause-some
returns-clause-some c =
    let layout = c.args.layout.now in
    let held : holder layout c.args.hash ≡ Some c.in_ok-brick.brick =
    ap (λ (ranges : List (Option Range)). holder ranges c.args.hash) (sym c.as_slice.ensures.ranges) ∙ sym c.in_ok-brick.ensures in
    (holder_within layout c.args.hash c.in_ok-brick.brick held, holder_contains layout c.args.hash c.in_ok-brick.brick held)

pub returns-in_err-brick-clause-none : goal.returns-in_err-brick-clause-none
returns-in_err-brick-clause-none c =
    let layout = c.args.layout.now in
    let none : holder layout c.args.hash ≡ None =
    ap (λ (ranges : List (Option Range)). holder ranges c.args.hash) (sym c.as_slice.ensures.ranges) ∙ sym (c.first_with.ensures) ∙ c.in_err-brick.was in
    subst (λ (o : Option BrickNo). IfNone o (covers layout c.args.hash ≡ 0)) (sym c.from_residual.ensures) (holder_none layout c.args.hash none)
