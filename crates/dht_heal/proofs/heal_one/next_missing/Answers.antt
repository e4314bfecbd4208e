use Rattle.std.proofs.Common.{refl, sym, arith, ◌∙◌}
use Rattle.dht_heal.proofs.MissingLaws.{missing_here, missing_above, missing_past}
use Rattle.dht_heal.proofs.heal_one.next_missing.Goals as goal

pub loop-brick-init : goal.loop-brick-init
loop-brick-init c = refl

pub returns-then-not-mark_at : goal.returns-then-not-mark_at
returns-then-not-mark_at c = sym (c.loop-brick.invariant ∙ missing_here c.args.bricks c.args.survey.now.copies c.loop-brick.brick c.loop-brick-test.true (sym c.mark_at.ensures ∙ c.if-not-mark_at.true))

pub loop-brick-preserved : goal.loop-brick-preserved
loop-brick-preserved c = c.loop-brick.invariant ∙ missing_above c.args.bricks c.args.survey.now.copies c.loop-brick.brick c.loop-brick-test.true (sym c.mark_at.ensures ∙ c.if-not-mark_at.false)

pub returns : goal.returns
returns c = sym (c.loop-brick.invariant ∙ missing_past c.args.bricks c.args.survey.now.copies c.loop-brick.brick (omega arith))
