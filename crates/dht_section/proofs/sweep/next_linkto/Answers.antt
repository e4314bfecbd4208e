use Rattle.std.proofs.Common.{refl, sym, ap, arith, ◌∙◌}
use Rattle.dht_section.specs.Looks.{has_linkto}
use Rattle.dht_section.proofs.SweepSteps.{first_here, first_above, first_past}
use Rattle.dht_section.proofs.sweep.next_linkto.Goals as goal

pub loop-brick-init : goal.loop-brick-init
loop-brick-init c = refl

pub returns-then-is_there : goal.returns-then-is_there
returns-then-is_there c = sym (c.loop-brick.invariant ∙ first_here c.args.bricks c.args.linktos.now c.loop-brick.brick c.loop-brick-test.true (ap has_linkto (sym c.linkto_at.ensures) ∙ (sym c.is_there.ensures ∙ c.if-is_there.true)))

pub loop-brick-preserved : goal.loop-brick-preserved
loop-brick-preserved c = c.loop-brick.invariant ∙ first_above c.args.bricks c.args.linktos.now c.loop-brick.brick c.loop-brick-test.true (ap has_linkto (sym c.linkto_at.ensures) ∙ (sym c.is_there.ensures ∙ c.if-is_there.false))

pub returns : goal.returns
returns c = sym (c.loop-brick.invariant ∙ first_past c.args.bricks c.args.linktos.now c.loop-brick.brick (omega arith))
