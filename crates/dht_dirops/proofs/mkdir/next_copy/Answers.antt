use Rattle.std.proofs.Common.{refl, sym, arith, ◌∙◌}
use Rattle.dht_dirops.proofs.CopySteps.{copy_here, copy_above, copy_past}
use Rattle.dht_dirops.specs.Mkdir.{copies_of}
use Rattle.dht_dirops.proofs.mkdir.next_copy.Goals as goal

pub loop-brick-init : goal.loop-brick-init
loop-brick-init c = refl

pub returns-then-is_to_copy : goal.returns-then-is_to_copy
returns-then-is_to_copy c = sym (c.loop-brick.invariant ∙ copy_here c.args.new.now.target.location.bricks (copies_of c.args.new.now.target c.args.held.now) c.args.new.now.home.0 c.loop-brick.brick c.loop-brick-test.true (sym c.is_to_copy.ensures ∙ c.if-is_to_copy.true))

pub loop-brick-preserved : goal.loop-brick-preserved
loop-brick-preserved c = c.loop-brick.invariant ∙ copy_above c.args.new.now.target.location.bricks (copies_of c.args.new.now.target c.args.held.now) c.args.new.now.home.0 c.loop-brick.brick c.loop-brick-test.true (sym c.is_to_copy.ensures ∙ c.if-is_to_copy.false)

pub returns : goal.returns
returns c = sym (c.loop-brick.invariant ∙ copy_past c.args.new.now.target.location.bricks (copies_of c.args.new.now.target c.args.held.now) c.args.new.now.home.0 c.loop-brick.brick (omega arith))
