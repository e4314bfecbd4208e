use Rattle.std.proofs.Common.{subst, sym}
use Rattle.std.specs.Prelude.{OnOk}
use Rattle.dht_types.specs.declared.events.Event.{Event}
use Rattle.dht_world.specs.Places.{Comes}
use Rattle.dht_world.proofs.events.World.happen.Goals as goal

pub returns-in-Call-clause-comes : goal.returns-in-Call-clause-comes
returns-in-Call-clause-comes g c = subst (λ (e : Event). OnOk c.call.result (Comes g.B.Brick g.C.Caller c.args.self.now c.call.new.self e c.args.out.now.items c.call.new.out.items)) (sym c.in-Call.is) c.call.ensures.comes

pub returns-in-Down-clause-comes : goal.returns-in-Down-clause-comes
returns-in-Down-clause-comes g c = subst (λ (e : Event). Comes g.B.Brick g.C.Caller c.args.self.now c.down.new.self e c.args.out.now.items c.down.new.out.items) (sym c.in-Down.is) c.down.ensures.comes

pub returns-in-Die-clause-comes : goal.returns-in-Die-clause-comes
returns-in-Die-clause-comes g c = subst (λ (e : Event). Comes g.B.Brick g.C.Caller c.args.self.now c.die.new.self e c.args.out.now.items c.die.new.out.items) (sym c.in-Die.is) c.die.ensures.comes

pub returns-in-Up-clause-comes : goal.returns-in-Up-clause-comes
returns-in-Up-clause-comes g c = subst (λ (e : Event). Comes g.B.Brick g.C.Caller c.args.self.now c.up.new.self e c.args.out.now.items c.up.new.out.items) (sym c.in-Up.is) c.up.ensures.comes

pub returns-in-Step-clause-comes : goal.returns-in-Step-clause-comes
returns-in-Step-clause-comes g c = subst (λ (e : Event). OnOk c.step.result (Comes g.B.Brick g.C.Caller c.args.self.now c.step.new.self e c.args.out.now.items c.step.new.out.items)) (sym c.in-Step.is) c.step.ensures.comes
