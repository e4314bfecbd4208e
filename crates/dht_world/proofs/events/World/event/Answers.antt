use Rattle.std.proofs.Common.{subst, sym, ap, ◌∙◌, List, [], ◌∷◌, ◌++◌}
use Rattle.dht_types.specs.History.{history_of}
use Rattle.dht_types.specs.declared.lines.Line.{Line}
use Rattle.dht_types.specs.declared.lines.Line.TheVariants.{Refused}
use Rattle.dht_world.specs.Bricks.{disk_of, journals_of}
use Rattle.dht_world.specs.Places.{Adds, summary_of}
use Rattle.dht_world.proofs.BlockLaws.{block_refused}
use Rattle.dht_world.proofs.ClientLaws.{holders_call}
use Rattle.dht_world.proofs.SpentLaws.{not_spent, not_limit}
use Rattle.dht_world.proofs.events.World.event.Goals as goal

pub returns-clause-ok : goal.returns-clause-ok
returns-clause-ok g c = λ past at. subst (λ (before : List Line). Adds g.B.Brick g.C.Caller c.args.self.now c.happen.new.self c.args.line c.args.event.now past before c.happen.new.out.items) c.in_ok-reserve.ensures.items (c.in_ok-happen.ensures.comes c.args.line past at)

pub returns-in-Some-clause-ok : goal.returns-in-Some-clause-ok
returns-in-Some-clause-ok g c = λ past at.
    let new = c.refuse.new.self in
    let line = Refused c.args.line c.in-Some.cause in
    let then = c.refuse.ensures.at past at in (
      line ∷ [],
      c.refuse.ensures.lines ∙ ap (λ (xs : List Line). xs ++ line ∷ []) c.in_ok-reserve.ensures.items,
      record {
        at = then;
        block = block_refused (history_of past) c.args.line c.args.event.now c.in-Some.cause (sym (c.cause_of-cause.ensures past at) ∙ c.in-Some.is);
        held = holders_call g.C.Caller (disk_of g.B.Brick.state new.bricks.items) (journals_of g.B.Brick.state new.bricks.items) new.clients.items new.weights (summary_of new) (history_of (past ++ line ∷ [])) then.led.fit;
        refused = λ h. c.refuse.ensures.stays;
      },
    )

pub returns-in_err-reserve-clause-limit : goal.returns-in_err-reserve-clause-limit
returns-in_err-reserve-clause-limit g c = λ past at. (
  λ e. not_limit c.from_residual.result c.from_residual.ensures.1 e,
  λ h. not_spent (history_of past) c.args.event.now c.cause_of-cause.result c.args.self.now.requests c.is_spent.result (c.cause_of-cause.ensures past at) at.led.fit.summary.requests c.is_spent.ensures c.if-is_spent.false h,
)

pub returns-in_err-happen-clause-limit : goal.returns-in_err-happen-clause-limit
returns-in_err-happen-clause-limit g c = λ past at. (
  λ e. not_limit c.from_residual-in_err-happen.result c.from_residual-in_err-happen.ensures.1 e,
  λ h. not_spent (history_of past) c.args.event.now c.cause_of-cause.result c.args.self.now.requests c.is_spent.result (c.cause_of-cause.ensures past at) at.led.fit.summary.requests c.is_spent.ensures c.if-is_spent.false h,
)
