use Rattle.std.proofs.Common.{◌+◌, List, [], ◌∷◌, ◌++◌, refl, sym, ap, subst, ◌∙◌, inl, inr}
use Rattle.std.specs.Prelude.{Option, is_some, map}
use Rattle.std.proofs.lemmas.Result.{on_ok_weaker}
use Rattle.dht_types.specs.History.{history_of}
use Rattle.dht_types.specs.Volume.{replay_info}
use Rattle.dht_types.specs.declared.events.Event.TheVariants as event
use Rattle.dht_types.specs.declared.lines.Cause.{Cause}
use Rattle.dht_types.specs.declared.lines.Line.{Line}
use Rattle.dht_types.specs.declared.lines.Line.TheVariants.{Refused}
use Rattle.dht_brick.proofs.ResultLemmas.{on_err}
use Rattle.dht_world.specs.Bricks.{disk_of, journals_of, remounted_in}
use Rattle.dht_world.specs.Places.{Adds, summary_of}
use Rattle.dht_world.proofs.BlockLaws.{block_refused}
use Rattle.dht_world.proofs.BrickLaws.{none_became}
use Rattle.dht_world.proofs.ClientLaws.{holders_call}
use Rattle.dht_world.proofs.events.World.remount.Goals as goal

pub returns-in_err-reserve-clause-stays : goal.returns-in_err-reserve-clause-stays
returns-in_err-reserve-clause-stays g c = on_err c.from_residual.result (record {
  bricks = none_became (remounted_in (replay_info c.args.weights.now (c.args.self.now.run + 1))) (map g.B.Brick.state c.args.self.now.bricks.items);
  clients = refl;
  weights = refl;
  run = refl;
  calls = refl;
  requests = refl;
  answers = refl;
  lines = refl;
})

pub returns-in-Some-clause-ok : goal.returns-in-Some-clause-ok
returns-in-Some-clause-ok g c = λ past at.
    let new = c.refuse.new.self in
    let line = Refused c.args.line c.in-Some.cause in
    let then = c.refuse.ensures.at past at in (
      line ∷ [],
      c.refuse.ensures.lines ∙ ap (λ (xs : List Line). xs ++ line ∷ []) c.in_ok-reserve.ensures.items,
      record {
        at = then;
        block = block_refused (history_of past) c.args.line (event.Remount c.args.weights.now) c.in-Some.cause (sym (c.remount_cause.ensures past at) ∙ c.in-Some.is);
        held = holders_call g.C.Caller (disk_of g.B.Brick.state new.bricks.items) (journals_of g.B.Brick.state new.bricks.items) new.clients.items new.weights (summary_of new) (history_of (past ++ line ∷ [])) then.led.fit;
        refused = λ h. c.refuse.ensures.stays;
      },
    )

pub returns-clause-ok : goal.returns-clause-ok
returns-clause-ok g c = on_ok_weaker c.mount.result (λ comes past at. subst (λ (before : List Line). Adds g.B.Brick g.C.Caller c.args.self.now c.mount.new.self c.args.line (event.Remount c.args.weights.now) past before c.mount.new.out.items) c.in_ok-reserve.ensures.items (comes c.args.line past at)) c.mount.ensures.comes

pub returns-in-Some-clause-mounts : goal.returns-in-Some-clause-mounts
returns-in-Some-clause-mounts g c = λ past at. inl (ap (λ (o : Option Cause). is_some o) (sym (c.remount_cause.ensures past at) ∙ c.in-Some.is))

pub returns-clause-mounts : goal.returns-clause-mounts
returns-clause-mounts g c = on_ok_weaker c.mount.result (λ mounts past at. inr mounts) c.mount.ensures.mounts
