use Rattle.std.proofs.Common.{refl, sym, ap, subst, ◌≡◌, ◌+◌, ℕ, ◌∙◌, List, ◌∷◌, [], ◌++◌, append_assoc}
use Rattle.std.specs.Prelude.{Bool, Option}
use Rattle.dht_types.specs.History.{history_of}
use Rattle.dht_types.specs.declared.calls.Answer.TheVariants.{Fault}
use Rattle.dht_types.specs.declared.events.Event.TheVariants as event
use Rattle.dht_types.specs.declared.identifiers.CallNo.{CallNo}
use Rattle.dht_types.specs.declared.identifiers.Gfid.{Gfid}
use Rattle.dht_types.specs.declared.lines.Line.{Line}
use Rattle.dht_types.specs.declared.lines.Line.TheVariants.{Called, Answered}
use Rattle.dht_brick.proofs.ResultLemmas.{on_err}
use Rattle.dht_invariant.proofs.TransitionLaws.{transition_laws}
use Rattle.dht_world.specs.Bricks.{disk_of, journals_of, AreReady}
use Rattle.dht_world.specs.Clients.{client}
use Rattle.dht_world.specs.Following.{refusal_point}
use Rattle.dht_world.specs.Places.{summary_of}
use Rattle.dht_world.specs.World.{At}
use Rattle.dht_world.proofs.AtLaws.{down_after}
use Rattle.dht_world.proofs.EndLaws.{no_end, no_end_two}
use Rattle.dht_world.proofs.PlaceLaws.{called_at, refused_at, refused_down, called_block, refused_block, call_idle, call_named, advances, adds_one}
use Rattle.dht_world.proofs.events.World.call.Goals as goal

pub admit-requires : goal.admit-requires
admit-requires g c =
    let was = c.requires.accepted in
    record { named = call_named g.B.Brick g.C.Caller c.args.self.now was.past c.args.client.0 c.args.what.now was.at (was.accepted was.past was.at) }

pub start-begun-requires-clause-idle : goal.start-begun-requires-clause-idle
start-begun-requires-clause-idle g c =
    let was = c.requires.accepted in
    call_idle g.B.Brick g.C.Caller c.args.self.now was.past c.args.client.0 c.from.result c.args.what.now c.index_mut-caller.result.now was.at c.from.ensures c.index_mut-caller.ensures.value (was.accepted was.past was.at)

pub returns-in_default-clause-comes : goal.returns-in_default-clause-comes
returns-in_default-clause-comes g c = λ n past at.
    let w = c.args.self.now in
    let who = c.args.client.0 in
    let what = c.in_ok-call.call in
    let accepted = c.requires.accepted.accepted past at in
    let number : CallNo = record { 0 = w.calls + 1 } in
    let line = Called number (client who) what in
    adds_one g.B.Brick g.C.Caller w _ n (event.Call who c.args.what.now) past c.args.out.now.items c.push_line.new.out.items line c.push_line.ensures.items (record {
      led = called_at g.B.Brick g.C.Caller transition_laws g.met.C.Caller.stable w past who c.from.result c.args.what.now what c.index_mut-caller.result.now c.start-begun.new.self c.start-begun.result at c.from.ensures c.index_mut-caller.ensures.value accepted c.start-begun.ensures c.admit.new.answers.items c.in_ok-call.ensures.ok c.in_default.is;
      ready = subst (λ (down : ℕ → Bool). AreReady g.B.Brick.state w.weights w.run down w.bricks.items) (sym (down_after past line (history_of past).down refl)) at.ready;
      ends = no_end (disk_of g.B.Brick.state w.bricks.items) past line refl;
    })
    (called_block g.B.Brick g.C.Caller transition_laws g.met.C.Caller.stable w past who c.from.result c.args.what.now what c.index_mut-caller.result.now c.start-begun.new.self c.start-begun.result at c.from.ensures c.index_mut-caller.ensures.value accepted c.start-begun.ensures n c.in_ok-call.ensures.call c.in_default.is)
    accepted

pub returns-in-Err-clause-comes : goal.returns-in-Err-clause-comes
returns-in-Err-clause-comes g c = λ n past at.
    let w = c.args.self.now in
    let who = c.args.client.0 in
    let what = c.in_ok-call.call in
    let accepted = c.requires.accepted.accepted past at in
    let number : CallNo = record { 0 = w.calls + 1 } in
    let e = c.in-Err.refusal in
    let line = Called number (client who) what in
    let answer = Answered number (client who) (refusal_point (w.lines + 1) e) (Fault e) in
    let lines : List Line = line ∷ answer ∷ [] in
    let told : c.push_line-in-Err.new.out.items ≡ c.push_line.new.out.items ++ answer ∷ [] =
    c.push_line-in-Err.ensures.items ∙ ap (λ p. c.push_line.new.out.items ++ Answered number (client who) p (Fault e) ∷ []) c.refusal_point-point.ensures in (
      lines,
      told ∙ (ap (λ zs. zs ++ answer ∷ []) c.push_line.ensures.items ∙ append_assoc c.args.out.now.items (line ∷ []) (answer ∷ [])),
      advances g.B.Brick g.C.Caller w _ n (event.Call who c.args.what.now) past lines
          (record {
            led = refused_at g.B.Brick g.C.Caller transition_laws g.met.C.Caller.stable w past who c.from.result c.args.what.now what c.index_mut-caller.result.now c.start-begun.new.self c.start-begun.result at c.from.ensures c.index_mut-caller.ensures.value accepted c.start-begun.ensures e c.admit.new.answers.items c.in_ok-call.ensures.ok c.in-Err.is;
            ready = subst (λ (down : ℕ → Bool). AreReady g.B.Brick.state w.weights w.run down w.bricks.items) (sym (refused_down g.B.Brick g.C.Caller transition_laws g.met.C.Caller.stable w past who c.from.result c.args.what.now what c.index_mut-caller.result.now c.start-begun.new.self c.start-begun.result at c.from.ensures c.index_mut-caller.ensures.value accepted c.start-begun.ensures e)) at.ready;
            ends = no_end_two (disk_of g.B.Brick.state w.bricks.items) past line answer refl;
          })
          (refused_block g.B.Brick g.C.Caller transition_laws g.met.C.Caller.stable w past who c.from.result c.args.what.now what c.index_mut-caller.result.now c.start-begun.new.self c.start-begun.result at c.from.ensures c.index_mut-caller.ensures.value accepted c.start-begun.ensures n e c.in_ok-call.ensures.call c.in-Err.is)
          accepted,
    )

pub returns-in_err-call-clause-err : goal.returns-in_err-call-clause-err
returns-in_err-call-clause-err g c = on_err c.from_residual.result (λ past at.
    let w = c.args.self.now in record {
      led = subst (λ (xs : List (Option Gfid)). At g.C.Caller (disk_of g.B.Brick.state w.bricks.items) (journals_of g.B.Brick.state w.bricks.items) w.clients.items w.weights (record (summary_of w) { answers = xs }) past) (sym c.in_err-call.ensures.err) at.led;
      ready = at.ready;
      ends = at.ends;
    })
