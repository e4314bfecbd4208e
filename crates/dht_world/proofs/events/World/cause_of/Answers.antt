use Rattle.std.proofs.Common.{ap, sym, subst, ◌≡◌, ◌∙◌, List}
use Rattle.std.specs.Prelude.{Option, Some, slice_get}
use Rattle.dht_types.specs.Calls.{named_call}
use Rattle.dht_types.specs.History.{history_of}
use Rattle.dht_types.specs.declared.identifiers.Gfid.{Gfid}
use Rattle.dht_types.specs.declared.lines.Cause.{Cause}
use Rattle.dht_types.specs.declared.lines.Cause.TheVariants.{Busy}
use Rattle.dht_world.specs.Answers.{answered_in}
use Rattle.dht_world.specs.Bricks.{disk_of, journals_of}
use Rattle.dht_world.specs.Clients.{place_cause}
use Rattle.dht_world.specs.Following.{answer_cause, cause_of}
use Rattle.dht_world.specs.Places.{summary_of}
use Rattle.dht_world.proofs.CauseLaws.{cause_of_call, cause_of_step, cause_of_die}
use Rattle.dht_world.proofs.events.World.cause_of.Goals as goal

pub returns-in-Call : goal.returns-in-Call
returns-in-Call g c = λ past at.
    let w = c.args.self.now in
    let idle : c.answer_cause-idle.result ≡ answer_cause (named_call (answered_in w.answers.items) c.in-Call.what) =
    subst (λ (xs : List (Option Gfid)). c.answer_cause-idle.result ≡ answer_cause (named_call (answered_in xs) c.in-Call.what)) c.deref.ensures.value c.answer_cause-idle.ensures in
    c.client_cause.ensures
    ∙ (ap (λ (o : Option Cause). place_cause g.C.Caller (slice_get w.clients.items c.in-Call.client) o (Some Busy)) idle
    ∙ (cause_of_call g.C.Caller (disk_of g.B.Brick.state w.bricks.items) (journals_of g.B.Brick.state w.bricks.items) w.clients.items w.weights (summary_of w) (history_of past) at.led.fit c.in-Call.client c.in-Call.what
    ∙ ap (cause_of (history_of past)) (sym c.in-Call.is)))

pub returns-in-Step : goal.returns-in-Step
returns-in-Step g c = λ past at.
    let w = c.args.self.now in
    c.client_cause-in-Step.ensures
    ∙ (cause_of_step g.C.Caller (disk_of g.B.Brick.state w.bricks.items) (journals_of g.B.Brick.state w.bricks.items) w.clients.items w.weights (summary_of w) (history_of past) at.led.fit c.in-Step.client
    ∙ ap (cause_of (history_of past)) (sym c.in-Step.is))

pub returns-in-Die : goal.returns-in-Die
returns-in-Die g c = λ past at.
    let w = c.args.self.now in
    c.client_cause-in-Die.ensures
    ∙ (cause_of_die g.C.Caller (disk_of g.B.Brick.state w.bricks.items) (journals_of g.B.Brick.state w.bricks.items) w.clients.items w.weights (summary_of w) (history_of past) at.led.fit c.in-Die.client
    ∙ ap (cause_of (history_of past)) (sym c.in-Die.is))
