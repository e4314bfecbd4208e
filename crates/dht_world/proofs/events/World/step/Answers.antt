use Rattle.std.proofs.Common.{sym, ◌≡◌, ◌∙◌, ap, subst, arith, ◌<◌, ◌+◌, ◌^◌, ℕ, List, ◌∷◌, [], ◌++◌, append_assoc, get_or, length}
use Rattle.std.specs.Prelude.{Bool, Option, vec_len, slice_set}
use Rattle.dht_types.specs.History.{history_of}
use Rattle.dht_types.specs.declared.events.Event.TheVariants as event
use Rattle.dht_types.specs.declared.identifiers.Gfid.{Gfid}
use Rattle.dht_types.specs.declared.lines.Line.TheVariants.{Answered}
use Rattle.dht_brick.specs.Within.{MayBeSent}
use Rattle.dht_brick.specs.declared.journal.JournalEntry.{JournalEntry}
use Rattle.dht_brick.proofs.ResultLemmas.{on_err}
use Rattle.dht_section.specs.Disk.{Disk}
use Rattle.dht_invariant.proofs.TransitionLaws.{transition_laws}
use Rattle.dht_world.specs.Bricks.{disk_of, journals_of, AreReady}
use Rattle.dht_world.specs.Clients.{client}
use Rattle.dht_world.specs.Lines.{request_lines}
use Rattle.dht_world.specs.Places.{summary_of}
use Rattle.dht_world.specs.World.{At, EndsWell}
use Rattle.dht_world.proofs.EndLaws.{no_end_request}
use Rattle.dht_world.proofs.PlaceLaws.{place_is, place_there, advances}
use Rattle.dht_world.proofs.ReplyLaws.{step_busy, asks_there, asks_sent, answer_there, step_down, answered_down, step_block, answered_block, step_on, step_answered, step_ends}
use Rattle.dht_world.proofs.events.World.step.Goals as goal

pub returns-in-Some-clause-comes : goal.returns-in-Some-clause-comes
returns-in-Some-clause-comes g c = λ n past at.
    let w = c.args.self.now in
    let who = c.args.client.0 in
    let accepted = c.requires.accepted.accepted past at in
    let there = place_there g.B.Brick g.C.Caller w past who at accepted in
    let few = c.requires.few in
    let small : w.lines < 2 ^ 64 = omega arith in
    let here = place_is w.clients.items who c.index.result.now there.1 (subst (λ (j : ℕ). c.index.result.now ≡ get_or w.clients.items j c.index.result.now) c.from.ensures c.index.ensures) in
    let same = place_is w.clients.items who c.index_mut-place.result.now there.1 (subst (λ (j : ℕ). c.index_mut-place.result.now ≡ get_or w.clients.items j c.index_mut-place.result.now) c.from-2.ensures c.index_mut-place.ensures.value) in
    let k = c.next-ask.result.0 in
    let a = c.next-ask.result.1 in
    let v = c.next-ask.ensures in
    let r = c.in_ok-reply.reply in
    let bricks = c.serve_at.new.bricks.items in
    let served = c.in_ok-reply.ensures.ok w.weights w.run (history_of past).down at.ready in
    let xs = request_lines k (client who) a r in
    let y = c.in-Some.finish in
    let end = Answered k (client who) y.at y.answer in
    let lines = xs ++ end ∷ [] in (
      lines,
      c.push_line.ensures.items ∙ (ap (λ zs. zs ++ end ∷ []) c.push_request.ensures.items ∙ append_assoc c.args.out.now.items xs (end ∷ [])),
      advances g.B.Brick g.C.Caller w _ n (event.Step who) past lines
          (record {
            led = subst (λ (answers : List (Option Gfid)). At g.C.Caller (disk_of g.B.Brick.state bricks) (journals_of g.B.Brick.state bricks) (slice_set w.clients.items c.from-2.result c.take.new.self) w.weights (record (summary_of w) { lines = w.lines + c.push_request.result + 1; requests = w.requests + 1; answers = answers }) (past ++ lines)) (sym c.keep_answer.ensures)
                (step_answered g.B.Brick g.C.Caller transition_laws g.met.C.Caller.stable g.met.C.Caller.permitted g.met.C.Caller.goes_on w past who c.index.result.now k a at accepted here v r bricks there.0 small served c.from-2.result c.push_request.result c.index_mut-place.result.now c.take.new.self y c.from-2.ensures same c.push_request.ensures.count c.in-Some.ensures);
            ready = subst (λ (down : ℕ → Bool). AreReady g.B.Brick.state w.weights w.run down bricks) (sym (answered_down g.B.Brick g.C.Caller transition_laws g.met.C.Caller.stable g.met.C.Caller.permitted g.met.C.Caller.goes_on w past who c.index.result.now k a at accepted here v r bricks there.0 small served y))
                (c.in_ok-reply.ensures.ready w.weights w.run (history_of past).down at.ready);
            ends = step_ends g.B.Brick g.C.Caller transition_laws g.met.C.Caller.stable g.met.C.Caller.permitted g.met.C.Caller.goes_on w past who c.index.result.now k a at accepted here v r bricks there.0 small served c.push_request.result c.index_mut-place.result.now c.take.new.self y same c.push_request.ensures.count c.in-Some.ensures;
          })
          (answered_block g.B.Brick g.C.Caller transition_laws g.met.C.Caller.stable g.met.C.Caller.permitted g.met.C.Caller.goes_on w past who c.index.result.now k a at accepted here v r bricks there.0 small served n y)
          accepted,
    )

pub returns-in_default-clause-comes : goal.returns-in_default-clause-comes
returns-in_default-clause-comes g c = λ n past at.
    let w = c.args.self.now in
    let who = c.args.client.0 in
    let accepted = c.requires.accepted.accepted past at in
    let there = place_there g.B.Brick g.C.Caller w past who at accepted in
    let few = c.requires.few in
    let small : w.lines < 2 ^ 64 = omega arith in
    let here = place_is w.clients.items who c.index.result.now there.1 (subst (λ (j : ℕ). c.index.result.now ≡ get_or w.clients.items j c.index.result.now) c.from.ensures c.index.ensures) in
    let same = place_is w.clients.items who c.index_mut-place.result.now there.1 (subst (λ (j : ℕ). c.index_mut-place.result.now ≡ get_or w.clients.items j c.index_mut-place.result.now) c.from-2.ensures c.index_mut-place.ensures.value) in
    let k = c.next-ask.result.0 in
    let a = c.next-ask.result.1 in
    let v = c.next-ask.ensures in
    let r = c.in_ok-reply.reply in
    let bricks = c.serve_at.new.bricks.items in
    let served = c.in_ok-reply.ensures.ok w.weights w.run (history_of past).down at.ready in
    let xs = request_lines k (client who) a r in (
      xs,
      c.push_request.ensures.items,
      advances g.B.Brick g.C.Caller w _ n (event.Step who) past xs
          (record {
            led = step_on g.B.Brick g.C.Caller transition_laws g.met.C.Caller.stable g.met.C.Caller.permitted g.met.C.Caller.goes_on w past who c.index.result.now k a at accepted here v r bricks there.0 small served c.from-2.result c.push_request.result c.index_mut-place.result.now c.take.new.self c.from-2.ensures same c.push_request.ensures.count c.in_default.ensures;
            ready = subst (λ (down : ℕ → Bool). AreReady g.B.Brick.state w.weights w.run down bricks) (sym (step_down g.B.Brick g.C.Caller transition_laws g.met.C.Caller.stable g.met.C.Caller.permitted g.met.C.Caller.goes_on w past who c.index.result.now k a at accepted here v r bricks there.0 small served))
                (c.in_ok-reply.ensures.ready w.weights w.run (history_of past).down at.ready);
            ends = no_end_request (disk_of g.B.Brick.state bricks) past k (client who) a r;
          })
          (step_block g.B.Brick g.C.Caller transition_laws g.met.C.Caller.stable g.met.C.Caller.permitted g.met.C.Caller.goes_on w past who c.index.result.now k a at accepted here v r bricks there.0 small served n)
          accepted,
    )

pub returns-in_err-reply-clause-err : goal.returns-in_err-reply-clause-err
returns-in_err-reply-clause-err g c = on_err c.from_residual.result (λ past at.
    let w = c.args.self.now in
    let failed = c.in_err-reply.ensures in
    let d = disk_of g.B.Brick.state c.serve_at.new.bricks.items in record {
      led = subst (λ (js : ℕ → List JournalEntry). At g.C.Caller d js w.clients.items w.weights (summary_of w) past) (sym failed.journals)
          (subst (λ (e : Disk). At g.C.Caller e (journals_of g.B.Brick.state w.bricks.items) w.clients.items w.weights (summary_of w) past) (sym failed.disk) at.led);
      ready = failed.ready w.weights w.run (history_of past).down at.ready;
      ends = subst (λ (e : Disk). EndsWell e past) (sym failed.disk) at.ends;
    })

pub serve_at-requires-clause-ready : goal.serve_at-requires-clause-ready
serve_at-requires-clause-ready g c =
    let w = c.args.self.now in
    let was = c.requires.accepted in
    (w.weights, w.run, (history_of was.past).down, was.at.ready)

pub serve_at-requires-clause-there : goal.serve_at-requires-clause-there
serve_at-requires-clause-there g c =
    let w = c.args.self.now in
    let was = c.requires.accepted in
    let accepted = was.accepted was.past was.at in
    let there = place_there g.B.Brick g.C.Caller w was.past c.args.client.0 was.at accepted in
    let here = place_is w.clients.items c.args.client.0 c.index.result.now there.1 (subst (λ (j : ℕ). c.index.result.now ≡ get_or w.clients.items j c.index.result.now) c.from.ensures c.index.ensures) in
    let l = asks_there g.B.Brick g.C.Caller transition_laws g.met.C.Caller.stable g.met.C.Caller.permitted g.met.C.Caller.goes_on w was.past c.args.client.0 c.index.result.now c.next-ask.result.0 c.next-ask.result.1 was.at accepted here c.next-ask.ensures in
    omega (arith, l, w.bricks.ok.0)

pub serve_at-requires-clause-sent : goal.serve_at-requires-clause-sent
serve_at-requires-clause-sent g c =
    let w = c.args.self.now in
    let was = c.requires.accepted in
    let accepted = was.accepted was.past was.at in
    let there = place_there g.B.Brick g.C.Caller w was.past c.args.client.0 was.at accepted in
    let here = place_is w.clients.items c.args.client.0 c.index.result.now there.1 (subst (λ (j : ℕ). c.index.result.now ≡ get_or w.clients.items j c.index.result.now) c.from.ensures c.index.ensures) in
    subst (λ (m : ℕ). MayBeSent m c.next-ask.result.1.request) (let z : length w.bricks.items ≡ vec_len w.bricks = omega (arith, w.bricks.ok.0) in z)
    (asks_sent g.B.Brick g.C.Caller transition_laws g.met.C.Caller.stable g.met.C.Caller.permitted g.met.C.Caller.goes_on w was.past c.args.client.0 c.index.result.now c.next-ask.result.0 c.next-ask.result.1 was.at accepted here c.next-ask.ensures)

pub next-ask-requires : goal.next-ask-requires
next-ask-requires g c =
    let w = c.args.self.now in
    let was = c.requires.accepted in
    let accepted = was.accepted was.past was.at in
    let there = place_there g.B.Brick g.C.Caller w was.past c.args.client.0 was.at accepted in
    let here = place_is w.clients.items c.args.client.0 c.index.result.now there.1 (subst (λ (j : ℕ). c.index.result.now ≡ get_or w.clients.items j c.index.result.now) c.from.ensures c.index.ensures) in
    step_busy g.B.Brick g.C.Caller transition_laws g.met.C.Caller.stable g.met.C.Caller.permitted g.met.C.Caller.goes_on w was.past c.args.client.0 c.index.result.now was.at accepted here

pub take-requires : goal.take-requires
take-requires g c =
    let w = c.args.self.now in
    let was = c.requires.accepted in
    let accepted = was.accepted was.past was.at in
    let there = place_there g.B.Brick g.C.Caller w was.past c.args.client.0 was.at accepted in
    let same = place_is w.clients.items c.args.client.0 c.index_mut-place.result.now there.1 (subst (λ (j : ℕ). c.index_mut-place.result.now ≡ get_or w.clients.items j c.index_mut-place.result.now) c.from-2.ensures c.index_mut-place.ensures.value) in
    step_busy g.B.Brick g.C.Caller transition_laws g.met.C.Caller.stable g.met.C.Caller.permitted g.met.C.Caller.goes_on w was.past c.args.client.0 c.index_mut-place.result.now was.at accepted same

pub keep_answer-requires-clause-from_one : goal.keep_answer-requires-clause-from_one
keep_answer-requires-clause-from_one g c =
    let w = c.args.self.now in
    let was = c.requires.accepted in
    let accepted = was.accepted was.past was.at in
    let there = place_there g.B.Brick g.C.Caller w was.past c.args.client.0 was.at accepted in
    let few = c.requires.few in
    let small : w.lines < 2 ^ 64 = omega arith in
    let here = place_is w.clients.items c.args.client.0 c.index.result.now there.1 (subst (λ (j : ℕ). c.index.result.now ≡ get_or w.clients.items j c.index.result.now) c.from.ensures c.index.ensures) in
    let served = c.in_ok-reply.ensures.ok w.weights w.run (history_of was.past).down was.at.ready in
    (answer_there g.B.Brick g.C.Caller transition_laws g.met.C.Caller.stable g.met.C.Caller.permitted g.met.C.Caller.goes_on w was.past c.args.client.0 c.index.result.now c.next-ask.result.0 c.next-ask.result.1 was.at accepted here c.next-ask.ensures c.in_ok-reply.reply c.serve_at.new.bricks.items there.0 small served).0

pub keep_answer-requires-clause-there : goal.keep_answer-requires-clause-there
keep_answer-requires-clause-there g c =
    let w = c.args.self.now in
    let was = c.requires.accepted in
    let accepted = was.accepted was.past was.at in
    let there = place_there g.B.Brick g.C.Caller w was.past c.args.client.0 was.at accepted in
    let few = c.requires.few in
    let small : w.lines < 2 ^ 64 = omega arith in
    let here = place_is w.clients.items c.args.client.0 c.index.result.now there.1 (subst (λ (j : ℕ). c.index.result.now ≡ get_or w.clients.items j c.index.result.now) c.from.ensures c.index.ensures) in
    let served = c.in_ok-reply.ensures.ok w.weights w.run (history_of was.past).down was.at.ready in
    let l = (answer_there g.B.Brick g.C.Caller transition_laws g.met.C.Caller.stable g.met.C.Caller.permitted g.met.C.Caller.goes_on w was.past c.args.client.0 c.index.result.now c.next-ask.result.0 c.next-ask.result.1 was.at accepted here c.next-ask.ensures c.in_ok-reply.reply c.serve_at.new.bricks.items there.0 small served).1 in
    omega (arith, l, w.answers.ok.0)
