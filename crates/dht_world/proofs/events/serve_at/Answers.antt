use Rattle.std.proofs.Common.{◌≡◌, ◌<◌, length, arith}
use Rattle.std.specs.Prelude.{vec_len}
use Rattle.dht_brick.proofs.ResultLemmas.{on_err}
use Rattle.dht_world.proofs.BrickLaws.{served_from, ready_from, sent_from, same_states_at, same_ready_at}
use Rattle.dht_world.proofs.events.serve_at.Goals as goal

pub serve-requires-clause-sent : goal.serve-requires-clause-sent
serve-requires-clause-sent g c =
    let bricks = c.args.bricks.now.items in
    let l : c.from.result < length bricks = omega (arith, c.from.ensures, c.requires.there, c.args.bricks.now.ok.0) in
    let n : vec_len c.args.bricks.now ≡ length bricks = omega (arith, c.args.bricks.now.ok.0) in
    let known = c.requires.ready in
    sent_from g.B.Brick.state known.0 known.1 known.2 bricks c.args.ask.now.request c.index_mut-brick.result.now c.make_room.new.self c.from.result (vec_len c.args.bricks.now) l c.index_mut-brick.ensures.value known.3 c.in_ok-make_room.ensures.same n c.requires.sent

pub returns-clause-ok : goal.returns-clause-ok
returns-clause-ok g c = λ ws run down ready.
    let bricks = c.args.bricks.now.items in
    let l : c.args.ask.now.brick.0 < length bricks = omega (arith, c.requires.there, c.args.bricks.now.ok.0) in
    served_from g.B.Brick.state ws run down bricks c.args.client c.args.call c.args.ask.now c.index_mut-brick.result.now c.make_room.new.self c.serve.new.self c.serve.result c.from.result l (omega (arith, c.from.ensures)) c.index_mut-brick.ensures.value ready c.in_ok-make_room.ensures.same c.serve.ensures

pub returns-clause-ready : goal.returns-clause-ready
returns-clause-ready g c = λ ws run down ready.
    let bricks = c.args.bricks.now.items in
    let l : c.from.result < length bricks = omega (arith, c.from.ensures, c.requires.there, c.args.bricks.now.ok.0) in
    ready_from g.B.Brick.state ws run down bricks c.args.client c.args.call c.args.ask.now.request c.index_mut-brick.result.now c.make_room.new.self c.serve.new.self c.serve.result c.from.result l c.index_mut-brick.ensures.value ready c.in_ok-make_room.ensures.same c.serve.ensures

pub returns-in_err-make_room-clause-states : goal.returns-in_err-make_room-clause-states
returns-in_err-make_room-clause-states g c = on_err c.from_residual.result (same_states_at g.B.Brick.state c.args.bricks.now.items c.from.result c.index_mut-brick.result.now c.make_room.new.self c.index_mut-brick.ensures.value c.in_err-make_room.ensures.err)

pub returns-in_err-make_room-clause-ready : goal.returns-in_err-make_room-clause-ready
returns-in_err-make_room-clause-ready g c = λ ws run down ready.
    let bricks = c.args.bricks.now.items in
    let l : c.from.result < length bricks = omega (arith, c.from.ensures, c.requires.there, c.args.bricks.now.ok.0) in
    same_ready_at g.B.Brick.state ws run down bricks c.from.result c.index_mut-brick.result.now c.make_room.new.self l c.index_mut-brick.ensures.value c.in_err-make_room.ensures.err ready
