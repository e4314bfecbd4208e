use Rattle.std.proofs.Common.{refl, ◌<◌, length, arith}
use Rattle.dht_types.specs.History.{history_of}
use Rattle.dht_types.specs.declared.events.Event.TheVariants as event
use Rattle.dht_types.specs.declared.lines.Line.TheVariants.{WentDown}
use Rattle.dht_invariant.proofs.TransitionLaws.{transition_laws}
use Rattle.dht_world.proofs.BlockLaws.{block_alone}
use Rattle.dht_world.proofs.EndLaws.{no_end}
use Rattle.dht_world.proofs.PlaceLaws.{down_at, down_ready, brick_there, adds_one}
use Rattle.dht_world.proofs.events.World.down.Goals as goal

pub returns-clause-comes : goal.returns-clause-comes
returns-clause-comes g c = λ n past at.
    let w = c.args.self.now in
    let brick = c.args.brick in
    let accepted = c.requires.accepted.accepted past at in
    let there = brick_there g.B.Brick g.C.Caller w past brick.0 at accepted in
    let within : c.from.result < length w.bricks.items = omega (arith, c.from.ensures, there) in
    adds_one g.B.Brick g.C.Caller w _ n (event.Down brick.0) past c.args.out.now.items c.push_line.new.out.items (WentDown brick) c.push_line.ensures.items (record {
      led = down_at g.B.Brick g.C.Caller transition_laws g.met.C.Caller.stable w past c.from.result brick c.index_mut.result.now c.set_up.new.self at accepted within c.index_mut.ensures.value c.set_up.ensures;
      ready = down_ready g.B.Brick g.C.Caller transition_laws g.met.C.Caller.stable w past c.from.result brick c.index_mut.result.now c.set_up.new.self at c.from.ensures within c.index_mut.ensures.value c.set_up.ensures;
      ends = no_end _ past (WentDown brick) refl;
    })
    (block_alone (history_of past) n (event.Down brick.0) (WentDown brick) accepted refl refl)
    accepted
