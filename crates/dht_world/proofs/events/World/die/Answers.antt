use Rattle.std.proofs.Common.{refl}
use Rattle.dht_types.specs.History.{history_of}
use Rattle.dht_types.specs.declared.events.Event.TheVariants as event
use Rattle.dht_types.specs.declared.lines.Line.TheVariants.{Died}
use Rattle.dht_invariant.proofs.TransitionLaws.{transition_laws}
use Rattle.dht_world.proofs.BlockLaws.{block_alone}
use Rattle.dht_world.proofs.EndLaws.{no_end}
use Rattle.dht_world.proofs.PlaceLaws.{died_at, died_ready, adds_one}
use Rattle.dht_world.proofs.events.World.die.Goals as goal

pub returns-clause-comes : goal.returns-clause-comes
returns-clause-comes g c = λ n past at.
    let w = c.args.self.now in
    let who = c.args.client in
    let accepted = c.requires.accepted.accepted past at in
    adds_one g.B.Brick g.C.Caller w _ n (event.Die who.0) past c.args.out.now.items c.push_line.new.out.items (Died who) c.push_line.ensures.items (record {
      led = died_at g.B.Brick g.C.Caller transition_laws g.met.C.Caller.stable w c.free_client.new.bricks.items past who.0 c.from.result at c.from.ensures accepted c.free_client.ensures;
      ready = died_ready g.B.Brick g.C.Caller transition_laws g.met.C.Caller.stable w c.free_client.new.bricks.items past who.0 at c.free_client.ensures;
      ends = no_end _ past (Died who) refl;
    })
    (block_alone (history_of past) n (event.Die who.0) (Died who) accepted refl refl)
    accepted
