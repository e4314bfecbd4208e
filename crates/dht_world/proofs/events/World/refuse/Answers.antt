use Rattle.std.proofs.Common.{refl, sym, subst, ℕ}
use Rattle.std.specs.Prelude.{Bool}
use Rattle.dht_types.specs.History.{history_of}
use Rattle.dht_types.specs.declared.lines.Line.TheVariants.{Refused}
use Rattle.dht_invariant.proofs.TransitionLaws.{transition_laws}
use Rattle.dht_world.specs.Bricks.{disk_of, journals_of, AreReady}
use Rattle.dht_world.specs.Places.{summary_of}
use Rattle.dht_world.proofs.AtLaws.{at_refused, down_after}
use Rattle.dht_world.proofs.EndLaws.{no_end}
use Rattle.dht_world.proofs.events.World.refuse.Goals as goal

pub returns-clause-at : goal.returns-clause-at
returns-clause-at g c = λ past at.
    let w = c.args.self.now in
    let line = Refused c.args.line c.args.cause in
    record {
      led = at_refused g.C.Caller transition_laws g.met.C.Caller.stable (disk_of g.B.Brick.state w.bricks.items) (journals_of g.B.Brick.state w.bricks.items) w.clients.items w.weights (summary_of w) past c.args.line c.args.cause at.led;
      ready = subst (λ (down : ℕ → Bool). AreReady g.B.Brick.state w.weights w.run down w.bricks.items) (sym (down_after past line (history_of past).down refl)) at.ready;
      ends = no_end (disk_of g.B.Brick.state w.bricks.items) past line refl;
    }
