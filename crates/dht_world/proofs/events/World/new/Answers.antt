use Rattle.std.proofs.Common.{arith, refl, ◌≡◌, sym, subst, length, List, ◌∷◌, []}
use Rattle.std.specs.Prelude.{Option}
use Rattle.dht_types.specs.declared.identifiers.Gfid.{Gfid}
use Rattle.dht_types.specs.declared.lines.Line.TheVariants.{Volume}
use Rattle.dht_world.specs.Bricks.{disk_of, journals_of}
use Rattle.dht_world.specs.World.{At}
use Rattle.dht_world.proofs.EndLaws.{no_end}
use Rattle.dht_world.proofs.StartLaws.{at_start}
use Rattle.dht_world.proofs.events.World.new.Goals as goal

pub returns-clause-at : goal.returns-clause-at
returns-clause-at g c =
    let bricks = c.args.bricks.items in
    let count : length bricks ≡ length c.args.weights = omega (arith, c.requires.counted, c.args.bricks.ok.0) in
    record {
      led = subst (λ (xs : List (Option Gfid)). At g.C.Caller (disk_of g.B.Brick.state bricks) (journals_of g.B.Brick.state bricks) c.args.clients.items c.args.weights (record { run = 1; calls = 0; lines = 1; requests = 0; answers = xs }) (Volume c.args.weights ∷ [])) (sym c.new.ensures.items) (at_start g.C.Caller (disk_of g.B.Brick.state bricks) (journals_of g.B.Brick.state bricks) c.args.clients.items c.args.weights c.requires.newborn c.requires.heavy count (omega (arith, c.requires.some, count)) (omega (arith, c.requires.few, count)) (omega (arith, c.requires.many, c.args.clients.ok.0)) c.requires.idle);
      ready = c.requires.ready;
      ends = no_end (disk_of g.B.Brick.state bricks) [] (Volume c.args.weights) refl;
    }
