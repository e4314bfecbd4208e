use Rattle.dht_types.specs.Faults.{HasFault}
use Rattle.dht_run.proofs.FinishLaws.{cut_short, ends_short}
use Rattle.dht_run.proofs.StartLaws.{so_far_first, first_stopped}
use Rattle.dht_run.proofs.replay.play.Goals as goal

pub returns-in-Err-clause-ends : goal.returns-in-Err-clause-ends
returns-in-Err-clause-ends g c = λ text first.
    let w = c.args.world.now in
    ends_short g.B.Brick.state w.bricks.items text _ _ _ (HasFault (g.K.Sink.faults c.args.sink.now) (g.K.Sink.faults c.write_line.new.sink)) c.in-Err.fault c.in-Err.ensures.cause
    (cut_short g.B.Brick g.C.Caller g.met.C.Caller.goes_on w text _ _ (first_stopped g.B.Brick g.C.Caller w c.args.reader.now text _ _ _ c.args.weights first c.requires.lines c.requires.at c.in-Err.ensures.prefix))

pub go_on-ending-requires : goal.go_on-ending-requires
go_on-ending-requires g c =
    let first = c.requires.first in
    record {
      so_far = (first.0, g.K.Sink.taken c.args.sink.now, so_far_first g.B.Brick g.C.Caller c.args.world.now c.args.reader.now first.0 _ _ _ c.args.weights first.1 c.requires.lines c.requires.at c.in_default.ensures.whole);
    }

pub returns-clause-ends : goal.returns-clause-ends
returns-clause-ends g c = λ text first.
    c.finish.ensures.ends text _ _ c.go_on-ending.new.reader (c.go_on-ending.ensures.ends text _
    (so_far_first g.B.Brick g.C.Caller c.args.world.now c.args.reader.now text _ (g.K.Sink.taken c.args.sink.now) _ c.args.weights first c.requires.lines c.requires.at c.in_default.ensures.whole))
