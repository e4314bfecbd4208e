use Rattle.std.proofs.Common.{◌≡◌, true, false, ap, ◌∙◌, ◌+◌, subst}
use Rattle.dht_types.specs.Faults.{HasFault}
use Rattle.dht_run.specs.Outside.{after_told}
use Rattle.dht_run.specs.Replay.{last_text}
use Rattle.dht_run.specs.Written.{TakesPrefix}
use Rattle.dht_run.proofs.FinishLaws.{ends_whole, ends_in_part, ends_short}
use Rattle.dht_run.proofs.replay.finish.Goals as goal

pub returns-in-Ok-clause-ends : goal.returns-in-Ok-clause-ends
returns-in-Ok-clause-ends g c = λ text rest before r h.
    let w = c.args.world.now in
    let taken = g.K.Sink.taken c.args.sink.now in
    ends_whole g.B.Brick g.C.Caller g.met.C.Caller.goes_on w c.args.count r text rest before taken _ c.args.ending h (c.in-Ok.ensures.written.whole ∙ ap (λ bs. after_told taken (last_text g.B.Brick.state bs (c.args.count + 1) c.args.ending)) c.deref.ensures.value)

pub returns-in-Err-clause-ends : goal.returns-in-Err-clause-ends
returns-in-Err-clause-ends g c = λ text rest before r h.
    let w = c.args.world.now in
    let taken = g.K.Sink.taken c.args.sink.now in
    let part = subst (λ bs. TakesPrefix taken (last_text g.B.Brick.state bs (c.args.count + 1) c.args.ending) (g.K.Sink.taken c.write_last.new.sink)) c.deref.ensures.value c.in-Err.ensures.written.prefix in
    ends_short g.B.Brick.state w.bricks.items text rest before _ (HasFault (g.K.Sink.faults c.args.sink.now) (g.K.Sink.faults c.write_last.new.sink)) c.in-Err.fault c.in-Err.ensures.written.cause
    (ends_in_part g.B.Brick g.C.Caller g.met.C.Caller.goes_on w c.args.count r text rest before taken _ c.args.ending h (λ q. let z : false ≡ true = c.in-Err.ensures.none q in cc) part)
