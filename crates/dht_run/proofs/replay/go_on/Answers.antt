use Rattle.std.proofs.Common.{rules, ap, ◌∙◌, Ok, Err}
use Rattle.dht_run.specs.NextEvent.{CutsEvent}
use Rattle.dht_types.specs.Faults.{HasFault}
use Rattle.dht_run.proofs.GoOnLaws.{cut_by, so_far_more, end_reached, volume_reached, none_came, stops, stopped_ends, limit_reached, came}
use Rattle.dht_run.proofs.ReplayLaws.{run_small}
use Rattle.dht_run.proofs.replay.go_on.Goals as goal

pub returns-in-Ok-None-clause-ends : goal.returns-in-Ok-None-clause-ends
returns-in-Ok-None-clause-ends g c = λ text before h.
    let none = c.in-Ok-None.is ∙ ap Ok c.in-Ok-None.field-0-is in
    let end = c.next_event.ensures in
    end_reached g.B.Brick g.C.Caller c.events.world c.events.count c.events.reader c.next_event.new.reader text _ _ before _ (end.end_input none) (end.end_held none) (end.end none) (c.events.invariant.each text before h)

pub returns-in-Err-clause-ends : goal.returns-in-Err-clause-ends
returns-in-Err-clause-ends g c = λ text before h.
    let other = c.next_event.ensures.no_other in
    none_came g.B.Brick g.C.Caller c.events.world c.events.count c.events.reader c.next_event.new.reader text _ _ before _ c.in-Err.ending
    (λ q. c.next_event.ensures.malformed (c.in-Err.is ∙ ap Err q))
    (λ q. (c.next_event.ensures.failed_input (c.in-Err.is ∙ ap Err q), c.next_event.ensures.failed_held (c.in-Err.is ∙ ap Err q)))
    (λ q. other.0 (c.in-Err.is ∙ ap Err q)) (λ q. other.1 (c.in-Err.is ∙ ap Err q)) (λ q. other.2 (c.in-Err.is ∙ ap Err q)) (λ q. other.3 (c.in-Err.is ∙ ap Err q))
    (c.events.invariant.each text before h)

pub returns-then-is_volume-clause-ends : goal.returns-then-is_volume-clause-ends
returns-then-is_volume-clause-ends g c = λ text before h.
    volume_reached g.B.Brick g.C.Caller c.events.world c.events.count c.events.reader c.next_event.new.reader c.in-Ok-Some.event text _ _ before _ c.one_line.ensures
    (came c.next_event.result c.in-Ok-Some.field-0 c.in-Ok-Some.event (CutsEvent c.events.reader c.next_event.new.reader (g.S.Source.left c.events.source) (g.S.Source.left c.next_event.new.source)) c.in-Ok-Some.is c.in-Ok-Some.field-0-is c.next_event.ensures.event)
    (c.is_volume.ensures.volume c.if-is_volume.true) (c.events.invariant.each text before h)

pub returns-in-Err-carry_out-clause-ends : goal.returns-in-Err-carry_out-clause-ends
returns-in-Err-carry_out-clause-ends g c = λ text before h.
    let failed = c.in-Err-carry_out.ensures in
    let cuts = came c.next_event.result c.in-Ok-Some.field-0 c.in-Ok-Some.event (CutsEvent c.events.reader c.next_event.new.reader (g.S.Source.left c.events.source) (g.S.Source.left c.next_event.new.source)) c.in-Ok-Some.is c.in-Ok-Some.field-0-is c.next_event.ensures.event in
    let later = c.is_volume.ensures.other c.if-is_volume.false in
    let so_far = c.events.invariant.each text before h in
    stopped_ends g.B.Brick g.C.Caller c.carry_out.new.world c.events.count c.next_event.new.reader text _ before _ (HasFault (g.K.Sink.faults c.events.sink) (g.K.Sink.faults c.carry_out.new.sink)) c.in-Err-carry_out.ending failed.cause
    (stops g.B.Brick g.C.Caller c.events.world c.carry_out.new.world c.events.count c.events.reader c.next_event.new.reader c.in-Ok-Some.event text _ _ before _ _ c.in-Err-carry_out.ending cuts later failed.grows (λ past at. cut_by c.in-Err-carry_out.ending _ _ _ (failed.err past at)) so_far)
    (λ q. limit_reached g.B.Brick g.C.Caller c.events.world c.carry_out.new.world c.events.count c.events.reader c.next_event.new.reader c.in-Ok-Some.event text _ _ before _ _ cuts later failed.grows
    (failed.limit (ap Err q)) so_far)

pub events-preserved : goal.events-preserved
events-preserved g c =
    let cuts = came c.next_event.result c.in-Ok-Some.field-0 c.in-Ok-Some.event (CutsEvent c.events.reader c.next_event.new.reader (g.S.Source.left c.events.source) (g.S.Source.left c.next_event.new.source)) c.in-Ok-Some.is c.in-Ok-Some.field-0-is c.next_event.ensures.event in
    let done = c.in_default.ensures in
    let more = so_far_more g.B.Brick g.C.Caller c.events.world c.carry_out.new.world c.events.count c.events.reader c.next_event.new.reader c.in-Ok-Some.event _ _ _ _ cuts (c.is_volume.ensures.other c.if-is_volume.false) done.grows done.ok in
    let some = c.events.invariant.some in
    record {
      some = (some.0, some.1, more some.0 some.1 some.2);
      each = λ text before h. more text before (c.events.invariant.each text before h);
      source = search rules;
      sink = search rules;
    }

pub carry_out-requires-clause-run : goal.carry_out-requires-clause-run
carry_out-requires-clause-run g c =
    let so_far = c.events.invariant.some.2 in
    run_small g.B.Brick g.C.Caller c.events.world c.events.count _ _ so_far.events so_far.lines so_far.carried
