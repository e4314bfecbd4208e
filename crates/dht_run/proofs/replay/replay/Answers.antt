use Rattle.std.proofs.Common.{ap, ◌∙◌, inl, Err}
use Rattle.dht_membrick.specs.State.{mem_state}
use Rattle.dht_types.specs.Faults.{HasFault}
use Rattle.dht_run.proofs.FinishLaws.{ends_short}
use Rattle.dht_run.proofs.StartLaws.{nothing_done, first_malformed, first_short, no_first}
use Rattle.dht_run.proofs.replay.replay.Goals as goal

pub returns-in_default-clause-ends : goal.returns-in_default-clause-ends
returns-in_default-clause-ends g c = inl (nothing_done mem_state c.args.bricks.now.items _ _ c.requires.empty)

pub returns-in-Ok-write_malformed-clause-ends : goal.returns-in-Ok-write_malformed-clause-ends
returns-in-Ok-write_malformed-clause-ends g c =
    first_malformed mem_state c.args.bricks.now.items c.in-Ok.reader _ _ _ c.requires.empty c.in-Ok.ensures.pending
    (c.first_line.ensures.malformed (c.in-Err.is ∙ ap Err c.in-Malformed.is)) c.in-Ok-write_malformed.ensures.whole

pub returns-in-Malformed-clause-ends : goal.returns-in-Malformed-clause-ends
returns-in-Malformed-clause-ends g c =
    ends_short mem_state c.args.bricks.now.items _ _ _ _ (HasFault (g.K.Sink.faults c.args.sink.now) (g.K.Sink.faults c.write_malformed.new.sink)) c.in-Err-write_malformed.fault c.in-Err-write_malformed.ensures.cause
    (first_short mem_state c.args.bricks.now.items c.in-Ok.reader _ _ _ c.requires.empty c.in-Ok.ensures.pending
    (c.first_line.ensures.malformed (c.in-Err.is ∙ ap Err c.in-Malformed.is)) c.in-Err-write_malformed.ensures.prefix)

pub returns : goal.returns
returns g c =
    let other = c.first_line.ensures.no_other in
    record {
      ends = no_first mem_state c.args.bricks.now.items c.in-Ok.reader c.first_line.new.reader _ _ _ c.in-Err.ending c.requires.empty c.in-Ok.ensures.pending
          (λ q. (c.first_line.ensures.failed_input (c.in-Err.is ∙ ap Err q), c.first_line.ensures.failed_held (c.in-Err.is ∙ ap Err q))) c.in_default-ending.not-Malformed
          (λ q. other.0 (c.in-Err.is ∙ ap Err q)) (λ q. other.1 (c.in-Err.is ∙ ap Err q)) (λ q. other.2 (c.in-Err.is ∙ ap Err q)) (λ q. other.3 (c.in-Err.is ∙ ap Err q));
      source = λ q. c.first_line.ensures.failed (c.in-Err.is ∙ ap Err q);
      sink = λ q. absurd (other.2 (c.in-Err.is ∙ ap Err q));
    }
