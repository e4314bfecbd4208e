use Rattle.std.proofs.Common.{◌∙◌, ap, Err}
use Rattle.dht_run.proofs.EventLaws.{other_line, no_event_told}
use Rattle.dht_run.proofs.replay.next_event.Goals as goal

pub returns-in-Err-Malformed-clause-malformed : goal.returns-in-Err-Malformed-clause-malformed
returns-in-Err-Malformed-clause-malformed g c = λ q.
    let cuts = c.next.ensures.line c.in-Line.is in
    other_line c.args.reader.now.cut c.next.new.self.line _ _ c.one_line.ensures cuts.no_newline
    (λ o s e. c.read_line.ensures.malformed (c.in-Err-Malformed.is ∙ ap Err c.in-Err-Malformed.field-0-is) o s (c.line.ensures ∙ e)) cuts.prefix

pub returns-in-NoLine-clause-malformed : goal.returns-in-NoLine-clause-malformed
returns-in-NoLine-clause-malformed g c = λ q. no_event_told c.args.reader.now.cut _ c.one_line.ensures (c.next.ensures.no_line c.in-NoLine.is)
