use Rattle.std.proofs.Common.{◌∙◌, ap, sym}
use Rattle.dht_brick.proofs.ResultLemmas.{on_err}
use Rattle.dht_files.specs.Records.{files_in}
use Rattle.dht_files.proofs.RecordLemmas.{files_of, get-at, insert-at}
use Rattle.dht_files.proofs.records.Files.exchange.Goals as goal

pub returns-in_err-insert-clause-err : goal.returns-in_err-insert-clause-err
unfolding files_in
returns-in_err-insert-clause-err c = on_err c.from_residual.result (ap files_of c.in_err-insert.ensures.err)

pub returns-clause-before : goal.returns-clause-before
unfolding files_in
returns-clause-before c = c.in_ok-insert.ensures.old ∙ sym (get-at c.args.self.now.records.entries c.args.file)

pub returns-clause-ok : goal.returns-clause-ok
unfolding files_in
returns-clause-ok c = insert-at c.args.self.now.records.entries c.insert.new.self.entries c.args.file c.args.kept c.in_ok-insert.ensures.updates.0
