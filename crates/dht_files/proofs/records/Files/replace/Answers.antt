use Rattle.std.proofs.Common.{◌∙◌, sym, subst}
use Rattle.std.specs.Prelude.{IsSome, T}
use Rattle.dht_files.specs.Records.{files_in}
use Rattle.dht_files.proofs.RecordLemmas.{get-at, insert-at}
use Rattle.dht_files.proofs.records.Files.replace.Goals as goal

pub returns-in-Ok-clause-before : goal.returns-in-Ok-clause-before
unfolding files_in
returns-in-Ok-clause-before c = c.in-Ok.ensures.old ∙ sym (get-at c.args.self.now.records.entries c.args.file)

pub returns-in-Ok-clause-after : goal.returns-in-Ok-clause-after
unfolding files_in
returns-in-Ok-clause-after c = insert-at c.args.self.now.records.entries c.insert.new.self.entries c.args.file c.args.kept c.in-Ok.ensures.updates.0

pub returns-clause-before : goal.returns-clause-before
unfolding files_in
returns-clause-before c = sym (get-at c.args.self.now.records.entries c.args.file ∙ c.in-Err.ensures.absent)

pub returns-clause-after : goal.returns-clause-after
unfolding files_in
returns-clause-after c = absurd (subst T (sym (subst IsSome (get-at c.args.self.now.records.entries c.args.file ∙ c.in-Err.ensures.absent) c.requires)) tt)
