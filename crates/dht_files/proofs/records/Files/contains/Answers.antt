use Rattle.std.proofs.Common.{◌∙◌, ap, sym}
use Rattle.std.specs.Prelude.{is_some}
use Rattle.dht_files.specs.Records.{files_in}
use Rattle.dht_files.proofs.RecordLemmas.{get-at}
use Rattle.dht_files.proofs.records.Files.contains.Goals as goal

pub returns : goal.returns
unfolding files_in
returns c = c.contains_key.ensures ∙ ap is_some (sym (get-at c.args.self.now.records.entries c.args.file))
