use Rattle.std.proofs.Common.{◌∙◌, sym}
use Rattle.dht_files.specs.Records.{files_in}
use Rattle.dht_files.proofs.RecordLemmas.{get-at}
use Rattle.dht_files.proofs.records.Files.kept.Goals as goal

pub returns : goal.returns
unfolding files_in
returns c = c.get.ensures.value ∙ sym (get-at c.args.self.now.records.entries c.args.file)
