use Rattle.dht_files.specs.Records.{files_in}
use Rattle.dht_files.proofs.RecordLemmas.{remove-at}
use Rattle.dht_files.proofs.records.Files.remove.Goals as goal

pub returns : goal.returns
unfolding files_in
returns c = remove-at c.args.self.now.records.entries c.remove.new.self.entries c.args.file c.remove.ensures.updates.0
