use Rattle.std.proofs.Common.{ap}
use Rattle.dht_files.specs.Records.{files_in}
use Rattle.dht_files.proofs.RecordLemmas.{files_of}
use Rattle.dht_files.proofs.records.Files.new.Goals as goal

pub returns : goal.returns
unfolding files_in
returns c = ap files_of c.new.ensures.empty
