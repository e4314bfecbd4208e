use Rattle.std.proofs.Common.{◌∙◌, ap, sym, length}
use Rattle.std.specs.FinMap.{len-entries}
use Rattle.dht_brick.proofs.TableLemmas.{gfid_total, gfid_exact, entries-plain}
use Rattle.dht_files.specs.Records.{files_in}
use Rattle.dht_files.proofs.RecordLemmas.{files_of}
use Rattle.dht_files.proofs.records.Files.count.Goals as goal

pub returns : goal.returns
unfolding files_in
returns c =
    let es = c.args.self.now.records.entries in
    c.len.ensures.len ∙ sym (len-entries (files_of es) ∙ ap length (entries-plain gfid_total gfid_exact es c.len.ensures.ordered))
