use Rattle.std.proofs.Common.{ap, ◌∙◌, sym}
use Rattle.std.specs.FinMap.{insert}
use Rattle.dht_types.specs.Content.{cut_to}
use Rattle.dht_files.specs.Headers.{header_of}
use Rattle.dht_files.specs.Records.{files_in}
use Rattle.dht_files.proofs.InPlaceLemmas.{in_place}
use Rattle.dht_files.proofs.records.Files.truncate.Goals as goal

pub returns-clause-truncate : goal.returns-clause-truncate
returns-clause-truncate c = λ t.
    let old = files_in c.args.self.now in
    let held = files_in c.take_bytes-bytes.new.self in
    in_place t old held (files_in c.save.new.self) c.args.file c.in-Some.header c.take_bytes-bytes.result c.cut-cut.new.self (λ b. cut_to b c.args.size) c.cut-cut.result c.made.result
    (sym (c.in-Some.ensures ∙ ap header_of c.kept.ensures)) c.take_bytes-bytes.ensures.bytes c.take_bytes-bytes.ensures.others
    (c.save.ensures.after ∙ ap (insert held c.args.file) c.with.ensures)
    c.cut-cut.ensures.ok c.cut-cut.ensures.err c.made.ensures.ok c.made.ensures.err

pub returns-clause-locked : goal.returns-clause-locked
returns-clause-locked c = λ t.
    let old = files_in c.args.self.now in
    let held = files_in c.take_bytes-bytes.new.self in
    in_place t old held (files_in c.save.new.self) c.args.file c.in-Some.header c.take_bytes-bytes.result c.cut-cut.new.self (λ b. cut_to b c.args.size) c.cut-cut.result c.made.result
    (sym (c.in-Some.ensures ∙ ap header_of c.kept.ensures)) c.take_bytes-bytes.ensures.bytes c.take_bytes-bytes.ensures.others
    (c.save.ensures.after ∙ ap (insert held c.args.file) c.with.ensures)
    c.cut-cut.ensures.ok c.cut-cut.ensures.err c.made.ensures.ok c.made.ensures.err
