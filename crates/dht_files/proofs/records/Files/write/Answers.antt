use Rattle.std.proofs.Common.{◌≡◌, ap, ◌∙◌, sym, subst}
use Rattle.std.specs.Prelude.{OnOk}
use Rattle.std.specs.FinMap.{insert}
use Rattle.dht_types.specs.Content.{written}
use Rattle.dht_files.specs.Headers.{header_of}
use Rattle.dht_files.specs.Records.{files_in}
use Rattle.dht_files.proofs.InPlaceLemmas.{in_place}
use Rattle.dht_files.proofs.records.Files.write.Goals as goal

pub returns-clause-write : goal.returns-clause-write
returns-clause-write c = λ t.
    let old = files_in c.args.self.now in
    let held = files_in c.take_bytes-bytes.new.self in
    in_place t old held (files_in c.save.new.self) c.args.file c.in-Some.header c.take_bytes-bytes.result c.write-written.new.self (λ b. written b c.args.offset c.args.piece.now) c.write-written.result c.made.result
    (sym (c.in-Some.ensures ∙ ap header_of c.kept.ensures)) c.take_bytes-bytes.ensures.bytes c.take_bytes-bytes.ensures.others
    (c.save.ensures.after ∙ ap (insert held c.args.file) c.with.ensures)
    (subst (λ p. OnOk c.write-written.result (c.write-written.new.self ≡ written c.take_bytes-bytes.result c.args.offset p)) c.as_slice.ensures c.write-written.ensures.ok)
    c.write-written.ensures.err c.made.ensures.ok c.made.ensures.err

pub returns-clause-locked : goal.returns-clause-locked
returns-clause-locked c = λ t.
    let old = files_in c.args.self.now in
    let held = files_in c.take_bytes-bytes.new.self in
    in_place t old held (files_in c.save.new.self) c.args.file c.in-Some.header c.take_bytes-bytes.result c.write-written.new.self (λ b. written b c.args.offset c.args.piece.now) c.write-written.result c.made.result
    (sym (c.in-Some.ensures ∙ ap header_of c.kept.ensures)) c.take_bytes-bytes.ensures.bytes c.take_bytes-bytes.ensures.others
    (c.save.ensures.after ∙ ap (insert held c.args.file) c.with.ensures)
    (subst (λ p. OnOk c.write-written.result (c.write-written.new.self ≡ written c.take_bytes-bytes.result c.args.offset p)) c.as_slice.ensures c.write-written.ensures.ok)
    c.write-written.ensures.err c.made.ensures.ok c.made.ensures.err
