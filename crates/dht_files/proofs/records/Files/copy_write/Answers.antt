use Rattle.std.proofs.Common.{◌≡◌, length, ap, ◌∙◌, sym, subst}
use Rattle.std.specs.Prelude.{Some, OnOk, ◌==◌}
use Rattle.std.specs.FinMap.{get, insert}
use Rattle.dht_types.specs.Content.{written}
use Rattle.dht_types.specs.declared.stored.Record.TheVariants.{Standby as Copied}
use Rattle.dht_brick.specs.Contents.{store_of}
use Rattle.dht_brick.specs.Outcome.{Serves}
use Rattle.dht_files.specs.Records.{files_in}
use Rattle.dht_files.proofs.InPlaceLemmas.{nothing_copied, some_copied, copy_in_place}
use Rattle.dht_files.proofs.records.Files.copy_write.Goals as goal

pub returns-then-is_empty : goal.returns-then-is_empty
returns-then-is_empty c = λ t.
    nothing_copied t (files_in c.args.self.now) c.args.file c.args.offset c.args.piece.now c.in-Some-Standby.copy (sym c.in-Some-Standby.ensures ∙ ap Some c.in-Some-Standby.field-0-is) c.if-copy.false
    (ap (λ p. length p == 0) (sym c.as_slice.ensures) ∙ (sym c.is_empty.ensures ∙ c.if-is_empty.true))

pub returns : goal.returns
returns c = λ t.
    let old = files_in c.args.self.now in
    let held = files_in c.take_bytes-bytes.new.self in
    let new = files_in c.save.new.self in
    let s = store_of t old in
    let some = ap (λ p. length p == 0) (sym c.as_slice.ensures) ∙ (sym c.is_empty.ensures ∙ c.if-is_empty.false) in
    subst (λ outcome. Serves outcome s c.made.result (store_of t new)) (some_copied s c.args.file c.args.offset c.args.piece.now some (get old c.args.file))
    (copy_in_place t old held new c.args.file c.in-Some-Standby.copy c.take_bytes-bytes.result c.write-written.new.self (λ b. written b c.args.offset c.args.piece.now) c.write-written.result c.made.result
    (sym c.in-Some-Standby.ensures ∙ ap Some c.in-Some-Standby.field-0-is) c.if-copy.false c.take_bytes-bytes.ensures.bytes c.take_bytes-bytes.ensures.others
    (c.save.ensures.after ∙ ap (insert held c.args.file) (c.filled.ensures ∙ ap (λ x. Copied (record x { bytes = c.write-written.new.self })) c.copy_of-header.ensures))
    (subst (λ p. OnOk c.write-written.result (c.write-written.new.self ≡ written c.take_bytes-bytes.result c.args.offset p)) c.as_slice-2.ensures c.write-written.ensures.ok)
    c.write-written.ensures.err c.made.ensures.ok c.made.ensures.err)
