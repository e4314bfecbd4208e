use Rattle.std.proofs.Common.{false, ap, ◌∙◌, sym}
use Rattle.std.specs.Prelude.{Some}
use Rattle.std.specs.FinMap.{insert}
use Rattle.dht_types.specs.declared.stored.Record.TheVariants.{Standby as Copied}
use Rattle.dht_brick.specs.Contents.{store_of}
use Rattle.dht_files.specs.Records.{files_in}
use Rattle.dht_files.proofs.InPlaceLemmas.{put_back_clean}
use Rattle.dht_files.proofs.records.Files.standby_write.Goals as goal

pub returns-in-Err : goal.returns-in-Err
returns-in-Err c = λ t.
    let old = files_in c.args.self.now in
    let held = files_in c.take_bytes-bytes.new.self in
    let copy = c.in-Some-Standby.copy in
    ap (store_of t) (put_back_clean old held (files_in c.save-in-Err.new.self) c.args.file copy c.take_bytes-bytes.result (sym c.in-Some-Standby.ensures ∙ ap Some c.in-Some-Standby.field-0-is) c.if-copy.false c.take_bytes-bytes.ensures.bytes c.take_bytes-bytes.ensures.others
    (c.save-in-Err.ensures.after ∙ ap (insert held c.args.file)
    (c.filled-in-Err.ensures ∙ (ap (λ x. Copied (record x { bytes = c.change_in_place.new.bytes })) c.copy_of-clean.ensures ∙ ap (λ b. Copied (record copy { is_dirty = false; bytes = b })) c.in-Err.ensures.err))))
