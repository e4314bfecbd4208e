use Rattle.std.proofs.Common.{◌∙◌, ap, sym}
use Rattle.std.specs.FinMap.{remove}
use Rattle.dht_brick.specs.Contents.{Files, Slots}
use Rattle.dht_names.specs.Kept.{dirs_in}
use Rattle.dht_names.proofs.RowLemmas.{lacks-both, remove-made, none-is, ok-made}
use Rattle.dht_names.proofs.brick_tables.Tables.create.Goals as goal

pub returns-in-Err : goal.returns-in-Err
returns-in-Err g c =
    lacks-both _ _ _ _ _ (ap (λ (x : Slots). record { dirs = dirs_in c.args.self.now.dirs; slots = x; bricks = c.args.self.now.volume.names }) c.in-Err.ensures.err)
    (c.remove.ensures ∙ ap (λ (m : Files). remove m c.args.file) (ok-made c.make.result _ c.make.ensures.ok c.is_err.ensures.value c.if-is_err.false) ∙ remove-made (g.F.FileRecords.files c.args.files.now) c.args.file _ (none-is _ (sym c.is_absent.ensures ∙ c.if-not-is_absent.false)))
