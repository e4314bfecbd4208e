use Rattle.std.proofs.Common.{◌∙◌, ◌++◌, ap, sym, map, append-nil}
use Rattle.dht_brick.proofs.TableLemmas.{gfid_total, gfid_exact, entries-plain}
use Rattle.dht_brick.specs.Contents.{store_of}
use Rattle.dht_brick.specs.Dump.{file_line}
use Rattle.dht_files.specs.Records.{files_in}
use Rattle.dht_files.proofs.records.Files.dump.Goals as goal

pub returns : goal.returns
unfolding files_in
returns g c =
    let es = c.args.self.now.records.entries in
    let line = file_line c.args.brick (store_of (g.S.Slots.tables c.args.slots.now) (files_in c.args.self.now)) in
    sym (append-nil c.loop-file.out.items) ∙ ap (λ xs. c.loop-file.out.items ++ map line xs) (sym c.in-None.ensures.steps.0)
    ∙ c.loop-file.invariant ∙ ap (λ xs. c.args.out.now.items ++ map line xs) (sym (entries-plain gfid_total gfid_exact es c.into_iter-file-iterator.ensures.into_iter_gives.5))
