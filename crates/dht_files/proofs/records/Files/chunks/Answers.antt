use Rattle.std.proofs.Common.{arith, ◌∙◌, ◌+◌, ap, sym, map}
use Rattle.std.specs.Prelude.{sum_by}
use Rattle.dht_brick.proofs.TableLemmas.{gfid_total, gfid_exact, entries-plain}
use Rattle.dht_brick.specs.Events.{chunks_of}
use Rattle.dht_files.specs.Records.{files_in}
use Rattle.dht_files.proofs.records.Files.chunks.Goals as goal

pub returns : goal.returns
unfolding files_in
returns c =
    let es = c.args.self.now.records.entries in
    let so_far = ap (λ xs. c.loop-record.total + sum_by chunks_of (map (λ e. e.1) xs)) (sym c.in-None.ensures.steps.0) ∙ c.loop-record.invariant.0 in
    let all = ap (λ xs. sum_by chunks_of (map (λ e. e.1) xs)) (entries-plain gfid_total gfid_exact es c.into_iter-record-iterator.ensures.into_iter_gives.5) in
    omega (arith, so_far, all)
