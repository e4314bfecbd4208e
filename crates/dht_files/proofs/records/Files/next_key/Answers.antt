use Rattle.std.proofs.Common.{◌∙◌, ap, sym, map}
use Rattle.std.specs.Prelude.{find}
use Rattle.std.specs.BTreeMap.Range.{entries_between}
use Rattle.std.specs.declared.ops.Bound.TheVariants.{Unbounded}
use Rattle.dht_brick.proofs.TableLemmas.{gfid_total, gfid_exact, entries-plain, first_above, first_key}
use Rattle.dht_brick.specs.Contents.{gfid_cmp}
use Rattle.dht_brick.specs.Looks.{is_gfid_above}
use Rattle.dht_files.specs.Records.{files_in}
use Rattle.dht_files.proofs.records.Files.next_key.Goals as goal

pub returns-in_err-file : goal.returns-in_err-file
unfolding files_in
returns-in_err-file c =
    let es = c.args.self.now.records.entries in
    c.from_residual.ensures ∙ sym (ap first_key c.in_err-file.ensures.steps.0)
    ∙ ap first_key (c.range.ensures.between tt) ∙ ap (λ b. first_key (entries_between gfid_cmp b Unbounded es)) c.gfids_from.ensures
    ∙ sym (first_above c.args.after es)
    ∙ ap (λ xs. find (is_gfid_above c.args.after) (map (λ e. e.0) xs)) (sym (entries-plain gfid_total gfid_exact es c.range.ensures.ordered))

pub returns : goal.returns
unfolding files_in
returns c =
    let es = c.args.self.now.records.entries in
    sym (ap first_key c.in_ok-file.ensures.steps)
    ∙ ap first_key (c.range.ensures.between tt) ∙ ap (λ b. first_key (entries_between gfid_cmp b Unbounded es)) c.gfids_from.ensures
    ∙ sym (first_above c.args.after es)
    ∙ ap (λ xs. find (is_gfid_above c.args.after) (map (λ e. e.0) xs)) (sym (entries-plain gfid_total gfid_exact es c.range.ensures.ordered))
