use Rattle.std.proofs.Common.{◌∙◌, List, ap, sym, map}
use Rattle.std.specs.List.{find}
use Rattle.dht_brick.specs.Looks.{is_gfid_above}
use Rattle.dht_types.specs.declared.identifiers.Gfid.{Gfid}
use Rattle.dht_types.specs.declared.stored.DirRecord.{DirRecord}
use Rattle.dht_brick.specs.Contents.{gfid_cmp}
use Rattle.std.specs.BTreeMap.Range.{entries_between}
use Rattle.std.specs.declared.ops.Bound.TheVariants.{Unbounded}
use Rattle.dht_brick.proofs.TableLemmas.{gfid_total, gfid_exact, entries-plain, first_above, first_key}
use Rattle.dht_names.specs.Kept.{dirs_in}
use Rattle.dht_names.proofs.dirs.DirTable.next.Goals as goal

pub returns-in_err-dir : goal.returns-in_err-dir
unfolding dirs_in
returns-in_err-dir c =
    let es = c.args.self.now.kept.entries in
    c.from_residual.ensures ∙ sym (ap first_key c.in_err-dir.ensures.steps.0)
    ∙ ap first_key (c.range.ensures.between tt) ∙ ap (λ b. first_key (entries_between gfid_cmp b Unbounded es)) c.gfids_from.ensures
    ∙ sym (first_above c.args.after es)
    ∙ sym (ap (λ (xs : List (Gfid × DirRecord)). find (is_gfid_above c.args.after) (map (λ e. e.0) xs)) (entries-plain gfid_total gfid_exact es c.range.ensures.ordered))

pub returns : goal.returns
unfolding dirs_in
returns c =
    let es = c.args.self.now.kept.entries in
    sym (ap first_key c.in_ok-dir.ensures.steps)
    ∙ ap first_key (c.range.ensures.between tt) ∙ ap (λ b. first_key (entries_between gfid_cmp b Unbounded es)) c.gfids_from.ensures
    ∙ sym (first_above c.args.after es)
    ∙ sym (ap (λ (xs : List (Gfid × DirRecord)). find (is_gfid_above c.args.after) (map (λ e. e.0) xs)) (entries-plain gfid_total gfid_exact es c.range.ensures.ordered))
