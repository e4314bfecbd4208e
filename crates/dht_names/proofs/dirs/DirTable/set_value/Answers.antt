use Rattle.std.proofs.Common.{◌∙◌, ◌≡◌, sym, subst, ap}
use Rattle.std.specs.Prelude.{IsSome, is_some}
use Rattle.std.specs.FinMap.{get, insert}
use Rattle.dht_types.specs.declared.stored.DirRecord.{DirRecord}
use Rattle.dht_names.specs.Kept.{dirs_in}
use Rattle.dht_names.proofs.SlotLemmas.{get-plain, gfid_total, not_there, same_some}
use Rattle.dht_names.proofs.DirLemmas.{insert-plain, dirs_from}
use Rattle.dht_names.proofs.dirs.DirTable.set_value.Goals as goal

pub returns-in_default : goal.returns-in_default
unfolding dirs_in
returns-in_default c = λ r there.
    let es = c.args.self.now.kept.entries in
    not_there (get (dirs_from es) c.args.dir) (ap is_some there) (c.in_default.ensures.value ∙ sym (get-plain gfid_total es c.args.dir))

pub returns : goal.returns
unfolding dirs_in
returns c = λ r there.
    let es = c.args.self.now.kept.entries in
    let old = c.in-Some.kept.now in
    let w : DirRecord = record old { value = c.args.value } in
    let same : old ≡ r = same_some old r (c.in-Some.ensures.value ∙ sym (get-plain gfid_total es c.args.dir) ∙ there) in
    insert-plain es (c.get_mut.follows.lender w).entries c.args.dir w
    ((c.get_mut.follows.holds w).3 (subst IsSome (get-plain gfid_total es c.args.dir) (ap is_some there))).0
    ∙ ap (λ (x : DirRecord). insert (dirs_from es) c.args.dir (record x { value = c.args.value })) same
