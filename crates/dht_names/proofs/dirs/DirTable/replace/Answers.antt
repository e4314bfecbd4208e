use Rattle.std.proofs.Common.{◌∙◌, sym, subst}
use Rattle.std.specs.Prelude.{IsSome}
use Rattle.std.specs.FinMap.{get}
use Rattle.dht_names.specs.Kept.{dirs_in}
use Rattle.dht_names.proofs.SlotLemmas.{get-plain, gfid_total, not_there}
use Rattle.dht_names.proofs.DirLemmas.{insert-plain, dirs_from}
use Rattle.dht_names.proofs.dirs.DirTable.replace.Goals as goal

pub returns-in_default : goal.returns-in_default
unfolding dirs_in
returns-in_default c =
    let es = c.args.self.now.kept.entries in
    not_there (get (dirs_from es) c.args.dir) c.requires (c.in_default.ensures.value ∙ sym (get-plain gfid_total es c.args.dir))

pub returns : goal.returns
unfolding dirs_in
returns c =
    let es = c.args.self.now.kept.entries in
    insert-plain es (c.get_mut.follows.lender c.args.new).entries c.args.dir c.args.new
    ((c.get_mut.follows.holds c.args.new).3 (subst IsSome (get-plain gfid_total es c.args.dir) c.requires)).0
