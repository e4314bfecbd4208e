use Rattle.std.proofs.Common.{◌∙◌, sym, ap}
use Rattle.std.specs.FinMap.{insert, remove}
use Rattle.dht_names.proofs.DirLemmas.{insert-back, remove-put}
use Rattle.dht_names.proofs.dirs.DirTable.put_back.Goals as goal

pub returns-in-None : goal.returns-in-None
returns-in-None c = λ m r e old.
    c.remove.ensures ∙ ap (λ x. remove x c.args.dir) e ∙ remove-put m c.args.dir r (sym old ∙ c.in-None.is)

pub returns-in-Some : goal.returns-in-Some
returns-in-Some c = λ m r e old.
    c.replace.ensures ∙ ap (λ x. insert x c.args.dir c.in-Some.old) e ∙ insert-back m c.args.dir r c.in-Some.old (sym old ∙ c.in-Some.is)
