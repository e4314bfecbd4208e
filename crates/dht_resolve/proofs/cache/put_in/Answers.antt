use Rattle.std.proofs.Common.{◌≤◌, ◌<◌, map, ap, sym, subst, ◌∙◌}
use Rattle.std.proofs.lemmas.Result.{err_from_is_err_and}
use Rattle.dht_resolve.specs.Cache.{IsCache, each_shown, shown}
use Rattle.dht_resolve.proofs.CacheLaws.{cached_is_cache}
use Rattle.dht_resolve.proofs.EntryLemmas.{lookup_shown, put_few, put_many}
use Rattle.dht_resolve.proofs.cache.put_in.Goals as goal

pub returns-then-len-gt-MOST_DIRECTORIES-clause-put :
    goal.returns-then-len-gt-MOST_DIRECTORIES-clause-put
returns-then-len-gt-MOST_DIRECTORIES-clause-put c =
    ap (map shown) c.shift_remove_index.ensures.entries
    ∙ put_many c.args.layouts.now.entries c.insert.new.self.entries c.args.dir c.args.layout c.requires c.in_ok-insert.ensures.entries (subst (λ n. 256 < n) c.len.ensures.len c.if-len-gt-MOST_DIRECTORIES.true)

pub returns-then-len-gt-MOST_DIRECTORIES-clause-cache :
    goal.returns-then-len-gt-MOST_DIRECTORIES-clause-cache
returns-then-len-gt-MOST_DIRECTORIES-clause-cache c = subst IsCache (sym (returns-then-len-gt-MOST_DIRECTORIES-clause-put c)) (cached_is_cache (each_shown c.args.layouts.now) c.args.dir c.args.layout c.requires)

pub returns-else-len-gt-MOST_DIRECTORIES-clause-put :
    goal.returns-else-len-gt-MOST_DIRECTORIES-clause-put
returns-else-len-gt-MOST_DIRECTORIES-clause-put c = put_few c.args.layouts.now.entries c.insert.new.self.entries c.args.dir c.args.layout c.requires c.in_ok-insert.ensures.entries (subst (λ n. n ≤ 256) c.len.ensures.len c.if-len-gt-MOST_DIRECTORIES.false)

pub returns-else-len-gt-MOST_DIRECTORIES-clause-cache :
    goal.returns-else-len-gt-MOST_DIRECTORIES-clause-cache
returns-else-len-gt-MOST_DIRECTORIES-clause-cache c = subst IsCache (sym (returns-else-len-gt-MOST_DIRECTORIES-clause-put c)) (cached_is_cache (each_shown c.args.layouts.now) c.args.dir c.args.layout c.requires)

pub returns-in_err-insert-clause-absent : goal.returns-in_err-insert-clause-absent
returns-in_err-insert-clause-absent c =
    let returned = err_from_is_err_and c.from_residual.result c.from_residual.ensures.1 in
    rw returned.1 (sym (lookup_shown c.args.dir c.args.layouts.now.entries) ∙ c.in_err-insert.ensures.absent)
