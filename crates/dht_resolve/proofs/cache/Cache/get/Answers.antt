use Rattle.std.proofs.Common.{ap, sym, ◌∙◌}
use Rattle.dht_resolve.specs.Cache.{all_shown, layout_at}
use Rattle.dht_resolve.proofs.EntryLemmas.{lookup_shown}
use Rattle.dht_resolve.proofs.cache.Cache.get.Goals as goal

pub returns-in-Some-clause-layout : goal.returns-in-Some-clause-layout
returns-in-Some-clause-layout c =
    c.get.ensures.value ∙ lookup_shown c.args.dir c.in-Some.layouts.entries
    ∙ ap (λ kept. layout_at (all_shown kept) c.args.dir) (sym c.in-Some.is)
    ∙ ap (λ cache. layout_at cache c.args.dir) c.self.view_is
