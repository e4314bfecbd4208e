use Rattle.dht_resolve.proofs.CacheLaws.{found, others, cached_is_cache}
use Rattle.dht_resolve.proofs.cache.a_put_sets_one_layout.Goals as goal

pub returns-clause-found : goal.returns-clause-found
returns-clause-found c = found

pub returns-clause-others : goal.returns-clause-others
returns-clause-others c = λ cache dir layout is other ne. others dir layout other ne cache is

pub returns-clause-cache : goal.returns-clause-cache
returns-clause-cache c = cached_is_cache
