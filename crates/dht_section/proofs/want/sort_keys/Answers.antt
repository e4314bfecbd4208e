use Rattle.std.proofs.lemmas.List.Filters.{dedup_is}
use Rattle.dht_section.proofs.SortLaws.{sorting, keys_ranked}
use Rattle.dht_section.proofs.KeyOrder.{key_total, key_exact, key_ties}
use Rattle.dht_section.proofs.want.sort_keys.Goals as goal

pub returns : goal.returns
returns c = keys_ranked _ _ (sorting key_total key_exact key_ties _ _ _ c.sort_unstable.ensures.permutation c.sort_unstable.ensures.sorted (dedup_is _ _ _ c.dedup.ensures.filtered))
