use Rattle.std.proofs.lemmas.List.Filters.{dedup_is}
use Rattle.dht_section.proofs.SortLaws.{sorting}
use Rattle.dht_section.proofs.KeyOrder.{entry_total, entry_exact, entry_ties}
use Rattle.dht_section.proofs.want.sort_names.Goals as goal

pub returns : goal.returns
returns c = sorting entry_total entry_exact entry_ties _ _ _ c.sort_unstable.ensures.permutation c.sort_unstable.ensures.sorted (dedup_is _ _ _ c.dedup.ensures.filtered)
