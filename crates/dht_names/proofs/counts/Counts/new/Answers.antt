use Rattle.std.proofs.Common.{◌∙◌, ap, List}
use Rattle.std.specs.FinMap.{from_entries}
use Rattle.dht_types.specs.declared.identifiers.Gfid.{Gfid}
use Rattle.dht_brick.specs.Contents.{gfid_cmp}
use Rattle.dht_names.specs.Counts.{tallies_in, counter}
use Rattle.dht_names.specs.declared.counts.Tally.{Tally}
use Rattle.dht_names.proofs.CountLemmas.{nothing_kept}
use Rattle.dht_names.proofs.counts.Counts.new.Goals as goal

pub returns : goal.returns
unfolding tallies_in
returns c = λ g k. ap (λ (es : List (Gfid × Tally)). counter (from_entries {R = gfid_cmp} es) g k) c.new.ensures.empty ∙ nothing_kept g k
