use Rattle.std.proofs.Common.{arith, ◌+◌, ◌∙◌, ap, refl}
use Rattle.dht_names.specs.Counts.{counter, tallies_in}
use Rattle.dht_names.specs.Slots.{map_in}
use Rattle.dht_names.specs.declared.counts.Kind.TheVariants.{Named, Readied}
use Rattle.dht_names.proofs.TableCounts.{links_counted, few_counts}
use Rattle.dht_names.proofs.slots.SlotTable.links.Goals as goal

pub overflow_add-result : goal.overflow_add-result
overflow_add-result c =
    let few = few_counts (map_in c.args.self.now.map) (tallies_in c.args.self.now.counts) (tallies_in c.args.self.now.counts) c.args.self.now.counted (λ g k. refl) c.len.result c.len.ensures.len c.len.ensures.few in
    let named = few c.args.file Named in
    let readied = few c.args.file Readied in
    let a = c.of.ensures in
    let b = c.of-2.ensures in
    omega (arith, named, readied, a, b)

pub returns : goal.returns
returns c =
    ap (λ n. n + c.of-2.result) c.of.ensures ∙ ap (λ n. counter (tallies_in c.args.self.now.counts) c.args.file Named + n) c.of-2.ensures
    ∙ links_counted (map_in c.args.self.now.map) (tallies_in c.args.self.now.counts) c.args.self.now.counted c.args.file
