use Rattle.std.proofs.Common.{refl}
use Rattle.dht_brick.specs.Contents.{entry_at, bare}
use Rattle.dht_brick.specs.Parts.{slot_shown}
use Rattle.dht_names.specs.Counts.{tallies_in}
use Rattle.dht_names.specs.Slots.{map_in}
use Rattle.dht_names.proofs.TableCounts.{few_counts, old_counted, gone_counted}
use Rattle.dht_names.proofs.slots.SlotTable.remove.Goals as goal

pub recount-requires-clause-few : goal.recount-requires-clause-few
recount-requires-clause-few c =
    few_counts (map_in c.args.self.now.map) (tallies_in c.args.self.now.counts) (tallies_in c.args.self.now.counts) c.args.self.now.counted (λ g k. refl) c.len.result c.len.ensures.len c.len.ensures.few

pub recount-requires-clause-counted : goal.recount-requires-clause-counted
recount-requires-clause-counted c =
    old_counted (map_in c.args.self.now.map) (tallies_in c.args.self.now.counts) (tallies_in c.args.self.now.counts) c.args.self.now.counted (λ g k. refl) (entry_at c.args.key.now) c.parts-old.result c.parts-old.ensures

pub invariant_of-self : goal.invariant_of-self
invariant_of-self c =
    record {
      counted = gone_counted (map_in c.args.self.now.map) (tallies_in c.args.self.now.counts) (tallies_in c.args.self.now.counts) c.args.self.now.counted (λ g k. refl) (entry_at c.args.key.now) c.parts-old.result c.parts-old.ensures (slot_shown bare) (tallies_in c.recount.new.self) c.recount.ensures
          (map_in c.remove.new.self) refl c.remove.ensures;
    }
