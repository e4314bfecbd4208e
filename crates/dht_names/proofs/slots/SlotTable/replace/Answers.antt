use Rattle.std.proofs.Common.{refl}
use Rattle.dht_brick.specs.Contents.{entry_at}
use Rattle.dht_names.specs.Counts.{tallies_in}
use Rattle.dht_names.specs.Slots.{map_in, slot_of}
use Rattle.dht_names.proofs.TableCounts.{few_counts, old_counted, put_counted, covered_room, covers_by}
use Rattle.dht_names.proofs.slots.SlotTable.replace.Goals as goal

pub recount-requires-clause-there : goal.recount-requires-clause-there
recount-requires-clause-there c =
    covered_room (map_in c.args.self.now.map) (entry_at c.args.key.now) (tallies_in c.args.self.now.counts) c.parts-old.result c.shown-new.result c.args.self.now.counted c.parts-old.ensures
    (covers_by c.args.key.now.dir c.parts-old.result c.shown-new.result _ _ c.parts-old.ensures c.shown-new.ensures c.requires.known)

pub recount-requires-clause-few : goal.recount-requires-clause-few
recount-requires-clause-few c =
    few_counts (map_in c.args.self.now.map) (tallies_in c.args.self.now.counts) (tallies_in c.args.self.now.counts) c.args.self.now.counted (λ g k. refl) c.len.result c.len.ensures.len c.len.ensures.few

pub recount-requires-clause-counted : goal.recount-requires-clause-counted
recount-requires-clause-counted c =
    old_counted (map_in c.args.self.now.map) (tallies_in c.args.self.now.counts) (tallies_in c.args.self.now.counts) c.args.self.now.counted (λ g k. refl) (entry_at c.args.key.now) c.parts-old.result c.parts-old.ensures

pub invariant_of-self : goal.invariant_of-self
invariant_of-self c =
    record {
      counted = put_counted (map_in c.args.self.now.map) (tallies_in c.args.self.now.counts) (tallies_in c.args.self.now.counts) c.args.self.now.counted (λ g k. refl) (entry_at c.args.key.now) c.parts-old.result c.parts-old.ensures c.shown-new.result (tallies_in c.recount.new.self) c.recount.ensures
          (slot_of c.args.slot) (map_in c.replace.new.self) c.shown-new.ensures c.replace.ensures;
    }
