use Rattle.dht_brick.specs.Contents.{entry_at}
use Rattle.dht_names.specs.Counts.{tallies_in}
use Rattle.dht_names.specs.Slots.{map_in, slot_of}
use Rattle.dht_names.proofs.TableCounts.{few_counts, old_counted, put_counted}
use Rattle.dht_names.proofs.slots.SlotTable.put.Goals as goal

pub recount-requires-clause-few : goal.recount-requires-clause-few
recount-requires-clause-few c =
    few_counts (map_in c.args.self.now.map) (tallies_in c.args.self.now.counts) (tallies_in c.admit.new.self) c.args.self.now.counted c.in_ok-admit.ensures.same c.len.result c.len.ensures.len c.len.ensures.few

pub recount-requires-clause-counted : goal.recount-requires-clause-counted
recount-requires-clause-counted c =
    old_counted (map_in c.args.self.now.map) (tallies_in c.args.self.now.counts) (tallies_in c.admit.new.self) c.args.self.now.counted c.in_ok-admit.ensures.same (entry_at c.args.key) c.parts-old.result c.parts-old.ensures

pub invariant_of-self-in-Ok : goal.invariant_of-self-in-Ok
invariant_of-self-in-Ok c =
    record {
      counted = put_counted (map_in c.args.self.now.map) (tallies_in c.args.self.now.counts) (tallies_in c.admit.new.self) c.args.self.now.counted c.in_ok-admit.ensures.same (entry_at c.args.key) c.parts-old.result c.parts-old.ensures c.shown-new.result (tallies_in c.recount.new.self) c.recount.ensures
          (slot_of c.args.slot) (map_in c.insert.new.self) c.shown-new.ensures c.in-Ok.ensures.ok;
    }
