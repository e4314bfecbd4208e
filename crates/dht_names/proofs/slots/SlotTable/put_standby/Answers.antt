use Rattle.std.proofs.Common.{ap}
use Rattle.std.specs.Prelude.{Some}
use Rattle.dht_types.specs.declared.stored.Slot.{Slot}
use Rattle.dht_brick.specs.Contents.{entry_at, slot_in}
use Rattle.dht_brick.specs.declared.replies.SlotShown.{SlotShown}
use Rattle.dht_names.specs.Counts.{tallies_in}
use Rattle.dht_names.specs.Slots.{map_in}
use Rattle.dht_names.proofs.TableCounts.{few_counts, old_counted, put_counted}
use Rattle.dht_names.proofs.slots.SlotTable.put_standby.Goals as goal

pub recount-requires-clause-few : goal.recount-requires-clause-few
recount-requires-clause-few c =
    few_counts (map_in c.args.self.now.map) (tallies_in c.args.self.now.counts) (tallies_in c.admit.new.self) c.args.self.now.counted c.in_ok-admit.ensures.same c.len.result c.len.ensures.len c.len.ensures.few

pub recount-requires-clause-counted : goal.recount-requires-clause-counted
recount-requires-clause-counted c =
    old_counted (map_in c.args.self.now.map) (tallies_in c.args.self.now.counts) (tallies_in c.admit.new.self) c.args.self.now.counted c.in_ok-admit.ensures.same (entry_at c.args.key.now) c.parts-old.result c.parts-old.ensures

pub invariant_of-self-2 : goal.invariant_of-self-2
invariant_of-self-2 c =
    let p : Slot = record (slot_in (map_in c.args.self.now.map) (entry_at c.args.key.now)) { standby = Some c.args.standby } in
    let shown = ap (λ (s : SlotShown). let n : SlotShown = record { main = s.main; standby = Some c.args.standby } in n) c.parts-old.ensures in
    record { counted = put_counted (map_in c.args.self.now.map) (tallies_in c.args.self.now.counts) (tallies_in c.admit.new.self) c.args.self.now.counted c.in_ok-admit.ensures.same (entry_at c.args.key.now) c.parts-old.result c.parts-old.ensures _ (tallies_in c.recount.new.self) c.recount.ensures p (map_in c.set_standby.new.self) shown c.set_standby.ensures }
