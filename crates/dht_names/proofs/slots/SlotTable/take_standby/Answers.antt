use Rattle.std.proofs.Common.{refl, ap}
use Rattle.std.specs.Prelude.{None}
use Rattle.dht_types.specs.declared.stored.Slot.{Slot}
use Rattle.dht_brick.specs.Contents.{entry_at, slot_in}
use Rattle.dht_brick.specs.Parts.{slot_shown, without_standby}
use Rattle.dht_brick.specs.declared.replies.SlotShown.{SlotShown}
use Rattle.dht_names.specs.Counts.{tallies_in}
use Rattle.dht_names.specs.Slots.{map_in}
use Rattle.dht_names.proofs.TableCounts.{few_counts, old_counted, put_counted, covered_room, covers_by, covers_no_standby}
use Rattle.dht_names.proofs.slots.SlotTable.take_standby.Goals as goal

pub recount-requires-clause-there : goal.recount-requires-clause-there
recount-requires-clause-there c =
    let p = slot_in (map_in c.args.self.now.map) (entry_at c.args.key.now) in
    let shown = ap (λ (s : SlotShown). let n : SlotShown = record { main = s.main; standby = None } in n) c.parts-old.ensures in
    covered_room (map_in c.args.self.now.map) (entry_at c.args.key.now) (tallies_in c.args.self.now.counts) c.parts-old.result _ c.args.self.now.counted c.parts-old.ensures
    (covers_by c.args.key.now.dir c.parts-old.result _ (slot_shown p) (slot_shown (without_standby p)) c.parts-old.ensures shown (covers_no_standby c.args.key.now.dir p))

pub recount-requires-clause-few : goal.recount-requires-clause-few
recount-requires-clause-few c =
    few_counts (map_in c.args.self.now.map) (tallies_in c.args.self.now.counts) (tallies_in c.args.self.now.counts) c.args.self.now.counted (λ g k. refl) c.len.result c.len.ensures.len c.len.ensures.few

pub recount-requires-clause-counted : goal.recount-requires-clause-counted
recount-requires-clause-counted c =
    old_counted (map_in c.args.self.now.map) (tallies_in c.args.self.now.counts) (tallies_in c.args.self.now.counts) c.args.self.now.counted (λ g k. refl) (entry_at c.args.key.now) c.parts-old.result c.parts-old.ensures

pub invariant_of-self : goal.invariant_of-self
invariant_of-self c =
    let p : Slot = record (slot_in (map_in c.args.self.now.map) (entry_at c.args.key.now)) { standby = None } in
    let shown = ap (λ (s : SlotShown). let n : SlotShown = record { main = s.main; standby = None } in n) c.parts-old.ensures in
    record { counted = put_counted (map_in c.args.self.now.map) (tallies_in c.args.self.now.counts) (tallies_in c.args.self.now.counts) c.args.self.now.counted (λ g k. refl) (entry_at c.args.key.now) c.parts-old.result c.parts-old.ensures _ (tallies_in c.recount.new.self) c.recount.ensures p (map_in c.set_standby.new.self) shown c.set_standby.ensures }
