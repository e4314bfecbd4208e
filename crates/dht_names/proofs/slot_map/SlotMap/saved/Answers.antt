use Rattle.std.proofs.Common.{◌∙◌, List, ◌++◌, ap, sym, map, append-nil}
use Rattle.std.specs.Prelude.{None, filter}
use Rattle.std.specs.BTreeMap.Range.{entries_between}
use Rattle.std.specs.declared.ops.Bound.{Bound}
use Rattle.std.specs.declared.ops.Bound.TheVariants.{Unbounded}
use Rattle.dht_types.specs.Gfid.{Entry, same_gfid}
use Rattle.dht_types.specs.declared.names.EntryKey.{EntryKey}
use Rattle.dht_types.specs.declared.stored.Slot.{Slot}
use Rattle.dht_brick.specs.Saving.{saved_slot, slots_saved}
use Rattle.dht_names.specs.Slots.{map_in}
use Rattle.dht_names.specs.declared.kept.KeptSlot.{KeptSlot}
use Rattle.dht_names.proofs.RangeLemmas.{front, in_dir, key_cmp, dir_together, ends_here}
use Rattle.dht_names.proofs.SlotLemmas.{entries-slots, shown_slots}
use Rattle.dht_names.proofs.slot_map.SlotMap.saved.Goals as goal

pub loop-key-init : goal.loop-key-init
loop-key-init c =
    let es = c.args.self.now.kept.entries in
    let d = c.args.dir in
    let left = λ (it : List (EntryKey × KeptSlot)). map saved_slot (shown_slots (front (in_dir d None) it)) in
    ap (λ xs. xs ++ left c.into_iter-key-iterator.result) c.new-saved.ensures.items
    ∙ ap left (c.into_iter-key-iterator.ensures.into_iter_gives ∙ c.range-key-items.ensures.between tt ∙ ap (λ (b : Bound EntryKey). entries_between key_cmp b Unbounded es) c.names_from.ensures)
    ∙ ap (map saved_slot) (sym (dir_together d es c.range-key-items.ensures.ordered))

pub returns-then-ne : goal.returns-then-ne
unfolding map_in slots_saved
returns-then-ne c =
    let d = c.args.dir in
    let out = c.loop-key.saved.items in
    c.new.ensures ∙ sym (append-nil out)
    ∙ ap (λ (es : List (EntryKey × KeptSlot)). out ++ map saved_slot (shown_slots es)) (sym (ends_here d None (c.in-Some.key.now, c.in-Some.slot.now) c.next.new.self c.loop-key.key-iterator c.in-Some.ensures.steps (sym c.ne.ensures ∙ c.if-ne.true)))
    ∙ c.loop-key.invariant
    ∙ ap (λ (xs : List (Entry × Slot)). map saved_slot (filter (λ (e : Entry × Slot). same_gfid d e.0.0) xs)) (sym (entries-slots c.args.self.now.kept.entries c.range-key-items.ensures.ordered))

pub returns : goal.returns
unfolding map_in slots_saved
returns c =
    let d = c.args.dir in
    let out = c.loop-key.saved.items in
    c.new-2.ensures ∙ sym (append-nil out)
    ∙ ap (λ (es : List (EntryKey × KeptSlot)). out ++ map saved_slot (shown_slots (front (in_dir d None) es))) (sym c.in-None.ensures.steps.0)
    ∙ c.loop-key.invariant
    ∙ ap (λ (xs : List (Entry × Slot)). map saved_slot (filter (λ (e : Entry × Slot). same_gfid d e.0.0) xs)) (sym (entries-slots c.args.self.now.kept.entries c.range-key-items.ensures.ordered))
