use Rattle.std.proofs.Common.{◌∙◌, ap, sym}
use Rattle.std.specs.FinMap.{insert}
use Rattle.dht_brick.specs.Contents.{Slots, entry_at}
use Rattle.dht_brick.specs.Parts.{slots_outside}
use Rattle.dht_names.specs.Kept.{slots_in}
use Rattle.dht_names.specs.Slots.{map_in, slot_of}
use Rattle.dht_names.specs.declared.kept.KeptSlot.{KeptSlot}
use Rattle.dht_names.proofs.SlotLemmas.{put_onto, put_onto-empty, put_onto-push, slots_from}
use Rattle.dht_names.proofs.slots.SlotTable.outside.Goals as goal

pub loop-key-init : goal.loop-key-init
loop-key-init c =
    let it = c.into_iter-key-iterator.result.iter in
    ap (put_onto it) c.new-table.ensures ∙ put_onto-empty it
    ∙ ap slots_from (ap (λ r. r.iter) c.into_iter-key-iterator.ensures.into_iter_gives ∙ c.rev-key-items.ensures.source ∙ c.iter.ensures.rest)

pub loop-key-preserved : goal.loop-key-preserved
loop-key-preserved c =
    let left = c.next.new.self.iter in
    let key = c.in-Some.key.now in
    let slot = c.in-Some.slot.now in
    let slots = slots_in c.loop-key.table in
    ap (put_onto left) (c.in_ok-put.ensures.ok ∙ ap (λ (k : KeptSlot). insert slots (entry_at key) (slot_of k)) c.in_ok-again.ensures)
    ∙ sym (put_onto-push left key slot slots)
    ∙ ap (λ it. put_onto it slots) (sym c.in-Some.ensures.steps) ∙ c.loop-key.invariant

pub returns : goal.returns
unfolding map_in
returns c =
    c.drop_dir.ensures
    ∙ ap (λ (s : Slots). slots_outside s c.args.dir) (sym (ap (λ it. put_onto it (slots_in c.loop-key.table)) c.in-None.ensures.steps.0) ∙ c.loop-key.invariant)
