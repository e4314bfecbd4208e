use Rattle.std.proofs.Common.{◌≡◌, ◌∙◌, ◌++◌, [], ◌∷◌, List, ap, sym, refl}
use Rattle.std.specs.FinMap.{insert}
use Rattle.dht_types.specs.declared.identifiers.Gfid.{Gfid}
use Rattle.dht_types.specs.declared.saved.SavedSlot.{SavedSlot}
use Rattle.dht_types.specs.declared.stored.Slot.{Slot}
use Rattle.dht_brick.specs.Contents.{Slots}
use Rattle.dht_brick.specs.Saving.{slots_restored}
use Rattle.dht_names.specs.Kept.{slots_in}
use Rattle.dht_names.proofs.slots.SlotTable.restored.Goals as goal

slots_restored-push :
    (g : Gfid) (ps : List SavedSlot) (p : SavedSlot) (slots : Slots)
    → slots_restored g (ps ++ p ∷ []) slots ≡ slots_restored g ps (insert slots (g, p.name) p.slot)
slots_restored-push g [] p slots = refl
slots_restored-push g (q ∷ ps) p slots = ap (λ m. insert m (g, q.name) q.slot) (slots_restored-push g ps p slots)

pub loop-part-preserved : goal.loop-part-preserved
loop-part-preserved c =
    let g = c.args.dir in
    let left = c.next.new.self.iter.rest.now in
    let part = c.in-Some.part.now in
    let slots = slots_in c.loop-part.table in
    ap (slots_restored g left) (c.in_ok-put.ensures.ok ∙ ap (λ (p : Slot). insert slots (g, part.name) p) c.in_ok-of.ensures)
    ∙ sym (slots_restored-push g left part slots)
    ∙ ap (λ it. slots_restored g it slots) (sym c.in-Some.ensures.steps) ∙ c.loop-part.invariant
