use Rattle.std.proofs.Common.{◌∙◌, ◌++◌, ap, sym, map, append-nil}
use Rattle.dht_brick.specs.Dump.{slot_line}
use Rattle.dht_names.specs.Slots.{map_in}
use Rattle.dht_names.proofs.SlotLemmas.{entries-slots, shown_slots}
use Rattle.dht_names.proofs.slot_map.SlotMap.dump.Goals as goal

pub returns : goal.returns
unfolding map_in
returns c =
    let ordered = c.into_iter-key-iterator.ensures.into_iter_gives.5 in
    sym (append-nil c.loop-key.out.items) ∙ ap (λ es. c.loop-key.out.items ++ map (slot_line c.args.brick) (shown_slots es)) (sym c.in-None.ensures.steps.0)
    ∙ c.loop-key.invariant ∙ ap (λ es. c.args.out.now.items ++ map (slot_line c.args.brick) es) (sym (entries-slots c.args.self.now.kept.entries ordered))
