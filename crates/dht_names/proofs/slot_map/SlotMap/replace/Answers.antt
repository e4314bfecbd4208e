use Rattle.std.proofs.Common.{◌∙◌, sym, refl, ap}
use Rattle.std.specs.Prelude.{is_some}
use Rattle.std.specs.Option.{option_map}
use Rattle.std.specs.FinMap.{get}
use Rattle.dht_brick.specs.Contents.{entry_at, entry_cmp}
use Rattle.dht_names.specs.Slots.{map_in, slot_of}
use Rattle.dht_names.proofs.SlotLemmas.{get-shown, insert-shown, entry_total, entry_exact, is_some-option_map, not_there, slots_from}
use Rattle.dht_names.proofs.slot_map.SlotMap.replace.Goals as goal

pub returns-in_default : goal.returns-in_default
unfolding map_in
returns-in_default c =
    let es = c.args.self.now.kept.entries in
    not_there (get (slots_from es) (entry_at c.args.key.now)) c.requires
    (ap (option_map slot_of) c.in_default.ensures.value ∙ sym (get-shown entry_cmp entry_at slot_of entry_total es c.args.key.now))

pub returns : goal.returns
unfolding map_in
returns c =
    let es = c.args.self.now.kept.entries in
    let there = sym (is_some-option_map slot_of _) ∙ ap is_some (sym (get-shown entry_cmp entry_at slot_of entry_total es c.args.key.now)) ∙ c.requires in
    insert-shown entry_cmp entry_at slot_of entry_total entry_exact (λ l. record { dir = l.0; name = l.1 }) (λ l. refl) es (c.get_mut.follows.lender c.args.slot).entries c.args.key.now c.args.slot
    ((c.get_mut.follows.holds c.args.slot).3 there).0
