use Rattle.std.proofs.Common.{◌≡◌, ◌∙◌, Some, sym, refl, ap}
use Rattle.std.specs.Prelude.{is_some, unwrap_or}
use Rattle.std.specs.Option.{option_map}
use Rattle.std.specs.FinMap.{get, insert}
use Rattle.dht_types.specs.declared.stored.Slot.{Slot}
use Rattle.dht_brick.specs.Contents.{entry_at, entry_cmp, bare}
use Rattle.dht_names.specs.Slots.{map_in, slot_of}
use Rattle.dht_names.specs.declared.kept.KeptSlot.{KeptSlot}
use Rattle.dht_names.proofs.SlotLemmas.{get-shown, insert-shown, entry_total, entry_exact, is_some-option_map, not_there, slots_from}
use Rattle.dht_names.proofs.slot_map.SlotMap.set_standby.Goals as goal

pub returns-in_default : goal.returns-in_default
unfolding map_in
returns-in_default c =
    let es = c.args.self.now.kept.entries in
    not_there (get (slots_from es) (entry_at c.args.key.now)) c.requires
    (ap (option_map slot_of) c.in_default.ensures.value ∙ sym (get-shown entry_cmp entry_at slot_of entry_total es c.args.key.now))

pub returns : goal.returns
unfolding map_in
returns c =
    let es = c.args.self.now.kept.entries in
    let old = c.in-Some.kept.now in
    let w : KeptSlot = record old { standby = c.args.standby } in
    let shown = get-shown entry_cmp entry_at slot_of entry_total es c.args.key.now in
    let there = sym (is_some-option_map slot_of _) ∙ ap is_some (sym shown) ∙ c.requires in
    let seen : Some (slot_of old) ≡ get (slots_from es) (entry_at c.args.key.now) = ap (option_map slot_of) c.in-Some.ensures.value ∙ sym shown in
    insert-shown entry_cmp entry_at slot_of entry_total entry_exact (λ l. record { dir = l.0; name = l.1 }) (λ l. refl) es (c.get_mut.follows.lender w).entries c.args.key.now w
    ((c.get_mut.follows.holds w).3 there).0
    ∙ ap (λ o. let p : Slot = record (unwrap_or o bare) { standby = c.args.standby } in insert (slots_from es) (entry_at c.args.key.now) p) seen
