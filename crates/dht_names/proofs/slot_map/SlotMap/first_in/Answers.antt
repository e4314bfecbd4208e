use Rattle.std.proofs.Common.{◌≡◌, ap, sym, subst, ◌∙◌}
use Rattle.std.specs.Prelude.{None, is_some}
use Rattle.std.specs.Option.{option_map}
use Rattle.std.specs.Map.{lookup}
use Rattle.std.specs.BTreeMap.{is_at}
use Rattle.std.specs.BTreeMap.Range.{IsInRange}
use Rattle.std.specs.declared.ops.Bound.{Bound}
use Rattle.std.specs.declared.ops.Bound.TheVariants.{Unbounded}
use Rattle.dht_types.specs.declared.names.EntryKey.{EntryKey}
use Rattle.dht_brick.specs.Contents.{entry_at, entry_cmp}
use Rattle.dht_names.specs.Slots.{map_in, slot_of}
use Rattle.dht_names.proofs.RangeLemmas.{key_cmp, outside_same, none_before, from_first, of_first}
use Rattle.dht_names.proofs.SlotLemmas.{get-shown, entry_total, is_some-option_map, slots_from}
use Rattle.dht_names.proofs.slot_map.SlotMap.first_in.Goals as goal
use Rattle.dht_names.proofs.slot_map.SlotMap.first_in.Goals.{in_default-via-in-Some+else-eq, in_default-via-in_default}

pub returns-in_default-clause-none : goal.returns-in_default-clause-none
unfolding map_in
returns-in_default-clause-none c =
    let es = c.args.self.now.kept.entries in
    let d = c.args.dir in
    outside_same (slots_from es) d (λ q is.
    let key : EntryKey = record { dir = q.0; name = q.1 } in
    let from = subst (λ (b : Bound EntryKey). IsInRange key_cmp b Unbounded key) (sym c.names_from.ensures) (from_first d q is, tt) in
    let none : lookup (is_at (λ (k : EntryKey). entry_cmp q (entry_at k))) es ≡ None = elim c.in_default.branch [
      | in_default-via-in-Some+else-eq w ↦
          let k = w.in-Some.key.now in
          let first = of_first c.range.result _ _ _ (c.range.ensures.in_range tt).1 w.in-Some.ensures.steps in
          none_before d (entry_at k) q _ (subst (λ (b : Bound EntryKey). IsInRange key_cmp b Unbounded k) c.names_from.ensures first.0).0 (sym w.eq.ensures ∙ w.if-eq.false) is
          (λ there. of_first c.range.result _ _ _ ((c.range.ensures.in_range tt).2 key from there) w.in-Some.ensures.steps)
      | in_default-via-in_default w ↦ (c.range.ensures.in_range tt).5 w.in_default.ensures.steps.0 key from
    ] in
    get-shown entry_cmp entry_at slot_of entry_total es key ∙ ap (option_map slot_of) none)

pub returns-in-Some-clause-there : goal.returns-in-Some-clause-there
unfolding map_in
returns-in-Some-clause-there c =
    let es = c.args.self.now.kept.entries in
    let here = of_first c.range.result _ _ _ (c.range.ensures.in_range tt).1 c.in-Some.ensures.steps in
    ap is_some (get-shown entry_cmp entry_at slot_of entry_total es c.in-Some.key.now) ∙ is_some-option_map slot_of _ ∙ ap is_some here.1
