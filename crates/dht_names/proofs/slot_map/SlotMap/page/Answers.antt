use Rattle.std.proofs.Common.{arith, ◌≡◌, ◌≤◌, ℕ, zero, suc, ◌∙◌, List, [], ◌∷◌, ◌++◌, length, take, ap, sym, subst, refl, map}
use Rattle.std.specs.Prelude.{filter}
use Rattle.std.specs.BTreeMap.Range.{entries_between}
use Rattle.std.specs.declared.ops.Bound.{Bound}
use Rattle.std.specs.declared.ops.Bound.TheVariants.{Unbounded}
use Rattle.std.proofs.lemmas.Grind.{common_steps}
use Rattle.dht_types.specs.Gfid.{Entry}
use Rattle.dht_types.specs.declared.names.EntryKey.{EntryKey}
use Rattle.dht_types.specs.declared.stored.Slot.{Slot}
use Rattle.dht_brick.specs.Looks.{page_entry, is_on_page, page_of}
use Rattle.dht_names.specs.Slots.{map_in}
use Rattle.dht_names.specs.declared.kept.KeptSlot.{KeptSlot}
use Rattle.dht_names.proofs.RangeLemmas.{front, in_dir, is_seen_entry, key_cmp, page_together, ends_here}
use Rattle.dht_names.proofs.SlotLemmas.{entries-slots, shown_slots}
use Rattle.dht_names.proofs.slot_map.SlotMap.page.Goals as goal
use Rattle.dht_names.proofs.slot_map.SlotMap.page.Goals.{then-ne-via-then-ne, then-ne-via-else-ne+then-len-eq-PAGE_SIZE}

take_front : {X : Type 0} (xs ys : List X) (n : ℕ) → length xs ≡ n → take n (xs ++ ys) ≡ xs
take_front [] ys n e = subst (λ m. take m ys ≡ []) e refl
take_front (x ∷ xs) ys n e = subst (λ m. take m (x ∷ (xs ++ ys)) ≡ x ∷ xs) e (ap (λ zs. x ∷ zs) (take_front xs ys (length xs) refl))

take_whole : {X : Type 0} (xs : List X) (n : ℕ) → length xs ≤ n → take n (xs ++ []) ≡ xs
take_whole [] zero h = refl
take_whole [] (suc n) h = refl
take_whole (x ∷ xs) zero h = absurd (omega arith)
take_whole (x ∷ xs) (suc n) h = ap (λ zs. x ∷ zs) (take_whole xs n (omega arith))

pub loop-key-init : goal.loop-key-init
loop-key-init c =
    let es = c.args.self.now.kept.entries in
    let d = c.args.dir in
    let after = c.args.after.now in
    let items = c.new-page.ensures.items in
    let left = λ (it : List (EntryKey × KeptSlot)). map page_entry (shown_slots (filter is_seen_entry (front (in_dir d after) it))) in
    let all =
    ap left (c.into_iter-key-iterator.ensures.into_iter_gives ∙ c.range-key-items.ensures.between tt ∙ ap (λ (b : Bound EntryKey). entries_between key_cmp b Unbounded es) c.names_from.ensures)
    ∙ ap (map page_entry) (sym (page_together d after es c.range-key-items.ensures.ordered)) in (
      ap (λ xs. take 256 (xs ++ left c.into_iter-key-iterator.result)) items ∙ ap (take 256) all,
      subst (λ xs. length xs ≤ 256) (sym items) (omega arith),
    )

pub returns-then-ne : goal.returns-then-ne
unfolding map_in page_of
returns-then-ne c =
    let d = c.args.dir in
    let after = c.args.after.now in
    let out = c.loop-key.page.items in
    let left = λ (it : List (EntryKey × KeptSlot)). map page_entry (shown_slots (filter is_seen_entry it)) in
    let so_far : out ≡ take 256 (out ++ left (front (in_dir d after) c.loop-key.key-iterator)) = elim c.then-ne.branch [
      | then-ne-via-then-ne w ↦
          sym (take_whole out 256 c.loop-key.invariant.1)
          ∙ ap (λ (es : List (EntryKey × KeptSlot)). take 256 (out ++ left es)) (sym (ends_here d after (c.in-Some.key.now, c.in-Some.slot.now) c.next.new.self c.loop-key.key-iterator c.in-Some.ensures.steps (sym c.ne.ensures ∙ w.if-ne.true)))
      | then-ne-via-else-ne+then-len-eq-PAGE_SIZE w ↦
          let full : length out ≡ 256 = grind (arith, common_steps) in
          sym (take_front out _ 256 full)
    ] in
    c.new.ensures ∙ so_far ∙ c.loop-key.invariant.0
    ∙ ap (λ (xs : List (Entry × Slot)). take 256 (map page_entry (filter (is_on_page d after) xs))) (sym (entries-slots c.args.self.now.kept.entries c.range-key-items.ensures.ordered))

pub returns : goal.returns
unfolding map_in page_of
returns c =
    let d = c.args.dir in
    let after = c.args.after.now in
    let out = c.loop-key.page.items in
    c.new-2.ensures ∙ sym (take_whole out 256 c.loop-key.invariant.1)
    ∙ ap (λ (es : List (EntryKey × KeptSlot)). take 256 (out ++ map page_entry (shown_slots (filter is_seen_entry (front (in_dir d after) es))))) (sym c.in-None.ensures.steps.0)
    ∙ c.loop-key.invariant.0
    ∙ ap (λ (xs : List (Entry × Slot)). take 256 (map page_entry (filter (is_on_page d after) xs))) (sym (entries-slots c.args.self.now.kept.entries c.range-key-items.ensures.ordered))
