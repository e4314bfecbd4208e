-- Where all ranges of a directory are planned, the
-- holder of a name stays as planned ranges are added.
use Rattle.std.proofs.Common.{◌≡◌, ◌≢◌, ◌<◌, ◌^◌, ℕ, false, true, List, length, refl, sym, ap, ◌∙◌, inl, inr, ◌⊎◌, arith}
use Rattle.std.specs.Prelude.{Option, Some, None, slice_index_or}
use Rattle.std.proofs.lemmas.Bool.{false_from_ne_true}
use Rattle.std.proofs.lemmas.List.Quantifiers.{position-Some}
use Rattle.dht_types.specs.Volume.{HasWeight}
use Rattle.dht_types.specs.declared.identifiers.Gfid.{Gfid}
use Rattle.dht_xattr.proofs.LayoutLaws.{first_is, holder_within}
use Rattle.dht_xattr.specs.Layout.{holder}
use Rattle.dht_xattr.specs.Plan.{planned}
use Rattle.dht_xattr.specs.Range.{contains}
use Rattle.dht_xattr.specs.declared.range.Range.{Range}
use Rattle.dht_section.proofs.EarlyLaws.{nat_cases}
use Rattle.dht_section.proofs.LayoutLaws.{below_at, below_length, planned_has, planned_one, same_contained}
use Rattle.dht_section.specs.Disk.{Disk, dir_at, range_at, layout_of}
use Rattle.dht_section.specs.Planned.{bounds, AllPlanned}

-- on one brick the range is the planned one now, or there was none and is none
abbrev pub RangePlanned : Disk → Disk → List ℕ → Gfid → ℕ → Type 0
RangePlanned d e weights g b =
    (bounds (range_at e g b) ≡ bounds (slice_index_or (planned weights g) b None))
    ⊎ ((range_at e g b ≡ None) × (range_at d g b ≡ None))

module _ (d e : Disk) (weights : List ℕ) (g : Gfid) (b hash : ℕ) (heavy : HasWeight weights) (counted : d.count ≡ length weights) (low : hash < 2 ^ 32) (count : e.count ≡ d.count) (there : b < d.count) (off : (j : ℕ) → j ≢ b → range_at e g j ≡ range_at d g j) (all : AllPlanned d weights g) (new : RangePlanned d e weights g b) where
  abbrev plan : ℕ → Option Range
  plan j = slice_index_or (planned weights g) j None

  none : (o : Option Range) → o ≡ None → contains o hash ≡ false
  none o q = ap (λ x. contains x hash) q

  -- the holder's range has the hash still
  holds_on : (i : ℕ) → i < d.count → contains (range_at d g i) hash ≡ true → contains (range_at e g i) hash ≡ true
  holds_on i l was = elim (nat_cases i b) [
    | inr ne ↦ ap (λ x. contains x hash) (off i ne) ∙ was
    | inl q ↦ elim new [
      | inl same ↦ ap (λ (j : ℕ). contains (range_at e g j) hash) q
          ∙ (same_contained (range_at e g b) (plan b) hash same
          ∙ (ap (λ (j : ℕ). contains (plan j) hash) (sym q) ∙ planned_has d weights g i hash (dir_at d i g) refl l all was))
      | inr h ↦ absurd (let z : false ≡ true = sym (none (range_at d g b) h.1) ∙ (ap (λ (j : ℕ). contains (range_at d g j) hash) (sym q) ∙ was) in cc)
    ]
  ]

  -- and no brick before it got the hash
  fails_on : (i j : ℕ) → i < d.count → j < i → contains (range_at d g i) hash ≡ true → contains (range_at d g j) hash ≡ false → contains (range_at e g j) hash ≡ false
  fails_on i j l before has fails = elim (nat_cases j b) [
    | inr ne ↦ ap (λ x. contains x hash) (off j ne) ∙ fails
    | inl q ↦ elim new [
      | inl same ↦ ap (λ (k : ℕ). contains (range_at e g k) hash) q
          ∙ (same_contained (range_at e g b) (plan b) hash same
          ∙ false_from_ne_true (contains (plan b) hash)
          (λ t. planned_one weights g hash j i heavy low before (omega arith) (ap (λ (k : ℕ). contains (plan k) hash) q ∙ t)
          (planned_has d weights g i hash (dir_at d i g) refl l all has)))
      | inr h ↦ ap (λ (k : ℕ). contains (range_at e g k) hash) q ∙ none (range_at e g b) h.0
    ]
  ]

  pub holder_planned : (i : ℕ) → holder (layout_of d g) hash ≡ Some i → holder (layout_of e g) hash ≡ Some i
  holder_planned i found =
      let l = holder_within (layout_of d g) hash i found in
      let was = below_length d g d.count in
      let is = below_length e g e.count in
      let inside : i < d.count = omega arith in
      let first = position-Some (λ range. contains range hash) (layout_of d g) i None found in
      let has : contains (range_at d g i) hash ≡ true = ap (λ x. contains x hash) (sym (below_at d g d.count i inside)) ∙ first.1 in
      first_is (λ range. contains range hash) (layout_of e g) i None (omega arith)
      (ap (λ x. contains x hash) (below_at e g e.count i (omega arith)) ∙ holds_on i inside has)
      (λ j k. ap (λ x. contains x hash) (below_at e g e.count j (omega arith))
      ∙ fails_on i j inside k has (ap (λ x. contains x hash) (sym (below_at d g d.count j (omega arith))) ∙ first.2 j k))
