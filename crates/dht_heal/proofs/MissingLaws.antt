-- The first brick that had no copy.
use Rattle.std.proofs.Common.{◌≡◌, ◌<◌, ◌≤◌, ◌+◌, ◌-◌, ℕ, Bool, true, false, List, refl, ◌∙◌, ap, subst, arith, inl, inr}
use Rattle.std.specs.Prelude.{suc, zero, if◌then◌else◌, Option, Some, None}
use Rattle.dht_types.specs.declared.identifiers.BrickNo.{BrickNo}
use Rattle.dht_section.proofs.EarlyLaws.{nat_cases}
use Rattle.dht_section.specs.Looks.{mark_at}
use Rattle.dht_heal.specs.HealOne.{first_missing, next_missing}

pub missing_here :
    (bricks : ℕ) (marks : List Bool) (b : ℕ) → b < bricks → mark_at marks b ≡ false
    → next_missing bricks marks b ≡ Some (record { 0 = b })
unfolding first_missing
missing_here bricks marks b l e =
    let n : bricks - b ≡ suc (bricks - (b + 1)) = omega arith in
    ap (first_missing marks b) n ∙ ap (λ (v : Bool). if v then first_missing marks (suc b) (bricks - (b + 1)) else Some (record { 0 = b })) e

pub missing_above :
    (bricks : ℕ) (marks : List Bool) (b : ℕ) → b < bricks → mark_at marks b ≡ true
    → next_missing bricks marks b ≡ next_missing bricks marks (b + 1)
unfolding first_missing
missing_above bricks marks b l e =
    let n : bricks - b ≡ suc (bricks - (b + 1)) = omega arith in
    let q : suc b ≡ b + 1 = omega arith in
    ap (first_missing marks b) n
    ∙ (ap (λ (v : Bool). if v then first_missing marks (suc b) (bricks - (b + 1)) else Some (record { 0 = b })) e
    ∙ ap (λ (i : ℕ). first_missing marks i (bricks - (b + 1))) q)

pub missing_past :
    (bricks : ℕ) (marks : List Bool) (b : ℕ) → bricks ≤ b → next_missing bricks marks b ≡ None
unfolding first_missing
missing_past bricks marks b l = (let n : bricks - b ≡ 0 = omega arith in ap (first_missing marks b) n)

-- what is found from a brick on, below a limit: none,
-- as all have a copy; or the first that had none
abbrev pub AllMarked : List Bool → ℕ → ℕ → Type 0
AllMarked marks from limit = (i : ℕ) → from ≤ i → i < limit → mark_at marks i ≡ true

pub record IsMissing (marks : List Bool) (from limit : ℕ) (b : BrickNo) : Type 0 where
  pub above : from ≤ b.0
  pub below : b.0 < limit
  pub unmarked : mark_at marks b.0 ≡ false
  pub before : AllMarked marks from b.0

abbrev pub Finds : List Bool → ℕ → ℕ → Option BrickNo → Type 0
Finds marks from limit None = AllMarked marks from limit
Finds marks from limit (Some b) = IsMissing marks from limit b

marked_more :
    (marks : List Bool) (from limit : ℕ) → mark_at marks from ≡ true
    → AllMarked marks (suc from) limit → AllMarked marks from limit
marked_more marks from limit e h i a l = elim (nat_cases i from) [
  | inl q ↦ ap (mark_at marks) q ∙ e
  | inr ne ↦ h i (later i from a ne) l
]
  where
    later : (i from : ℕ) → from ≤ i → (i ≡ from → ⊥) → suc from ≤ i
    later i from a ne = elim (nat_cases (suc from) i) [
      | inl q ↦ omega arith
      | inr other ↦ by i from a ne
    ]
      where
        by : (i from : ℕ) → from ≤ i → (i ≡ from → ⊥) → suc from ≤ i
        by zero zero a ne = absurd (ne refl)
        by zero (suc n) a ne = absurd (omega arith)
        by (suc i) zero a ne = omega arith
        by (suc i) (suc n) a ne = (let k = by i n (omega arith) (λ e. ne (ap suc e)) in omega arith)

found_more :
    (marks : List Bool) (from limit : ℕ) (o : Option BrickNo) → mark_at marks from ≡ true
    → Finds marks (suc from) limit o → Finds marks from limit o
found_more marks from limit None e h = marked_more marks from limit e h
found_more marks from limit (Some b) e h = record {
  above = let a = h.above in omega arith;
  below = h.below;
  unmarked = h.unmarked;
  before = marked_more marks from b.0 e h.before;
}

finds :
    (marks : List Bool) (from more : ℕ)
    → Finds marks from (from + more) (first_missing marks from more)
unfolding first_missing
finds marks from zero = λ i a l. absurd (omega arith)
finds marks from (suc more) = by (mark_at marks from) refl (subst (λ (n : ℕ). Finds marks (suc from) n (first_missing marks (suc from) more)) (let q : suc from + more ≡ from + suc more = omega arith in q) (finds marks (suc from) more))
  where
    by : (v : Bool) → mark_at marks from ≡ v → Finds marks (suc from) (from + suc more) (first_missing marks (suc from) more) → Finds marks from (from + suc more) (if v then first_missing marks (suc from) more else Some (record { 0 = from }))
    by true e h = found_more marks from (from + suc more) (first_missing marks (suc from) more) e h
    by false e h = record { above = omega arith; below = omega arith; unmarked = e; before = λ i a l. absurd (omega arith) }

pub finds_missing :
    (bricks : ℕ) (marks : List Bool) (from : ℕ) → from ≤ bricks
    → Finds marks from bricks (next_missing bricks marks from)
finds_missing bricks marks from l = subst (λ (n : ℕ). Finds marks from n (next_missing bricks marks from)) (let q : from + (bricks - from) ≡ bricks = omega arith in q) (finds marks from (bricks - from))
