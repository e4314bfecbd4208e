-- The bricks that are to make a copy of a new directory, one after another.
use Rattle.std.proofs.Common.{◌≡◌, ◌≢◌, ◌<◌, ◌≤◌, ◌+◌, ◌-◌, ℕ, Bool, true, false, List, refl, sym, ◌∙◌, ap, subst, arith}
use Rattle.std.specs.Prelude.{◌&&◌, not, nat_eq, zero, suc, if◌then◌else◌, Option, Some, None}
use Rattle.dht_types.proofs.PutLaws.{exact_nat}
use Rattle.dht_types.specs.declared.identifiers.BrickNo.{BrickNo}
use Rattle.dht_section.specs.Looks.{mark_at}
use Rattle.dht_dirops.specs.Mkdir.{copies_of, first_copy, is_to_copy, next_copy}
use Rattle.dht_dirops.specs.declared.mkdir.NewDir.{NewDir}
use Rattle.dht_section.specs.declared.section.Held.{Held}

abbrev from_brick : (bricks : ℕ) (copies : List Bool) (home b : ℕ) → Option BrickNo
from_brick bricks copies home b = first_copy copies home b (bricks - b)

-- ---- brick by brick

pub copy_here :
    (bricks : ℕ) (copies : List Bool) (home b : ℕ) → b < bricks → is_to_copy copies home b ≡ true
    → from_brick bricks copies home b ≡ Some (record { 0 = b })
unfolding first_copy
copy_here bricks copies home b l e =
    let n : bricks - b ≡ suc (bricks - (b + 1)) = omega arith in
    ap (first_copy copies home b) n
    ∙ ap (λ (v : Bool). if v then Some (record { 0 = b }) else first_copy copies home (suc b) (bricks - (b + 1))) e

pub copy_above :
    (bricks : ℕ) (copies : List Bool) (home b : ℕ) → b < bricks → is_to_copy copies home b ≡ false
    → from_brick bricks copies home b ≡ from_brick bricks copies home (b + 1)
unfolding first_copy
copy_above bricks copies home b l e =
    let n : bricks - b ≡ suc (bricks - (b + 1)) = omega arith in
    let q : suc b ≡ b + 1 = omega arith in
    ap (first_copy copies home b) n
    ∙ (ap (λ (v : Bool). if v then Some (record { 0 = b }) else first_copy copies home (suc b) (bricks - (b + 1))) e
    ∙ ap (λ (i : ℕ). first_copy copies home i (bricks - (b + 1))) q)

pub copy_past :
    (bricks : ℕ) (copies : List Bool) (home b : ℕ) → bricks ≤ b
    → from_brick bricks copies home b ≡ None
unfolding first_copy
copy_past bricks copies home b l = (let n : bricks - b ≡ 0 = omega arith in ap (first_copy copies home b) n)

-- ---- what is found

-- a brick from this one on that showed its copy of the directory above, and is not the home
pub record IsToCopy (copies : List Bool) (home from limit : ℕ) (b : BrickNo) : Type 0 where
  pub above : from ≤ b.0
  pub below : b.0 < limit
  pub copied : mark_at copies b.0 ≡ true
  pub away : b.0 ≢ home

abbrev pub Finds : List Bool → (home from limit : ℕ) → Option BrickNo → Type 0
Finds copies home from limit None = Unit {0}
Finds copies home from limit (Some b) = IsToCopy copies home from limit b

marked : (a b : Bool) → (a && b) ≡ true → a ≡ true
marked true b e = refl
marked false b e = absurd (let z : false ≡ true = e in cc)

other : (a b : Bool) → (a && b) ≡ true → b ≡ true
other true b e = e
other false b e = absurd (let z : false ≡ true = e in cc)

apart : (b home : ℕ) → not (nat_eq b home) ≡ true → b ≢ home
apart b home e q = absurd (let z : false ≡ true = sym (ap not ((exact_nat b home).1 q)) ∙ e in cc)

found_more :
    (copies : List Bool) (home from limit : ℕ) (o : Option BrickNo)
    → Finds copies home (suc from) limit o → Finds copies home from limit o
found_more copies home from limit None h = tt
found_more copies home from limit (Some b) h = record {
  above = let a = h.above in omega arith;
  below = h.below;
  copied = h.copied;
  away = h.away;
}

finds :
    (copies : List Bool) (home from more : ℕ)
    → Finds copies home from (from + more) (first_copy copies home from more)
unfolding first_copy
finds copies home from zero = tt
finds copies home from (suc more) = by (is_to_copy copies home from) refl (subst (λ (n : ℕ). Finds copies home (suc from) n (first_copy copies home (suc from) more)) (let q : suc from + more ≡ from + suc more = omega arith in q) (finds copies home (suc from) more))
  where
    by : (v : Bool) → is_to_copy copies home from ≡ v → Finds copies home (suc from) (from + suc more) (first_copy copies home (suc from) more) → Finds copies home from (from + suc more) (if v then Some (record { 0 = from }) else first_copy copies home (suc from) more)
    by true e h = record { above = omega arith; below = omega arith; copied = marked _ _ e; away = apart from home (other _ _ e) }
    by false e h = found_more copies home from (from + suc more) (first_copy copies home (suc from) more) h

pub finds_copy :
    (x : NewDir) (h : Held) (from : ℕ) → from ≤ x.target.location.bricks
    → Finds (copies_of x.target h) x.home.0 from x.target.location.bricks (next_copy x h from)
finds_copy x h from l = subst (λ (n : ℕ). Finds (copies_of x.target h) x.home.0 from n (next_copy x h from)) (let q : from + (x.target.location.bricks - from) ≡ x.target.location.bricks = omega arith in q) (finds (copies_of x.target h) x.home.0 from (x.target.location.bricks - from))
