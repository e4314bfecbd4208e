-- The order in which the bricks drop their copies of a directory: its home comes last.
use Rattle.std.proofs.Common.{◌≡◌, ◌≢◌, ◌<◌, ◌≤◌, ◌+◌, ◌-◌, ◌⊎◌, ℕ, Bool, true, false, refl, sym, ◌∙◌, ap, inl, inr, arith}
use Rattle.std.specs.Prelude.{nat_eq, nat_le, nat_lt, not, ◌&&◌, if◌then◌else◌}
use Rattle.std.proofs.lemmas.Bool.Decides.{nat_tests}
use Rattle.std.proofs.lemmas.Bool.{false_from_ne_true}
use Rattle.dht_types.proofs.PutLaws.{exact_nat}
use Rattle.dht_types.specs.Gfid.{home}
use Rattle.dht_types.specs.declared.identifiers.BrickNo.{BrickNo}
use Rattle.dht_section.proofs.EarlyLaws.{nat_cases}
use Rattle.dht_dirops.specs.Rmdir.{IsDropped, drop_at, drop_from, drop_next, drops_left}
use Rattle.dht_dirops.specs.declared.rmdir.Removal.{Removal}

-- which brick is asked from one on: that one, if it is not the home;
-- the one after it, if it is; or the home, where no other brick is left
data From (bricks last b k : ℕ) : Type 0 where
  Here : b < bricks → b ≢ last → k ≡ b → From bricks last b k
  After : b ≡ last → b + 1 < bricks → k ≡ b + 1 → From bricks last b k
  Last : ((i : ℕ) → i ≢ last → i < bricks → i < b) → k ≡ last → From bricks last b k

no_other :
    (bricks last b : ℕ) → (b ≢ last → bricks ≤ b) → bricks ≤ b + 1 → (i : ℕ) → i ≢ last → i < bricks
    → i < b
no_other bricks last b full less i ne l = elim (nat_cases i b) [
  | inl e ↦ (let f = full (λ q. ne (e ∙ q)) in omega arith)
  | inr e ↦ omega arith
]

from_is : (bricks last b : ℕ) → From bricks last b (drop_from bricks last b)
from_is bricks last b = elim (nat_cases b last) [
  | inl e ↦ skip e (nat_lt 1 (bricks - b)) refl
  | inr ne ↦ here ne (nat_lt b bricks) refl
]
  where
    off : b ≡ last → (nat_lt b bricks && not (nat_eq b last)) ≡ false
    off e = ap (λ (v : Bool). nat_lt b bricks && not v) ((exact_nat b last).1 e) ∙ neither (nat_lt b bricks)
      where
        neither : (v : Bool) → (v && false) ≡ false
        neither true = refl
        neither false = refl

    skip : b ≡ last → (v : Bool) → nat_lt 1 (bricks - b) ≡ v → From bricks last b (drop_from bricks last b)
    skip e true k = After e (grind (arith, nat_tests, k)) (ap (λ (w : Bool). if w then b else (if nat_lt 1 (bricks - b) then b + 1 else last)) (off e) ∙ ap (λ (w : Bool). if w then b + 1 else last) k)
    skip e false k = Last (no_other bricks last b (λ ne. absurd (ne e)) (grind (arith, nat_tests, k))) (ap (λ (w : Bool). if w then b else (if nat_lt 1 (bricks - b) then b + 1 else last)) (off e) ∙ ap (λ (w : Bool). if w then b + 1 else last) k)

    here : b ≢ last → (v : Bool) → nat_lt b bricks ≡ v → From bricks last b (drop_from bricks last b)
    here ne true k = Here (grind (arith, nat_tests, k)) ne (ap (λ (w : Bool). if (w && not (nat_eq b last)) then b else (if nat_lt 1 (bricks - b) then b + 1 else last)) k ∙ ap (λ (w : Bool). if not w then b else (if nat_lt 1 (bricks - b) then b + 1 else last)) (false_from_ne_true (nat_eq b last) (λ q. ne ((exact_nat b last).0 q))))
    here ne false k =
        let full : bricks ≤ b = grind (arith, nat_tests, k) in
        let none : nat_lt 1 (bricks - b) ≡ false = grind (arith, nat_tests, full) in
        Last (no_other bricks last b (λ q. full) (omega arith)) (ap (λ (w : Bool). if (w && not (nat_eq b last)) then b else (if nat_lt 1 (bricks - b) then b + 1 else last)) k ∙ ap (λ (w : Bool). if w then b + 1 else last) none)

-- it is a brick of the volume
from_within : (bricks last b k : ℕ) → last < bricks → From bricks last b k → k < bricks
from_within bricks last b k l (Here w ne e) = omega arith
from_within bricks last b k l (After q w e) = omega arith
from_within bricks last b k l (Last none e) = omega arith

-- and before it no brick but the home has a copy, if none before the first one had
from_dropped :
    (bricks last b k : ℕ) (on : ℕ → Bool) → ((i : ℕ) → bricks ≤ i → on i ≡ false)
    → ((i : ℕ) → i ≢ last → i < b → on i ≡ false) → From bricks last b k → (i : ℕ) → i ≢ last
    → (i < k) ⊎ (k ≡ last) → on i ≡ false
from_dropped bricks last b k on beyond before (Here w ne e) i apart (inl l) = before i apart (omega arith)
from_dropped bricks last b k on beyond before (Here w ne e) i apart (inr q) = absurd (ne (sym e ∙ q))
from_dropped bricks last b k on beyond before (After q w e) i apart (inl l) = elim (nat_cases i b) [
  | inl same ↦ absurd (apart (same ∙ q))
  | inr ne ↦ before i apart (omega arith)
]
from_dropped bricks last b k on beyond before (After q w e) i apart (inr z) = absurd (omega arith)
from_dropped bricks last b k on beyond before (Last none e) i apart l = by (nat_lt i bricks) refl
  where
    by : (v : Bool) → nat_lt i bricks ≡ v → on i ≡ false
    by true q = before i apart (none i apart (grind (arith, nat_tests, q)))
    by false q = beyond i (grind (arith, nat_tests, q))

-- ---- the first brick

pub first_within :
    (x : Removal) → home x.directory < x.location.bricks → (drop_at x 0).0 < x.location.bricks
first_within x l = from_within x.location.bricks (home x.directory) 0 _ l (from_is x.location.bricks (home x.directory) 0)

pub first_dropped :
    (x : Removal) (on : ℕ → Bool) → ((i : ℕ) → x.location.bricks ≤ i → on i ≡ false)
    → IsDropped x.directory (drop_at x 0) on
first_dropped x on beyond = from_dropped x.location.bricks (home x.directory) 0 _ on beyond (λ i ne l. absurd (omega arith)) (from_is x.location.bricks (home x.directory) 0)

pub few_left : (x : Removal) (b : BrickNo) → drops_left x b ≤ x.location.bricks
few_left x b = by (nat_eq b.0 (home x.directory))
  where
    by : (v : Bool) → (if v then 0 else x.location.bricks - b.0) ≤ x.location.bricks
    by true = omega arith
    by false = omega arith

-- ---- the brick after one that is not the home

up_to :
    (x : Removal) (b : BrickNo) (on : ℕ → Bool) → b.0 ≢ home x.directory
    → IsDropped x.directory b on → on b.0 ≡ false → (i : ℕ) → i ≢ home x.directory → i < b.0 + 1
    → on i ≡ false
up_to x b on ne before off i apart l = elim (nat_cases i b.0) [
  | inl e ↦ ap on e ∙ off
  | inr q ↦ before i apart (inl (omega arith))
]

-- the home, or a brick behind it
data Next (x : Removal) (b k : BrickNo) : Type 0 where
  Ends : x.location.bricks ≤ b.0 + 1 → k.0 ≡ home x.directory → Next x b k
  Goes : From x.location.bricks (home x.directory) (b.0 + 1) k.0 → Next x b k

next_is : (x : Removal) (b : BrickNo) → Next x b (drop_next x b)
next_is x b = by (nat_le (x.location.bricks - b.0) 1) refl
  where
    by : (v : Bool) → nat_le (x.location.bricks - b.0) 1 ≡ v → Next x b (if v then record { 0 = home x.directory } else drop_at x (b.0 + 1))
    by true e = Ends (grind (arith, nat_tests, e)) refl
    by false e = Goes (from_is x.location.bricks (home x.directory) (b.0 + 1))

pub next_within :
    (x : Removal) (b : BrickNo) → home x.directory < x.location.bricks
    → (drop_next x b).0 < x.location.bricks
next_within x b l = by (drop_next x b) (next_is x b)
  where
    by : (k : BrickNo) → Next x b k → k.0 < x.location.bricks
    by k (Ends w e) = omega arith
    by k (Goes f) = from_within x.location.bricks (home x.directory) (b.0 + 1) k.0 l f

pub next_dropped :
    (x : Removal) (b : BrickNo) (on : ℕ → Bool) → b.0 ≢ home x.directory
    → ((i : ℕ) → x.location.bricks ≤ i → on i ≡ false) → IsDropped x.directory b on → on b.0 ≡ false
    → IsDropped x.directory (drop_next x b) on
next_dropped x b on ne beyond before off = by (drop_next x b) (next_is x b)
  where
    by : (k : BrickNo) → Next x b k → IsDropped x.directory k on
    by k (Goes f) = from_dropped x.location.bricks (home x.directory) (b.0 + 1) k.0 on beyond (up_to x b on ne before off) f
    by k (Ends w e) = λ i apart l. ends i apart (nat_lt i x.location.bricks) refl
      where
        ends : (i : ℕ) → i ≢ home x.directory → (v : Bool) → nat_lt i x.location.bricks ≡ v → on i ≡ false
        ends i apart true q = up_to x b on ne before off i apart (grind (arith, nat_tests, q, w))
        ends i apart false q = beyond i (grind (arith, nat_tests, q))

-- one brick fewer is left
left_at : (x : Removal) (k : BrickNo) → k.0 ≡ home x.directory → drops_left x k ≡ 0
left_at x k e = ap (λ (v : Bool). if v then 0 else x.location.bricks - k.0) ((exact_nat k.0 (home x.directory)).1 e)

left_most : (x : Removal) (k : BrickNo) → drops_left x k ≤ x.location.bricks - k.0
left_most x k = by (nat_eq k.0 (home x.directory))
  where
    by : (v : Bool) → (if v then 0 else x.location.bricks - k.0) ≤ x.location.bricks - k.0
    by true = omega arith
    by false = omega arith

pub left_away :
    (x : Removal) (b : BrickNo) → b.0 ≢ home x.directory → drops_left x b ≡ x.location.bricks - b.0
left_away x b ne = ap (λ (v : Bool). if v then 0 else x.location.bricks - b.0) (false_from_ne_true (nat_eq b.0 (home x.directory)) (λ q. ne ((exact_nat b.0 (home x.directory)).0 q)))

pub next_nearer :
    (x : Removal) (b : BrickNo) → b.0 < x.location.bricks → b.0 ≢ home x.directory
    → drops_left x (drop_next x b) < drops_left x b
next_nearer x b l ne =
    let is = left_away x b ne in
    let less = by (drop_next x b) (next_is x b) in
    omega arith
  where
    by : (k : BrickNo) → Next x b k → drops_left x k < x.location.bricks - b.0
    by k (Ends w e) = let z = left_at x k e in omega arith
    by k (Goes (Here w q e)) = let z = left_most x k in omega arith
    by k (Goes (After q w e)) = let z = left_most x k in omega arith
    by k (Goes (Last none e)) = let z = left_at x k e in omega arith
