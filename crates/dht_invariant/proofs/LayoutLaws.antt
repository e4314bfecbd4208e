-- The same ranges on all bricks are the same layout; and
-- a holder stays the holder where there are more bricks.
use Rattle.std.proofs.Common.{◌≡◌, ◌<◌, ◌≤◌, ℕ, Bool, List, refl, sym, ap, ◌∙◌, subst, inl, inr, arith}
use Rattle.std.proofs.Common.{length-append}
use Rattle.std.specs.Prelude.{zero, suc, Option, Some, None, [], ◌∷◌, ◌++◌}
use Rattle.std.specs.List.{position_or_len}
use Rattle.std.proofs.Math.ListN.{get_or-append}
use Rattle.std.proofs.lemmas.Bool.{cases_lt}
use Rattle.std.proofs.lemmas.List.Quantifiers.{position-Some}
use Rattle.dht_types.specs.declared.identifiers.Gfid.{Gfid}
use Rattle.dht_xattr.proofs.LayoutLaws.{first_place}
use Rattle.dht_xattr.specs.Layout.{holder}
use Rattle.dht_xattr.specs.Range.{contains}
use Rattle.dht_xattr.specs.declared.range.Range.{Range}
use Rattle.dht_section.specs.Disk.{Disk, dir_at, range_at, ranges_below, layout_of}
use Rattle.dht_section.specs.Planned.{AllPlanned}
use Rattle.dht_invariant.proofs.Basics.{true_false}
use Rattle.dht_section.proofs.EarlyLaws.{nat_cases}

below_same :
    (d e : Disk) (g : Gfid) (n : ℕ) → ((b : ℕ) → b < n → range_at e g b ≡ range_at d g b)
    → ranges_below e g n ≡ ranges_below d g n
unfolding ranges_below
below_same d e g zero h = refl
below_same d e g (suc n) h = ap (λ xs. xs ++ range_at e g n ∷ []) (below_same d e g n (λ b l. h b (omega arith))) ∙ ap (λ x. ranges_below d g n ++ x ∷ []) (h n (omega arith))

pub layout_same :
    (d e : Disk) (g : Gfid) → e.count ≡ d.count → ((b : ℕ) → range_at e g b ≡ range_at d g b)
    → layout_of e g ≡ layout_of d g
layout_same d e g c h = ap (ranges_below e g) c ∙ below_same d e g d.count (λ b l. h b)

-- where records and weights are the same, ranges that are all planned stay so
pub planned_same :
    (d e : Disk) (g : Gfid) (ws new : List ℕ) → e.count ≡ d.count → new ≡ ws
    → ((b : ℕ) → dir_at e b g ≡ dir_at d b g) → AllPlanned d ws g → AllPlanned e new g
planned_same d e g ws new c w same h = subst (λ (x : List ℕ). AllPlanned e x g) (sym w) (λ b r l there. h b r (subst (λ (n : ℕ). b < n) c l) (sym (same b) ∙ there))

-- a holder is the holder with more ranges behind
holder_first :
    (hash b : ℕ) (xs ys : List (Option Range)) → holder xs hash ≡ Some b
    → holder (xs ++ ys) hash ≡ Some b
holder_first hash b xs ys found =
    let has : Option Range → Bool = λ r. contains r hash in
    let (inside, pass, before) = position-Some has xs b None found in
    let size = length-append xs ys in
    let (early, first) = first_place has (xs ++ ys) b None (omega arith) (ap has (get_or-append xs ys None b inside) ∙ pass) in
    let place = position_or_len has (xs ++ ys) in
    let passes = (position-Some has (xs ++ ys) place None first).1 in
    elim (cases_lt place b) [
      | inl l ↦ absurd (true_false _ passes (ap has (get_or-append xs ys None place (omega arith)) ∙ before place l))
      | inr l ↦ first ∙ ap Some (omega arith)
    ]

holder_below :
    (d e : Disk) (g : Gfid) (hash b : ℕ) (n : ℕ) → d.count ≤ n
    → ((i : ℕ) → i < d.count → range_at e g i ≡ range_at d g i)
    → holder (layout_of d g) hash ≡ Some b → holder (ranges_below e g n) hash ≡ Some b
unfolding ranges_below
holder_below d e g hash b zero l same found = ap (λ xs. holder xs hash) (ap (ranges_below e g) (let z : 0 ≡ d.count = omega arith in z) ∙ below_same d e g d.count same) ∙ found
holder_below d e g hash b (suc n) l same found = elim (nat_cases (suc n) d.count) [
  | inl q ↦ ap (λ xs. holder xs hash) (ap (ranges_below e g) q ∙ below_same d e g d.count same) ∙ found
  | inr ne ↦ holder_first hash b (ranges_below e g n) (range_at e g n ∷ []) (holder_below d e g hash b n (omega arith) same found)
]

-- a brick that holds a hash holds it where there are more bricks,
-- and the ranges of those that were there are as they were
pub holder_stays :
    (d e : Disk) (g : Gfid) (hash b : ℕ) → d.count ≤ e.count
    → ((i : ℕ) → i < d.count → range_at e g i ≡ range_at d g i)
    → holder (layout_of d g) hash ≡ Some b → holder (layout_of e g) hash ≡ Some b
holder_stays d e g hash b l same found = holder_below d e g hash b e.count l same found
