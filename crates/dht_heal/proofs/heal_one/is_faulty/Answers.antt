use Rattle.std.proofs.Common.{◌≡◌, ◌||◌, Bool, true, false, refl, sym, ap, ◌∙◌}
use Rattle.std.proofs.lemmas.Bool.{false_from_ne_true}
use Rattle.dht_xattr.proofs.FaultLaws.{has_hole_is, has_overlap_is}
use Rattle.dht_xattr.specs.Faults.{has_hole, has_overlap}
use Rattle.dht_heal.proofs.heal_one.is_faulty.Goals as goal

same_truth : (a b : Bool) → (a ≡ true → b ≡ true) → (b ≡ true → a ≡ true) → a ≡ b
same_truth true b h k = sym (h refl)
same_truth false b h k = sym (false_from_ne_true b (λ e. let z : false ≡ true = k e in cc))

pub returns-then-faults : goal.returns-then-faults
returns-then-faults c =
    let ranges = c.args.layout.now in
    c.if-faults.true ∙ sym (ap (λ (v : Bool). v || has_overlap ranges) ((has_hole_is ranges).1 (c.faults-faults.ensures.holes.0 c.if-faults.true)))

pub returns-else-faults : goal.returns-else-faults
returns-else-faults c =
    let ranges = c.args.layout.now in
    let none : has_hole ranges ≡ false = false_from_ne_true (has_hole ranges) (λ e. let z : true ≡ false = sym (c.faults-faults.ensures.holes.1 ((has_hole_is ranges).0 e)) ∙ c.if-faults.false in cc) in
    same_truth c.faults-faults.result.overlaps (has_overlap ranges)
    (λ e. (has_overlap_is ranges).1 (c.faults-faults.ensures.overlaps.0 e))
    (λ e. c.faults-faults.ensures.overlaps.1 ((has_overlap_is ranges).0 e))
    ∙ sym (ap (λ (v : Bool). v || has_overlap ranges) none)
