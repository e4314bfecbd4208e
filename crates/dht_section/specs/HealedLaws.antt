-- Directories stay whole, and healed, where no copy of them changes.
use Rattle.std.proofs.Common.{◌≡◌, ◌∙◌, ℕ, refl, ap, subst, arith}
use Rattle.std.specs.Prelude.{zero, suc, Option, List, [], ◌∷◌, ◌++◌, is_some}
use Rattle.dht_types.specs.Tree.{Tree}
use Rattle.dht_types.specs.declared.identifiers.Gfid.{Gfid}
use Rattle.dht_types.specs.declared.stored.DirRecord.{DirRecord}
use Rattle.dht_xattr.specs.Layout.{HasHole, HasOverlap}
use Rattle.dht_xattr.specs.declared.range.Range.{Range}
use Rattle.dht_section.specs.Disk.{Disk, dir_at, layout_of, range_at, range_of, ranges_below}
use Rattle.dht_section.specs.Healed.{IsAbove, IsHealed, IsWhole}

pub ranges_kept :
    (d e : Disk) (g : Gfid) → ((b : ℕ) → dir_at e b g ≡ dir_at d b g) → (n : ℕ)
    → ranges_below e g n ≡ ranges_below d g n
unfolding ranges_below
ranges_kept d e g same zero = refl
ranges_kept d e g same (suc b) =
    ap (λ (xs : List (Option Range)). xs ++ range_at e g b ∷ []) (ranges_kept d e g same b)
    ∙ ap (λ (o : Option DirRecord). ranges_below d g b ++ range_of o ∷ []) (same b)

pub layout_kept :
    (d e : Disk) (g : Gfid) → e.count ≡ d.count → ((b : ℕ) → dir_at e b g ≡ dir_at d b g)
    → layout_of e g ≡ layout_of d g
layout_kept d e g count same = ranges_kept d e g same e.count ∙ ap (ranges_below d g) count

pub whole_kept :
    (d e : Disk) (g : Gfid) → e.count ≡ d.count → ((b : ℕ) → dir_at e b g ≡ dir_at d b g)
    → IsWhole d g → IsWhole e g
whole_kept d e g count same h = record {
  copies = λ b l. ap is_some (same b) ∙ h.copies b (omega arith);
  no_hole = λ q. h.no_hole (subst HasHole (layout_kept d e g count same) q);
  no_overlap = λ q. h.no_overlap (subst HasOverlap (layout_kept d e g count same) q);
}

pub healed_kept :
    (d e : Disk) (p q : Tree) (g : Gfid) → e.count ≡ d.count
    → ((b : ℕ) (x : Gfid) → dir_at e b x ≡ dir_at d b x) → q ≡ p → IsHealed d p g → IsHealed e q g
healed_kept d e p q g count same tree h x above = whole_kept d e x count (λ b. same b x) (h x (subst (λ (y : Tree). IsAbove y g x) tree above))
