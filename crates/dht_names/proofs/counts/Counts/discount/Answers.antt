use Rattle.std.proofs.Common.{◌≤◌, sym, subst, refl, ◌∙◌}
use Rattle.std.specs.Prelude.{Option, IfSome}
use Rattle.dht_types.specs.declared.identifiers.Gfid.{Gfid}
use Rattle.dht_names.specs.Counts.{tallies_in, counter, weight, counted, Lowers}
use Rattle.dht_names.specs.declared.counts.Kind.TheVariants.{Visible, Named, Marked, Readied, Copied}
use Rattle.dht_names.proofs.CountLemmas.{not_lowered_by, of_counted, lowered_all}
use Rattle.dht_names.proofs.counts.Counts.discount.Goals as goal

pub lower-requires : goal.lower-requires
lower-requires c =
    subst (λ (o : Option Gfid). IfSome o (λ g. 1 ≤ counter (tallies_in c.args.self.now) g Visible)) (sym c.counted.ensures)
    (of_counted (counted Visible c.args.dir c.args.slot.now) (λ g. counter (tallies_in c.args.self.now) g Visible) (λ g. c.requires g Visible))

pub lower-requires-2 : goal.lower-requires-2
lower-requires-2 c =
    subst (λ (o : Option Gfid). IfSome o (λ g. 1 ≤ counter (tallies_in c.lower.new.self) g Named)) (sym c.counted-2.ensures)
    (of_counted (counted Named c.args.dir c.args.slot.now) (λ g. counter (tallies_in c.lower.new.self) g Named) (λ g. subst (λ n. weight Named g c.args.dir c.args.slot.now ≤ n) (sym (not_lowered_by c.counted.result Visible Named (tallies_in c.args.self.now) (tallies_in c.lower.new.self) c.lower.ensures refl g)) (c.requires g Named)))

pub lower-requires-3 : goal.lower-requires-3
lower-requires-3 c =
    subst (λ (o : Option Gfid). IfSome o (λ g. 1 ≤ counter (tallies_in c.lower-2.new.self) g Marked)) (sym c.counted-3.ensures)
    (of_counted (counted Marked c.args.dir c.args.slot.now) (λ g. counter (tallies_in c.lower-2.new.self) g Marked) (λ g. subst (λ n. weight Marked g c.args.dir c.args.slot.now ≤ n) (sym (not_lowered_by c.counted-2.result Named Marked (tallies_in c.lower.new.self) (tallies_in c.lower-2.new.self) c.lower-2.ensures refl g ∙ not_lowered_by c.counted.result Visible Marked (tallies_in c.args.self.now) (tallies_in c.lower.new.self) c.lower.ensures refl g)) (c.requires g Marked)))

pub lower-requires-4 : goal.lower-requires-4
lower-requires-4 c =
    subst (λ (o : Option Gfid). IfSome o (λ g. 1 ≤ counter (tallies_in c.lower-3.new.self) g Readied)) (sym c.counted-4.ensures)
    (of_counted (counted Readied c.args.dir c.args.slot.now) (λ g. counter (tallies_in c.lower-3.new.self) g Readied) (λ g. subst (λ n. weight Readied g c.args.dir c.args.slot.now ≤ n) (sym (not_lowered_by c.counted-3.result Marked Readied (tallies_in c.lower-2.new.self) (tallies_in c.lower-3.new.self) c.lower-3.ensures refl g ∙ not_lowered_by c.counted-2.result Named Readied (tallies_in c.lower.new.self) (tallies_in c.lower-2.new.self) c.lower-2.ensures refl g ∙ not_lowered_by c.counted.result Visible Readied (tallies_in c.args.self.now) (tallies_in c.lower.new.self) c.lower.ensures refl g)) (c.requires g Readied)))

pub lower-requires-5 : goal.lower-requires-5
lower-requires-5 c =
    subst (λ (o : Option Gfid). IfSome o (λ g. 1 ≤ counter (tallies_in c.lower-4.new.self) g Copied)) (sym c.counted-5.ensures)
    (of_counted (counted Copied c.args.dir c.args.slot.now) (λ g. counter (tallies_in c.lower-4.new.self) g Copied) (λ g. subst (λ n. weight Copied g c.args.dir c.args.slot.now ≤ n) (sym (not_lowered_by c.counted-4.result Readied Copied (tallies_in c.lower-3.new.self) (tallies_in c.lower-4.new.self) c.lower-4.ensures refl g ∙ not_lowered_by c.counted-3.result Marked Copied (tallies_in c.lower-2.new.self) (tallies_in c.lower-3.new.self) c.lower-3.ensures refl g ∙ not_lowered_by c.counted-2.result Named Copied (tallies_in c.lower.new.self) (tallies_in c.lower-2.new.self) c.lower-2.ensures refl g ∙ not_lowered_by c.counted.result Visible Copied (tallies_in c.args.self.now) (tallies_in c.lower.new.self) c.lower.ensures refl g)) (c.requires g Copied)))

pub returns : goal.returns
returns c =
    lowered_all c.args.dir c.args.slot.now (tallies_in c.args.self.now) (tallies_in c.lower.new.self) (tallies_in c.lower-2.new.self) (tallies_in c.lower-3.new.self) (tallies_in c.lower-4.new.self) (tallies_in c.lower-5.new.self)
    (subst (λ (o : Option Gfid). Lowers o Visible (tallies_in c.args.self.now) (tallies_in c.lower.new.self)) c.counted.ensures c.lower.ensures)
    (subst (λ (o : Option Gfid). Lowers o Named (tallies_in c.lower.new.self) (tallies_in c.lower-2.new.self)) c.counted-2.ensures c.lower-2.ensures)
    (subst (λ (o : Option Gfid). Lowers o Marked (tallies_in c.lower-2.new.self) (tallies_in c.lower-3.new.self)) c.counted-3.ensures c.lower-3.ensures)
    (subst (λ (o : Option Gfid). Lowers o Readied (tallies_in c.lower-3.new.self) (tallies_in c.lower-4.new.self)) c.counted-4.ensures c.lower-4.ensures)
    (subst (λ (o : Option Gfid). Lowers o Copied (tallies_in c.lower-4.new.self) (tallies_in c.lower-5.new.self)) c.counted-5.ensures c.lower-5.ensures)
