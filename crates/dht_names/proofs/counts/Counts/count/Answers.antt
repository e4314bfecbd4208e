use Rattle.std.proofs.Common.{◌<◌, ◌^◌, sym, subst, refl, ◌∙◌}
use Rattle.std.specs.Prelude.{Option, IsSome, IfSome}
use Rattle.std.specs.FinMap.{get}
use Rattle.dht_types.specs.declared.identifiers.Gfid.{Gfid}
use Rattle.dht_names.specs.Counts.{tallies_in, counter, Raises}
use Rattle.dht_names.specs.declared.counts.Kind.TheVariants.{Visible, Named, Marked, Readied, Copied}
use Rattle.dht_names.proofs.CountLemmas.{not_raised_by, of_any, room_stays, raised_all}
use Rattle.dht_names.proofs.counts.Counts.count.Goals as goal

pub raise-requires-clause-there : goal.raise-requires-clause-there
raise-requires-clause-there c =
    subst (λ (o : Option Gfid). IfSome o (λ g. IsSome (get (tallies_in c.args.self.now) g))) (sym c.counted.ensures) (c.requires.there Visible)

pub raise-requires-clause-few : goal.raise-requires-clause-few
raise-requires-clause-few c =
    of_any (λ g. counter (tallies_in c.args.self.now) g Visible < 2 ^ 63) c.counted.result (λ g. c.requires.few g Visible)

pub raise-requires-2-clause-there : goal.raise-requires-2-clause-there
raise-requires-2-clause-there c =
    room_stays c.counted-2.result (tallies_in c.args.self.now) (tallies_in c.raise.new.self) c.raise.ensures.keeps
    (subst (λ (o : Option Gfid). IfSome o (λ g. IsSome (get (tallies_in c.args.self.now) g))) (sym c.counted-2.ensures) (c.requires.there Named))

pub raise-requires-2-clause-few : goal.raise-requires-2-clause-few
raise-requires-2-clause-few c =
    of_any (λ g. counter (tallies_in c.raise.new.self) g Named < 2 ^ 63) c.counted-2.result (λ g. subst (λ n. n < 2 ^ 63) (sym (not_raised_by c.counted.result Visible Named (tallies_in c.args.self.now) (tallies_in c.raise.new.self) c.raise.ensures.counts refl g)) (c.requires.few g Named))

pub raise-requires-3-clause-there : goal.raise-requires-3-clause-there
raise-requires-3-clause-there c =
    room_stays c.counted-3.result (tallies_in c.raise.new.self) (tallies_in c.raise-2.new.self) c.raise-2.ensures.keeps
    (room_stays c.counted-3.result (tallies_in c.args.self.now) (tallies_in c.raise.new.self) c.raise.ensures.keeps
    (subst (λ (o : Option Gfid). IfSome o (λ g. IsSome (get (tallies_in c.args.self.now) g))) (sym c.counted-3.ensures) (c.requires.there Marked)))

pub raise-requires-3-clause-few : goal.raise-requires-3-clause-few
raise-requires-3-clause-few c =
    of_any (λ g. counter (tallies_in c.raise-2.new.self) g Marked < 2 ^ 63) c.counted-3.result (λ g. subst (λ n. n < 2 ^ 63) (sym (not_raised_by c.counted-2.result Named Marked (tallies_in c.raise.new.self) (tallies_in c.raise-2.new.self) c.raise-2.ensures.counts refl g ∙ not_raised_by c.counted.result Visible Marked (tallies_in c.args.self.now) (tallies_in c.raise.new.self) c.raise.ensures.counts refl g)) (c.requires.few g Marked))

pub raise-requires-4-clause-there : goal.raise-requires-4-clause-there
raise-requires-4-clause-there c =
    room_stays c.counted-4.result (tallies_in c.raise-2.new.self) (tallies_in c.raise-3.new.self) c.raise-3.ensures.keeps
    (room_stays c.counted-4.result (tallies_in c.raise.new.self) (tallies_in c.raise-2.new.self) c.raise-2.ensures.keeps
    (room_stays c.counted-4.result (tallies_in c.args.self.now) (tallies_in c.raise.new.self) c.raise.ensures.keeps
    (subst (λ (o : Option Gfid). IfSome o (λ g. IsSome (get (tallies_in c.args.self.now) g))) (sym c.counted-4.ensures) (c.requires.there Readied))))

pub raise-requires-4-clause-few : goal.raise-requires-4-clause-few
raise-requires-4-clause-few c =
    of_any (λ g. counter (tallies_in c.raise-3.new.self) g Readied < 2 ^ 63) c.counted-4.result (λ g. subst (λ n. n < 2 ^ 63) (sym (not_raised_by c.counted-3.result Marked Readied (tallies_in c.raise-2.new.self) (tallies_in c.raise-3.new.self) c.raise-3.ensures.counts refl g ∙ not_raised_by c.counted-2.result Named Readied (tallies_in c.raise.new.self) (tallies_in c.raise-2.new.self) c.raise-2.ensures.counts refl g ∙ not_raised_by c.counted.result Visible Readied (tallies_in c.args.self.now) (tallies_in c.raise.new.self) c.raise.ensures.counts refl g)) (c.requires.few g Readied))

pub raise-requires-5-clause-there : goal.raise-requires-5-clause-there
raise-requires-5-clause-there c =
    room_stays c.counted-5.result (tallies_in c.raise-3.new.self) (tallies_in c.raise-4.new.self) c.raise-4.ensures.keeps
    (room_stays c.counted-5.result (tallies_in c.raise-2.new.self) (tallies_in c.raise-3.new.self) c.raise-3.ensures.keeps
    (room_stays c.counted-5.result (tallies_in c.raise.new.self) (tallies_in c.raise-2.new.self) c.raise-2.ensures.keeps
    (room_stays c.counted-5.result (tallies_in c.args.self.now) (tallies_in c.raise.new.self) c.raise.ensures.keeps
    (subst (λ (o : Option Gfid). IfSome o (λ g. IsSome (get (tallies_in c.args.self.now) g))) (sym c.counted-5.ensures) (c.requires.there Copied)))))

pub raise-requires-5-clause-few : goal.raise-requires-5-clause-few
raise-requires-5-clause-few c =
    of_any (λ g. counter (tallies_in c.raise-4.new.self) g Copied < 2 ^ 63) c.counted-5.result (λ g. subst (λ n. n < 2 ^ 63) (sym (not_raised_by c.counted-4.result Readied Copied (tallies_in c.raise-3.new.self) (tallies_in c.raise-4.new.self) c.raise-4.ensures.counts refl g ∙ not_raised_by c.counted-3.result Marked Copied (tallies_in c.raise-2.new.self) (tallies_in c.raise-3.new.self) c.raise-3.ensures.counts refl g ∙ not_raised_by c.counted-2.result Named Copied (tallies_in c.raise.new.self) (tallies_in c.raise-2.new.self) c.raise-2.ensures.counts refl g ∙ not_raised_by c.counted.result Visible Copied (tallies_in c.args.self.now) (tallies_in c.raise.new.self) c.raise.ensures.counts refl g)) (c.requires.few g Copied))

pub returns : goal.returns
returns c =
    raised_all c.args.dir c.args.slot.now (tallies_in c.args.self.now) (tallies_in c.raise.new.self) (tallies_in c.raise-2.new.self) (tallies_in c.raise-3.new.self) (tallies_in c.raise-4.new.self) (tallies_in c.raise-5.new.self)
    (subst (λ (o : Option Gfid). Raises o Visible (tallies_in c.args.self.now) (tallies_in c.raise.new.self)) c.counted.ensures c.raise.ensures.counts)
    (subst (λ (o : Option Gfid). Raises o Named (tallies_in c.raise.new.self) (tallies_in c.raise-2.new.self)) c.counted-2.ensures c.raise-2.ensures.counts)
    (subst (λ (o : Option Gfid). Raises o Marked (tallies_in c.raise-2.new.self) (tallies_in c.raise-3.new.self)) c.counted-3.ensures c.raise-3.ensures.counts)
    (subst (λ (o : Option Gfid). Raises o Readied (tallies_in c.raise-3.new.self) (tallies_in c.raise-4.new.self)) c.counted-4.ensures c.raise-4.ensures.counts)
    (subst (λ (o : Option Gfid). Raises o Copied (tallies_in c.raise-4.new.self) (tallies_in c.raise-5.new.self)) c.counted-5.ensures c.raise-5.ensures.counts)
