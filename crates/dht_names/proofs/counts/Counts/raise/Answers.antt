use Rattle.std.proofs.Common.{arith, ◌<◌, ◌+◌, ◌^◌, ap, sym, subst, ◌∙◌}
use Rattle.std.specs.Prelude.{IsSome, IfSome, is_some}
use Rattle.std.specs.FinMap.{get}
use Rattle.dht_brick.proofs.TableLemmas.{gfid_total, get-plain}
use Rattle.dht_names.specs.Counts.{tallies_in, counter, with_count, KeepsAll}
use Rattle.dht_names.proofs.DirLemmas.{table_from, insert-plain}
use Rattle.dht_names.proofs.SlotLemmas.{not_there}
use Rattle.dht_names.proofs.CountLemmas.{kept, raised_to, keeps_room}
use Rattle.dht_names.proofs.counts.Counts.raise.Goals as goal

pub returns-in_default-get_mut-clause-counts : goal.returns-in_default-get_mut-clause-counts
unfolding tallies_in
returns-in_default-get_mut-clause-counts c =
    let m = table_from c.args.self.now.tallies.entries in
    not_there (get m c.in-Some.gfid) (subst (λ o. IfSome o (λ g. IsSome (get m g))) c.in-Some.is c.requires.there)
    (c.in_default-get_mut.ensures.value ∙ sym (get-plain gfid_total c.args.self.now.tallies.entries c.in-Some.gfid))

pub overflow_add-of : goal.overflow_add-of
unfolding tallies_in
overflow_add-of c =
    let m = table_from c.args.self.now.tallies.entries in
    let t = c.in-Some-get_mut.tally.now in
    let few = subst (λ o. IfSome o (λ g. counter m g c.args.kind < 2 ^ 63)) c.in-Some.is c.requires.few in
    let is = kept m c.in-Some.gfid c.args.kind t (get-plain gfid_total c.args.self.now.tallies.entries c.in-Some.gfid ∙ sym c.in-Some-get_mut.ensures.value) in
    let of = c.of.ensures in
    omega (arith, few, is, of)

pub returns-clause-counts : goal.returns-clause-counts
unfolding tallies_in
returns-clause-counts c =
    let es = c.args.self.now.tallies.entries in
    let g = c.in-Some.gfid in
    let t = c.in-Some-get_mut.tally.now in
    let w = c.with.result in
    raised_to c.args.gfid c.args.kind (table_from es) (table_from (c.get_mut.follows.lender w).entries) g t w c.in-Some.is (get-plain gfid_total es g ∙ sym c.in-Some-get_mut.ensures.value)
    (c.with.ensures ∙ ap (λ n. with_count c.args.kind (n + 1) t) c.of.ensures)
    (insert-plain es (c.get_mut.follows.lender w).entries g w ((c.get_mut.follows.holds w).3 (ap is_some (sym c.in-Some-get_mut.ensures.value))).0)

pub returns-clause-keeps : goal.returns-clause-keeps
unfolding tallies_in
returns-clause-keeps c =
    let es = c.args.self.now.tallies.entries in
    let g = c.in-Some.gfid in
    let w = c.with.result in
    subst (KeepsAll (table_from es)) (sym (insert-plain es (c.get_mut.follows.lender w).entries g w ((c.get_mut.follows.holds w).3 (ap is_some (sym c.in-Some-get_mut.ensures.value))).0)) (keeps_room (table_from es) g w)
