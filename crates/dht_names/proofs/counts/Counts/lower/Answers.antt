use Rattle.std.proofs.Common.{arith, ◌≤◌, ◌-◌, ap, sym, subst, ◌∙◌}
use Rattle.std.specs.Prelude.{IfSome, is_some}
use Rattle.std.specs.FinMap.{get}
use Rattle.dht_brick.proofs.TableLemmas.{gfid_total, get-plain}
use Rattle.dht_names.specs.Counts.{tallies_in, counter, with_count}
use Rattle.dht_names.proofs.DirLemmas.{table_from, insert-plain}
use Rattle.dht_names.proofs.SlotLemmas.{not_there}
use Rattle.dht_names.proofs.CountLemmas.{kept, lowered_to, has_room}
use Rattle.dht_names.proofs.counts.Counts.lower.Goals as goal

pub returns-in_default-get_mut : goal.returns-in_default-get_mut
unfolding tallies_in
returns-in_default-get_mut c =
    let m = table_from c.args.self.now.tallies.entries in
    not_there (get m c.in-Some.gfid) (has_room m c.in-Some.gfid c.args.kind (subst (λ o. IfSome o (λ g. 1 ≤ counter m g c.args.kind)) c.in-Some.is c.requires))
    (c.in_default-get_mut.ensures.value ∙ sym (get-plain gfid_total c.args.self.now.tallies.entries c.in-Some.gfid))

pub overflow_sub-of : goal.overflow_sub-of
unfolding tallies_in
overflow_sub-of c =
    let m = table_from c.args.self.now.tallies.entries in
    let t = c.in-Some-get_mut.tally.now in
    let one = subst (λ o. IfSome o (λ g. 1 ≤ counter m g c.args.kind)) c.in-Some.is c.requires in
    let is = kept m c.in-Some.gfid c.args.kind t (get-plain gfid_total c.args.self.now.tallies.entries c.in-Some.gfid ∙ sym c.in-Some-get_mut.ensures.value) in
    let of = c.of.ensures in
    omega (arith, one, is, of)

pub returns : goal.returns
unfolding tallies_in
returns c =
    let es = c.args.self.now.tallies.entries in
    let m = table_from es in
    let g = c.in-Some.gfid in
    let t = c.in-Some-get_mut.tally.now in
    let w = c.with.result in
    let some = get-plain gfid_total es g ∙ sym c.in-Some-get_mut.ensures.value in
    let one = subst (λ o. IfSome o (λ g. 1 ≤ counter m g c.args.kind)) c.in-Some.is c.requires in
    let is = kept m g c.args.kind t some in
    lowered_to c.args.gfid c.args.kind m (table_from (c.get_mut.follows.lender w).entries) g t w c.in-Some.is some (omega (arith, one, is))
    (c.with.ensures ∙ ap (λ n. with_count c.args.kind (n - 1) t) c.of.ensures)
    (insert-plain es (c.get_mut.follows.lender w).entries g w ((c.get_mut.follows.holds w).3 (ap is_some (sym c.in-Some-get_mut.ensures.value))).0)
