use Rattle.std.proofs.Common.{ap, sym, subst, ◌∙◌, List}
use Rattle.std.specs.Prelude.{IsSome, IfSome, is_some}
use Rattle.std.specs.FinMap.{get}
use Rattle.dht_types.specs.declared.identifiers.Gfid.{Gfid}
use Rattle.dht_brick.proofs.TableLemmas.{gfid_total, get-plain}
use Rattle.dht_names.specs.Counts.{tallies_in, counter, no_tally, KeepsAll, KeepsCounts}
use Rattle.dht_names.specs.declared.counts.Tally.{Tally}
use Rattle.dht_names.proofs.DirLemmas.{table_from, insert-plain}
use Rattle.dht_names.proofs.CountLemmas.{admitted, keeps_room, room_here, none_here}
use Rattle.dht_names.proofs.counts.Counts.admit_one.Goals as goal

pub returns-in_err-insert-clause-keeps : goal.returns-in_err-insert-clause-keeps
unfolding tallies_in
returns-in_err-insert-clause-keeps c = λ g h. subst (λ (es : List (Gfid × Tally)). IsSome (get (table_from es) g)) (sym c.in_err-insert.ensures.err) h

pub returns-in_err-insert-clause-same : goal.returns-in_err-insert-clause-same
unfolding tallies_in
returns-in_err-insert-clause-same c = λ g k. ap (λ (es : List (Gfid × Tally)). counter (table_from es) g k) c.in_err-insert.ensures.err

pub returns-in_ok-insert-clause-there : goal.returns-in_ok-insert-clause-there
unfolding tallies_in
returns-in_ok-insert-clause-there c =
    let es = c.args.self.now.tallies.entries in
    let g = c.in-Some.gfid in
    let new = table_from c.insert.new.self.entries in
    subst (λ o. IfSome o (λ q. IsSome (get new q))) (sym c.in-Some.is)
    (subst (λ m. IsSome (get m g)) (sym (insert-plain es c.insert.new.self.entries g no_tally c.in_ok-insert.ensures.updates.0)) (room_here (table_from es) g no_tally))

pub returns-in_ok-insert-clause-keeps : goal.returns-in_ok-insert-clause-keeps
unfolding tallies_in
returns-in_ok-insert-clause-keeps c =
    let es = c.args.self.now.tallies.entries in
    let g = c.in-Some.gfid in
    subst (KeepsAll (table_from es)) (sym (insert-plain es c.insert.new.self.entries g no_tally c.in_ok-insert.ensures.updates.0)) (keeps_room (table_from es) g no_tally)

pub returns-in_ok-insert-clause-same : goal.returns-in_ok-insert-clause-same
unfolding tallies_in
returns-in_ok-insert-clause-same c =
    let es = c.args.self.now.tallies.entries in
    let g = c.in-Some.gfid in
    subst (KeepsCounts (table_from es)) (sym (insert-plain es c.insert.new.self.entries g no_tally c.in_ok-insert.ensures.updates.0))
    (admitted (table_from es) g (none_here (get (table_from es) g) (ap is_some (get-plain gfid_total es g) ∙ sym c.contains_key.ensures ∙ c.if-not-contains_key.true)))

pub returns-else-not-contains_key-clause-there : goal.returns-else-not-contains_key-clause-there
unfolding tallies_in
returns-else-not-contains_key-clause-there c =
    let es = c.args.self.now.tallies.entries in
    subst (λ o. IfSome o (λ q. IsSome (get (table_from es) q))) (sym c.in-Some.is)
    (ap is_some (get-plain gfid_total es c.in-Some.gfid) ∙ sym c.contains_key.ensures ∙ c.if-not-contains_key.false)
