use Rattle.std.proofs.Common.{Bor, rules, tests, sym, ap, ◌∙◌}
use Rattle.std.specs.Prelude.{Option}
use Rattle.std.specs.Option.{option_map}
use Rattle.std.specs.Map.Iter.{deref_pair}
use Rattle.std.proofs.lemmas.Iterator.Consumers.{YieldsList-from_rest}
use Rattle.std.proofs.lemmas.Iterator.Search.{find_from_yields_List}
use Rattle.dht_types.specs.declared.identifiers.ClientNo.{ClientNo}
use Rattle.dht_types.specs.declared.locks.Mode.{Mode}
use Rattle.dht_locks.specs.Held.{locks_in}
use Rattle.dht_locks.specs.declared.holds.Hold.{Hold}
use Rattle.dht_locks.proofs.HoldLemmas.{hold_le}
use Rattle.dht_locks.proofs.AwaitedLemmas.{makes_wait, awaited-found}
use Rattle.dht_locks.proofs.holds.Locks.awaited.Goals as goal

pub range-holds-requires : goal.range-holds-requires
range-holds-requires c = hold_le c.args.key.now _ _ c.new.ensures.start c.new.ensures.end

pub returns-in_err-hold : goal.returns-in_err-hold
unfolding locks_in
returns-in_err-hold c =
    let m = c.args.self.now.held in
    let found = find_from_yields_List (makes_wait c.args.client c.args.mode) _ _ c.find.result c.find.ensures.ran (YieldsList-from_rest c.range-holds.result cc) (λ x b q k. search (rules, tests)) in
    let all = awaited-found m c.range-holds.ensures.ordered c.args.key.now c.args.client c.args.mode _ _ c.range-holds.result (option_map deref_pair c.find.result) c.new.ensures.start c.new.ensures.end (c.range-holds.ensures.between c.new.ensures.exhausted) found in
    ap (option_map (λ (n : ClientNo). n.0)) c.from_residual.ensures ∙ sym (ap (λ (o : Option (Bor Hold × Bor Mode)). option_map (λ (e : Hold × Mode). e.0.client.0) (option_map deref_pair o)) c.in_err-hold.was) ∙ all

pub returns : goal.returns
unfolding locks_in
returns c =
    let m = c.args.self.now.held in
    let found = find_from_yields_List (makes_wait c.args.client c.args.mode) _ _ c.find.result c.find.ensures.ran (YieldsList-from_rest c.range-holds.result cc) (λ x b q k. search (rules, tests)) in
    let all = awaited-found m c.range-holds.ensures.ordered c.args.key.now c.args.client c.args.mode _ _ c.range-holds.result (option_map deref_pair c.find.result) c.new.ensures.start c.new.ensures.end (c.range-holds.ensures.between c.new.ensures.exhausted) found in
    sym (ap (λ (o : Option (Bor Hold × Bor Mode)). option_map (λ (e : Hold × Mode). e.0.client.0) (option_map deref_pair o)) c.in_ok-hold.was) ∙ all
