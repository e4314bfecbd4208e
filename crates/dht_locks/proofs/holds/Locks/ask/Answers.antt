use Rattle.std.proofs.Common.{ap, sym, ◌∙◌}
use Rattle.std.specs.Prelude.{Some}
use Rattle.std.specs.Option.{option_map}
use Rattle.dht_types.specs.declared.identifiers.ClientNo.{ClientNo}
use Rattle.dht_locks.specs.Held.{locks_in}
use Rattle.dht_locks.proofs.LockLemmas.{locks_of, held-updated}
use Rattle.dht_locks.proofs.holds.Locks.ask.Goals as goal

pub returns-in-Ok : goal.returns-in-Ok
unfolding locks_in
returns-in-Ok c = (sym c.awaited.ensures ∙ ap (option_map (λ (n : ClientNo). n.0)) c.in_default.is, held-updated c.args.self.now.held c.insert.new.self c.args.key.now c.args.client.0 (Some c.args.mode) c.in-Ok.ensures.updates)

pub returns-in-Err : goal.returns-in-Err
unfolding locks_in
returns-in-Err c = (sym c.awaited.ensures ∙ ap (option_map (λ (n : ClientNo). n.0)) c.in_default.is, ap locks_of c.in-Err.ensures.err)
