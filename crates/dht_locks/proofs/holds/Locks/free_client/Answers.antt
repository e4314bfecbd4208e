use Rattle.std.proofs.Common.{rules, ap, ◌∙◌}
use Rattle.std.specs.Prelude.{not, nat_eq}
use Rattle.std.proofs.lemmas.Map.Made.{filter_same_pairs}
use Rattle.dht_locks.specs.Held.{locks_in}
use Rattle.dht_locks.proofs.LockLemmas.{locks_of, locks_without-filter}
use Rattle.dht_locks.proofs.holds.Locks.free_client.Goals as goal

pub returns : goal.returns
unfolding locks_in
returns c =
    ap locks_of (filter_same_pairs _ (λ e. not (nat_eq c.args.client.0 e.0.client.0)) _ (λ k v b w f' t. search rules) _ _ c.retain.ensures.filtered)
    ∙ locks_without-filter c.args.client.0 c.args.self.now.held.entries
