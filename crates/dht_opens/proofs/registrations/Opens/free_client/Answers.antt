use Rattle.std.proofs.Common.{rules, ap, ◌∙◌}
use Rattle.std.specs.Prelude.{not, nat_eq}
use Rattle.std.proofs.lemmas.Fn.{filter_same}
use Rattle.dht_brick.specs.Contents.{registration_cmp}
use Rattle.dht_opens.specs.Opens.{opens_in, set_of}
use Rattle.dht_opens.proofs.SetLemmas.{filter-set_of, registration_total, registration_exact}
use Rattle.dht_opens.proofs.registrations.Opens.free_client.Goals as goal

pub returns : goal.returns
unfolding opens_in
returns c =
    ap (λ rs. record { registered = rs; sealed = set_of c.args.self.now.sealed.keys })
    (ap (set_of {R = registration_cmp}) (filter_same _ _ _ (λ x b f' k. search rules) _ _ c.retain.ensures.filtered)
    ∙ filter-set_of registration_total registration_exact (λ r. not (nat_eq c.args.client.0 r.client.0)) c.args.self.now.registered.keys)
