use Rattle.std.proofs.Common.{ap}
use Rattle.dht_brick.specs.OpenRows.{registration}
use Rattle.dht_opens.specs.Opens.{opens_in, set_of}
use Rattle.dht_opens.proofs.SetLemmas.{remove-set_of, registration_total, registration_exact}
use Rattle.dht_opens.proofs.registrations.Opens.unregister.Goals as goal

pub returns-clause-gone : goal.returns-clause-gone
unfolding opens_in
returns-clause-gone c =
    ap (λ rs. record { registered = rs; sealed = set_of c.args.self.now.sealed.keys })
    (remove-set_of registration_total registration_exact c.args.self.now.registered.keys c.remove.new.self.keys (registration c.args.file c.args.client c.args.call) c.remove.ensures.updates.0)
