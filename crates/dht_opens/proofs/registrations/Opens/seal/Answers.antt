use Rattle.std.proofs.Common.{◌∙◌, ap, sym}
use Rattle.dht_opens.specs.Opens.{opens_in, set_of}
use Rattle.dht_opens.proofs.SetLemmas.{insert-set_of, gfid_total, gfid_exact}
use Rattle.dht_opens.proofs.registrations.Opens.seal.Goals as goal

pub returns-in-Ok : goal.returns-in-Ok
unfolding opens_in
returns-in-Ok c = (
  sym c.registrations-open.ensures ∙ c.if-open-ne0.false,
  ap (λ gs. record { registered = set_of c.args.self.now.registered.keys; sealed = gs })
      (insert-set_of gfid_total gfid_exact c.args.self.now.sealed.keys c.insert.new.self.keys c.args.file c.in-Ok.ensures.updates.0),
)
