use Rattle.std.proofs.Common.{◌∙◌, ap, refl, sym}
use Rattle.dht_brick.specs.OpenRows.{registration}
use Rattle.dht_opens.specs.Opens.{opens_in, set_of}
use Rattle.dht_opens.proofs.SetLemmas.{is_some-set_of, insert-set_of, gfid_total, registration_total, registration_exact}
use Rattle.dht_opens.proofs.registrations.Opens.register.Goals as goal

pub returns-then-contains : goal.returns-then-contains
unfolding opens_in
returns-then-contains c = (is_some-set_of gfid_total c.args.self.now.sealed.keys c.args.file ∙ sym c.contains.ensures ∙ c.if-contains.true, refl)

pub returns-in-Ok : goal.returns-in-Ok
unfolding opens_in
returns-in-Ok c = (
  is_some-set_of gfid_total c.args.self.now.sealed.keys c.args.file ∙ sym c.contains.ensures ∙ c.if-contains.false,
  ap (λ rs. record { registered = rs; sealed = set_of c.args.self.now.sealed.keys })
      (insert-set_of registration_total registration_exact c.args.self.now.registered.keys c.insert.new.self.keys (registration c.args.file c.args.client c.args.call) c.in-Ok.ensures.updates.0),
)

pub returns-in-Err : goal.returns-in-Err
unfolding opens_in
returns-in-Err c = (
  is_some-set_of gfid_total c.args.self.now.sealed.keys c.args.file ∙ sym c.contains.ensures ∙ c.if-contains.false,
  ap (λ rs. record { registered = set_of rs; sealed = set_of c.args.self.now.sealed.keys }) c.in-Err.ensures.err,
)
