use Rattle.std.proofs.Common.{ap, sym, ◌∙◌}
use Rattle.std.specs.Prelude.{count_by}
use Rattle.dht_types.specs.Gfid.{same_gfid}
use Rattle.dht_brick.specs.OpenRows.{registrations}
use Rattle.dht_brick.specs.declared.opens.Registration.{Registration}
use Rattle.dht_opens.specs.Opens.{opens_in}
use Rattle.dht_opens.proofs.SetLemmas.{keys-set_of, registration_total, registration_exact}
use Rattle.dht_opens.proofs.registrations.Opens.registrations.Goals as goal

pub returns : goal.returns
unfolding opens_in registrations
returns c =
    c.count_of.ensures.count
    ∙ sym (ap (count_by (λ (r : Registration). same_gfid c.args.file r.file)) (keys-set_of registration_total registration_exact c.args.self.now.registered.keys c.count_of.ensures.ordered))
