use Rattle.std.proofs.Common.{List, [], ap, ◌∙◌}
use Rattle.dht_types.specs.declared.identifiers.Gfid.{Gfid}
use Rattle.dht_brick.specs.Contents.{Opens}
use Rattle.dht_brick.specs.declared.opens.Registration.{Registration}
use Rattle.dht_opens.specs.Opens.{opens_in, set_of}
use Rattle.dht_opens.proofs.registrations.Opens.new.Goals as goal

pub returns : goal.returns
unfolding opens_in
returns c =
    let shown : List Registration → List Gfid → Opens = λ rs gs. record { registered = set_of rs; sealed = set_of gs } in
    ap (λ rs. shown rs c.new-2.result.keys) c.new.ensures.empty ∙ ap (shown []) c.new-2.ensures.empty
