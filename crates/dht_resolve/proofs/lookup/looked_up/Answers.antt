use Rattle.std.proofs.Common.{ap, ◌∙◌}
use Rattle.std.specs.Prelude.{Option}
use Rattle.dht_section.specs.Looks.{file_in}
use Rattle.dht_section.specs.declared.looks.Place.{Place}
use Rattle.dht_resolve.specs.Turns.{found_by}
use Rattle.std.proofs.Common.{sym}
use Rattle.dht_resolve.proofs.lookup.looked_up.Goals as goal

pub returns-in-Some : goal.returns-in-Some
returns-in-Some c =
    c.file_found.ensures
    ∙ ap (λ (o : Option Place). found_by o c.args.location c.args.held) (sym c.in-Some.is ∙ (c.place_of.ensures ∙ ap file_in c.found-found.ensures.what))
