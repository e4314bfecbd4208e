use Rattle.std.proofs.Common.{Some, None, sym, ◌∙◌}
use Rattle.dht_section.proofs.SweepSteps.{first_knows}
use Rattle.dht_section.proofs.sweep.Sweep.begin.Goals as goal

pub returns-in-Some-clause-knows : goal.returns-in-Some-clause-knows
returns-in-Some-clause-knows c = λ found s w. first_knows c.args.location c.args.held.now c.looked-looked.result (Some c.in-Some.brick) found s c.looked-looked.ensures (sym c.in-Some.is ∙ c.next_linkto.ensures) w

pub returns-in-None-clause-knows : goal.returns-in-None-clause-knows
returns-in-None-clause-knows c = λ found s w. first_knows c.args.location c.args.held.now c.looked-looked.result None found s c.looked-looked.ensures (sym c.in-None.is ∙ c.next_linkto.ensures) w
