use Rattle.dht_section.proofs.ClosingSteps.{closes}
use Rattle.dht_section.proofs.closing.Closing.new.Goals as goal

pub returns-clause-closes : goal.returns-clause-closes
returns-clause-closes c = closes c.args.held c.args.finish
