use Rattle.dht_section.proofs.ReleaseSteps.{releases}
use Rattle.dht_section.proofs.release.Release.new.Goals as goal

pub returns-clause-releases : goal.returns-clause-releases
returns-clause-releases c = releases c.args.held
