use Rattle.std.proofs.Common.{sym, subst}
use Rattle.dht_section.proofs.ReleaseSteps.{release_moves}
use Rattle.dht_section.specs.Release.{release_stage, released_ending}
use Rattle.dht_section.specs.Stages.{Moves}
use Rattle.dht_section.proofs.release.ReleaseMachine.take.Goals as goal

pub returns-clause-moves : goal.returns-clause-moves
returns-clause-moves c = subst (λ turn. Moves release_stage released_ending c.args.self c.args.reply c.args.at turn) (sym c.after.ensures) (release_moves c.args.self c.args.reply c.args.at)
