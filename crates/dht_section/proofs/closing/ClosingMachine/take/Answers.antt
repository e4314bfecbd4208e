use Rattle.std.proofs.Common.{sym, subst}
use Rattle.dht_section.proofs.ClosingSteps.{closing_moves}
use Rattle.dht_section.specs.Closing.{closing_stage}
use Rattle.dht_section.specs.Stages.{Moves, answered}
use Rattle.dht_section.proofs.closing.ClosingMachine.take.Goals as goal

pub returns-clause-moves : goal.returns-clause-moves
returns-clause-moves c = subst (λ turn. Moves closing_stage answered c.args.self c.args.reply c.args.at turn) (sym c.after.ensures) (closing_moves c.args.self c.args.reply c.args.at)
