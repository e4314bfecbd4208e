use Rattle.std.proofs.Common.{sym, subst, ◌∙◌}
use Rattle.dht_section.specs.Stages.{Moves}
use Rattle.dht_heal.proofs.RestartSteps.{restart_again, restart_keeps, restart_moves, restart_notes}
use Rattle.dht_heal.specs.Restart.{KeepsScope, NotesFault, restart_stage, restarted_ending}
use Rattle.dht_heal.proofs.restart.RestartMachine.take.Goals as goal

pub returns-clause-moves : goal.returns-clause-moves
returns-clause-moves c = subst (λ turn. Moves restart_stage restarted_ending c.args.self c.args.reply c.args.at turn) (sym c.after.ensures) (restart_moves c.args.self c.args.reply c.args.at)

pub returns-clause-scope : goal.returns-clause-scope
returns-clause-scope c = subst (λ turn. KeepsScope c.args.self turn) (sym c.after.ensures) (restart_keeps c.args.self c.args.reply c.args.at)

pub returns-clause-fault : goal.returns-clause-fault
returns-clause-fault c = subst (λ turn. NotesFault c.args.self c.args.reply turn) (sym c.after.ensures) (restart_notes c.args.self c.args.reply c.args.at)

pub returns-clause-again : goal.returns-clause-again
returns-clause-again c = λ h. c.after.ensures ∙ restart_again c.args.self c.args.reply c.args.at h
