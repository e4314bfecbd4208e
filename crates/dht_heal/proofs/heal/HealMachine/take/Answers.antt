use Rattle.std.proofs.Common.{sym, subst, ◌∙◌}
use Rattle.dht_section.specs.Stages.{Moves}
use Rattle.dht_heal.proofs.HealNotes.{heal_again, heal_keeps, heal_notes}
use Rattle.dht_heal.proofs.HealSteps.{heal_moves}
use Rattle.dht_heal.specs.Heal.{KeepsDir, NotesStop, heal_ending, heal_stage}
use Rattle.dht_heal.proofs.heal.HealMachine.take.Goals as goal

pub returns-clause-moves : goal.returns-clause-moves
returns-clause-moves c = subst (λ turn. Moves heal_stage heal_ending c.args.self c.args.reply c.args.at turn) (sym c.after.ensures) (heal_moves c.args.self c.args.reply c.args.at)

pub returns-clause-directory : goal.returns-clause-directory
returns-clause-directory c = subst (λ turn. KeepsDir c.args.self turn) (sym c.after.ensures) (heal_keeps c.args.self c.args.reply c.args.at)

pub returns-clause-fault : goal.returns-clause-fault
returns-clause-fault c = subst (λ turn. NotesStop c.args.self c.args.reply turn) (sym c.after.ensures) (heal_notes c.args.self c.args.reply c.args.at)

pub returns-clause-again : goal.returns-clause-again
returns-clause-again c = λ h. c.after.ensures ∙ heal_again c.args.self c.args.reply c.args.at h
