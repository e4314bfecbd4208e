use Rattle.std.proofs.Common.{sym, subst, ◌∙◌}
use Rattle.dht_section.specs.Stages.{Moves}
use Rattle.dht_heal.proofs.HealOneSteps.{heal_one_moves, heal_one_moves_some, heal_one_notes, heal_one_again}
use Rattle.dht_heal.specs.HealOne.{NotesStop, heal_one_stage, healed_one, healed_some, target_of}
use Rattle.dht_heal.proofs.heal_one.HealOneMachine.take.Goals as goal

pub returns-clause-moves : goal.returns-clause-moves
returns-clause-moves c = subst (λ turn. Moves heal_one_stage healed_some c.args.self c.args.reply c.args.at turn) (sym c.after.ensures) (heal_one_moves_some c.args.self c.args.reply c.args.at)

pub returns-clause-told : goal.returns-clause-told
returns-clause-told c = subst (λ turn. Moves heal_one_stage (healed_one (target_of c.args.self).directory) c.args.self c.args.reply c.args.at turn) (sym c.after.ensures) (heal_one_moves c.args.self c.args.reply c.args.at)

pub returns-clause-fault : goal.returns-clause-fault
returns-clause-fault c = subst (λ turn. NotesStop c.args.self c.args.reply turn) (sym c.after.ensures) (heal_one_notes c.args.self c.args.reply c.args.at)

pub returns-clause-again : goal.returns-clause-again
returns-clause-again c = λ h. c.after.ensures ∙ heal_one_again c.args.self c.args.reply c.args.at h
