use Rattle.std.proofs.Common.{sym, subst, ◌∙◌, []}
use Rattle.dht_section.proofs.ReapSteps.{reap_moves, reap_noted, reap_again}
use Rattle.dht_section.specs.Parts.{EndsByFault}
use Rattle.dht_section.specs.Reap.{reap_stage, lone_reap, reap_ending, lone_ending}
use Rattle.dht_section.specs.Stages.{Moves}
use Rattle.dht_section.proofs.reap.ReapMachine.take.Goals as goal

pub returns-clause-moves : goal.returns-clause-moves
returns-clause-moves c = subst (λ turn. Moves lone_reap lone_ending c.args.self c.args.reply c.args.at turn) (sym c.after.ensures) (reap_moves [] c.args.self c.args.reply c.args.at)

pub returns-clause-within : goal.returns-clause-within
returns-clause-within c = λ locks. subst (λ turn. Moves (reap_stage locks) (reap_ending locks) c.args.self c.args.reply c.args.at turn) (sym c.after.ensures) (reap_moves locks c.args.self c.args.reply c.args.at)

pub returns-clause-fault : goal.returns-clause-fault
returns-clause-fault c = subst (λ turn. EndsByFault c.args.reply turn) (sym c.after.ensures) (reap_noted c.args.self c.args.reply)

pub returns-clause-again : goal.returns-clause-again
returns-clause-again c = λ h. c.after.ensures ∙ reap_again [] c.args.self c.args.reply h
