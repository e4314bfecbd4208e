use Rattle.std.proofs.Common.{sym, subst, ◌∙◌}
use Rattle.dht_section.specs.Ended.{Learns}
use Rattle.dht_section.specs.Faults.{NotesFault}
use Rattle.dht_section.specs.Stages.{Moves}
use Rattle.dht_heal.proofs.CallSteps.{call_again, call_learns, call_moves, call_notes}
use Rattle.dht_heal.specs.HealCall.{call_ended, call_fault, call_layout, call_stage, call_taught}
use Rattle.dht_heal.proofs.call.HealCallMachine.take.Goals as goal

pub returns-clause-moves : goal.returns-clause-moves
returns-clause-moves c = subst (λ turn. Moves call_stage call_ended c.args.self c.args.reply c.args.at turn) (sym c.after.ensures) (call_moves c.args.self c.args.reply c.args.at)

pub returns-clause-layout : goal.returns-clause-layout
returns-clause-layout c = subst (λ turn. Learns call_layout call_taught c.args.self c.args.reply turn) (sym c.after.ensures) (call_learns c.args.self c.args.reply c.args.at)

pub returns-clause-fault : goal.returns-clause-fault
returns-clause-fault c = subst (λ turn. NotesFault call_fault c.args.self (call_stage c.args.self).asks.request c.args.reply turn) (sym c.after.ensures) (call_notes c.args.self c.args.reply c.args.at)

pub returns-clause-again : goal.returns-clause-again
returns-clause-again c = λ h. c.after.ensures ∙ call_again c.args.self c.args.reply c.args.at h
