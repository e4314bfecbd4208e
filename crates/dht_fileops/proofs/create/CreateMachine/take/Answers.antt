use Rattle.std.proofs.Common.{sym, subst, ◌∙◌}
use Rattle.dht_fileops.proofs.CreateSteps.{create_moves, create_learns, create_notes, create_again}
use Rattle.dht_fileops.specs.Create.{create_fault, create_layout, create_stage, create_taught}
use Rattle.dht_section.specs.Ended.{ended, Learns}
use Rattle.dht_section.specs.Faults.{NotesFault}
use Rattle.dht_section.specs.Stages.{Moves}
use Rattle.dht_fileops.proofs.create.CreateMachine.take.Goals as goal

pub returns-clause-moves : goal.returns-clause-moves
returns-clause-moves c = subst (λ turn. Moves create_stage ended c.args.self c.args.reply c.args.at turn) (sym c.after.ensures) (create_moves c.args.self c.args.reply c.args.at)

pub returns-clause-layout : goal.returns-clause-layout
returns-clause-layout c = subst (λ turn. Learns create_layout create_taught c.args.self c.args.reply turn) (sym c.after.ensures) (create_learns c.args.self c.args.reply c.args.at)

pub returns-clause-fault : goal.returns-clause-fault
returns-clause-fault c = subst (λ turn. NotesFault create_fault c.args.self (create_stage c.args.self).asks.request c.args.reply turn) (sym c.after.ensures) (create_notes c.args.self c.args.reply c.args.at)

pub returns-clause-again : goal.returns-clause-again
returns-clause-again c = λ h. c.after.ensures ∙ create_again c.args.self c.args.reply c.args.at h
