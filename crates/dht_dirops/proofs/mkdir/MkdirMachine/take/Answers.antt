use Rattle.std.proofs.Common.{sym, subst, ◌∙◌}
use Rattle.dht_dirops.proofs.MkdirSteps.{mkdir_moves, mkdir_learns, mkdir_notes, mkdir_again}
use Rattle.dht_dirops.specs.Mkdir.{mkdir_fault, mkdir_layout, mkdir_stage, mkdir_taught}
use Rattle.dht_section.specs.Ended.{ended, Learns}
use Rattle.dht_section.specs.Faults.{NotesFault}
use Rattle.dht_section.specs.Stages.{Moves}
use Rattle.dht_dirops.proofs.mkdir.MkdirMachine.take.Goals as goal

pub returns-clause-moves : goal.returns-clause-moves
returns-clause-moves c = subst (λ turn. Moves mkdir_stage ended c.args.self c.args.reply c.args.at turn) (sym c.after.ensures) (mkdir_moves c.args.self c.args.reply c.args.at)

pub returns-clause-layout : goal.returns-clause-layout
returns-clause-layout c = subst (λ turn. Learns mkdir_layout mkdir_taught c.args.self c.args.reply turn) (sym c.after.ensures) (mkdir_learns c.args.self c.args.reply c.args.at)

pub returns-clause-fault : goal.returns-clause-fault
returns-clause-fault c = subst (λ turn. NotesFault mkdir_fault c.args.self (mkdir_stage c.args.self).asks.request c.args.reply turn) (sym c.after.ensures) (mkdir_notes c.args.self c.args.reply c.args.at)

pub returns-clause-again : goal.returns-clause-again
returns-clause-again c = λ h. c.after.ensures ∙ mkdir_again c.args.self c.args.reply c.args.at h
