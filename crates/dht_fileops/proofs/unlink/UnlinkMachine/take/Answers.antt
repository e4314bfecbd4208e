use Rattle.std.proofs.Common.{sym, subst, ◌∙◌}
use Rattle.dht_fileops.proofs.UnlinkSteps.{unlink_moves, unlink_learns, unlink_notes, unlink_again}
use Rattle.dht_fileops.specs.Unlink.{unlink_fault, unlink_layout, unlink_stage, unlink_taught}
use Rattle.dht_section.specs.Ended.{ended, Learns}
use Rattle.dht_section.specs.Faults.{NotesFault}
use Rattle.dht_section.specs.Stages.{Moves}
use Rattle.dht_fileops.proofs.unlink.UnlinkMachine.take.Goals as goal

pub returns-clause-moves : goal.returns-clause-moves
returns-clause-moves c = subst (λ turn. Moves unlink_stage ended c.args.self c.args.reply c.args.at turn) (sym c.after.ensures) (unlink_moves c.args.self c.args.reply c.args.at)

pub returns-clause-layout : goal.returns-clause-layout
returns-clause-layout c = subst (λ turn. Learns unlink_layout unlink_taught c.args.self c.args.reply turn) (sym c.after.ensures) (unlink_learns c.args.self c.args.reply c.args.at)

pub returns-clause-fault : goal.returns-clause-fault
returns-clause-fault c = subst (λ turn. NotesFault unlink_fault c.args.self (unlink_stage c.args.self).asks.request c.args.reply turn) (sym c.after.ensures) (unlink_notes c.args.self c.args.reply c.args.at)

pub returns-clause-again : goal.returns-clause-again
returns-clause-again c = λ h. c.after.ensures ∙ unlink_again c.args.self c.args.reply c.args.at h
