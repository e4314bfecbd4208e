use Rattle.std.proofs.Common.{sym, subst, ◌∙◌}
use Rattle.dht_section.specs.Ended.{ended, Learns}
use Rattle.dht_section.specs.Faults.{NotesFault}
use Rattle.dht_section.specs.Stages.{Moves}
use Rattle.dht_dirops.proofs.RmdirNotes.{rmdir_again, rmdir_learns, rmdir_notes}
use Rattle.dht_dirops.proofs.RmdirSteps.{rmdir_moves}
use Rattle.dht_dirops.specs.Rmdir.{rmdir_fault, rmdir_layout, rmdir_stage, rmdir_taught}
use Rattle.dht_dirops.proofs.rmdir.RmdirMachine.take.Goals as goal

pub returns-clause-moves : goal.returns-clause-moves
returns-clause-moves c = subst (λ turn. Moves rmdir_stage ended c.args.self c.args.reply c.args.at turn) (sym c.after.ensures) (rmdir_moves c.args.self c.args.reply c.args.at)

pub returns-clause-layout : goal.returns-clause-layout
returns-clause-layout c = subst (λ turn. Learns rmdir_layout rmdir_taught c.args.self c.args.reply turn) (sym c.after.ensures) (rmdir_learns c.args.self c.args.reply c.args.at)

pub returns-clause-fault : goal.returns-clause-fault
returns-clause-fault c = subst (λ turn. NotesFault rmdir_fault c.args.self (rmdir_stage c.args.self).asks.request c.args.reply turn) (sym c.after.ensures) (rmdir_notes c.args.self c.args.reply c.args.at)

pub returns-clause-again : goal.returns-clause-again
returns-clause-again c = λ h. c.after.ensures ∙ rmdir_again c.args.self c.args.reply c.args.at h
