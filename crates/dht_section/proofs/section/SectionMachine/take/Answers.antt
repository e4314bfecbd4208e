use Rattle.std.proofs.Common.{sym, subst, ap, ◌∙◌}
use Rattle.dht_section.proofs.SectionSteps.{section_moves, keeps_scope, names_gone, notes_fault, leaves_unlocks}
use Rattle.dht_section.proofs.TaughtLaws.{taught_at}
use Rattle.dht_section.specs.Section.{section_stage, opened_ending, KeepsScope, NamesGone, NotesFault, LeavesUnlocks, turn_layout}
use Rattle.dht_section.specs.Stages.{Moves}
use Rattle.dht_section.proofs.section.SectionMachine.take.Goals as goal

pub returns-clause-moves : goal.returns-clause-moves
returns-clause-moves c = subst (λ turn. Moves section_stage opened_ending c.args.self c.args.reply c.args.at turn) (sym c.after.ensures) (section_moves c.args.self c.args.reply c.args.at)

pub returns-clause-scope : goal.returns-clause-scope
returns-clause-scope c = subst (λ turn. KeepsScope c.args.self turn) (sym c.after.ensures) (keeps_scope c.args.self c.args.reply c.args.at)

pub returns-clause-fault : goal.returns-clause-fault
returns-clause-fault c = subst (λ turn. NotesFault c.args.self c.args.reply turn) (sym c.after.ensures) (notes_fault c.args.self c.args.reply c.args.at)

pub returns-clause-layout : goal.returns-clause-layout
returns-clause-layout c = λ e. ap (turn_layout e) c.after.ensures ∙ taught_at e c.args.self c.args.reply c.args.at 0

pub returns-clause-gone : goal.returns-clause-gone
returns-clause-gone c = λ s h. subst (λ turn. NamesGone c.args.self turn) (sym c.after.ensures) (names_gone c.args.self c.args.reply c.args.at s h)

pub returns-clause-left : goal.returns-clause-left
returns-clause-left c = λ s h. subst (λ turn. LeavesUnlocks c.args.self turn) (sym c.after.ensures) (leaves_unlocks c.args.self c.args.reply c.args.at s h)
