use Rattle.std.proofs.Common.{sym, subst, ◌∙◌}
use Rattle.dht_resolve.proofs.LookupNotes.{unanswered_again, lookup_folder, lookup_found, lookup_learns, lookup_notes}
use Rattle.dht_resolve.proofs.LookupSteps.{lookup_moves}
use Rattle.dht_resolve.specs.Found.{IsDirFound, IsFound}
use Rattle.dht_resolve.specs.Lookup.{ended_turn, lookup_fault, lookup_layout, lookup_stage, lookup_taught, resolved}
use Rattle.dht_section.specs.Ended.{Learns}
use Rattle.dht_section.specs.Faults.{NotesFault}
use Rattle.dht_section.specs.Stages.{Moves}
use Rattle.dht_resolve.proofs.lookup.LookupMachine.take.Goals as goal

pub returns-clause-moves : goal.returns-clause-moves
returns-clause-moves c = subst (λ turn. Moves lookup_stage resolved c.args.self c.args.reply c.args.at turn) (sym c.after.ensures) (lookup_moves c.args.self c.args.reply c.args.at)

pub returns-clause-layout : goal.returns-clause-layout
returns-clause-layout c = subst (λ turn. Learns lookup_layout lookup_taught c.args.self c.args.reply (ended_turn turn)) (sym c.after.ensures) (lookup_learns c.args.self c.args.reply c.args.at)

pub returns-clause-fault : goal.returns-clause-fault
returns-clause-fault c = subst (λ turn. NotesFault lookup_fault c.args.self (lookup_stage c.args.self).asks.request c.args.reply (ended_turn turn)) (sym c.after.ensures) (lookup_notes c.args.self c.args.reply c.args.at)

pub returns-clause-found : goal.returns-clause-found
returns-clause-found c = λ f h. subst (λ turn. IsFound f c.args.at (ended_turn turn)) (sym c.after.ensures) (lookup_found c.args.self c.args.reply c.args.at f h)

pub returns-clause-folder : goal.returns-clause-folder
returns-clause-folder c = λ g h. subst (λ turn. IsDirFound g c.args.at (ended_turn turn)) (sym c.after.ensures) (lookup_folder c.args.self c.args.reply c.args.at g h)

pub returns-clause-again : goal.returns-clause-again
returns-clause-again c = λ h. c.after.ensures ∙ unanswered_again c.args.self c.args.reply c.args.at h
