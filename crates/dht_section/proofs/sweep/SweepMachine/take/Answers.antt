use Rattle.std.proofs.Common.{sym, subst, ◌∙◌, [], None}
use Rattle.dht_section.proofs.SweepSteps.{sweep_moves, lone_moves, sweep_noted, sweep_again}
use Rattle.dht_section.specs.Parts.{EndsByFault, part_ending}
use Rattle.dht_section.specs.Stages.{Moves}
use Rattle.dht_section.specs.Sweep.{IsSwept, lone_sweep, lone_swept, sweep_stage}
use Rattle.dht_section.proofs.sweep.SweepMachine.take.Goals as goal

pub returns-clause-moves : goal.returns-clause-moves
returns-clause-moves c = subst (λ turn. Moves lone_sweep lone_swept c.args.self c.args.reply c.args.at turn) (sym c.after.ensures) (lone_moves c.args.self c.args.reply c.args.at)

pub returns-clause-within : goal.returns-clause-within
returns-clause-within c = λ locks found. subst (λ turn. Moves (sweep_stage locks found) (part_ending locks (IsSwept c.args.self.location found)) c.args.self c.args.reply c.args.at turn) (sym c.after.ensures) (sweep_moves locks found c.args.self c.args.reply c.args.at)

pub returns-clause-fault : goal.returns-clause-fault
returns-clause-fault c = subst (λ turn. EndsByFault c.args.reply turn) (sym c.after.ensures) (sweep_noted c.args.self c.args.reply)

pub returns-clause-again : goal.returns-clause-again
returns-clause-again c = λ h. c.after.ensures ∙ sweep_again [] None c.args.self c.args.reply h
