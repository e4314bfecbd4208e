use Rattle.std.proofs.Common.{rules, List, ℕ, subst, inl}
use Rattle.dht_membrick.specs.State.{mem_state}
use Rattle.dht_run.specs.Commands.{layout_text, IsPrinted}
use Rattle.dht_run.specs.Program.{IsLayout}
use Rattle.dht_run.specs.Status.{status_of}
use Rattle.dht_run.proofs.StartLaws.{nothing_done}
use Rattle.dht_run.proofs.WordLaws.{one_layout}
use Rattle.dht_run.proofs.run.obey.Goals as goal

pub returns-in-Ok-Some-Layout-clause-layout : goal.returns-in-Ok-Some-Layout-clause-layout
returns-in-Ok-Some-Layout-clause-layout g c = λ weights h.
    let words = c.args.words.now in
    let asked : IsLayout words c.in-Ok-Some-Layout.weights = search rules in
    subst (λ (ws : List ℕ). IsPrinted (layout_text ws) (g.K.Sink.taken c.args.sink.now) (g.K.Sink.taken c.print_layout.new.sink) (status_of c.print_layout.result))
    (one_layout words c.in-Ok-Some-Layout.weights weights asked h) c.print_layout.ensures.printed

pub returns-in-Err-clause-replay : goal.returns-in-Err-clause-replay
returns-in-Err-clause-replay g c = λ is_replay. inl (nothing_done mem_state c.args.shelf.now.mem.items _ _ c.requires.empty)
