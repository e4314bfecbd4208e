use Rattle.std.proofs.Common.{◌∙◌, ap, List, ℕ, subst}
use Rattle.dht_run.specs.Commands.{ranges_text, layout_text, IsPrinted}
use Rattle.dht_run.specs.Status.{status_of}
use Rattle.dht_run.proofs.commands.print_layout.Goals as goal

pub returns-in-Ok-ranges-clause-printed : goal.returns-in-Ok-ranges-clause-printed
unfolding layout_text
returns-in-Ok-ranges-clause-printed g c =
    let text = c.deref.ensures.value ∙ (c.in-Ok-ranges.ensures ∙ ap (ranges_text 0) c.in-Ok.ensures.planned) in
    subst (λ (t : List ℕ). IsPrinted t (g.K.Sink.taken c.args.sink.now) (g.K.Sink.taken c.write_text.new.sink) (status_of c.write_text.result)) text c.write_text.ensures.printed
