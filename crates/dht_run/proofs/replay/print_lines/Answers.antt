use Rattle.std.proofs.Common.{◌++◌, ◌∙◌, ap, sym, append-nil, arith}
use Rattle.dht_sched.specs.Transcript.{line_text, lines_text}
use Rattle.dht_run.proofs.PrintLaws.{one_more, all_done}
use Rattle.dht_run.proofs.replay.print_lines.Goals as goal

pub loop-line-init : goal.loop-line-init
unfolding lines_text
loop-line-init c = sym (append-nil c.args.text.now.items)

pub loop-line-preserved : goal.loop-line-preserved
unfolding lines_text
loop-line-preserved c =
    let told = c.in_ok-print_line.ensures.ok ∙ ap (λ x. c.loop-line.text.items ++ line_text x) c.line-item.is in
    one_more line_text c.args.text.now.items c.loop-line.text.items _ c.args.lines.now c.loop-line.line-index c.line-item.result c.loop-line-test.true c.loop-line.invariant told

pub returns : goal.returns
unfolding lines_text
returns c = all_done line_text c.args.text.now.items c.loop-line.text.items c.args.lines.now c.loop-line.line-index (omega arith) c.loop-line.invariant
