use Rattle.std.proofs.Common.{◌≡◌, ◌++◌, take}
use Rattle.dht_sched.specs.Transcript.{lines_text}
use Rattle.dht_run.proofs.replay.print_lines.Given as goal

abbrev pub invariant-loop-line : goal.invariant-loop-line
invariant-loop-line l = l.text.items ≡ l.initial.text.items ++ lines_text (take l.line-index l.lines)
