use Rattle.std.proofs.Common.{◌≡◌, ◌++◌, take}
use Rattle.dht_sched.specs.Transcript.{dump_lines_text}
use Rattle.dht_run.proofs.replay.print_dump.Given as goal

abbrev pub invariant-loop-line : goal.invariant-loop-line
invariant-loop-line l = l.text.items ≡ l.initial.text.items ++ dump_lines_text (take l.line-index l.lines)
