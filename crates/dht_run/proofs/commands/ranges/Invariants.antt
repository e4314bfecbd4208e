use Rattle.std.proofs.Common.{◌≡◌, take}
use Rattle.dht_run.specs.Commands.{ranges_text}
use Rattle.dht_run.proofs.commands.ranges.Given as goal

abbrev pub invariant-loop-brick : goal.invariant-loop-brick
invariant-loop-brick l = l.text.items ≡ ranges_text 0 (take l.brick l.layout)
