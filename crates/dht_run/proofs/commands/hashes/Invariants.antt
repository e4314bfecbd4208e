use Rattle.std.proofs.Common.{◌≡◌, take}
use Rattle.dht_run.specs.Commands.{hash_text}
use Rattle.dht_run.proofs.commands.hashes.Given as goal

abbrev pub invariant-loop-name : goal.invariant-loop-name
invariant-loop-name l = l.text.items ≡ hash_text (take l.name-index l.names)
