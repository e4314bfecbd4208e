use Rattle.std.proofs.Common.{◌≡◌, ◌++◌, map, take}
use Rattle.dht_section.specs.Want.{name_key}
use Rattle.dht_section.proofs.want.add_names.Given as goal

abbrev pub invariant-loop-name : goal.invariant-loop-name
invariant-loop-name l = l.keys.items ≡ l.initial.keys.items ++ map name_key (take l.name-index l.names)
