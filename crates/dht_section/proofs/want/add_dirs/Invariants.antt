use Rattle.std.proofs.Common.{◌≡◌, ◌++◌, map, take}
use Rattle.dht_section.specs.Want.{dir_key}
use Rattle.dht_section.proofs.want.add_dirs.Given as goal

abbrev pub invariant-loop-dir : goal.invariant-loop-dir
invariant-loop-dir l = l.keys.items ≡ l.initial.keys.items ++ map dir_key (take l.dir-index l.dirs)
