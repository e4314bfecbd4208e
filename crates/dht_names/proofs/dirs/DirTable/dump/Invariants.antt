use Rattle.std.proofs.Common.{◌≡◌, ◌++◌, map}
use Rattle.dht_brick.specs.Dump.{dir_line}
use Rattle.dht_names.proofs.dirs.DirTable.dump.Given as goal

-- the lines so far, and those of the records that are left
abbrev pub invariant-loop-dir : goal.invariant-loop-dir
invariant-loop-dir l = l.out.items ++ map (dir_line l.brick) l.dir-iterator ≡ l.initial.out.items ++ map (dir_line l.brick) l.self.kept.entries
