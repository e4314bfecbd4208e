use Rattle.std.proofs.Common.{◌≡◌, ◌++◌, map}
use Rattle.dht_brick.specs.Contents.{store_of}
use Rattle.dht_brick.specs.Dump.{file_line}
use Rattle.dht_files.specs.Records.{files_in}
use Rattle.dht_files.proofs.records.Files.dump.Given as goal

-- the lines so far, and those of the records that are left
abbrev pub invariant-loop-file : goal.invariant-loop-file
invariant-loop-file g l =
    l.out.items ++ map (file_line l.brick (store_of (g.S.Slots.tables l.slots) (files_in l.self))) l.file-iterator
    ≡ l.initial.out.items ++ map (file_line l.brick (store_of (g.S.Slots.tables l.slots) (files_in l.self))) l.self.records.entries
