use Rattle.std.proofs.Common.{◌≡◌, ◌++◌, ◌-◌, ◌≤◌, map, length}
use Rattle.std.specs.Prelude.{None, filter, take}
use Rattle.std.specs.BTreeMap.Range.{entries_between}
use Rattle.std.specs.declared.ops.Bound.TheVariants.{Unbounded}
use Rattle.dht_brick.specs.Contents.{gfid_cmp, store_of}
use Rattle.dht_brick.specs.Looks.{is_orphan}
use Rattle.dht_brick.specs.Order.{gfids_from}
use Rattle.dht_files.specs.Records.{files_in}
use Rattle.dht_files.proofs.records.Files.orphans.Given as goal

-- the files so far, and those that are left
abbrev pub invariant-loop-file : goal.invariant-loop-file
invariant-loop-file g l =
    (length l.each.items ≤ 256) ×
    (l.each.items ++ take (256 - length l.each.items) (map (λ e. e.0) (filter (is_orphan (store_of (g.S.Slots.tables l.slots) (files_in l.self)) None) l.file-iterator))
    ≡ take 256 (map (λ e. e.0) (filter (is_orphan (store_of (g.S.Slots.tables l.slots) (files_in l.self)) None) (entries_between gfid_cmp (gfids_from l.fn.after) Unbounded l.self.records.entries))))
