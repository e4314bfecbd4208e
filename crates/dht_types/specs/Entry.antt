-- The order of names in directories, as keys of a map.
use Rattle.std.specs.Ordering.{nat_cmp, on, then_cmp}
use Rattle.std.specs.Cmp.Lexicographic.{slice_cmp}
use Rattle.std.specs.declared.cmp.Ordering.{Ordering}
use Rattle.dht_types.specs.declared.names.EntryKey.{EntryKey}

-- by the directories' numbers, and then by the names' bytes
abbrev pub entry_cmp : EntryKey → EntryKey → Ordering
entry_cmp = then_cmp (on (λ e. e.dir.0) nat_cmp) (on (λ e. e.name) (slice_cmp nat_cmp))
