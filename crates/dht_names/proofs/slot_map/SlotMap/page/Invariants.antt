use Rattle.std.proofs.Common.{◌≡◌, ◌≤◌, ◌++◌, map, take, length}
use Rattle.std.specs.Prelude.{filter}
use Rattle.dht_brick.specs.Looks.{page_entry, is_on_page}
use Rattle.dht_names.proofs.RangeLemmas.{front, in_dir, is_seen_entry}
use Rattle.dht_names.proofs.SlotLemmas.{shown_slots}
use Rattle.dht_names.proofs.slot_map.SlotMap.page.Given as goal

-- the names so far, and those of the directory that are left, make the page
abbrev pub invariant-loop-key : goal.invariant-loop-key
invariant-loop-key l =
    (take 256 (l.page.items ++ map page_entry (shown_slots (filter is_seen_entry (front (in_dir l.dir l.after) l.key-iterator))))
    ≡ take 256 (map page_entry (filter (is_on_page l.dir l.after) (shown_slots l.self.kept.entries))))
    × (length l.page.items ≤ 256)
