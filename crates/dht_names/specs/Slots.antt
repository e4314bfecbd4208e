-- What the map of the slots of a brick in memory contains.
use Rattle.std.specs.Prelude.{ℕ, Option, Some, None, List, [], map}
use Rattle.std.specs.declared.ops.Bound.{Bound}
use Rattle.std.specs.declared.ops.Bound.TheVariants.{Included, Excluded}
use Rattle.std.specs.Option.{option_map}
use Rattle.std.specs.FinMap.{from_entries}
use Rattle.dht_types.specs.declared.identifiers.Gfid.{Gfid}
use Rattle.dht_types.specs.declared.names.EntryKey.{EntryKey}
use Rattle.dht_types.specs.declared.stored.Main.{Main}
use Rattle.dht_types.specs.declared.stored.Main.TheVariants.{Dir, File, Linkto}
use Rattle.dht_types.specs.declared.stored.Slot.{Slot}
use Rattle.dht_brick.specs.Contents.{Slots, entry_at, entry_cmp}
use Rattle.dht_names.specs.declared.kept.KeptMain.{KeptMain}
use Rattle.dht_names.specs.declared.kept.KeptMain.TheVariants as kept
use Rattle.dht_names.specs.declared.kept.KeptSlot.{KeptSlot}
use Rattle.dht_names.specs.declared.slot_map.SlotMap.{SlotMap}

-- the main part that is kept, whether the value of a linkto is short or long
abbrev pub main_of : KeptMain → Main
main_of (kept.Dir g) = Dir g
main_of (kept.File f over) = File f over
main_of (kept.Short value) = Linkto value
main_of (kept.Long value) = Linkto value

abbrev pub slot_of : KeptSlot → Slot
slot_of k = record { main = option_map main_of k.main; standby = k.standby }

-- the slots
unfoldable pub map_in : SlotMap → Slots
map_in t = from_entries {R = entry_cmp} (map (λ e. (entry_at e.0, slot_of e.1)) t.kept.entries)

-- where the names of a directory above one begin, or all of them
abbrev pub start_of : Gfid → Option (List ℕ) → Bound EntryKey
start_of d None = Included (record { dir = d; name = [] })
start_of d (Some after) = Excluded (record { dir = d; name = after })
