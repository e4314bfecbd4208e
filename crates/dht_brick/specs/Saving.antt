-- The records of directories and files as they are saved, and brought back.
use Rattle.std.specs.Prelude.{◌≡◌, Option, Some, None, List, [], ◌∷◌, map, filter, find}
use Rattle.std.specs.Option.{option_map}
use Rattle.std.specs.FinMap.{FinMap, get, insert, remove, entries, keys}
use Rattle.dht_types.specs.Gfid.{Entry, same_gfid}
use Rattle.dht_types.specs.declared.identifiers.Gfid.{Gfid}
use Rattle.dht_types.specs.Saved.{IsSpelledDir, IsSpelledFile}
use Rattle.dht_types.specs.declared.saved.Saved.{Saved}
use Rattle.dht_types.specs.declared.saved.Saved.TheVariants as saved
use Rattle.dht_types.specs.declared.saved.SavedDir.{SavedDir}
use Rattle.dht_types.specs.declared.saved.SavedFile.{SavedFile}
use Rattle.dht_types.specs.declared.saved.SavedSlot.{SavedSlot}
use Rattle.dht_types.specs.declared.stored.Slot.{Slot}
use Rattle.dht_brick.specs.Contents.{Tables, Slots, Files, gfid_cmp}
use Rattle.dht_brick.specs.Looks.{is_gfid_above}
use Rattle.dht_brick.specs.Parts.{slots_outside}

-- the least key above one, or the first of all
abbrev pub key_above : {X : Type 0} → FinMap gfid_cmp X → Option Gfid → Option Gfid
key_above m after = find (is_gfid_above after) (keys m)

-- ---- directories

abbrev pub saved_slot : Entry × Slot → SavedSlot
saved_slot e = record { name = e.0.1; slot = e.1 }

-- the slots in a directory, by their names
unfoldable pub slots_saved : Slots → Gfid → List SavedSlot
slots_saved slots g = map saved_slot (filter (λ e. same_gfid g e.0.0) (entries slots))

abbrev pub dir_saved : Tables → Gfid → Option SavedDir
dir_saved t g =
    option_map (λ r. record { gfid = g; dir = r; slots = slots_saved t.slots g }) (get t.dirs g)

-- with these slots in a directory too
abbrev pub slots_restored : Gfid → List SavedSlot → Slots → Slots
slots_restored g [] slots = slots
slots_restored g (p ∷ ps) slots = insert (slots_restored g ps slots) (g, p.name) p.slot

-- the record of a directory and its slots are these, or are gone
abbrev pub dir_restored : Gfid → Option SavedDir → Tables → Tables
dir_restored g None t = record t { dirs = remove t.dirs g; slots = slots_outside t.slots g }
dir_restored g (Some d) t = record t {
  dirs = insert t.dirs g d.dir;
  slots = slots_restored g d.slots (slots_outside t.slots g);
}

abbrev pub dir_in : Saved → Option SavedDir
dir_in (saved.Dir d) = Some d
dir_in s = None

-- it is a record of this directory, and has a spelling
abbrev pub IsDirOf : Gfid → Saved → Type 0
IsDirOf g (saved.Dir d) = (d.gfid ≡ g) × IsSpelledDir d
IsDirOf g s = ⊥

-- ---- files

abbrev pub file_saved : Files → Gfid → Option SavedFile
file_saved files f = option_map (λ r. record { gfid = f; file = r }) (get files f)

abbrev pub file_restored : Gfid → Option SavedFile → Files → Files
file_restored f None files = remove files f
file_restored f (Some s) files = insert files f s.file

abbrev pub file_in : Saved → Option SavedFile
file_in (saved.File s) = Some s
file_in s = None

-- it is a record of this file, and has a spelling
abbrev pub IsFileOf : Gfid → Saved → Type 0
IsFileOf f (saved.File s) = (s.gfid ≡ f) × IsSpelledFile s
IsFileOf f s = ⊥
