-- The parts of slots and the states of records, tested and changed.
use Rattle.std.specs.Prelude.{ℕ, Bool, true, false, ◌&&◌, ◌||◌, not, ◌==◌, if◌then◌else◌, is_none, is_some, Option, Some, None}
use Rattle.std.specs.Option.{option_map}
use Rattle.std.specs.FinMap.{insert, remove, retain_keys}
use Rattle.dht_types.specs.Gfid.{Entry, same_gfid}
use Rattle.dht_types.specs.declared.identifiers.Gfid.{Gfid}
use Rattle.dht_types.specs.declared.stored.DirRecord.{DirRecord}
use Rattle.dht_types.specs.declared.stored.Main.{Main}
use Rattle.dht_types.specs.declared.stored.Main.TheVariants.{Dir, File, Linkto}
use Rattle.dht_types.specs.declared.stored.Standby.{Standby}
use Rattle.dht_types.specs.declared.stored.Standby.TheVariants.{StandLink, Copy}
use Rattle.dht_types.specs.declared.stored.Slot.{Slot}
use Rattle.dht_types.specs.declared.stored.Record.{Record}
use Rattle.dht_types.specs.declared.stored.Record.TheVariants.{Live, Moving, Standby as Copied, Forward}
use Rattle.dht_guard.specs.declared.records.State.{State}
use Rattle.dht_guard.specs.declared.records.State.TheVariants as state
use Rattle.dht_brick.specs.Contents.{Store, Slots}
use Rattle.dht_brick.specs.declared.replies.MainShown.{MainShown}
use Rattle.dht_brick.specs.declared.replies.MainShown.TheVariants as shown
use Rattle.dht_brick.specs.declared.replies.SlotShown.{SlotShown}

-- ---- main parts

-- the name stands for nothing here: there is no main part, or a linkto
abbrev pub is_vacant : Option Main → Bool
is_vacant None = true
is_vacant (Some (Linkto value)) = true
is_vacant m = false

abbrev pub is_linkto : Option Main → Bool
is_linkto (Some (Linkto value)) = true
is_linkto m = false

-- this directory
abbrev pub is_dir : Gfid → Option Main → Bool
is_dir g (Some (Dir h)) = same_gfid g h
is_dir g m = false

-- this file, marked or not
abbrev pub is_file : Gfid → Option Main → Bool
is_file f (Some (File g over)) = same_gfid f g
is_file f m = false

-- this file, not marked
abbrev pub is_plain : Gfid → Option Main → Bool
is_plain f (Some (File g None)) = same_gfid f g
is_plain f m = false

-- this file, marked
abbrev pub is_contested : Gfid → Option Main → Bool
is_contested f (Some (File g (Some b))) = same_gfid f g
is_contested f m = false

-- this file, marked for the brick of this number
abbrev pub is_over : Gfid → ℕ → Option Main → Bool
is_over f brick (Some (File g (Some b))) = same_gfid f g && (brick == b.0)
is_over f brick m = false

-- ---- standby parts

abbrev pub is_standlink : Gfid → Option Standby → Bool
is_standlink f (Some (StandLink g)) = same_gfid f g
is_standlink f p = false

abbrev pub is_copy : Gfid → Option Standby → Bool
is_copy f (Some (Copy g)) = same_gfid f g
is_copy f p = false

-- ---- slots

abbrev pub is_bare : Slot → Bool
is_bare s = is_none s.main && is_none s.standby

-- the name stands for nothing, and for nothing to come
abbrev pub is_free : Slot → Bool
is_free s = is_vacant s.main && is_none s.standby

-- the name is a directory's or a file's, or may become a file's
abbrev pub is_visible : Slot → Bool
is_visible s = not (is_vacant s.main) || is_some s.standby

abbrev pub with_main : Slot → Main → Slot
with_main p m = record p { main = Some m }

abbrev pub without_main : Slot → Slot
without_main p = record p { main = None }

abbrev pub with_standby : Slot → Standby → Slot
with_standby p x = record p { standby = Some x }

abbrev pub without_standby : Slot → Slot
without_standby p = record p { standby = None }

abbrev pub main_shown : Main → MainShown
main_shown (Dir g) = shown.Dir g
main_shown (File f over) = shown.File f over
main_shown (Linkto value) = shown.Linkto

-- without the value of a linkto
abbrev pub slot_shown : Slot → SlotShown
slot_shown s = record { main = option_map main_shown s.main; standby = s.standby }

-- ---- states of records

abbrev pub state_of : Option Record → State
state_of None = state.Absent
state_of (Some (Live hop bytes)) = state.Live
state_of (Some (Moving hop dest bytes)) = state.Moving
state_of (Some (Copied c)) = state.Standby
state_of (Some (Forward hop brick)) = state.Forward

abbrev pub is_live : Option Record → Bool
is_live (Some (Live hop bytes)) = true
is_live r = false

abbrev pub is_forward : Option Record → Bool
is_forward (Some (Forward hop brick)) = true
is_forward r = false

-- ---- changes of a store, at one key each

-- a slot with no part is not kept
abbrev pub put_slot : Slots → Entry → Slot → Slots
put_slot slots e p = if is_bare p then remove slots e else insert slots e p

abbrev pub with_dir : Store → Gfid → DirRecord → Store
with_dir s g r = record s { dirs = insert s.dirs g r }

abbrev pub with_slot : Store → Entry → Slot → Store
with_slot s e p = record s { slots = put_slot s.slots e p }

abbrev pub with_file : Store → Gfid → Record → Store
with_file s f r = record s { files = insert s.files f r }

abbrev pub without_file : Store → Gfid → Store
without_file s f = record s { files = remove s.files f }

-- without the slots in a directory
abbrev pub slots_outside : Slots → Gfid → Slots
slots_outside slots g = retain_keys slots (λ e. not (same_gfid g e.0))

-- without a directory's record and the slots in it
abbrev pub without_dir : Store → Gfid → Store
without_dir s g = record s { dirs = remove s.dirs g; slots = slots_outside s.slots g }
