-- What all bricks show of one name, one file or one directory: functions of the brick's number.
-- A part of the invariant reads the view of one thing, so it stands wherever this view does.
use Rattle.std.specs.Prelude.{ℕ, Bool, ◌||◌, Option, Some, None}
use Rattle.std.specs.Option.{option_map}
use Rattle.dht_types.specs.Gfid.{Entry, anchor}
use Rattle.dht_types.specs.declared.identifiers.Gfid.{Gfid}
use Rattle.dht_types.specs.declared.stored.DirRecord.{DirRecord}
use Rattle.dht_types.specs.declared.stored.Main.{Main}
use Rattle.dht_types.specs.declared.stored.Main.TheVariants.{Linkto}
use Rattle.dht_types.specs.declared.stored.Slot.{Slot}
use Rattle.dht_types.specs.declared.stored.Record.{Record}
use Rattle.dht_brick.specs.OpenRows.{registrations, is_sealed}
use Rattle.dht_brick.specs.Parts.{is_dir, is_file, is_plain, is_copy, is_standlink}
use Rattle.dht_section.specs.Disk.{Disk, slot_at, file_at, dir_at}

-- a main part, where it is no linkto
abbrev pub visible : Option Main → Option Main
visible (Some (Linkto value)) = None
visible m = m

-- a slot without its linkto: linktos are hints, of which the invariant does not speak
abbrev pub core : Slot → Slot
core p = record { main = visible p.main; standby = p.standby }

-- what all bricks have at a name
abbrev pub cores_of : Disk → Entry → ℕ → Slot
cores_of d e b = core (slot_at d b e)

-- the name is the file's, or is readied for it
abbrev pub links_to : Gfid → Slot → Bool
links_to f p = is_file f p.main || is_standlink f p.standby

-- what all bricks show of a file
pub record FileView : Type 0 where
  pub records : ℕ → Option Record
  pub links : ℕ → Entry → Bool  -- where a name is its, or is readied for it
  pub unmarked : ℕ → Entry → Bool  -- where a name is its, and is not marked
  pub copies : ℕ → Entry → Bool  -- where a name has its copy
  pub opened : ℕ  -- how many registrations it has at its anchor
  pub sealed : Bool

abbrev pub view_of : Disk → Gfid → FileView
view_of d f = record {
  records = λ b. file_at d b f;
  links = λ b e. links_to f (slot_at d b e);
  unmarked = λ b e. is_plain f (slot_at d b e).main;
  copies = λ b e. is_copy f (slot_at d b e).standby;
  opened = registrations (d.brick (anchor f d.count)).opens f;
  sealed = is_sealed (d.brick (anchor f d.count)).opens f;
}

-- what all bricks show of a directory
pub record DirView : Type 0 where
  pub copies : ℕ → Option DirRecord
  pub mains : ℕ → Entry → Bool  -- where a name is its
  pub depths : ℕ → Gfid → Option ℕ  -- how deep each directory is, by its copy

abbrev pub dir_view : Disk → Gfid → DirView
dir_view d g = record {
  copies = λ b. dir_at d b g;
  mains = λ b e. is_dir g (slot_at d b e).main;
  depths = λ b p. option_map (λ (r : DirRecord). r.depth) (dir_at d b p);
}
