-- What the requests show that change nothing.
use Rattle.std.specs.Prelude.{ℕ, Bool, true, ◌&&◌, ◌==◌, Option, Some, None, List, [], length, map, filter, take}
use Rattle.std.specs.Option.{option_map}
use Rattle.std.specs.FinMap.{entries}
use Rattle.std.specs.Ordering.{is_lt, nat_cmp}
use Rattle.std.specs.Cmp.Lexicographic.{slice_cmp}
use Rattle.dht_types.specs.Gfid.{Entry, same_gfid}
use Rattle.dht_types.specs.declared.identifiers.Gfid.{Gfid}
use Rattle.dht_types.specs.declared.identifiers.BrickNo.{BrickNo}
use Rattle.dht_types.specs.declared.stored.DirRecord.{DirRecord}
use Rattle.dht_types.specs.declared.stored.Main.{Main}
use Rattle.dht_types.specs.declared.stored.Main.TheVariants.{Dir, File}
use Rattle.dht_types.specs.declared.stored.Standby.{Standby}
use Rattle.dht_types.specs.declared.stored.Standby.TheVariants.{StandLink, Copy}
use Rattle.dht_types.specs.declared.stored.Slot.{Slot}
use Rattle.dht_types.specs.declared.stored.Record.{Record}
use Rattle.dht_types.specs.declared.stored.Record.TheVariants.{Live, Moving, Standby as Copied, Forward}
use Rattle.dht_brick.specs.Contents.{Store, Slots, gfid_cmp, slot, file}
use Rattle.dht_brick.specs.Parts.{is_visible, is_live, state_of}
use Rattle.dht_brick.specs.Links.{links, is_occupied}
use Rattle.dht_brick.specs.declared.replies.FileLook.{FileLook}
use Rattle.dht_brick.specs.declared.replies.Look.{Look}
use Rattle.dht_brick.specs.declared.replies.DirInfo.{DirInfo}
use Rattle.dht_brick.specs.declared.replies.Stat.{Stat}
use Rattle.dht_brick.specs.declared.replies.PageEntry.{PageEntry}
use Rattle.dht_brick.specs.declared.shapes.Shape.{Shape}

-- ---- the numbers of a record

abbrev pub hop_of : Record → ℕ
hop_of (Live hop bytes) = hop
hop_of (Moving hop dest bytes) = hop
hop_of (Copied c) = c.hop
hop_of (Forward hop brick) = hop

abbrev pub bytes_of : Record → List ℕ
bytes_of (Live hop bytes) = bytes
bytes_of (Moving hop dest bytes) = bytes
bytes_of (Copied c) = c.bytes
bytes_of (Forward hop brick) = []

-- the brick that it names, or else 0
abbrev pub brick_of : Record → BrickNo
brick_of (Live hop bytes) = record { 0 = 0 }
brick_of (Moving hop dest bytes) = dest
brick_of (Copied c) = c.source
brick_of (Forward hop brick) = brick

-- where the file is being copied to, if it is
abbrev pub dest_of : Option Record → Option BrickNo
dest_of (Some (Moving hop dest bytes)) = Some dest
dest_of r = None

-- each number is 0 where there is no record
abbrev pub shape_of : Option Record → Shape
shape_of None = record { state = state_of None; hop = 0; brick = record { 0 = 0 }; length = 0 }
shape_of (Some r) = record {
  state = state_of (Some r);
  hop = hop_of r;
  brick = brick_of r;
  length = length (bytes_of r);
}

abbrev pub file_hop : Store → Gfid → ℕ
file_hop s f = (shape_of (file s f)).hop

-- ---- a look at a name

abbrev pub file_look : Store → Gfid → FileLook
file_look s f = record {
  state = state_of (file s f);
  hop = file_hop s f;
  dest = dest_of (file s f);
  links = links s.slots f;
}

-- the file whose name is readied
abbrev pub readied : Option Standby → Option Gfid
readied (Some (StandLink f)) = Some f
readied p = None

-- the file of a name, or else another one
abbrev pub file_or : Option Main → Option Gfid → Option Gfid
file_or (Some (File f over)) other = Some f
file_or m other = other

-- the file of the name, or else the one for which it is readied
abbrev pub file_or_readied : Slot → Option Gfid
file_or_readied p = file_or p.main (readied p.standby)

-- the file whose copy is at the name
abbrev pub copy_at : Option Standby → Option Gfid
copy_at (Some (Copy f)) = Some f
copy_at p = None

abbrev pub look_of : Store → Entry → DirRecord → Look
look_of s e r = record {
  slot = slot s e;
  file = option_map (file_look s) (file_or_readied (slot s e));
  copy = option_map (file_hop s) (copy_at (slot s e).standby);
  value = r.value;
}

abbrev pub info_of : Store → Gfid → DirRecord → DirInfo
info_of s g r = record {
  place = r.place;
  depth = r.depth;
  value = r.value;
  is_occupied = is_occupied s.slots g;
}

abbrev pub stat_of : Store → Gfid → Record → Stat
stat_of s f r = record {
  length = length (bytes_of r);
  hop = hop_of r;
  links = links s.slots f;
  dest = dest_of (Some r);
}

-- ---- pages

abbrev pub page_size : ℕ
page_size = 256

-- a name is above another one, or there is no other one
abbrev pub is_name_above : Option (List ℕ) → List ℕ → Bool
is_name_above None name = true
is_name_above (Some after) name = is_lt (slice_cmp nat_cmp after name)

abbrev pub is_on_page : Gfid → Option (List ℕ) → Entry × Slot → Bool
is_on_page d after e = same_gfid d e.0.0 && is_visible e.1 && is_name_above after e.0.1

abbrev pub dir_at : Option Main → Option Gfid
dir_at (Some (Dir g)) = Some g
dir_at m = None

abbrev pub page_entry : Entry × Slot → PageEntry
page_entry e = record { name = e.0.1; dir = dir_at e.1.main }

-- the visible names of a directory above one, in their order
unfoldable pub page_of : Slots → Gfid → Option (List ℕ) → List PageEntry
page_of slots d after =
    take page_size (map page_entry (filter (is_on_page d after) (entries slots)))

abbrev pub is_gfid_above : Option Gfid → Gfid → Bool
is_gfid_above None f = true
is_gfid_above (Some after) f = is_lt (gfid_cmp after f)

abbrev pub is_orphan : Store → Option Gfid → Gfid × Record → Bool
is_orphan s after e = is_gfid_above after e.0 && is_live (Some e.1) && (links s.slots e.0 == 0)

-- the files above one that are here and have no links, in their order
unfoldable pub orphans_of : Store → Option Gfid → List Gfid
orphans_of s after = take page_size (map (λ e. e.0) (filter (is_orphan s after) (entries s.files)))
