-- The rows of the requests about a file's record. The table of dht_guard decides first.
use Rattle.std.specs.Prelude.{ℕ, ◌+◌, ◌-◌, ◌^◌, Bool, true, false, ◌&&◌, ◌||◌, not, ◌==◌, if◌then◌else◌, is_none, Option, Some, None, List, [], ◌∷◌, min}
use Rattle.std.specs.Str.{bytes_eq}
use Rattle.dht_types.specs.Gfid.{Entry, same_gfid}
use Rattle.dht_types.specs.Content.{read_at, written, cut_to}
use Rattle.dht_types.specs.Linkto.{linkto_value}
use Rattle.dht_types.specs.declared.identifiers.Gfid.{Gfid}
use Rattle.dht_types.specs.declared.identifiers.BrickNo.{BrickNo}
use Rattle.dht_types.specs.declared.stored.Main.TheVariants.{File, Linkto}
use Rattle.dht_types.specs.declared.stored.Standby.TheVariants as standby
use Rattle.dht_types.specs.declared.stored.Slot.{Slot}
use Rattle.dht_types.specs.declared.stored.StandbyRecord.{StandbyRecord}
use Rattle.dht_types.specs.declared.stored.Record.{Record}
use Rattle.dht_types.specs.declared.stored.Record.TheVariants.{Live, Moving, Standby as Copied, Forward}
use Rattle.dht_guard.specs.FileTable.{file_cell_of}
use Rattle.dht_guard.specs.declared.cells.Cell.{Cell}
use Rattle.dht_guard.specs.declared.cells.Cell.TheVariants as cell
use Rattle.dht_brick.specs.Contents.{Store, dir, slot, file, bare}
use Rattle.dht_brick.specs.Parts.{is_plain, is_vacant, is_copy, slot_shown, state_of, with_main, with_standby, without_standby, put_slot, with_slot, with_file, without_file}
use Rattle.dht_brick.specs.Links.{links, is_marked}
use Rattle.dht_brick.specs.Looks.{bytes_of, hop_of, stat_of}
use Rattle.dht_brick.specs.Kinds.{row_of}
use Rattle.dht_brick.specs.Named.{file_of}
use Rattle.dht_brick.specs.Outcome.{Outcome, Do, Refuse, in_dir, unless}
use Rattle.dht_brick.specs.declared.replies.Given.TheVariants as given
use Rattle.dht_brick.specs.declared.replies.Why.{Why}
use Rattle.dht_brick.specs.declared.replies.Why.TheVariants as why
use Rattle.dht_brick.specs.declared.requests.Change.{Change}
use Rattle.dht_brick.specs.declared.requests.Change.TheVariants as change
use Rattle.dht_brick.specs.declared.requests.FileRequest.{FileRequest}
use Rattle.dht_brick.specs.declared.requests.FileRequest.TheVariants.{Read, Write, LockedWrite, Truncate, LockedTruncate, Stat, Mark, Unmark, MakeStandby, StandbyWrite, CopyWrite, ClearDirty, DropStandby, Demote, Promote, Drop}

-- the refusal that names the state of a record
abbrev pub state_refusal : Option Record → Why
state_refusal None = why.Absent
state_refusal (Some (Live hop bytes)) = why.Live
state_refusal (Some (Moving hop dest bytes)) = why.Moving dest
state_refusal (Some (Copied c)) = why.Standby c.source c.hop
state_refusal (Some (Forward hop brick)) = why.Forward brick hop

-- one hop more or less; hops stop at 0 and at 2^64 - 1
abbrev pub hop_above : ℕ → ℕ
hop_above hop = min (hop + 1) (2 ^ 64 - 1)

abbrev pub hop_below : ℕ → ℕ
hop_below hop = hop - 1

-- ---- what the table lets through, by the record; elsewhere the refusal names the state

abbrev pub refused : Option Record → Outcome Store
refused r = Refuse (state_refusal r)

abbrev pub saved : Store → Gfid → Record → Outcome Store
saved s f r = Do given.Nothing (with_file s f r)

abbrev pub on_record : Option Record → (Record → Outcome Store) → Outcome Store
on_record None outcome = refused None
on_record (Some r) outcome = outcome r

abbrev pub on_moving : Option Record → (ℕ → BrickNo → List ℕ → Outcome Store) → Outcome Store
on_moving (Some (Moving hop dest bytes)) outcome = outcome hop dest bytes
on_moving r outcome = refused r

abbrev pub on_standby : Option Record → (StandbyRecord → Outcome Store) → Outcome Store
on_standby (Some (Copied c)) outcome = outcome c
on_standby r outcome = refused r

-- the file's bytes change
abbrev pub on_bytes : Option Record → Store → Gfid → (List ℕ → List ℕ) → Outcome Store
on_bytes (Some (Live hop bytes)) s f changed = saved s f (Live hop (changed bytes))
on_bytes (Some (Moving hop dest bytes)) s f changed = saved s f (Moving hop dest (changed bytes))
on_bytes r s f changed = refused r

-- ---- further conditions

-- a file that is to be moved has one link, and its name is not marked for a rename
abbrev pub mark_row : Store → Gfid → BrickNo → Record → Outcome Store
mark_row s f dest r =
    if (links s.slots f == 1) && not (is_marked s.slots f)
    then saved s f (Moving (hop_of r) dest (bytes_of r))
    else Refuse (why.Links (links s.slots f))

-- a copy is made at a name that stands for nothing here, and for no other file to come
abbrev pub takes_copy : Gfid → Slot → Bool
takes_copy f p = (is_none p.standby || is_copy f p.standby) && is_vacant p.main

-- a copy that is here is emptied, where it is of the same name, source and hop
abbrev pub is_same_copy : StandbyRecord → Entry → BrickNo → ℕ → Bool
is_same_copy c e source hop =
    (source.0 == c.source.0) && (hop == c.hop) && same_gfid e.0 c.dir && bytes_eq e.1 c.name

abbrev pub emptied : Store → Gfid → Entry → BrickNo → ℕ → StandbyRecord → Outcome Store
emptied s f e source hop c =
    if is_same_copy c e source hop
    then saved s f (Copied (record c { is_dirty = false; bytes = [] }))
    else refused (Some (Copied c))

abbrev pub new_copy : Entry → BrickNo → ℕ → Record
new_copy e source hop =
    Copied
    (record { hop = hop; source = source; is_dirty = false; dir = e.0; name = e.1; bytes = [] })

abbrev pub copy_made : Store → Gfid → Entry → BrickNo → ℕ → Option Record → Outcome Store
copy_made s f e source hop (Some (Copied c)) = emptied s f e source hop c
copy_made s f e source hop r =
    saved (with_slot s e (with_standby (slot s e) (standby.Copy f))) f (new_copy e source hop)

abbrev pub standby_row : Store → Gfid → Entry → BrickNo → ℕ → Option Record → Outcome Store
standby_row s f e source hop r =
    in_dir (dir s e.0)
    (λ d. if takes_copy f (slot s e)
    then copy_made s f e source hop r
    else Refuse (why.Slot (slot_shown (slot s e))))

-- a writer's change of the bytes
abbrev pub changed : Change → List ℕ → List ℕ
changed (change.Write offset piece) bytes = written bytes offset piece
changed (change.Cut size) bytes = cut_to bytes size

-- a copy that is not dirty becomes dirty by a writer's change
abbrev pub standby_write : Store → Gfid → Change → StandbyRecord → Outcome Store
standby_write s f q c =
    unless c.is_dirty why.Dirty
    (saved s f (Copied (record c { is_dirty = true; bytes = changed q c.bytes })))

-- it takes bytes of its source; no bytes change nothing
abbrev pub copied_in : List ℕ → ℕ → List ℕ → List ℕ
copied_in bytes offset [] = bytes
copied_in bytes offset (b ∷ piece) = written bytes offset (b ∷ piece)

abbrev pub copy_write : Store → Gfid → ℕ → List ℕ → StandbyRecord → Outcome Store
copy_write s f offset piece c =
    unless c.is_dirty why.Dirty
    (saved s f (Copied (record c { bytes = copied_in c.bytes offset piece })))

-- the name of a copy, where the copy stands there
abbrev pub copy_name : StandbyRecord → Entry
copy_name c = (c.dir, c.name)

abbrev pub without_copy : Store → Gfid → Entry → Store
without_copy s f e = record s {
  slots =
      if is_copy f (slot s e).standby
      then put_slot s.slots e (without_standby (slot s e))
      else s.slots;
}

-- a copy is given up for a pointer to its source
abbrev pub drop_standby : Store → Gfid → StandbyRecord → Outcome Store
drop_standby s f c = saved (without_copy s f (copy_name c)) f (Forward (hop_below c.hop) c.source)

-- a file is given up for a pointer to the brick that
-- it was copied to, and its name for a linkto to it
abbrev pub demote_row : List (List ℕ) → Store → Gfid → Entry → ℕ → BrickNo → List ℕ → Outcome Store
demote_row bricks s f e hop dest bytes =
    if is_plain f (slot s e).main
    then saved (with_slot s e (with_main (slot s e) (Linkto (linkto_value bricks dest.0)))) f
    (Forward (hop_above hop) dest)
    else refused (Some (Moving hop dest bytes))

-- a copy of this hop becomes the file at its name
abbrev pub promote_row : Store → Gfid → ℕ → StandbyRecord → Outcome Store
promote_row s f hop c =
    if (hop == c.hop) && is_copy f (slot s (copy_name c)).standby
    then saved (with_slot s (copy_name c) (with_main bare (File f None))) f (Live c.hop c.bytes)
    else refused (Some (Copied c))

abbrev pub drop_row : Store → Gfid → Outcome Store
drop_row s f =
    if links s.slots f == 0
    then Do given.Nothing (without_file s f)
    else Refuse (why.Links (links s.slots f))

-- what a request does to the record that the table lets through
abbrev pub record_row : List (List ℕ) → FileRequest → Store → Option Record → Outcome Store
record_row bricks (Read f offset size) s r =
    on_record r (λ x. Do (given.Bytes (read_at (bytes_of x) offset size)) s)
record_row bricks (Write f offset piece) s r = on_bytes r s f (λ bytes. written bytes offset piece)
record_row bricks (LockedWrite f offset piece) s r =
    on_bytes r s f (λ bytes. written bytes offset piece)
record_row bricks (Truncate f size) s r = on_bytes r s f (λ bytes. cut_to bytes size)
record_row bricks (LockedTruncate f size) s r = on_bytes r s f (λ bytes. cut_to bytes size)
record_row bricks (Stat f) s r = on_record r (λ x. Do (given.Stat (stat_of s f x)) s)
record_row bricks (Mark f dest) s r = on_record r (mark_row s f dest)
record_row bricks (Unmark f) s r = on_moving r (λ hop dest bytes. saved s f (Live hop bytes))
record_row bricks (MakeStandby f d n source hop) s r = standby_row s f (d, n) source hop r
record_row bricks (StandbyWrite f q) s r = on_standby r (standby_write s f q)
record_row bricks (CopyWrite f offset piece) s r = on_standby r (copy_write s f offset piece)
record_row bricks (ClearDirty f) s r =
    on_standby r (λ c. saved s f (Copied (record c { is_dirty = false })))
record_row bricks (DropStandby f) s r = on_standby r (drop_standby s f)
record_row bricks (Demote f d n) s r = on_moving r (demote_row bricks s f (d, n))
record_row bricks (Promote f hop) s r = on_standby r (promote_row s f hop)
record_row bricks (Drop f) s r = on_record r (λ x. drop_row s f)

-- the cell of the request and the record's state decides first
abbrev pub guarded : Cell → Option Record → Outcome Store → Outcome Store
guarded cell.Refuse r outcome = refused r
guarded cell.Keep r outcome = outcome
guarded (cell.To next) r outcome = outcome
guarded (cell.Test next) r outcome = outcome

-- the row of a request, over a brick that knows bricks of these names
abbrev pub file_row : List (List ℕ) → FileRequest → Store → Outcome Store
file_row bricks q s =
    guarded (file_cell_of (row_of q) (state_of (file s (file_of q)))) (file s (file_of q))
    (record_row bricks q s (file s (file_of q)))
