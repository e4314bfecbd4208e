-- For how many slots each gfid stands, and how.
use Rattle.std.specs.Prelude.{◌≡◌, ℕ, ◌+◌, ◌==◌, Bool, true, false, ◌&&◌, ◌||◌, is_some, IsSome, IfSome, if◌then◌else◌, Option, Some, None, unwrap_or, count_by}
use Rattle.std.specs.FinMap.{FinMap, get, entries, from_entries}
use Rattle.dht_types.specs.Gfid.{Entry, same_gfid}
use Rattle.dht_types.specs.declared.identifiers.Gfid.{Gfid}
use Rattle.dht_types.specs.declared.stored.Main.{Main}
use Rattle.dht_types.specs.declared.stored.Main.TheVariants.{Dir, File, Linkto}
use Rattle.dht_types.specs.declared.stored.Slot.{Slot}
use Rattle.dht_types.specs.declared.stored.Standby.{Standby}
use Rattle.dht_types.specs.declared.stored.Standby.TheVariants.{StandLink, Copy}
use Rattle.dht_brick.specs.Contents.{Slots, gfid_cmp}
use Rattle.dht_brick.specs.Parts.{slot_shown, is_file, is_standlink, is_copy}
use Rattle.dht_brick.specs.declared.replies.MainShown.{MainShown}
use Rattle.dht_brick.specs.declared.replies.MainShown.TheVariants as shown
use Rattle.dht_brick.specs.declared.replies.SlotShown.{SlotShown}
use Rattle.dht_names.specs.declared.counts.Kind.{Kind}
use Rattle.dht_names.specs.declared.counts.Kind.TheVariants.{Visible, Named, Marked, Readied, Copied}
use Rattle.dht_names.specs.declared.counts.Tally.{Tally}
use Rattle.dht_names.specs.declared.counts.Counts.{Counts}

-- ---- for which gfids a slot counts

-- the name is a directory's or a file's
abbrev pub is_taken : Option MainShown → Bool
is_taken (Some (shown.Dir g)) = true
is_taken (Some (shown.File f over)) = true
is_taken m = false

-- or may become a file's
abbrev pub is_seen : SlotShown → Bool
is_seen s = is_taken s.main || is_some s.standby

-- the file of a name
abbrev pub named : Option MainShown → Option Gfid
named (Some (shown.File f over)) = Some f
named m = None

-- the file of a marked name
abbrev pub marked : Option MainShown → Option Gfid
marked (Some (shown.File f (Some b))) = Some f
marked m = None

-- the file for which a name is readied
abbrev pub readied : Option Standby → Option Gfid
readied (Some (StandLink f)) = Some f
readied p = None

-- the file whose copy is at a name
abbrev pub copied : Option Standby → Option Gfid
copied (Some (Copy f)) = Some f
copied p = None

-- the gfid for which a slot in this directory counts so, if there is one
abbrev pub counted : Kind → Gfid → SlotShown → Option Gfid
counted Visible d s = if is_seen s then Some d else None
counted Named d s = named s.main
counted Marked d s = marked s.main
counted Readied d s = readied s.standby
counted Copied d s = copied s.standby

-- it is this gfid
abbrev pub is_for : Gfid → Option Gfid → Bool
is_for g None = false
is_for g (Some h) = same_gfid g h

abbrev pub one_if : Bool → ℕ
one_if b = if b then 1 else 0

-- how much a slot in this directory counts so for a gfid
abbrev pub weight : Kind → Gfid → Gfid → SlotShown → ℕ
weight k g d s = one_if (is_for g (counted k d s))

abbrev pub counts_for : Kind → Gfid → Entry × Slot → Bool
counts_for k g e = is_for g (counted k e.0.0 (slot_shown e.1))

-- a main part that is put in place of another one is a linkto, or the same file's
abbrev pub keeps_main : Option Main → Main → Bool
keeps_main m (Linkto value) = true
keeps_main m (File f over) = is_file f m
keeps_main m (Dir g) = false

-- the name is readied for this file, or the file's copy is at it
abbrev pub is_to_be : Gfid → Option Standby → Bool
is_to_be f p = is_standlink f p || is_copy f p

-- each gfid for which the new slot counts is one for which the old slot does
abbrev pub Covers : Gfid → SlotShown → SlotShown → Type 0
Covers d old new =
    (k : Kind) → IfSome (counted k d new) (λ g. (j : Kind) × (counted j d old ≡ Some g))

-- ---- what is kept

abbrev pub no_tally : Tally
no_tally = record { visible = 0; named = 0; marked = 0; readied = 0; copied = 0 }

abbrev pub tally_count : Kind → Tally → ℕ
tally_count Visible t = t.visible
tally_count Named t = t.named
tally_count Marked t = t.marked
tally_count Readied t = t.readied
tally_count Copied t = t.copied

abbrev pub with_count : Kind → ℕ → Tally → Tally
with_count Visible n t = record t { visible = n }
with_count Named n t = record t { named = n }
with_count Marked n t = record t { marked = n }
with_count Readied n t = record t { readied = n }
with_count Copied n t = record t { copied = n }

abbrev pub is_unused : Tally → Bool
is_unused t =
    (t.visible == 0) && (t.named == 0) && (t.marked == 0) && (t.readied == 0) && (t.copied == 0)

abbrev pub Tallies : Type 0
Tallies = FinMap gfid_cmp Tally

unfoldable pub tallies_in : Counts → Tallies
tallies_in c = from_entries {R = gfid_cmp} c.tallies.entries

-- how many slots count so for a gfid, by what is kept
abbrev pub counter : Tallies → Gfid → Kind → ℕ
counter m g k = tally_count k (unwrap_or (get m g) no_tally)

abbrev pub same_kind : Kind → Kind → Bool
same_kind Visible Visible = true
same_kind Named Named = true
same_kind Marked Marked = true
same_kind Readied Readied = true
same_kind Copied Copied = true
same_kind j k = false

-- there is room to count for each gfid for which the slot counts
abbrev pub HasAll : Tallies → Gfid → SlotShown → Type 0
HasAll m d s = (k : Kind) → IfSome (counted k d s) (λ g. IsSome (get m g))

-- there is room for each gfid for which there was room
abbrev pub KeepsAll : Tallies → Tallies → Type 0
KeepsAll m n = (g : Gfid) → IsSome (get m g) → IsSome (get n g)

-- each gfid is counted as before
abbrev pub KeepsCounts : Tallies → Tallies → Type 0
KeepsCounts m n = (g : Gfid) → (k : Kind) → counter n g k ≡ counter m g k

-- one slot more, or less, counts so for this gfid, if there is one
abbrev pub Raises : Option Gfid → Kind → Tallies → Tallies → Type 0
Raises o k m n =
    (g : Gfid) → (j : Kind) → counter n g j ≡ counter m g j + one_if (is_for g o && same_kind j k)

abbrev pub Lowers : Option Gfid → Kind → Tallies → Tallies → Type 0
Lowers o k m n =
    (g : Gfid) → (j : Kind) → counter n g j + one_if (is_for g o && same_kind j k) ≡ counter m g j

-- ---- what is kept is right

-- each gfid is counted as often as slots count for it
abbrev pub IsCounted : Slots → Tallies → Type 0
IsCounted slots m =
    (g : Gfid) → (k : Kind) → counter m g k ≡ count_by (counts_for k g) (entries slots)
