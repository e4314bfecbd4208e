-- The rows of the requests about directories and names.
use Rattle.std.specs.Prelude.{ℕ, Bool, true, false, ◌&&◌, not, if◌then◌else◌, is_none, Option, Some, None, List, []}
use Rattle.std.specs.Option.{option_map_or}
use Rattle.dht_types.specs.Gfid.{Entry, same_gfid}
use Rattle.dht_types.specs.Linkto.{linked_brick}
use Rattle.dht_types.specs.declared.identifiers.Gfid.{Gfid}
use Rattle.dht_types.specs.declared.stored.Main.{Main}
use Rattle.dht_types.specs.declared.stored.Main.TheVariants.{Dir, File, Linkto}
use Rattle.dht_types.specs.declared.stored.Standby.TheVariants as standby
use Rattle.dht_types.specs.declared.stored.Slot.{Slot}
use Rattle.dht_types.specs.declared.stored.Record.TheVariants.{Live}
use Rattle.dht_brick.specs.Contents.{Store, dir, slot, file, bare}
use Rattle.dht_brick.specs.Parts.{is_linkto, is_dir, is_plain, is_contested, is_over, is_vacant, is_standlink, is_bare, is_free, slot_shown, is_live, with_main, without_main, with_standby, without_standby, with_dir, with_slot, with_file, without_dir}
use Rattle.dht_brick.specs.Links.{links, is_occupied}
use Rattle.dht_brick.specs.Looks.{look_of, info_of, page_of, orphans_of}
use Rattle.dht_brick.specs.Outcome.{Outcome, Do, Refuse, in_dir}
use Rattle.dht_brick.specs.Named.{name_named}
use Rattle.dht_brick.specs.declared.replies.Given.{Given}
use Rattle.dht_brick.specs.declared.replies.Given.TheVariants as given
use Rattle.dht_brick.specs.declared.replies.Why.TheVariants as why
use Rattle.dht_brick.specs.declared.requests.NameRequest.{NameRequest}
use Rattle.dht_brick.specs.declared.requests.NameRequest.TheVariants.{Look, Page, Dirinfo, SetLayout, MakeDir, DropDir, Create, MakeLinkto, DropLinkto, Unlink, Link, LinkOver, Contest, Uncontest, StandLink, DropStandLink, Swap, PromoteLink, Orphans}

abbrev pub when : Bool → Slot → Option Slot
when test p = if test then Some p else None

-- the value names a brick for which the name of the file is marked
abbrev pub names_over : List (List ℕ) → List ℕ → Gfid → Option Main → Bool
names_over bricks value f m =
    option_map_or (λ brick. is_over f brick m) (linked_brick bricks value) false

-- the slot that a request makes of a slot, where the slot and the named files are as it wants them
abbrev pub slot_row : List (List ℕ) → Store → NameRequest → Slot → Option Slot
slot_row bricks s (MakeDir d n g depth value) p = when (is_free p) (with_main p (Dir g))
slot_row bricks s (DropDir d n g) p = when (is_dir g p.main) (without_main p)
slot_row bricks s (Create d n f) p =
    when (is_bare p && is_none (file s f)) (with_main p (File f None))
slot_row bricks s (MakeLinkto d n value) p = when (is_vacant p.main) (with_main p (Linkto value))
slot_row bricks s (DropLinkto d n) p = when (is_linkto p.main) (without_main p)
slot_row bricks s (Unlink d n f) p = when (is_plain f p.main && is_live (file s f)) (without_main p)
slot_row bricks s (Link d n f) p =
    when (is_free p && is_live (file s f)) (with_main p (File f None))
slot_row bricks s (LinkOver d n f over) p =
    when (is_plain over p.main && not (same_gfid f over) && is_live (file s f)
    && is_live (file s over))
    (with_main p (File f None))
slot_row bricks s (Contest d n f brick) p =
    when (is_plain f p.main && is_live (file s f)) (with_main p (File f (Some brick)))
slot_row bricks s (Uncontest d n f) p = when (is_contested f p.main) (with_main p (File f None))
slot_row bricks s (StandLink d n f) p =
    when (is_free p && is_live (file s f)) (with_standby p (standby.StandLink f))
slot_row bricks s (DropStandLink d n f) p = when (is_standlink f p.standby) (without_standby p)
slot_row bricks s (Swap d n f value) p =
    when (names_over bricks value f p.main) (with_main p (Linkto value))
slot_row bricks s (PromoteLink d n f) p =
    when (is_standlink f p.standby) (with_main bare (File f None))
slot_row bricks s q p = None

-- the record that comes or goes with the slot
abbrev pub beside : NameRequest → Store → Store
beside (MakeDir d n g depth value) s =
    with_dir s g
    (record { place = Some (record { dir = d; name = n }); depth = depth; value = value })
beside (DropDir d n g) s = without_dir s g
beside (Create d n f) s = with_file s f (Live 0 [])
beside q s = s

-- what the request gives, from what is left: the links of the file whose name it took away
abbrev pub given_by : NameRequest → Store → Given
given_by (Unlink d n f) s = given.Links (links s.slots f)
given_by (LinkOver d n f over) s = given.Links (links s.slots over)
given_by (Swap d n f value) s = given.Links (links s.slots f)
given_by q s = given.Nothing

abbrev pub done_by : NameRequest → Store → Outcome Store
done_by q new = Do (given_by q new) new

-- the request changes the slot so, or the slot is refused
abbrev pub on_slot : NameRequest → Store → Entry → Option Slot → Outcome Store
on_slot q s e None = Refuse (why.Slot (slot_shown (slot s e)))
on_slot q s e (Some p) = done_by q (beside q (with_slot s e p))

abbrev pub slot_change : List (List ℕ) → NameRequest → Store → Entry → Outcome Store
slot_change bricks q s e = on_slot q s e (slot_row bricks s q (slot s e))

-- a directory in which something stands is not dropped
abbrev pub if_empty : Bool → Outcome Store → Outcome Store
if_empty true (Do given new) = Refuse why.NotEmpty
if_empty occupied outcome = outcome

-- the row of a request, over a brick that knows bricks of these names
abbrev pub name_row : List (List ℕ) → NameRequest → Store → Outcome Store
name_row bricks (Look d n) s = in_dir (dir s d) (λ r. Do (given.Look (look_of s (d, n) r)) s)
name_row bricks (Page d after) s =
    in_dir (dir s d) (λ r. Do (given.Page (page_of s.slots d after)) s)
name_row bricks (Dirinfo d) s = in_dir (dir s d) (λ r. Do (given.Dirinfo (info_of s d r)) s)
name_row bricks (SetLayout d value) s =
    in_dir (dir s d) (λ r. Do given.Nothing (with_dir s d (record r { value = value })))
name_row bricks (DropDir d n g) s =
    in_dir (dir s d)
    (λ r. if_empty (is_occupied s.slots g) (slot_change bricks (DropDir d n g) s (d, n)))
name_row bricks (Orphans after) s = Do (given.Orphans (orphans_of s after)) s
name_row bricks q s = in_dir (dir s (name_named q).0) (λ r. slot_change bricks q s (name_named q))
