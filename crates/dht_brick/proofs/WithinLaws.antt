-- Contents and replies name only bricks of the volume.
use Rattle.std.proofs.Common.{◌≡◌, ℕ, ◌≤◌, Bool, true, false, cond, not, List, [], ◌∷◌, map, filter, refl, sym, ap, ◌∙◌, subst, lt_of_lt_of_le}
use Rattle.std.specs.Prelude.{Option, Some, None, IfSome, unwrap_or, All, ◌&&◌, ◌==◌, is_some, T}
use Rattle.std.specs.Option.{option_map}
use Rattle.std.specs.declared.cmp.Ordering.{Ordering}
use Rattle.std.specs.declared.cmp.Ordering.TheVariants.{Less, Equal, Greater}
use Rattle.std.specs.Ordering.{eq_by_cmp, is_eq, is_lt}
use Rattle.std.specs.Cmp.{IsTotalOrder, tied_itself, Equal-is}
use Rattle.std.specs.FinMap.{FinMap, IsAntisymmetric, get, insert, remove, retain_keys, empty, entries, entries_sorted, find, is_sorted, get-empty, get-entries, get-insert, get-remove, get-retain_keys}
use Rattle.std.specs.FinMap.Entries.{below_all}
use Rattle.std.specs.List.{AllByRecursion}
use Rattle.std.proofs.lemmas.Bool.{cond_both}
use Rattle.std.proofs.lemmas.Option.{IfSome_then}
use Rattle.std.proofs.lemmas.List.Elements.{All-from_recursion, All-weaker, All-filter, All-map, All-take}
use Rattle.dht_types.specs.Gfid.{Entry, same_gfid, root}
use Rattle.dht_types.specs.Linkto.{linkto_value}
use Rattle.dht_types.specs.declared.identifiers.Gfid.{Gfid}
use Rattle.dht_types.specs.declared.identifiers.BrickNo.{BrickNo}
use Rattle.dht_types.specs.declared.identifiers.ClientNo.{ClientNo}
use Rattle.dht_types.specs.declared.identifiers.CallNo.{CallNo}
use Rattle.dht_types.specs.declared.stored.DirRecord.{DirRecord}
use Rattle.dht_types.specs.declared.stored.Main.{Main}
use Rattle.dht_types.specs.declared.stored.Main.TheVariants.{Dir, File, Linkto}
use Rattle.dht_types.specs.declared.stored.Standby.TheVariants as standby
use Rattle.dht_types.specs.declared.stored.StandbyRecord.{StandbyRecord}
use Rattle.dht_types.specs.declared.stored.Slot.{Slot}
use Rattle.dht_types.specs.declared.stored.Record.{Record}
use Rattle.dht_types.specs.declared.stored.Record.TheVariants.{Live, Moving, Standby as Copied, Forward}
use Rattle.dht_guard.specs.FileTable.{file_cell_of}
use Rattle.dht_guard.specs.declared.cells.Cell.{Cell}
use Rattle.dht_guard.specs.declared.cells.Cell.TheVariants as cell
use Rattle.dht_brick.specs.Contents.{Contents, Store, Opens, Locks, bare, dir, slot, file}
use Rattle.dht_brick.specs.FileRows.{guarded, record_row, file_row, state_refusal, on_record, on_moving, on_standby, on_bytes, saved, copy_made, new_copy, is_same_copy, takes_copy, copy_name, changed, copied_in, without_copy, hop_above, hop_below}
use Rattle.dht_brick.specs.Kinds.{row_of}
use Rattle.dht_brick.specs.LockRows.{awaited, unless_awaited}
use Rattle.dht_brick.specs.Laws.{RowsStayWithin, RepliesAreWithin, NewbornIsWithin, FreedStaysWithin, RemountedStaysWithin, PokedStaysWithin, GrownStaysWithin}
use Rattle.dht_brick.specs.Links.{links, is_marked, is_occupied}
use Rattle.dht_brick.specs.Looks.{page_of, page_entry, is_on_page, dir_at, dest_of, file_look, page_size, hop_of, bytes_of, file_or_readied}
use Rattle.dht_brick.specs.NameRows.{when, slot_row, beside, given_by, on_slot, slot_change, if_empty, name_row}
use Rattle.dht_brick.specs.Named.{name_named, file_of}
use Rattle.dht_brick.specs.OpenRows.{registrations, is_sealed}
use Rattle.dht_brick.specs.Outcome.{Outcome, Do, Refuse, Await, in_dir, within, reply_in, left_by}
use Rattle.dht_brick.specs.Parts.{is_bare, is_vacant, is_plain, is_copy, is_forward, main_shown, state_of, put_slot, with_main, with_standby, without_standby, with_dir, with_slot, with_file, without_dir, without_file}
use Rattle.dht_brick.specs.Rows.{row, with_store, with_opens, with_locks}
use Rattle.dht_brick.specs.Within.{NameMayBeSent, FileMayBeSent, MayBeSent, IsBrick, IsHomed, DirIsWithin, MainIsWithin, SlotIsWithin, RecordIsWithin, StoreIsWithin, PageEntryIsWithin, GivenIsWithin, ShownIsWithin, WhyIsWithin, ReplyIsWithin}
use Rattle.dht_brick.specs.declared.pokes.PokeAt.TheVariants as poke
use Rattle.dht_brick.specs.declared.replies.Given.TheVariants as given
use Rattle.dht_brick.specs.declared.requests.NameRequest.{NameRequest}
use Rattle.dht_brick.specs.declared.requests.NameRequest.TheVariants.{Look, Page, Dirinfo, SetLayout, MakeDir, DropDir, Create, Unlink, Contest, StandLink, DropStandLink, Orphans}
use Rattle.dht_brick.specs.declared.requests.FileRequest.{FileRequest}
use Rattle.dht_brick.specs.declared.requests.FileRequest.TheVariants.{Read, Stat, Mark, Unmark, MakeStandby, StandbyWrite, CopyWrite, ClearDirty, DropStandby, Demote, Promote, Drop}
use Rattle.dht_brick.specs.declared.requests.Request.{Request}
use Rattle.dht_brick.specs.declared.requests.Request.TheVariants.{Lock, Register, Seal, OnNames, OnFile}
use Rattle.dht_brick.proofs.TableLemmas.{gfid_total, gfid_exact, entry_total, entry_exact}

-- ---- what holds of each key and value of a map

not_eq : (r : Ordering) → T (is_lt r) → is_eq r ≡ false
not_eq Less h = refl
not_eq Equal h = absurd h
not_eq Greater h = absurd h

parts : (a b : Bool) → T (a && b) → T a × T b
parts true b h = (tt, h)
parts false b h = absurd h

module _ {K X : Type 0} {R : K → K → Ordering} (o : IsTotalOrder R) (exact : IsAntisymmetric R) (P : K → X → Type 0) where
  -- it holds of each key and the value there
  abbrev Each : FinMap R X → Type 0
  Each m = (q : K) → IfSome (get m q) (P q)

  each-empty : Each empty
  each-empty q = subst (λ v. IfSome v (P q)) (sym (get-empty R q)) tt

  each-insert : (m : FinMap R X) (k : K) (v : X) → P k v → Each m → Each (insert m k v)
  each-insert m k v new old q =
      subst (λ r. IfSome r (P q)) (sym (get-insert o m k v q))
      (cond_both (eq_by_cmp R q k) (Some v) (get m q) (λ r. IfSome r (P q)) (λ t. subst (λ j. P j v) (sym (exact q k ((Equal-is (R q k)).0 t))) new) (λ t. old q))

  each-remove : (m : FinMap R X) (k : K) → Each m → Each (remove m k)
  each-remove m k old q = subst (λ r. IfSome r (P q)) (sym (get-remove o m k q)) (cond_both (eq_by_cmp R q k) None (get m q) (λ r. IfSome r (P q)) (λ t. tt) (λ t. old q))

  each-retain_keys : (m : FinMap R X) (p : K → Bool) → Each m → Each (retain_keys m p)
  each-retain_keys m p old q =
      subst (λ r. IfSome r (P q)) (sym (get-retain_keys m p q (λ x t. ap p (sym (exact q x t))))) (cond_both (p q) (get m q) None (λ r. IfSome r (P q)) (λ t. old q) (λ t. tt))

  -- a key below each key of a list is not found in it
  below_none : (k q : K) (es : List (K × X)) → R q k ≡ Equal → T (below_all R k es) → find R q es ≡ None
  below_none k q [] t h = refl
  below_none k q (e ∷ es) t h =
      let below = parts (is_lt (R k e.0)) (below_all R k es) h in
      ap (λ b. cond b (Some e.1) (find R q es)) (ap is_eq (o.congr q k e.0 t) ∙ not_eq (R k e.0) below.0) ∙ below_none k q es t below.1

  -- behind an entry whose key is below the others
  each_rest : (e : K × X) (es : List (K × X)) (q : K) → T (below_all R e.0 es) → IfSome (find R q (e ∷ es)) (P q) → IfSome (find R q es) (P q)
  each_rest e es q below =
      cond_both (eq_by_cmp R q e.0) (Some e.1) (find R q es) (λ r. IfSome r (P q) → IfSome (find R q es) (P q))
      (λ t h. subst (λ r. IfSome r (P q)) (sym (below_none e.0 q es ((Equal-is (R q e.0)).0 t) below)) tt) (λ t h. h)

  each_listed : (es : List (K × X)) → T (is_sorted R es) → ((q : K) → IfSome (find R q es) (P q)) → AllByRecursion (λ e. P e.0 e.1) es
  each_listed [] sorted h = tt
  each_listed (e ∷ es) sorted h =
      let below = parts (below_all R e.0 es) (is_sorted R es) sorted in
      (subst (λ r. IfSome (cond (is_eq r) (Some e.1) (find R e.0 es)) (P e.0)) (tied_itself o e.0) (h e.0), each_listed es below.1 (λ q. each_rest e es q below.0 (h q)))

  -- what holds at each key holds of each entry
  each-entries : (m : FinMap R X) → Each m → All (λ e. P e.0 e.1) (entries m)
  each-entries m h = All-from_recursion (λ e. P e.0 e.1) (entries m) (each_listed (entries m) (entries_sorted m) (λ q. subst (λ r. IfSome r (P q)) (get-entries m q) (h q)))

-- ---- what is shown, and stores that were changed

-- what is done gives and leaves only what is within, and a refusal shows only such
abbrev OutcomeIsWithin : ℕ → Outcome Store → Type 0
OutcomeIsWithin count (Do given new) = GivenIsWithin count given × StoreIsWithin count new
OutcomeIsWithin count (Refuse reason) = WhyIsWithin count reason
OutcomeIsWithin count (Await holder) = Unit {0}

-- what is shown of a slot and of a record
shown_main :
    (count : ℕ) (m : Option Main) → IfSome m (MainIsWithin count)
    → IfSome (option_map main_shown m) (ShownIsWithin count)
shown_main count (Some (Dir g)) h = h
shown_main count (Some (File f over)) h = h
shown_main count m h = tt

dir_shown :
    (count : ℕ) (m : Option Main) → IfSome m (MainIsWithin count)
    → IfSome (dir_at m) (IsHomed count)
dir_shown count (Some (Dir g)) h = h
dir_shown count m h = tt

dest_shown :
    (count : ℕ) (r : Option Record) → IfSome r (RecordIsWithin count)
    → IfSome (dest_of r) (IsBrick count)
dest_shown count (Some (Moving hop dest bytes)) h = h
dest_shown count r h = tt

state_shown :
    (count : ℕ) (r : Option Record) → IfSome r (RecordIsWithin count)
    → WhyIsWithin count (state_refusal r)
state_shown count (Some (Live hop bytes)) h = tt
state_shown count r h = h

-- either of two outcomes
if_within :
    (count : ℕ) (b : Bool) (x y : Outcome Store) → OutcomeIsWithin count x → OutcomeIsWithin count y
    → OutcomeIsWithin count (cond b x y)
if_within count true x y h k = h
if_within count false x y h k = k

-- a slot with parts or with none
unwrapped :
    (count : ℕ) (o : Option Slot) → IfSome o (SlotIsWithin count)
    → SlotIsWithin count (unwrap_or o bare)
unwrapped count None h = tt
unwrapped count (Some p) h = h

module _ (count : ℕ) (s : Store) (h : StoreIsWithin count s) where
  slot_is_within : (e : Entry) → SlotIsWithin count (slot s e)
  slot_is_within e = unwrapped count (get s.slots e) (h.slots e)

  put_within : (e : Entry) (p : Slot) → SlotIsWithin count p → Each entry_total entry_exact (λ k. SlotIsWithin count) (put_slot s.slots e p)
  put_within e p new =
      let P : Entry → Slot → Type 0 = λ k. SlotIsWithin count in
      cond_both (is_bare p) (remove s.slots e) (insert s.slots e p) (Each entry_total entry_exact P)
      (λ t. each-remove entry_total entry_exact P s.slots e h.slots) (λ t. each-insert entry_total entry_exact P s.slots e p new h.slots)

  with_slot_within : (e : Entry) (p : Slot) → SlotIsWithin count p → StoreIsWithin count (with_slot s e p)
  with_slot_within e p new = record { dirs = h.dirs; slots = put_within e p new; files = h.files }

  with_dir_within : (g : Gfid) (r : DirRecord) → DirIsWithin count g r → StoreIsWithin count (with_dir s g r)
  with_dir_within g r new = record { dirs = each-insert gfid_total gfid_exact (DirIsWithin count) s.dirs g r new h.dirs; slots = h.slots; files = h.files }

  without_dir_within : (g : Gfid) → StoreIsWithin count (without_dir s g)
  without_dir_within g =
      let kept = each-retain_keys entry_total entry_exact (λ k. SlotIsWithin count) s.slots (λ e. not (same_gfid g e.0)) h.slots in
      record { dirs = each-remove gfid_total gfid_exact (DirIsWithin count) s.dirs g h.dirs; slots = kept; files = h.files }

  with_file_within : (f : Gfid) (r : Record) → RecordIsWithin count r → StoreIsWithin count (with_file s f r)
  with_file_within f r new = record { dirs = h.dirs; slots = h.slots; files = each-insert gfid_total gfid_exact (λ k. RecordIsWithin count) s.files f r new h.files }

  without_file_within : (f : Gfid) → StoreIsWithin count (without_file s f)
  without_file_within f = record { dirs = h.dirs; slots = h.slots; files = each-remove gfid_total gfid_exact (λ k. RecordIsWithin count) s.files f h.files }

  -- what a page shows of the slots
  page_is_within : (d : Gfid) (after : Option (List ℕ)) → All (PageEntryIsWithin count) (page_of s.slots d after)
  unfolding page_of
  page_is_within d after =
      let P : Entry × Slot → Type 0 = λ e. PageEntryIsWithin count (page_entry e) in
      let shown = filter (is_on_page d after) (entries s.slots) in
      All-take (PageEntryIsWithin count) page_size (map page_entry shown)
      (All-map (PageEntryIsWithin count) page_entry shown
      (All-filter (is_on_page d after) P (entries s.slots)
      (All-weaker (λ e. SlotIsWithin count e.1) P (λ e k. dir_shown count e.1.main k) (entries s.slots) (each-entries entry_total entry_exact (λ k. SlotIsWithin count) s.slots h.slots))))

  -- what a look shows of the file
  look_is_within : (f : Option Gfid) → IfSome (option_map (file_look s) f) (λ l. IfSome l.dest (IsBrick count))
  look_is_within None = tt
  look_is_within (Some f) = dest_shown count (file s f) (h.files f)

  -- where there is a record of the directory, it is within
  in_dir_by : (d : Gfid) (r : Option DirRecord) (outcome : DirRecord → Outcome Store) → IfSome r (DirIsWithin count d) → ((r : DirRecord) → DirIsWithin count d r → OutcomeIsWithin count (outcome r))
      → OutcomeIsWithin count (in_dir r outcome)
  in_dir_by d None outcome known then_within = tt
  in_dir_by d (Some r) outcome known then_within = then_within r known

  in_dir_within : (d : Gfid) (outcome : DirRecord → Outcome Store) → ((r : DirRecord) → DirIsWithin count d r → OutcomeIsWithin count (outcome r)) → OutcomeIsWithin count (in_dir (dir s d) outcome)
  in_dir_within d outcome then_within = in_dir_by d (dir s d) outcome (h.dirs d) then_within

-- ---- requests about names

-- the slot that a request makes of a slot
when_within :
    (count : ℕ) (b : Bool) (p : Slot) → SlotIsWithin count p
    → IfSome (when b p) (SlotIsWithin count)
when_within count b p h = cond_both b (Some p) None (λ r. IfSome r (SlotIsWithin count)) (λ t. h) (λ t. tt)

slot_row_within :
    (count : ℕ) (bricks : List (List ℕ)) (s : Store) (q : NameRequest) (p : Slot)
    → NameMayBeSent count q → SlotIsWithin count p
    → IfSome (slot_row bricks s q p) (SlotIsWithin count)
slot_row_within count bricks s (Look d n) p sent h = tt
slot_row_within count bricks s (Page d after) p sent h = tt
slot_row_within count bricks s (Dirinfo d) p sent h = tt
slot_row_within count bricks s (SetLayout d value) p sent h = tt
slot_row_within count bricks s (Orphans after) p sent h = tt
slot_row_within count bricks s (MakeDir d n g depth value) p sent h = when_within count _ _ sent.0.0
slot_row_within count bricks s (Contest d n f brick) p sent h = when_within count _ _ sent
slot_row_within count bricks s (StandLink d n f) p sent h = when_within count _ _ h
slot_row_within count bricks s (DropStandLink d n f) p sent h = when_within count _ _ h
slot_row_within count bricks s q p sent h = when_within count _ _ tt

-- what is given with it, and the record that comes or goes with it
given_by_within : (count : ℕ) (q : NameRequest) (s : Store) → GivenIsWithin count (given_by q s)
given_by_within count (Unlink d n f) s = tt
given_by_within count q s = tt

beside_within :
    (count : ℕ) (q : NameRequest) (s : Store) → NameMayBeSent count q
    → IsHomed count (name_named q).0 → StoreIsWithin count s → StoreIsWithin count (beside q s)
beside_within count (MakeDir d n g depth value) s sent homed h = with_dir_within count s h g _ (sent.0.0, homed)
beside_within count (DropDir d n g) s sent homed h = without_dir_within count s h g
beside_within count (Create d n f) s sent homed h = with_file_within count s h f (Live 0 []) tt
beside_within count q s sent homed h = h

-- a request that changes a slot
module _ (count : ℕ) (bricks : List (List ℕ)) (q : NameRequest) (sent : NameMayBeSent count q) (s : Store) (h : StoreIsWithin count s) where
  on_slot_within : (e : Entry) (o : Option Slot) → IsHomed count (name_named q).0 → IfSome o (SlotIsWithin count) → OutcomeIsWithin count (on_slot q s e o)
  on_slot_within e None homed new = shown_main count (slot s e).main (slot_is_within count s h e)
  on_slot_within e (Some p) homed new =
      (given_by_within count q (beside q (with_slot s e p)), beside_within count q (with_slot s e p) sent homed (with_slot_within count s h e p new))

  slot_change_within : (e : Entry) → IsHomed count (name_named q).0 → OutcomeIsWithin count (slot_change bricks q s e)
  slot_change_within e homed = on_slot_within e (slot_row bricks s q (slot s e)) homed (slot_row_within count bricks s q (slot s e) sent (slot_is_within count s h e))

  name_change_within : OutcomeIsWithin count (in_dir (dir s (name_named q).0) (λ r. slot_change bricks q s (name_named q)))
  name_change_within = in_dir_within count s h (name_named q).0 _ (λ r known. slot_change_within (name_named q) known.0)

if_empty_within :
    (count : ℕ) (b : Bool) (outcome : Outcome Store) → OutcomeIsWithin count outcome
    → OutcomeIsWithin count (if_empty b outcome)
if_empty_within count true (Do given new) h = tt
if_empty_within count b outcome h = h

name_row_within :
    (count : ℕ) (bricks : List (List ℕ)) (q : NameRequest) (s : Store) → NameMayBeSent count q
    → StoreIsWithin count s → OutcomeIsWithin count (name_row bricks q s)
name_row_within count bricks (Look d n) s sent h = in_dir_within count s h d _ (λ r known. ((slot_is_within count s h (d, n), look_is_within count s h (file_or_readied (slot s (d, n)))), h))
name_row_within count bricks (Page d after) s sent h = in_dir_within count s h d _ (λ r known. (page_is_within count s h d after, h))
name_row_within count bricks (Dirinfo d) s sent h = in_dir_within count s h d _ (λ r known. (known.1, h))
name_row_within count bricks (SetLayout d value) s sent h = in_dir_within count s h d _ (λ r known. (tt, with_dir_within count s h d (record r { value = value }) known))
name_row_within count bricks (DropDir d n g) s sent h =
    in_dir_within count s h d _ (λ r known. if_empty_within count (is_occupied s.slots g) _ (slot_change_within count bricks (DropDir d n g) sent s h (d, n) known.0))
name_row_within count bricks (Orphans after) s sent h = (tt, h)
name_row_within count bricks q s sent h = name_change_within count bricks q sent s h

-- ---- requests about files

module _ (count : ℕ) (s : Store) (h : StoreIsWithin count s) where
  saved_within : (f : Gfid) (r : Record) → RecordIsWithin count r → OutcomeIsWithin count (saved s f r)
  saved_within f r new = (tt, with_file_within count s h f r new)

  -- a slot and a record are changed
  both_within : (e : Entry) (p : Slot) (f : Gfid) (r : Record) → SlotIsWithin count p → RecordIsWithin count r → OutcomeIsWithin count (saved (with_slot s e p) f r)
  both_within e p f r new_slot new = (tt, with_file_within count (with_slot s e p) (with_slot_within count s h e p new_slot) f r new)

  -- what the record is decides
  on_record_within : (r : Option Record) (outcome : Record → Outcome Store) → IfSome r (RecordIsWithin count) → ((x : Record) → RecordIsWithin count x → OutcomeIsWithin count (outcome x)) → OutcomeIsWithin count (on_record r outcome)
  on_record_within None outcome known then_within = tt
  on_record_within (Some r) outcome known then_within = then_within r known

  on_moving_within : (r : Option Record) (outcome : ℕ → BrickNo → List ℕ → Outcome Store) → IfSome r (RecordIsWithin count)
      → ((hop : ℕ) (dest : BrickNo) (bytes : List ℕ) → IsBrick count dest → OutcomeIsWithin count (outcome hop dest bytes)) → OutcomeIsWithin count (on_moving r outcome)
  on_moving_within (Some (Moving hop dest bytes)) outcome known then_within = then_within hop dest bytes known
  on_moving_within r outcome known then_within = state_shown count r known

  on_standby_within : (r : Option Record) (outcome : StandbyRecord → Outcome Store) → IfSome r (RecordIsWithin count)
      → ((c : StandbyRecord) → IsBrick count c.source → OutcomeIsWithin count (outcome c)) → OutcomeIsWithin count (on_standby r outcome)
  on_standby_within (Some (Copied c)) outcome known then_within = then_within c known
  on_standby_within r outcome known then_within = state_shown count r known

  on_bytes_within : (r : Option Record) (f : Gfid) (changed : List ℕ → List ℕ) → IfSome r (RecordIsWithin count) → OutcomeIsWithin count (on_bytes r s f changed)
  on_bytes_within (Some (Live hop bytes)) f changed known = saved_within f (Live hop (changed bytes)) tt
  on_bytes_within (Some (Moving hop dest bytes)) f changed known = saved_within f (Moving hop dest (changed bytes)) known
  on_bytes_within r f changed known = state_shown count r known

  copy_made_within : (f : Gfid) (e : Entry) (source : BrickNo) (hop : ℕ) (r : Option Record) → IsBrick count source → IfSome r (RecordIsWithin count) → OutcomeIsWithin count (copy_made s f e source hop r)
  copy_made_within f e source hop (Some (Copied c)) sent known = if_within count (is_same_copy c e source hop) _ _ (saved_within f (Copied (record c { is_dirty = false; bytes = [] })) known) known
  copy_made_within f e source hop r sent known = both_within e (with_standby (slot s e) (standby.Copy f)) f (new_copy e source hop) (slot_is_within count s h e) sent

  -- the name of the copy is given up, where the copy stands there
  without_copy_within : (f : Gfid) (e : Entry) → StoreIsWithin count (without_copy s f e)
  without_copy_within f e =
      cond_both (is_copy f (slot s e).standby) (put_slot s.slots e (without_standby (slot s e))) s.slots (λ slots. StoreIsWithin count (record s { slots = slots }))
      (λ t. with_slot_within count s h e (without_standby (slot s e)) (slot_is_within count s h e)) (λ t. h)

  record_row_within : (bricks : List (List ℕ)) (q : FileRequest) (r : Option Record) → FileMayBeSent count q → IfSome r (RecordIsWithin count) → OutcomeIsWithin count (record_row bricks q s r)
  record_row_within bricks (Read f offset size) r sent known = on_record_within r _ known (λ x k. (tt, h))
  record_row_within bricks (Stat f) r sent known = on_record_within r _ known (λ x k. (dest_shown count (Some x) k, h))
  record_row_within bricks (Mark f dest) r sent known =
      on_record_within r _ known (λ x k. if_within count ((links s.slots f == 1) && not (is_marked s.slots f)) _ _ (saved_within f (Moving (hop_of x) dest (bytes_of x)) sent) tt)
  record_row_within bricks (Unmark f) r sent known = on_moving_within r _ known (λ hop dest bytes k. saved_within f (Live hop bytes) tt)
  record_row_within bricks (MakeStandby f d n source hop) r sent known =
      in_dir_within count s h d _ (λ x k. if_within count (takes_copy f (slot s (d, n))) _ _ (copy_made_within f (d, n) source hop r sent known) (shown_main count (slot s (d, n)).main (slot_is_within count s h (d, n))))
  record_row_within bricks (StandbyWrite f q) r sent known =
      on_standby_within r _ known (λ c k. if_within count c.is_dirty _ _ tt (saved_within f (Copied (record c { is_dirty = true; bytes = changed q c.bytes })) k))
  record_row_within bricks (CopyWrite f offset piece) r sent known =
      on_standby_within r _ known (λ c k. if_within count c.is_dirty _ _ tt (saved_within f (Copied (record c { bytes = copied_in c.bytes offset piece })) k))
  record_row_within bricks (ClearDirty f) r sent known = on_standby_within r _ known (λ c k. saved_within f (Copied (record c { is_dirty = false })) k)
  record_row_within bricks (DropStandby f) r sent known =
      on_standby_within r _ known (λ c k. (tt, with_file_within count (without_copy s f (copy_name c)) (without_copy_within f (copy_name c)) f (Forward (hop_below c.hop) c.source) k))
  record_row_within bricks (Demote f d n) r sent known =
      on_moving_within r _ known (λ hop dest bytes k. if_within count (is_plain f (slot s (d, n)).main) _ _
      (both_within (d, n) (with_main (slot s (d, n)) (Linkto (linkto_value bricks dest.0))) f (Forward (hop_above hop) dest) tt k) k)
  record_row_within bricks (Promote f hop) r sent known =
      on_standby_within r _ known (λ c k. if_within count ((hop == c.hop) && is_copy f (slot s (copy_name c)).standby) _ _
      (both_within (copy_name c) (with_main bare (File f None)) f (Live c.hop c.bytes) tt tt) k)
  record_row_within bricks (Drop f) r sent known = on_record_within r _ known (λ x k. if_within count (links s.slots f == 0) _ _ (tt, without_file_within count s h f) tt)
  record_row_within bricks q r sent known = on_bytes_within r (file_of q) _ known

guarded_within :
    (count : ℕ) (decided : Cell) (r : Option Record) (outcome : Outcome Store)
    → IfSome r (RecordIsWithin count) → OutcomeIsWithin count outcome
    → OutcomeIsWithin count (guarded decided r outcome)
guarded_within count cell.Refuse r outcome known h = state_shown count r known
guarded_within count decided r outcome known h = h

file_row_within :
    (count : ℕ) (bricks : List (List ℕ)) (q : FileRequest) (s : Store) → FileMayBeSent count q
    → StoreIsWithin count s → OutcomeIsWithin count (file_row bricks q s)
file_row_within count bricks q s sent h =
    let f = file_of q in
    guarded_within count (file_cell_of (row_of q) (state_of (file s f))) (file s f) (record_row bricks q s (file s f)) (h.files f) (record_row_within count s h bricks q (file s f) sent (h.files f))

-- ---- rows

-- what is left and replied, of the whole
abbrev RowIsWithin : ℕ → Outcome Contents → Contents → Type 0
RowIsWithin count outcome old = StoreIsWithin count (left_by outcome old).store × ReplyIsWithin count (reply_in outcome)

-- from the outcome for the store
of_store :
    (count : ℕ) (c : Contents) (outcome : Outcome Store) → StoreIsWithin count c.store
    → OutcomeIsWithin count outcome → RowIsWithin count (within (with_store c) outcome) c
of_store count c (Do given new) h k = (k.1, k.0)
of_store count c (Refuse reason) h k = (h, k)
of_store count c (Await holder) h k = (h, tt)

-- registrations and seals are not of the store
of_opens :
    (count : ℕ) (c : Contents) (b : Bool) (x y : Outcome Opens)
    → RowIsWithin count (within (with_opens c) x) c → RowIsWithin count (within (with_opens c) y) c
    → RowIsWithin count (within (with_opens c) (cond b x y)) c
of_opens count c b x y h k = cond_both b x y (λ r. RowIsWithin count (within (with_opens c) r) c) (λ t. h) (λ t. k)

-- nor are locks
of_locks :
    (count : ℕ) (c : Contents) (holder : Option ℕ) (new : Locks) → StoreIsWithin count c.store
    → RowIsWithin count (within (with_locks c) (unless_awaited holder (Do given.Nothing new))) c
of_locks count c None new h = (h, tt)
of_locks count c (Some n) new h = (h, tt)

row_is_within :
    (count : ℕ) (bricks : List (List ℕ)) (client : ClientNo) (call : CallNo) (q : Request)
    (c : Contents)
    → StoreIsWithin count c.store → MayBeSent count q
    → RowIsWithin count (row bricks client call q c) c
row_is_within count bricks client call (Lock key mode) c h sent = of_locks count c (awaited c.locks client key mode) _ h
row_is_within count bricks client call (Register f) c h sent = of_opens count c (is_sealed c.opens f) _ _ (h, tt) (h, tt)
row_is_within count bricks client call (Seal f) c h sent = of_opens count c (registrations c.opens f == 0) _ _ (h, tt) (h, tt)
row_is_within count bricks client call (OnNames q) c h sent = of_store count c (name_row bricks q c.store) h (name_row_within count bricks q c.store sent h)
row_is_within count bricks client call (OnFile q) c h sent = of_store count c (file_row bricks q c.store) h (file_row_within count bricks q c.store sent h)
row_is_within count bricks client call q c h sent = (h, tt)

pub rows_stay_within : RowsStayWithin
rows_stay_within count bricks client call q c h sent = (row_is_within count bricks client call q c h sent).0

pub replies_are_within : RepliesAreWithin
replies_are_within count bricks client call q c h sent = (row_is_within count bricks client call q c h sent).1

-- ---- what is no request

pub newborn_is_within : NewbornIsWithin
newborn_is_within count value some_brick = record {
  dirs = each-insert gfid_total gfid_exact (DirIsWithin count) empty root (record { place = None; depth = 0; value = value }) (some_brick, tt) (each-empty gfid_total gfid_exact (DirIsWithin count));
  slots = each-empty entry_total entry_exact (λ k. SlotIsWithin count);
  files = each-empty gfid_total gfid_exact (λ k. RecordIsWithin count);
}

pub freed_stays_within : FreedStaysWithin
freed_stays_within count client c h = h

pub remounted_stays_within : RemountedStaysWithin
remounted_stays_within count c h =
    let files = c.store.files in
    record { dirs = h.dirs; slots = h.slots; files = each-retain_keys gfid_total gfid_exact (λ k. RecordIsWithin count) files (λ f. not (is_forward (get files f))) h.files }

layout_poked :
    (count : ℕ) (d : Gfid) (value : List ℕ) (s : Store) (r : Option DirRecord)
    → StoreIsWithin count s → IfSome r (DirIsWithin count d)
    → IfSome (option_map (λ x. with_dir s d (record x { value = Some value })) r) (StoreIsWithin count)
layout_poked count d value s None h known = tt
layout_poked count d value s (Some r) h known = with_dir_within count s h d (record r { value = Some value }) known

pub poked_stays_within : PokedStaysWithin
poked_stays_within count (poke.Layout d) value s h = layout_poked count d value s (dir s d) h (h.dirs d)
poked_stays_within count (poke.Linkto d n) value s h =
    let p = with_main (slot s (d, n)) (Linkto value) in
    cond_both (is_some (dir s d) && is_vacant (slot s (d, n)).main) (Some (with_slot s (d, n) p)) None (λ r. IfSome r (StoreIsWithin count)) (λ t. with_slot_within count s h (d, n) p tt) (λ t. tt)

-- ---- a volume that has grown

module _ (m n : ℕ) (l : m ≤ n) where
  main_grown : (x : Main) → MainIsWithin m x → MainIsWithin n x
  main_grown (Dir g) h = lt_of_lt_of_le h l
  main_grown (File f over) h = IfSome_then over h (λ b k. lt_of_lt_of_le k l)
  main_grown (Linkto value) h = tt

  record_grown : (r : Record) → RecordIsWithin m r → RecordIsWithin n r
  record_grown (Live hop bytes) h = tt
  record_grown r h = lt_of_lt_of_le h l

pub grown_stays_within : GrownStaysWithin
grown_stays_within m n s l h = record {
  dirs = λ g. IfSome_then (get s.dirs g) (h.dirs g) (λ r k. (lt_of_lt_of_le k.0 l, IfSome_then r.place k.1 (λ place homed. lt_of_lt_of_le homed l)));
  slots = λ e. IfSome_then (get s.slots e) (h.slots e) (λ p k. IfSome_then p.main k (main_grown m n l));
  files = λ f. IfSome_then (get s.files f) (h.files f) (record_grown m n l);
}
