-- Each request changes a store at its places only.
use Rattle.std.proofs.Common.{◌≡◌, ◌≢◌, ℕ, Bool, true, false, cond, not, List, [], refl, sym, ap, ◌∙◌}
use Rattle.std.proofs.lemmas.Bool.{false_from_ne_true}
use Rattle.std.specs.Prelude.{Option, Some, None, ◌==◌, ◌&&◌}
use Rattle.std.specs.declared.cmp.Ordering.{Ordering}
use Rattle.std.specs.declared.cmp.Ordering.TheVariants.{Less, Equal, Greater}
use Rattle.std.specs.Ordering.{eq_by_cmp, is_eq}
use Rattle.std.specs.FinMap.{IsAntisymmetric, get, insert, remove, retain_keys, get-retain_keys}
use Rattle.dht_types.proofs.PutLaws.{exact_gfid}
use Rattle.dht_types.specs.Gfid.{Entry, same_gfid}
use Rattle.dht_types.specs.Linkto.{linkto_value}
use Rattle.dht_types.specs.declared.stored.Main.TheVariants.{File, Linkto}
use Rattle.dht_types.specs.declared.stored.Standby.TheVariants as standby
use Rattle.dht_types.specs.declared.identifiers.Gfid.{Gfid}
use Rattle.dht_types.specs.declared.identifiers.BrickNo.{BrickNo}
use Rattle.dht_types.specs.declared.stored.DirRecord.{DirRecord}
use Rattle.dht_types.specs.declared.stored.Slot.{Slot}
use Rattle.dht_types.specs.declared.stored.Record.{Record}
use Rattle.dht_types.specs.declared.stored.Record.TheVariants.{Live, Moving, Standby as Copied, Forward}
use Rattle.dht_guard.specs.FileTable.{file_cell_of}
use Rattle.dht_brick.specs.Contents.{Store, Dirs, Slots, Files, entry_cmp, bare, dir, slot, file}
use Rattle.dht_brick.specs.FileRows.{guarded, record_row, copy_made, takes_copy, is_same_copy, copy_name, new_copy, hop_above, hop_below}
use Rattle.dht_brick.specs.Kinds.{row_of}
use Rattle.dht_brick.specs.Links.{links, is_marked, is_occupied}
use Rattle.dht_brick.specs.Locality.{Places, ChangesOnly, IsLocal, nowhere, name_places, file_places, NamesAreLocal, FilesAreLocal}
use Rattle.dht_brick.specs.NameRows.{beside, on_slot, slot_row, if_empty, slot_change}
use Rattle.dht_brick.specs.Named.{name_named, file_of}
use Rattle.dht_brick.specs.Outcome.{Outcome, Do, Refuse, Await, in_dir}
use Rattle.dht_brick.specs.Parts.{is_bare, is_plain, is_copy, put_slot, slot_shown, state_of, with_main, with_standby, without_standby, with_slot}
use Rattle.dht_brick.specs.declared.replies.Why.TheVariants as why
use Rattle.dht_brick.specs.declared.requests.NameRequest.{NameRequest}
use Rattle.dht_brick.specs.declared.requests.NameRequest.TheVariants.{Look, Page, Dirinfo, SetLayout, MakeDir, DropDir, Create, MakeLinkto, DropLinkto, Unlink, Link, LinkOver, Contest, Uncontest, StandLink, DropStandLink, Swap, PromoteLink, Orphans}
use Rattle.dht_brick.specs.declared.requests.FileRequest.{FileRequest}
use Rattle.dht_brick.specs.declared.requests.FileRequest.TheVariants.{Read, Write, LockedWrite, Truncate, LockedTruncate, Stat, Mark, Unmark, MakeStandby, StandbyWrite, CopyWrite, ClearDirty, DropStandby, Demote, Promote, Drop}
use Rattle.dht_brick.proofs.MapLemmas.{get-insert_other, get-remove_other}
use Rattle.dht_brick.proofs.TableLemmas.{gfid_total, gfid_exact, entry_total, entry_exact}

-- ---- maps at keys that were not changed

tied : (r : Ordering) → is_eq r ≡ true → r ≡ Equal
tied Less e = cc
tied Equal e = refl
tied Greater e = cc

apart :
    {K : Type 0} {R : K → K → Ordering} → IsAntisymmetric R → (k q : K)
    → ◌≢◌ {A = Option K} (Some k) (Some q) → eq_by_cmp R q k ≡ false
apart {R = R} exact k q differ = false_from_ne_true (eq_by_cmp R q k) (λ t. differ (ap Some (sym (exact q k (tied (R q k) t)))))

pub insert_dir :
    (dirs : Dirs) (g : Gfid) (r : DirRecord) (h : Gfid) → Some g ≢ Some h
    → get (insert dirs g r) h ≡ get dirs h
insert_dir dirs g r h differ = get-insert_other gfid_total dirs g r h (apart gfid_exact g h differ)

insert_file :
    (files : Files) (f : Gfid) (r : Record) (h : Gfid) → Some f ≢ Some h
    → get (insert files f r) h ≡ get files h
insert_file files f r h differ = get-insert_other gfid_total files f r h (apart gfid_exact f h differ)

put_by :
    (b : Bool) (slots : Slots) (e : Entry) (p : Slot) (k : Entry) → eq_by_cmp entry_cmp k e ≡ false
    → get (cond b (remove slots e) (insert slots e p)) k ≡ get slots k
put_by true slots e p k differ = get-remove_other entry_total slots e k differ
put_by false slots e p k differ = get-insert_other entry_total slots e p k differ

put_elsewhere :
    (slots : Slots) (e : Entry) (p : Slot) (k : Entry) → Some e ≢ Some k
    → get (put_slot slots e p) k ≡ get slots k
put_elsewhere slots e p k differ = put_by (is_bare p) slots e p k (apart entry_exact e k differ)

outside :
    (slots : Slots) (g : Gfid) (k : Entry) → Some g ≢ Some k.0
    → get (retain_keys slots (λ e. not (same_gfid g e.0))) k ≡ get slots k
outside slots g k differ =
    get-retain_keys slots (λ e. not (same_gfid g e.0)) k (λ x t. ap (λ (e : Entry). not (same_gfid g e.0)) (sym (entry_exact k x t)))
    ∙ ap (λ b. cond (not b) (get slots k) None) (false_from_ne_true (same_gfid g k.0) (λ t. differ (ap Some ((exact_gfid g k.0).0 t))))

-- ---- stores that differ at places

same : (p : Places) (s : Store) → ChangesOnly p s s
same p s = record { slots = λ e _ _. refl; dirs = λ g _. refl; files = λ f _. refl }

slot_changes :
    (s : Store) (e : Entry) (p : Slot) (dir file dropped : Option Gfid)
    → ChangesOnly (record { slot = Some e; dir = dir; file = file; dropped = dropped }) s
    (with_slot s e p)
slot_changes s e p dir file dropped = record { slots = λ k differ _. put_elsewhere s.slots e p k differ; dirs = λ g _. refl; files = λ f _. refl }

file_changes :
    (s : Store) (f : Gfid) (r : Record) (slot : Option Entry)
    → ChangesOnly (record nowhere { slot = slot; file = Some f }) s
    (record s { files = insert s.files f r })
file_changes s f r slot = record { slots = λ e _ _. refl; dirs = λ g _. refl; files = insert_file s.files f r }

both_change :
    (s : Store) (e : Entry) (p : Slot) (f : Gfid) (r : Record)
    → ChangesOnly (record nowhere { slot = Some e; file = Some f }) s
    (record s { slots = put_slot s.slots e p; files = insert s.files f r })
both_change s e p f r = record { slots = λ k differ _. put_elsewhere s.slots e p k differ; dirs = λ g _. refl; files = insert_file s.files f r }

-- the slot is changed, or it is not
may_change : (b : Bool) (s : Store) (e : Entry) (p : Slot) (f : Gfid) (r : Record)
    → ChangesOnly (record nowhere { slot = Some e; file = Some f }) s (record s { slots = cond b (put_slot s.slots e p) s.slots; files = insert s.files f r })
may_change true s e p f r = both_change s e p f r
may_change false s e p f r = file_changes s f r (Some e)

-- ---- requests about names

local_in_dir :
    (p : Places) (s : Store) (d : Option DirRecord) (outcome : DirRecord → Outcome Store)
    → ((r : DirRecord) → IsLocal p s (outcome r)) → IsLocal p s (in_dir d outcome)
local_in_dir p s None outcome h = tt
local_in_dir p s (Some r) outcome h = h r

local_slot :
    (p : Places) (q : NameRequest) (s : Store) (e : Entry) (o : Option Slot)
    → ((x : Slot) → ChangesOnly p s (beside q (with_slot s e x))) → IsLocal p s (on_slot q s e o)
local_slot p q s e None h = tt
local_slot p q s e (Some x) h = h x

local_if_empty :
    (p : Places) (s : Store) (b : Bool) (outcome : Outcome Store) → IsLocal p s outcome
    → IsLocal p s (if_empty b outcome)
local_if_empty p s true (Do given new) h = tt
local_if_empty p s true (Refuse w) h = tt
local_if_empty p s true (Await holder) h = tt
local_if_empty p s false outcome h = h

-- a request that changes a slot alone
module _ (bricks : List (List ℕ)) (q : NameRequest) (s : Store) where
  abbrev e : Entry
  e = name_named q

  local_change : (p : Places) → ((x : Slot) → ChangesOnly p s (beside q (with_slot s e x))) → IsLocal p s (in_dir (dir s e.0) (λ r. slot_change bricks q s e))
  local_change p h = local_in_dir p s (dir s e.0) _ (λ r. local_slot p q s e (slot_row bricks s q (slot s e)) h)

pub names_are_local : NamesAreLocal
names_are_local bricks (Look d n) s = local_in_dir nowhere s (dir s d) _ (λ r. same nowhere s)
names_are_local bricks (Page d after) s = local_in_dir nowhere s (dir s d) _ (λ r. same nowhere s)
names_are_local bricks (Dirinfo d) s = local_in_dir nowhere s (dir s d) _ (λ r. same nowhere s)
names_are_local bricks (SetLayout d value) s =
    local_in_dir (record nowhere { dir = Some d }) s (dir s d) _ (λ r. record { slots = λ e _ _. refl; dirs = insert_dir s.dirs d (record r { value = value }); files = λ f _. refl })
names_are_local bricks (MakeDir d n g depth value) s =
    local_change bricks (MakeDir d n g depth value) s (name_places (MakeDir d n g depth value)) (λ x. record {
      slots = λ k differ _. put_elsewhere s.slots (d, n) x k differ;
      dirs = insert_dir s.dirs g _;
      files = λ f _. refl;
    })
names_are_local bricks (DropDir d n g) s =
    let p = name_places (DropDir d n g) in
    local_in_dir p s (dir s d) _ (λ r. local_if_empty p s (is_occupied s.slots g) _ (local_slot p (DropDir d n g) s (d, n) (slot_row bricks s (DropDir d n g) (slot s (d, n))) (λ x. record {
      slots = λ k differ apart_from. outside (put_slot s.slots (d, n) x) g k apart_from ∙ put_elsewhere s.slots (d, n) x k differ;
      dirs = λ h differ. get-remove_other gfid_total s.dirs g h (apart gfid_exact g h differ);
      files = λ f _. refl;
    })))
names_are_local bricks (Create d n f) s =
    local_change bricks (Create d n f) s (name_places (Create d n f)) (λ x. both_change s (d, n) x f (Live 0 []))
names_are_local bricks (MakeLinkto d n value) s = local_change bricks (MakeLinkto d n value) s _ (λ x. slot_changes s (d, n) x None None None)
names_are_local bricks (DropLinkto d n) s = local_change bricks (DropLinkto d n) s _ (λ x. slot_changes s (d, n) x None None None)
names_are_local bricks (Unlink d n f) s = local_change bricks (Unlink d n f) s _ (λ x. slot_changes s (d, n) x None None None)
names_are_local bricks (Link d n f) s = local_change bricks (Link d n f) s _ (λ x. slot_changes s (d, n) x None None None)
names_are_local bricks (LinkOver d n f over) s = local_change bricks (LinkOver d n f over) s _ (λ x. slot_changes s (d, n) x None None None)
names_are_local bricks (Contest d n f brick) s = local_change bricks (Contest d n f brick) s _ (λ x. slot_changes s (d, n) x None None None)
names_are_local bricks (Uncontest d n f) s = local_change bricks (Uncontest d n f) s _ (λ x. slot_changes s (d, n) x None None None)
names_are_local bricks (StandLink d n f) s = local_change bricks (StandLink d n f) s _ (λ x. slot_changes s (d, n) x None None None)
names_are_local bricks (DropStandLink d n f) s = local_change bricks (DropStandLink d n f) s _ (λ x. slot_changes s (d, n) x None None None)
names_are_local bricks (Swap d n f value) s = local_change bricks (Swap d n f value) s _ (λ x. slot_changes s (d, n) x None None None)
names_are_local bricks (PromoteLink d n f) s = local_change bricks (PromoteLink d n f) s _ (λ x. slot_changes s (d, n) x None None None)
names_are_local bricks (Orphans after) s = same nowhere s

-- ---- requests about files

local_if :
    (p : Places) (s : Store) (b : Bool) (x y : Outcome Store) → IsLocal p s x → IsLocal p s y
    → IsLocal p s (cond b x y)
local_if p s true x y h k = h
local_if p s false x y h k = k

local_made :
    (s : Store) (f : Gfid) (e : Entry) (source : BrickNo) (hop : ℕ) (r : Option Record)
    → IsLocal (record nowhere { slot = Some e; file = Some f }) s (copy_made s f e source hop r)
local_made s f e source hop None = both_change s e (with_standby (slot s e) (standby.Copy f)) f (new_copy e source hop)
local_made s f e source hop (Some (Live h b)) = both_change s e (with_standby (slot s e) (standby.Copy f)) f (new_copy e source hop)
local_made s f e source hop (Some (Moving h d b)) = both_change s e (with_standby (slot s e) (standby.Copy f)) f (new_copy e source hop)
local_made s f e source hop (Some (Copied c)) = local_if (record nowhere { slot = Some e; file = Some f }) s (is_same_copy c e source hop) _ _ (file_changes s f _ (Some e)) tt
local_made s f e source hop (Some (Forward h b)) = both_change s e (with_standby (slot s e) (standby.Copy f)) f (new_copy e source hop)

local_standby : (s : Store) (f : Gfid) (e : Entry) (source : BrickNo) (hop : ℕ) (r : Option Record)
    → IsLocal (record nowhere { slot = Some e; file = Some f }) s (in_dir (dir s e.0) (λ x. cond (takes_copy f (slot s e)) (copy_made s f e source hop r) (Refuse (why.Slot (slot_shown (slot s e))))))
local_standby s f e source hop r =
    let p : Places = record nowhere { slot = Some e; file = Some f } in
    local_in_dir p s (dir s e.0) _ (λ x. local_if p s (takes_copy f (slot s e)) _ _ (local_made s f e source hop r) tt)

row_local : (bricks : List (List ℕ)) (q : FileRequest) (s : Store) (r : Option Record)
    → IsLocal (file_places q r) s (guarded (file_cell_of (row_of q) (state_of r)) r (record_row bricks q s r))
row_local bricks (Read f offset size) s (Some (Live h b)) = same _ s
row_local bricks (Read f offset size) s (Some (Moving h d b)) = same _ s
row_local bricks (Read f offset size) s r = tt
row_local bricks (Write f offset piece) s (Some (Live h b)) = file_changes s f _ None
row_local bricks (Write f offset piece) s r = tt
row_local bricks (LockedWrite f offset piece) s (Some (Live h b)) = file_changes s f _ None
row_local bricks (LockedWrite f offset piece) s (Some (Moving h d b)) = file_changes s f _ None
row_local bricks (LockedWrite f offset piece) s r = tt
row_local bricks (Truncate f size) s (Some (Live h b)) = file_changes s f _ None
row_local bricks (Truncate f size) s r = tt
row_local bricks (LockedTruncate f size) s (Some (Live h b)) = file_changes s f _ None
row_local bricks (LockedTruncate f size) s (Some (Moving h d b)) = file_changes s f _ None
row_local bricks (LockedTruncate f size) s r = tt
row_local bricks (Stat f) s (Some (Live h b)) = same _ s
row_local bricks (Stat f) s (Some (Moving h d b)) = same _ s
row_local bricks (Stat f) s r = tt
row_local bricks (Mark f dest) s (Some (Live h b)) = local_if (file_places (Mark f dest) None) s ((links s.slots f == 1) && not (is_marked s.slots f)) _ _ (file_changes s f _ None) tt
row_local bricks (Mark f dest) s r = tt
row_local bricks (Unmark f) s (Some (Moving h d b)) = file_changes s f _ None
row_local bricks (Unmark f) s r = tt
row_local bricks (MakeStandby f d n source hop) s None = local_standby s f (d, n) source hop None
row_local bricks (MakeStandby f d n source hop) s (Some (Copied c)) = local_standby s f (d, n) source hop (Some (Copied c))
row_local bricks (MakeStandby f d n source hop) s (Some (Forward h b)) = local_standby s f (d, n) source hop (Some (Forward h b))
row_local bricks (MakeStandby f d n source hop) s r = tt
row_local bricks (StandbyWrite f q) s (Some (Copied c)) = local_if (file_places (StandbyWrite f q) None) s c.is_dirty _ _ tt (file_changes s f _ None)
row_local bricks (StandbyWrite f q) s r = tt
row_local bricks (CopyWrite f offset piece) s (Some (Copied c)) = local_if (file_places (CopyWrite f offset piece) None) s c.is_dirty _ _ tt (file_changes s f _ None)
row_local bricks (CopyWrite f offset piece) s r = tt
row_local bricks (ClearDirty f) s (Some (Copied c)) = file_changes s f _ None
row_local bricks (ClearDirty f) s r = tt
row_local bricks (DropStandby f) s (Some (Copied c)) = may_change (is_copy f (slot s (copy_name c)).standby) s (copy_name c) (without_standby (slot s (copy_name c))) f (Forward (hop_below c.hop) c.source)
row_local bricks (DropStandby f) s r = tt
row_local bricks (Demote f d n) s (Some (Moving h b x)) = local_if (file_places (Demote f d n) None) s (is_plain f (slot s (d, n)).main) _ _ (both_change s (d, n) (with_main (slot s (d, n)) (Linkto (linkto_value bricks b.0))) f (Forward (hop_above h) b)) tt
row_local bricks (Demote f d n) s r = tt
row_local bricks (Promote f hop) s (Some (Copied c)) =
    local_if (record nowhere { slot = Some (copy_name c); file = Some f }) s ((hop == c.hop) && is_copy f (slot s (copy_name c)).standby) _ _ (both_change s (copy_name c) (with_main bare (File f None)) f (Live c.hop c.bytes)) tt
row_local bricks (Promote f hop) s r = tt
row_local bricks (Drop f) s (Some (Live h b)) =
    local_if (file_places (Drop f) None) s (links s.slots f == 0) _ _
    (record { slots = λ e _ _. refl; dirs = λ g _. refl; files = λ k differ. get-remove_other gfid_total s.files f k (apart gfid_exact f k differ) }) tt
row_local bricks (Drop f) s r = tt

pub files_are_local : FilesAreLocal
files_are_local bricks q s = row_local bricks q s (file s (file_of q))
