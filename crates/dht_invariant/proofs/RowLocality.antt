-- A request that a brick carries out changes what it reaches, and no more.
use Rattle.std.proofs.Common.{◌≡◌, ◌≢◌, ℕ, Bool, true, false, List, [], ◌∷◌, cond, refl, sym, ap, ◌∙◌, subst, inl, inr}
use Rattle.std.specs.Prelude.{Option, Some, None, is_some, not, ◌&&◌, ◌||◌, nat_eq, if◌then◌else◌, unwrap_or, ◌==◌}
use Rattle.std.specs.FinMap.{FinMap, IsAntisymmetric, get, insert, entries, retain_keys, get-retain_keys, get-remove, get-entries}
use Rattle.std.specs.FinMap.Entries.{find}
use Rattle.std.specs.List.{list_any}
use Rattle.std.specs.Option.{option_map}
use Rattle.std.specs.Ordering.{eq_by_cmp}
use Rattle.std.specs.declared.cmp.Ordering.{Ordering}
use Rattle.dht_types.proofs.PutLaws.{put_elim, put_other, exact_nat, exact_gfid}
use Rattle.dht_types.specs.Gfid.{Entry, same_gfid}
use Rattle.dht_types.specs.Put.{put}
use Rattle.dht_types.specs.declared.identifiers.CallNo.{CallNo}
use Rattle.dht_types.specs.declared.identifiers.ClientNo.{ClientNo}
use Rattle.dht_types.specs.declared.identifiers.Gfid.{Gfid}
use Rattle.dht_types.specs.declared.locks.Key.{Key}
use Rattle.dht_types.specs.declared.locks.Mode.{Mode}
use Rattle.dht_types.specs.declared.stored.DirRecord.{DirRecord}
use Rattle.dht_types.specs.declared.stored.Main.{Main}
use Rattle.dht_types.specs.declared.stored.Main.TheVariants.{Dir, File, Linkto}
use Rattle.dht_types.specs.declared.stored.Slot.{Slot}
use Rattle.dht_brick.proofs.LocalityLaws.{names_are_local, files_are_local}
use Rattle.dht_brick.proofs.LockLaws.{exact_key}
use Rattle.dht_brick.proofs.MapLemmas.{get-insert_here}
use Rattle.dht_brick.proofs.TableLemmas.{gfid_total, gfid_exact, entry_exact, is_some-option_map}
use Rattle.dht_brick.specs.Contents.{Contents, Store, Slots, Locks, Opens, bare, dir, file, slot, slot_in, entry_cmp}
use Rattle.dht_brick.specs.FileRows.{file_row}
use Rattle.dht_brick.specs.Links.{is_occupied}
use Rattle.dht_brick.specs.Locality.{Places, ChangesOnly, IsLocal, name_places, file_places}
use Rattle.dht_brick.specs.LockRows.{same_key, held, awaited, unless_awaited, lock_row}
use Rattle.dht_brick.specs.NameRows.{name_row, on_slot, slot_row, if_empty}
use Rattle.dht_brick.specs.Named.{file_of}
use Rattle.dht_brick.specs.OpenRows.{registration, registered, unregistered, sealed, registrations, is_sealed, register_row, seal_row}
use Rattle.dht_brick.specs.Outcome.{Outcome, Do, Refuse, Await, in_dir, within, left_by, unless}
use Rattle.dht_brick.specs.Parts.{is_vacant, is_visible, put_slot, with_dir}
use Rattle.dht_brick.specs.Rows.{row, with_store, with_opens, with_locks}
use Rattle.dht_brick.specs.declared.opens.Registration.{Registration}
use Rattle.dht_brick.specs.declared.replies.Given.TheVariants as given
use Rattle.dht_brick.specs.declared.replies.Why.{Why}
use Rattle.dht_brick.specs.declared.requests.FileRequest.{FileRequest}
use Rattle.dht_brick.specs.declared.requests.NameRequest.{NameRequest}
use Rattle.dht_brick.specs.declared.requests.NameRequest.TheVariants.{SetLayout, MakeDir, DropDir}
use Rattle.dht_brick.specs.declared.requests.Request.{Request}
use Rattle.dht_brick.specs.declared.requests.Request.TheVariants.{Lock, Unlock, Register, Unregister, Seal, OnNames, OnFile}
use Rattle.dht_section.specs.Views.{core, visible}
use Rattle.dht_invariant.specs.Laws.{RowsAreLocal}
use Rattle.dht_invariant.specs.Locality.{Reach, ALock, ARegistration, ASeal, SlotStays, Same, Went, ChangesWithin, depth_in, name_turns, reach}
use Rattle.dht_invariant.proofs.Basics.{gfid_cases, none_some, other_some}
use Rattle.dht_invariant.proofs.ContentsLaws.{get_off, is_equal}
use Rattle.dht_invariant.proofs.RegistrationLaws.{registration_total, registration_exact}

-- ---- what is left where a request is carried out

abbrev Leaves : {A : Type 0} → (A → Type 0) → Outcome A → Type 0
Leaves P (Do given new) = P new
Leaves P (Refuse why) = Unit {0}
Leaves P (Await holder) = Unit {0}

leaves_within :
    {A : Type 0} (P : Contents → Type 0) (whole : A → Contents) (o : Outcome A)
    → Leaves (λ a. P (whole a)) o → Leaves P (within whole o)
leaves_within P whole (Do given new) h = h
leaves_within P whole (Refuse why) h = tt
leaves_within P whole (Await holder) h = tt

leaves_unless :
    {A : Type 0} (P : A → Type 0) (v : Bool) (why : Why) (o : Outcome A) → Leaves P o
    → Leaves P (unless v why o)
leaves_unless P true why o h = tt
leaves_unless P false why o h = h

leaves_if :
    {A : Type 0} (P : A → Type 0) (v : Bool) (why : Why) (o : Outcome A) → Leaves P o
    → Leaves P (if v then o else Refuse why)
leaves_if P true why o h = h
leaves_if P false why o h = tt

leaves_asked :
    (P : Locks → Type 0) (holder : Option ℕ) (o : Outcome Locks) → Leaves P o
    → Leaves P (unless_awaited holder o)
leaves_asked P None o h = h
leaves_asked P (Some holder) o h = tt

-- ---- stores

-- the store is as it was, beside these places and a directory that comes or goes
record Rest (p : Places) (turned : Option Gfid) (old new : Store) : Type 0 where
  only : ChangesOnly p old new
  slots : (e : Entry) → p.slot ≢ Some e → SlotStays old new e
  depths : (g : Gfid) → turned ≢ Some g → depth_in new g ≡ depth_in old g

-- where no directory's record changes
plain_rest :
    (p : Places) (old new : Store) → p.dir ≡ None → p.dropped ≡ None → ChangesOnly p old new
    → Rest p None old new
plain_rest p old new dir dropped h = record {
  only = h;
  slots = λ e ne. Same (ap (λ o. unwrap_or o bare) (h.slots e ne (λ k. none_some p.dropped e.0 dropped k))) (λ l. ap is_some (h.dirs e.0 (λ k. none_some p.dir e.0 dir k)) ∙ l);
  depths = λ g ne. ap (option_map (λ (r : DirRecord). r.depth)) (h.dirs g (λ k. none_some p.dir g dir k));
}

plain_leaves :
    (p : Places) (s : Store) (o : Outcome Store) → p.dir ≡ None → p.dropped ≡ None → IsLocal p s o
    → Leaves (Rest p None s) o
plain_leaves p s (Do given new) dir dropped h = plain_rest p s new dir dropped h
plain_leaves p s (Refuse why) dir dropped h = tt
plain_leaves p s (Await holder) dir dropped h = tt

same_rest : (p : Places) (turned : Option Gfid) (s : Store) → Rest p turned s s
same_rest p turned s = record {
  only = record { slots = λ e ne out. refl; dirs = λ g ne. refl; files = λ f ne. refl };
  slots = λ e ne. Same refl (λ l. l);
  depths = λ g ne. refl;
}

-- a directory of a depth is there
depth_there :
    (old new : Store) (g : Gfid) → depth_in new g ≡ depth_in old g → is_some (dir old g) ≡ true
    → is_some (dir new g) ≡ true
depth_there old new g e l =
    sym (is_some-option_map (λ (r : DirRecord). r.depth) (dir new g))
    ∙ (ap is_some e ∙ (is_some-option_map (λ (r : DirRecord). r.depth) (dir old g) ∙ l))

-- another value leaves the depth
set_rest :
    (d : Gfid) (value : Option (List ℕ)) (s : Store) (o : Option DirRecord) → dir s d ≡ o
    → IsLocal (name_places (SetLayout d value)) s
    (in_dir o (λ r. Do given.Nothing (with_dir s d (record r { value = value }))))
    → Leaves (Rest (name_places (SetLayout d value)) None s) (in_dir o (λ r. Do given.Nothing (with_dir s d (record r { value = value }))))
set_rest d value s None e only = tt
set_rest d value s (Some r) e only = record {
  only = only;
  slots = λ x ne. Same refl (depth_there s new x.0 (depth x.0));
  depths = λ g ne. depth g;
}
  where
    new : Store
    new = with_dir s d (record r { value = value })

    depth : (g : Gfid) → depth_in (with_dir s d (record r { value = value })) g ≡ depth_in s g
    depth g = elim (gfid_cases g d) [
      | inl q ↦ ap (depth_in (with_dir s d (record r { value = value }))) q
          ∙ (ap (option_map (λ (x : DirRecord). x.depth)) (get-insert_here gfid_total s.dirs d (record r { value = value }))
          ∙ (sym (ap (option_map (λ (x : DirRecord). x.depth)) e) ∙ ap (depth_in s) (sym q)))
      | inr ne ↦ ap (option_map (λ (x : DirRecord). x.depth)) (only.dirs g (other_some d g ne))
    ]

-- a directory is made
module _ (d : Gfid) (n : List ℕ) (g : Gfid) (depth : ℕ) (value : Option (List ℕ)) (s : Store) where
  abbrev made : NameRequest
  made = MakeDir d n g depth value

  made_rest : (o : Option DirRecord) (p : Option Slot) → IsLocal (name_places (MakeDir d n g depth value)) s (in_dir o (λ r. on_slot (MakeDir d n g depth value) s (d, n) p))
      → Leaves (Rest (name_places (MakeDir d n g depth value)) (Some g) s) (in_dir o (λ r. on_slot (MakeDir d n g depth value) s (d, n) p))
  made_rest None p only = tt
  made_rest (Some r) None only = tt
  made_rest (Some r) (Some x) only = record {
    only = only;
    slots = λ e ne. Same (ap (λ o. unwrap_or o bare) (only.slots e ne (λ k. let z : None ≡ Some e.0 = k in cc))) (λ l. elim (gfid_cases e.0 g) [
      | inl q ↦ ap (λ (h : Gfid). is_some (get (insert s.dirs g (record { place = Some (record { dir = d; name = n }); depth = depth; value = value })) h)) q
          ∙ ap is_some (get-insert_here gfid_total s.dirs g (record { place = Some (record { dir = d; name = n }); depth = depth; value = value }))
      | inr apart ↦ ap is_some (only.dirs e.0 (other_some g e.0 apart)) ∙ l
    ]);
    depths = λ h ne. ap (option_map (λ (x : DirRecord). x.depth)) (only.dirs h ne);
  }

-- ---- a directory that is dropped, in which nothing stands

pub or_false : (v w : Bool) → (v || w) ≡ false → (v ≡ false) × (w ≡ false)
or_false true w h = absurd (let e : true ≡ false = h in cc)
or_false false w h = (refl, h)

and_false : (v w : Bool) → v ≡ true → (v && w) ≡ false → w ≡ false
and_false true w e h = h
and_false false w e h = absurd (let z : false ≡ true = e in cc)

module _ (g : Gfid) (e : Entry) (q : e.0 ≡ g) where
  abbrev shown_in : Entry × Slot → Bool
  shown_in x = same_gfid g x.0.0 && is_visible x.1

  seek_by : (x : Entry × Slot) (es : List (Entry × Slot)) (v : Bool) → eq_by_cmp entry_cmp e x.0 ≡ v → (shown_in x || list_any shown_in es) ≡ false → is_visible (unwrap_or (find entry_cmp e es) bare) ≡ false → is_visible (unwrap_or (cond v (Some x.1) (find entry_cmp e es)) bare) ≡ false
  seek_by x es true k h rest =
      let same : e ≡ x.0 = entry_exact e x.0 (is_equal (entry_cmp e x.0) k) in
      and_false (same_gfid g x.0.0) (is_visible x.1) ((exact_gfid g x.0.0).1 (sym q ∙ ap (λ (y : Entry). y.0) same)) (or_false (shown_in x) (list_any shown_in es) h).0
  seek_by x es false k h rest = rest

  seek : (es : List (Entry × Slot)) → list_any shown_in es ≡ false → is_visible (unwrap_or (find entry_cmp e es) bare) ≡ false
  seek [] h = refl
  seek (x ∷ es) h = seek_by x es (eq_by_cmp entry_cmp e x.0) refl h (seek es (or_false (shown_in x) (list_any shown_in es) h).1)

  unoccupied : (slots : Slots) → is_occupied slots g ≡ false → is_visible (slot_in slots e) ≡ false
  unfolding is_occupied
  unoccupied slots h = ap (λ o. is_visible (unwrap_or o bare)) (get-entries slots e) ∙ seek (entries slots) h

-- what stands for nothing is bare but for its linkto
hidden_main : (m : Option Main) → not (is_vacant m) ≡ false → visible m ≡ None
hidden_main None h = refl
hidden_main (Some (Dir g)) h = absurd (let e : true ≡ false = h in cc)
hidden_main (Some (File f over)) h = absurd (let e : true ≡ false = h in cc)
hidden_main (Some (Linkto value)) h = refl

hidden_none : {A : Type 0} (o : Option A) → is_some o ≡ false → o ≡ None
hidden_none None h = refl
hidden_none (Some x) h = absurd (let e : true ≡ false = h in cc)

hidden_core : (p : Slot) → is_visible p ≡ false → core p ≡ bare
hidden_core p h =
    let parts = or_false (not (is_vacant p.main)) (is_some p.standby) h in
    λ i. record { main = hidden_main p.main parts.0 i; standby = hidden_none p.standby parts.1 i }

module _ (d : Gfid) (n : List ℕ) (g : Gfid) (s : Store) where
  dropped_rest : (o : Option DirRecord) (v : Bool) (p : Option Slot) → is_occupied s.slots g ≡ v → IsLocal (name_places (DropDir d n g)) s (in_dir o (λ r. if_empty v (on_slot (DropDir d n g) s (d, n) p)))
      → Leaves (Rest (name_places (DropDir d n g)) (Some g) s) (in_dir o (λ r. if_empty v (on_slot (DropDir d n g) s (d, n) p)))
  dropped_rest None v p none only = tt
  dropped_rest (Some r) true None none only = tt
  dropped_rest (Some r) true (Some x) none only = tt
  dropped_rest (Some r) false None none only = tt
  dropped_rest (Some r) false (Some x) none only = record {
    only = only;
    slots = λ e ne. elim (gfid_cases e.0 g) [
      | inl q ↦ Went (hidden_core (slot s e) (unoccupied g e q s.slots none)) (gone e q)
      | inr apart ↦ Same (ap (λ o. unwrap_or o bare) (only.slots e ne (other_some g e.0 apart))) (λ l. ap is_some (only.dirs e.0 (other_some g e.0 apart)) ∙ l)
    ];
    depths = λ h ne. ap (option_map (λ (y : DirRecord). y.depth)) (only.dirs h ne);
  }
    where
      gone : (e : Entry) → e.0 ≡ g → slot_in (retain_keys (put_slot s.slots (d, n) x) (λ k. not (same_gfid g k.0))) e ≡ bare
      gone e q = ap (λ o. unwrap_or o bare) (get-retain_keys (put_slot s.slots (d, n) x) (λ k. not (same_gfid g k.0)) e (λ y t. ap (λ (k : Entry). not (same_gfid g k.0)) (sym (entry_exact e y t)))
          ∙ ap (λ v. cond (not v) (get (put_slot s.slots (d, n) x) e) None) ((exact_gfid g e.0).1 (sym q)))

-- ---- the rows of names and of files

names_rest :
    (bricks : List (List ℕ)) (q : NameRequest) (s : Store)
    → Leaves (Rest (name_places q) (name_turns q) s) (name_row bricks q s)
names_rest bricks (SetLayout d value) s = set_rest d value s (dir s d) refl (names_are_local bricks (SetLayout d value) s)
names_rest bricks (MakeDir d n g depth value) s = made_rest d n g depth value s (dir s d) (slot_row bricks s (MakeDir d n g depth value) (slot s (d, n))) (names_are_local bricks (MakeDir d n g depth value) s)
names_rest bricks (DropDir d n g) s = dropped_rest d n g s (dir s d) (is_occupied s.slots g) (slot_row bricks s (DropDir d n g) (slot s (d, n))) refl (names_are_local bricks (DropDir d n g) s)
names_rest bricks q s = plain_leaves (name_places q) s (name_row bricks q s) refl refl (names_are_local bricks q s)

files_rest :
    (bricks : List (List ℕ)) (q : FileRequest) (s : Store)
    → Leaves (Rest (file_places q (file s (file_of q))) None s) (file_row bricks q s)
files_rest bricks q s = plain_leaves (file_places q (file s (file_of q))) s (file_row bricks q s) refl refl (files_are_local bricks q s)

-- ---- contents

store_changed :
    (p : Reach) (c : Contents) (s : Store) → Rest p.stored p.turned c.store s
    → ChangesWithin p c (with_store c s)
store_changed p c s h = record { store = h.only; slots = h.slots; depths = h.depths; locks = λ key w ne. refl; registrations = λ r ne. refl; seals = λ f ne. refl }

store_leaves :
    (p : Reach) (c : Contents) (o : Outcome Store) → Leaves (Rest p.stored p.turned c.store) o
    → Leaves (ChangesWithin p c) (within (with_store c) o)
store_leaves p c (Do given new) h = store_changed p c new h
store_leaves p c (Refuse why) h = tt
store_leaves p c (Await holder) h = tt

-- one client's hold of one lock
held_elsewhere :
    (locks : Locks) (key : Key) (client : ℕ) (v : Option Mode) (k : Key) (w : ℕ)
    → ALock key client ≢ ALock k w → held locks key client v k w ≡ locks k w
held_elsewhere locks key client v k w ne =
    put_elim (λ (h : ℕ → Option Mode). h w ≡ locks k w) same_key exact_key locks key (put nat_eq (locks key) client v) k
    (λ q. put_other nat_eq exact_nat (locks key) client v w (λ r. ne (λ i. ALock (sym q i) (sym r i))) ∙ ap (λ (j : Key). locks j w) (sym q))
    (λ apart. refl)

lock_changed :
    (p : Reach) (c : Contents) (key : Key) (client : ℕ) (v : Option Mode)
    → p.hold ≡ ALock key client → ChangesWithin p c (with_locks c (held c.locks key client v))
lock_changed p c key client v e =
    let same = same_rest p.stored p.turned c.store in
    record { store = same.only; slots = same.slots; depths = same.depths; locks = λ k w ne. held_elsewhere c.locks key client v k w (λ z. ne (e ∙ z)); registrations = λ r ne. refl; seals = λ f ne. refl }

remove_by :
    {K X : Type 0} {R : K → K → Ordering} → IsAntisymmetric R
    → (m : FinMap R X) (k q : K) (v : Bool) → eq_by_cmp R q k ≡ v → q ≢ k
    → cond v None (get m q) ≡ get m q
remove_by {R = R} exact m k q true e ne = absurd (ne (exact q k (is_equal (R q k) e)))
remove_by exact m k q false e ne = refl

-- who has a file open, and which are sealed
opens_changed :
    (p : Reach) (c : Contents) (o : Opens)
    → ((r : Registration) → p.hold ≢ ARegistration r → get o.registered r ≡ get c.opens.registered r)
    → ((f : Gfid) → p.hold ≢ ASeal f → get o.sealed f ≡ get c.opens.sealed f)
    → ChangesWithin p c (with_opens c o)
opens_changed p c o registrations seals =
    let same = same_rest p.stored p.turned c.store in
    record { store = same.only; slots = same.slots; depths = same.depths; locks = λ key w ne. refl; registrations = registrations; seals = seals }

registered_changed :
    (p : Reach) (c : Contents) (r : Registration) → p.hold ≡ ARegistration r
    → ChangesWithin p c (with_opens c (registered c.opens r))
registered_changed p c r e = opens_changed p c (registered c.opens r) (λ x ne. get_off registration_total registration_exact c.opens.registered r tt x (λ q. ne (e ∙ ap ARegistration (sym q)))) (λ f ne. refl)

unregistered_changed :
    (p : Reach) (c : Contents) (r : Registration) → p.hold ≡ ARegistration r
    → ChangesWithin p c (with_opens c (unregistered c.opens r))
unregistered_changed p c r e = opens_changed p c (unregistered c.opens r) (λ x ne. get-remove registration_total c.opens.registered r x ∙ remove_by registration_exact c.opens.registered r x _ refl (λ q. ne (e ∙ ap ARegistration (sym q)))) (λ f ne. refl)

sealed_changed :
    (p : Reach) (c : Contents) (f : Gfid) → p.hold ≡ ASeal f
    → ChangesWithin p c (with_opens c (sealed c.opens f))
sealed_changed p c f e = opens_changed p c (sealed c.opens f) (λ r ne. refl) (λ g ne. get_off gfid_total gfid_exact c.opens.sealed f tt g (λ q. ne (e ∙ ap ASeal (sym q))))

-- ---- all rows

row_leaves :
    (bricks : List (List ℕ)) (client : ClientNo) (call : CallNo) (q : Request) (c : Contents)
    → Leaves (ChangesWithin (reach client call q c.store) c) (row bricks client call q c)
row_leaves bricks client call (Lock key mode) c =
    let p = reach client call (Lock key mode) c.store in
    leaves_within (ChangesWithin p c) (with_locks c) (lock_row client key mode c.locks)
    (leaves_asked (λ l. ChangesWithin p c (with_locks c l)) (awaited c.locks client key mode) (Do given.Nothing (held c.locks key client.0 (Some mode))) (lock_changed p c key client.0 (Some mode) refl))
row_leaves bricks client call (Unlock key) c = lock_changed (reach client call (Unlock key) c.store) c key client.0 None refl
row_leaves bricks client call (Register f) c =
    let p = reach client call (Register f) c.store in
    leaves_within (ChangesWithin p c) (with_opens c) (register_row client call f c.opens)
    (leaves_unless (λ o. ChangesWithin p c (with_opens c o)) (is_sealed c.opens f) _ (Do given.Nothing (registered c.opens (registration f client call))) (registered_changed p c (registration f client call) refl))
row_leaves bricks client call (Unregister f opened) c = unregistered_changed (reach client call (Unregister f opened) c.store) c (registration f client opened) refl
row_leaves bricks client call (Seal f) c =
    let p = reach client call (Seal f) c.store in
    leaves_within (ChangesWithin p c) (with_opens c) (seal_row f c.opens)
    (leaves_if (λ o. ChangesWithin p c (with_opens c o)) (registrations c.opens f == 0) _ (Do given.Nothing (sealed c.opens f)) (sealed_changed p c f refl))
row_leaves bricks client call (OnNames q) c = store_leaves (reach client call (OnNames q) c.store) c (name_row bricks q c.store) (names_rest bricks q c.store)
row_leaves bricks client call (OnFile q) c = store_leaves (reach client call (OnFile q) c.store) c (file_row bricks q c.store) (files_rest bricks q c.store)

pub rows_are_local : RowsAreLocal
rows_are_local bricks client call q c new given e = subst (Leaves (ChangesWithin (reach client call q c.store) c)) e (row_leaves bricks client call q c)

-- ---- whatever a request comes to

pub unchanged_within : (p : Reach) (c : Contents) → ChangesWithin p c c
unchanged_within p c =
    let same = same_rest p.stored p.turned c.store in
    record { store = same.only; slots = same.slots; depths = same.depths; locks = λ key w ne. refl; registrations = λ r ne. refl; seals = λ f ne. refl }

left_within :
    (p : Reach) (c : Contents) (o : Outcome Contents) → Leaves (ChangesWithin p c) o
    → ChangesWithin p c (left_by o c)
left_within p c (Do given new) h = h
left_within p c (Refuse why) h = unchanged_within p c
left_within p c (Await holder) h = unchanged_within p c

pub row_within :
    (bricks : List (List ℕ)) (client : ClientNo) (call : CallNo) (q : Request) (c : Contents)
    → ChangesWithin (reach client call q c.store) c (left_by (row bricks client call q c) c)
row_within bricks client call q c = left_within (reach client call q c.store) c (row bricks client call q c) (row_leaves bricks client call q c)
