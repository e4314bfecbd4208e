-- What is saved and restored is as it was, and what a new brick shows.
use Rattle.std.proofs.Common.{◌≡◌, Bool, true, false, cond, not, List, [], ◌∷◌, map, filter, refl, sym, ap, ◌∙◌, length, arith}
use Rattle.std.specs.Prelude.{Option, Some, None, ◌++◌}
use Rattle.std.specs.Option.{option_map}
use Rattle.std.specs.declared.cmp.Ordering.{Ordering}
use Rattle.std.specs.declared.cmp.Ordering.TheVariants.{Less, Equal, Greater}
use Rattle.std.specs.Ordering.{eq_by_cmp, is_eq}
use Rattle.std.specs.FinMap.{FinMap, get, insert, remove, empty, entries, find, put, get-insert, get-remove, get-entries, get-retain_keys, get_tied, entries-insert, len-empty, len-entries, same_map}
use Rattle.dht_types.proofs.PutLaws.{exact_gfid}
use Rattle.dht_types.specs.Gfid.{Entry, root, same_gfid}
use Rattle.dht_types.specs.declared.identifiers.Gfid.{Gfid}
use Rattle.dht_types.specs.declared.lines.DumpLine.TheVariants as line
use Rattle.dht_types.specs.declared.stored.DirRecord.{DirRecord}
use Rattle.dht_types.specs.declared.stored.Record.{Record}
use Rattle.dht_types.specs.declared.stored.Slot.{Slot}
use Rattle.dht_brick.specs.Contents.{Slots, Files, Tables, gfid_cmp, entry_cmp, newborn}
use Rattle.dht_brick.specs.Dump.{dir_line, slot_line, file_line}
use Rattle.dht_brick.specs.Laws.{FileIsRestored, DirIsRestored, NewbornShowsTheRoot, NeverIsNotInMemory}
use Rattle.dht_brick.specs.Parts.{slots_outside}
use Rattle.dht_brick.specs.Saving.{saved_slot, slots_saved, slots_restored, dir_restored, file_restored}
use Rattle.dht_brick.specs.declared.requests.Request.TheVariants.{Lock, Unlock, Register, Unregister, Seal, OnNames, OnFile}
use Rattle.dht_brick.proofs.TableLemmas.{gfid_total, gfid_exact, entry_total, entry_exact}

tied : (r : Ordering) → is_eq r ≡ true → r ≡ Equal
tied Less e = cc
tied Equal e = refl
tied Greater e = cc

-- to put what is there already changes nothing
insert_same :
    {X : Type 0} (m : FinMap gfid_cmp X) (k : Gfid) (v : X) → get m k ≡ Some v → insert m k v ≡ m
insert_same m k v there =
    same_map gfid_total gfid_exact (insert m k v) m (λ q. get-insert gfid_total m k v q
    ∙ elim (eq_by_cmp gfid_cmp q k) as (λ b. eq_by_cmp gfid_cmp q k ≡ b → cond b (Some v) (get m q) ≡ get m q) [
      | true ↦ λ t. sym there ∙ get_tied gfid_total m q k (tied (gfid_cmp q k) t)
      | false ↦ λ t. refl
    ] refl)

-- to take away what is not there changes nothing
remove_none : {X : Type 0} (m : FinMap gfid_cmp X) (k : Gfid) → get m k ≡ None → remove m k ≡ m
remove_none m k none =
    same_map gfid_total gfid_exact (remove m k) m (λ q. get-remove gfid_total m k q
    ∙ elim (eq_by_cmp gfid_cmp q k) as (λ b. eq_by_cmp gfid_cmp q k ≡ b → cond b None (get m q) ≡ get m q) [
      | true ↦ λ t. sym none ∙ get_tied gfid_total m q k (tied (gfid_cmp q k) t)
      | false ↦ λ t. refl
    ] refl)

file_restored_by :
    (files : Files) (f : Gfid) (o : Option Record) → get files f ≡ o
    → file_restored f (option_map (λ r. record { gfid = f; file = r }) o) files ≡ files
file_restored_by files f None e = remove_none files f e
file_restored_by files f (Some r) e = insert_same files f r e

pub file_is_restored : FileIsRestored
file_is_restored files f = file_restored_by files f (get files f) refl

-- ---- directories

-- the first, or else the second
abbrev first_of : Option Slot → Option Slot → Option Slot
first_of None other = other
first_of (Some p) other = Some p

first_of-None : (o : Option Slot) → first_of o None ≡ o
first_of-None None = refl
first_of-None (Some p) = refl

either : {A : Type 0} (b : Bool) (x : A) → x ≡ cond b x x
either true x = refl
either false x = refl

module _ (g : Gfid) where
  abbrev here : Entry × Slot → Bool
  here e = same_gfid g e.0.0

  abbrev restored : List (Entry × Slot) → Slots → Slots
  restored es slots = slots_restored g (map saved_slot (filter here es)) slots

  -- a key in the directory, or one that is not
  abbrev looked_up : List (Entry × Slot) → Slots → Entry → Option Slot
  looked_up es slots q = cond (same_gfid g q.0) (first_of (find entry_cmp q es) (get slots q)) (get slots q)

  same_dir : (e q : Entry) → eq_by_cmp entry_cmp q e ≡ true → same_gfid g q.0 ≡ same_gfid g e.0
  same_dir e q t = ap (λ (k : Entry). same_gfid g k.0) (entry_exact q e (tied (entry_cmp q e) t))

  -- an entry of the directory first
  one_here : (e : Entry × Slot) (q : Entry) (rest : Option Slot) (slots : Slots) (others : List (Entry × Slot)) → same_gfid g e.0.0 ≡ true
      → rest ≡ looked_up others slots q → cond (eq_by_cmp entry_cmp q e.0) (Some e.1) rest ≡ looked_up (e ∷ others) slots q
  one_here e q rest slots others is_here so_far =
      elim (eq_by_cmp entry_cmp q e.0) as (λ b. eq_by_cmp entry_cmp q e.0 ≡ b → cond b (Some e.1) rest ≡ cond (same_gfid g q.0) (first_of (cond b (Some e.1) (find entry_cmp q others)) (get slots q)) (get slots q)) [
        | true ↦ λ t. ap (λ b. cond b (Some e.1) (get slots q)) (sym (same_dir e.0 q t ∙ is_here))
        | false ↦ λ t. so_far
      ] refl

  -- an entry of another directory first
  one_elsewhere : (e : Entry × Slot) (q : Entry) (slots : Slots) (others : List (Entry × Slot)) → same_gfid g e.0.0 ≡ false → looked_up others slots q ≡ looked_up (e ∷ others) slots q
  one_elsewhere e q slots others elsewhere =
      elim (eq_by_cmp entry_cmp q e.0) as (λ b. eq_by_cmp entry_cmp q e.0 ≡ b → looked_up others slots q ≡ cond (same_gfid g q.0) (first_of (cond b (Some e.1) (find entry_cmp q others)) (get slots q)) (get slots q)) [
        | true ↦ λ t. let no : same_gfid g q.0 ≡ false = same_dir e.0 q t ∙ elsewhere in
            ap (λ b. cond b (first_of (find entry_cmp q others) (get slots q)) (get slots q)) no
            ∙ ap (λ b. cond b (Some e.1) (get slots q)) (sym no)
        | false ↦ λ t. refl
      ] refl

  -- the key of a slot that was saved
  key_back : (e : Entry × Slot) → same_gfid g e.0.0 ≡ true → ◌≡◌ {A = Entry} (g, e.0.1) e.0
  key_back e is_here = λ i. ((exact_gfid g e.0.0).0 is_here i, e.0.1)

  get-restored : (es : List (Entry × Slot)) (slots : Slots) (q : Entry) → get (restored es slots) q ≡ looked_up es slots q
  get-restored [] slots q = either (same_gfid g q.0) (get slots q)
  get-restored (e ∷ es) slots q =
      elim (here e) as (λ b. here e ≡ b → get (slots_restored g (map saved_slot (cond b (e ∷ filter here es) (filter here es))) slots) q ≡ looked_up (e ∷ es) slots q) [
        | true ↦ λ is_here. get-insert entry_total (restored es slots) (g, e.0.1) e.1 q
            ∙ ap (λ (k : Entry). cond (eq_by_cmp entry_cmp q k) (Some e.1) (get (restored es slots) q)) (key_back e is_here)
            ∙ one_here e q (get (restored es slots) q) slots es is_here (get-restored es slots q)
        | false ↦ λ elsewhere. get-restored es slots q ∙ one_elsewhere e q slots es elsewhere
      ] refl

  get-outside : (slots : Slots) (q : Entry) → get (slots_outside slots g) q ≡ cond (not (same_gfid g q.0)) (get slots q) None
  get-outside slots q = get-retain_keys slots (λ e. not (same_gfid g e.0)) q (λ x t. ap (λ (k : Entry). not (same_gfid g k.0)) (sym (entry_exact q x t)))

  -- what was in the directory is found, and what was outside is kept
  found : (b : Bool) (o : Option Slot) → cond b (first_of o (cond (not b) o None)) (cond (not b) o None) ≡ o
  found true o = first_of-None o
  found false o = refl

  slots_are_restored : (slots : Slots) → slots_restored g (slots_saved slots g) (slots_outside slots g) ≡ slots
  unfolding slots_saved
  slots_are_restored slots =
      same_map entry_total entry_exact (restored (entries slots) (slots_outside slots g)) slots (λ q. get-restored (entries slots) (slots_outside slots g) q
      ∙ ap (λ o. cond (same_gfid g q.0) (first_of o (get (slots_outside slots g) q)) (get (slots_outside slots g) q)) (sym (get-entries slots q))
      ∙ ap (λ o. cond (same_gfid g q.0) (first_of (get slots q) o) o) (get-outside slots q)
      ∙ found (same_gfid g q.0) (get slots q))

dir_restored_by :
    (t : Tables) (g : Gfid) (r : DirRecord) (o : Option DirRecord) → get t.dirs g ≡ Some r
    → o ≡ Some r
    → dir_restored g (option_map (λ x. record { gfid = g; dir = x; slots = slots_saved t.slots g }) o) t ≡ t
dir_restored_by t g r None there e = cc
dir_restored_by t g r (Some x) there e =
    let dirs : insert t.dirs g x ≡ t.dirs = insert_same t.dirs g x (there ∙ sym e) in
    λ i. record { dirs = dirs i; slots = slots_are_restored g t.slots i; bricks = t.bricks }

pub dir_is_restored : DirIsRestored
dir_is_restored t g r there = dir_restored_by t g r (get t.dirs g) there there

-- ---- new bricks

no_length : {A : Type 0} (es : List A) → length es ≡ 0 → es ≡ []
no_length [] e = refl
no_length (x ∷ es) e = absurd (omega arith)

entries-empty :
    {K : Type 0} (R : K → K → Ordering) (X : Type 0) → entries (empty {X = X} {R = R}) ≡ []
entries-empty R X = no_length (entries (empty {X = X} {R = R})) (sym (len-entries (empty {X = X} {R = R})) ∙ len-empty R X)

pub a_new_brick_shows_the_root : NewbornShowsTheRoot
a_new_brick_shows_the_root b is_up value =
    let birth : DirRecord = record { place = None; depth = 0; value = value } in
    let dirs : entries (insert (empty {X = DirRecord} {R = gfid_cmp}) root birth) ≡ (root, birth) ∷ [] =
    entries-insert gfid_total empty root birth ∙ ap (put gfid_cmp root birth) (entries-empty gfid_cmp DirRecord) in
    let s = (newborn value).store in
    λ i. line.Brick b is_up ∷ (map (dir_line b) (dirs i) ++ map (slot_line b) (entries-empty entry_cmp Slot i) ++ map (file_line b s) (entries-empty gfid_cmp Record i))

-- ---- memory

pub never_is_not_in_memory : NeverIsNotInMemory
never_is_not_in_memory (Lock key mode) h = absurd h
never_is_not_in_memory (Unlock key) h = tt
never_is_not_in_memory (Register f) h = absurd h
never_is_not_in_memory (Unregister f call) h = tt
never_is_not_in_memory (Seal f) h = absurd h
never_is_not_in_memory (OnNames q) h = absurd h
never_is_not_in_memory (OnFile q) h = absurd h
