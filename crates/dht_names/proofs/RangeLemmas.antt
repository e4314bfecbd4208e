-- The slots of one directory in the map of all slots.
use Rattle.std.proofs.Common.{arith, ◌≡◌, ◌<◌, ◌-◌, ℕ, zero, suc, Bool, true, false, cond, List, [], ◌∷◌, refl, sym, ap, subst, ◌∙◌}
use Rattle.std.specs.Prelude.{Option, Some, None, ◌&&◌, IsSome, IfSome, not, is_some, filter}
use Rattle.std.specs.List.{slice_get, AllByRecursion}
use Rattle.std.specs.List.Sorted.{IsStrictlySortedBy}
use Rattle.std.specs.Map.{keys_of}
use Rattle.std.specs.declared.ops.Bound.TheVariants.{Unbounded}
use Rattle.std.specs.declared.cmp.Ordering.{Ordering}
use Rattle.std.specs.declared.cmp.Ordering.TheVariants.{Less, Equal, Greater}
use Rattle.std.specs.Ordering.{is_gt, is_lt, is_le, is_eq, eq_by_cmp, ordering_then, ordering_reverse, nat_cmp}
use Rattle.std.specs.Cmp.{tied_itself}
use Rattle.std.specs.FinMap.{get, remove, len, get-empty, get-remove, get-retain_keys, len-remove, empty_of_len, same_map}
use Rattle.std.specs.Cmp.Lexicographic.{slice_cmp}
use Rattle.std.specs.BTreeMap.Range.{is_from_start, range_contains}
use Rattle.dht_types.specs.Gfid.{Entry, same_gfid}
use Rattle.dht_types.specs.declared.identifiers.Gfid.{Gfid}
use Rattle.dht_types.specs.declared.names.EntryKey.{EntryKey}
use Rattle.dht_types.specs.declared.stored.Slot.{Slot}
use Rattle.dht_types.proofs.PutLaws.{exact_gfid}
use Rattle.dht_brick.specs.Contents.{Slots, entry_at, entry_cmp, gfid_cmp}
use Rattle.dht_brick.specs.Looks.{is_name_above, is_on_page}
use Rattle.dht_brick.specs.Parts.{slots_outside, is_visible}
use Rattle.dht_brick.proofs.TableLemmas.{gfid_total, gfid_exact, entry_total, entry_exact}
use Rattle.dht_names.specs.Slots.{slot_of, start_of}
use Rattle.dht_names.specs.declared.kept.KeptSlot.{KeptSlot}
use Rattle.dht_names.proofs.CountLemmas.{gfid_ties}
use Rattle.dht_names.proofs.SlotLemmas.{shown_slots, filter-map}

get-outside :
    (m : Slots) (d : Gfid) (q : Entry)
    → get (slots_outside m d) q ≡ cond (not (same_gfid d q.0)) (get m q) None
get-outside m d q = get-retain_keys m (λ e. not (same_gfid d e.0)) q (λ x t. ap (λ (k : Entry). not (same_gfid d k.0)) (sym (entry_exact q x t)))

tied : (r : Ordering) → is_eq r ≡ true → r ≡ Equal
tied Less e = cc
tied Equal e = refl
tied Greater e = cc

gone_here :
    {X : Type 0} (b : Bool) (o : Option X) → b ≡ true → cond (not b) None None ≡ cond (not b) o None
gone_here true o e = refl
gone_here false o e = cc

not_empty : (m : Slots) (k : Entry) (n : ℕ) → n ≡ len m → IsSome (get m k) → 0 < n
not_empty m k zero e there = let none = ap (λ (x : Slots). is_some (get x k)) (empty_of_len m (sym e)) ∙ ap is_some (get-empty entry_cmp k) in let no = sym there ∙ none in cc
not_empty m k (suc n) e there = omega arith

-- a directory that has no slot can be dropped
pub outside_same :
    (m : Slots) (d : Gfid) → ((q : Entry) → q.0 ≡ d → get m q ≡ None) → slots_outside m d ≡ m
outside_same m d none =
    same_map entry_total entry_exact (slots_outside m d) m (λ q.
    get-outside m d q
    ∙ elim (same_gfid d q.0) as (λ b. same_gfid d q.0 ≡ b → cond (not b) (get m q) None ≡ get m q) [
      | true ↦ λ t. sym (none q (sym ((exact_gfid d q.0).0 t)))
      | false ↦ λ t. refl
    ] refl)

not_less :
    (r : Ordering) (x : Ordering) → is_gt (ordering_then r x) ≡ false → (r ≡ Equal → ⊥) → r ≡ Less
not_less Less x h n = refl
not_less Equal x h n = absurd (n refl)
not_less Greater x h n = cc

greater : (r x : Ordering) → r ≡ Greater → is_gt (ordering_then r x) ≡ true
greater r x e = ap (λ s. is_gt (ordering_then s x)) e

none_if : {X : Type 0} (o : Option X) → (IsSome o → ⊥) → o ≡ None
none_if None h = refl
none_if (Some x) h = absurd (h refl)

-- the names of another directory that come after those of this one are above each of these
pub past :
    (d : Gfid) (k q : Entry) → is_gt (entry_cmp (d, []) k) ≡ false → same_gfid k.0 d ≡ false
    → q.0 ≡ d → is_gt (entry_cmp k q) ≡ true
past d k q from other is =
    let less = not_less (gfid_cmp d k.0) (slice_cmp nat_cmp [] k.1) from (λ e. let t = sym other ∙ (exact_gfid k.0 d).1 (sym (gfid_exact d k.0 e)) in cc) in
    greater (gfid_cmp k.0 q.0) (slice_cmp nat_cmp k.1 q.1) (ap (gfid_cmp k.0) is ∙ gfid_total.antisymm k.0 d ∙ ap ordering_reverse less)

-- e: what is there is not below the first that is there
pub none_before :
    {X : Type 0} (d : Gfid) (k q : Entry) (o : Option X) → is_gt (entry_cmp (d, []) k) ≡ false
    → same_gfid k.0 d ≡ false → q.0 ≡ d → (IsSome o → is_gt (entry_cmp k q) ≡ false) → o ≡ None
none_before d k q o from other is e = none_if o (λ s. let t = sym (past d k q from other is) ∙ e s in cc)

least : (xs : List ℕ) → is_gt (slice_cmp nat_cmp [] xs) ≡ false
least [] = refl
least (x ∷ xs) = refl

-- each name of a directory is at or after its first possible one
pub from_first : (d : Gfid) (q : Entry) → q.0 ≡ d → is_gt (entry_cmp (d, []) q) ≡ false
from_first d q is =
    let same = ap (gfid_cmp d) is ∙ tied_itself gfid_total d in
    ap (λ r. is_gt (ordering_then r (slice_cmp nat_cmp [] q.1))) same ∙ least q.1

-- what holds of the first item, if there is one, holds of the first
pub of_first :
    {A : Type 0} (r : List A) (a : A) (rest : List A) (P : A → Type 0) → IfSome (slice_get r 0) P
    → r ≡ a ∷ rest → P a
of_first r a rest P h e = subst (λ xs. IfSome (slice_get xs 0) P) e h

-- a directory is dropped as well after one of its slots is gone
pub outside_less :
    (m : Slots) (d : Gfid) (k : Entry) → k.0 ≡ d → slots_outside (remove m k) d ≡ slots_outside m d
outside_less m d k is =
    same_map entry_total entry_exact (slots_outside (remove m k) d) (slots_outside m d) (λ q.
    get-outside (remove m k) d q
    ∙ ap (λ o. cond (not (same_gfid d q.0)) o None) (get-remove entry_total m k q)
    ∙ elim (eq_by_cmp entry_cmp q k) as (λ b. eq_by_cmp entry_cmp q k ≡ b → cond (not (same_gfid d q.0)) (cond b None (get m q)) None ≡ cond (not (same_gfid d q.0)) (get m q) None) [
      | true ↦ λ t. gone_here (same_gfid d q.0) (get m q) ((exact_gfid d q.0).1 (sym is ∙ ap (λ (e : Entry). e.0) (sym (entry_exact q k (tied (entry_cmp q k) t)))))
      | false ↦ λ t. refl
    ] refl
    ∙ sym (get-outside m d q))

-- and there are fewer slots
pub fewer : (m : Slots) (k : Entry) → IsSome (get m k) → len (remove m k) < len m
fewer m k there =
    let less = len-remove entry_total m k ∙ ap (λ b. cond b (len m - 1) (len m)) there in
    let some = not_empty m k (len m) refl there in
    omega (arith, less, some)

-- ---- the slots of a directory from a name on, which stand side by side

abbrev pub key_cmp : EntryKey → EntryKey → Ordering
key_cmp a b = entry_cmp (entry_at a) (entry_at b)

is_le-least : (xs : List ℕ) → is_le (slice_cmp nat_cmp [] xs) ≡ true
is_le-least [] = refl
is_le-least (x ∷ xs) = refl

in_dir_then :
    (d : Gfid) (q : EntryKey) (x : Ordering) → q.dir ≡ d → ordering_then (gfid_cmp d q.dir) x ≡ x
in_dir_then d q x is = ap (λ r. ordering_then r x) (ap (gfid_cmp d) is ∙ tied_itself gfid_total d)

-- a key of the directory is in the range where its name is above
from_name :
    (d : Gfid) (after : Option (List ℕ)) (q : EntryKey) → q.dir ≡ d
    → is_from_start key_cmp (start_of d after) q ≡ is_name_above after q.name
from_name d None q is = ap is_le (in_dir_then d q (slice_cmp nat_cmp [] q.name) is) ∙ is_le-least q.name
from_name d (Some a) q is = ap is_lt (in_dir_then d q (slice_cmp nat_cmp a q.name) is)

le_less : (r x : Ordering) → is_le (ordering_then r x) ≡ true → (r ≡ Equal → ⊥) → r ≡ Less
le_less Less x h n = refl
le_less Equal x h n = absurd (n refl)
le_less Greater x h n = cc

lt_less : (r x : Ordering) → is_lt (ordering_then r x) ≡ true → (r ≡ Equal → ⊥) → r ≡ Less
lt_less Less x h n = refl
lt_less Equal x h n = absurd (n refl)
lt_less Greater x h n = cc

-- a key of another directory in the range comes after the directory
from_other :
    (d : Gfid) (after : Option (List ℕ)) (q : EntryKey)
    → is_from_start key_cmp (start_of d after) q ≡ true → same_gfid d q.dir ≡ false
    → gfid_cmp d q.dir ≡ Less
from_other d None q h other = le_less (gfid_cmp d q.dir) (slice_cmp nat_cmp [] q.name) h (λ e. let t = sym other ∙ (exact_gfid d q.dir).1 (gfid_exact d q.dir e) in cc)
from_other d (Some a) q h other = lt_less (gfid_cmp d q.dir) (slice_cmp nat_cmp a q.name) h (λ e. let t = sym other ∙ (exact_gfid d q.dir).1 (gfid_exact d q.dir e) in cc)

less_or_same : (r x : Ordering) → ordering_then r x ≡ Less → (r ≡ Less → ⊥) → r ≡ Equal
less_or_same Less x h n = absurd (n refl)
less_or_same Equal x h n = refl
less_or_same Greater x h n = cc

not_equal : (r : Ordering) → r ≡ Less → is_eq r ≡ false
not_equal Less e = refl
not_equal Equal e = cc
not_equal Greater e = cc

-- so are the keys after it
past_dir :
    (d k q : Gfid) (x : Ordering) → gfid_cmp d k ≡ Less → ordering_then (gfid_cmp k q) x ≡ Less
    → same_gfid d q ≡ false
past_dir d k q x less h =
    sym (gfid_ties d q) ∙ not_equal (gfid_cmp d q)
    (elim (gfid_cmp k q) as (λ r. gfid_cmp k q ≡ r → ordering_then r x ≡ Less → gfid_cmp d q ≡ Less) [
      | Less ↦ λ e _. gfid_total.trans d k q less e
      | Equal ↦ λ e _. subst (λ (g : Gfid). gfid_cmp d g ≡ Less) (gfid_exact k q e) less
      | Greater ↦ λ e g. cc
    ] refl h)

-- the items up to the first that does not pass
abbrev pub front : {A : Type 0} → (A → Bool) → List A → List A
front p [] = []
front p (x ∷ xs) = cond (p x) (x ∷ front p xs) []

one_more :
    {A : Type 0} (p : A → Bool) (e : A) (rest passed : List A) (b f a : Bool) → p e ≡ b
    → passed ≡ front p rest → (b ≡ true → f ≡ a) → (b ≡ false → f ≡ true → passed ≡ [])
    → cond (b && a) (e ∷ passed) passed ≡ front p (cond (f && true) (e ∷ rest) rest)
one_more p e rest passed true true true pe same fa none = ap (λ xs. e ∷ xs) same ∙ sym (ap (λ b. cond b (e ∷ front p rest) []) pe)
one_more p e rest passed true true false pe same fa none = let x = fa refl in cc
one_more p e rest passed true false true pe same fa none = let x = fa refl in cc
one_more p e rest passed true false false pe same fa none = same
one_more p e rest passed false true a pe same fa none = none refl refl ∙ sym (ap (λ b. cond b (e ∷ front p rest) []) pe)
one_more p e rest passed false false a pe same fa none = same

both_tests :
    {A : Type 0} (q : A → Bool) (x : A) (ys : List A) (b : Bool)
    → cond (b && q x) (x ∷ filter q ys) (filter q ys) ≡ filter q (cond b (x ∷ ys) ys)
both_tests q x ys true = refl
both_tests q x ys false = refl

module _ {X : Type 0} (d : Gfid) (after : Option (List ℕ)) where
  abbrev pub in_dir : EntryKey × X → Bool
  in_dir e = same_gfid d e.0.dir

  abbrev pub is_after : EntryKey × X → Bool
  is_after e = same_gfid d e.0.dir && is_name_above after e.0.name

  abbrev pub in_range : EntryKey × X → Bool
  in_range e = range_contains key_cmp (start_of d after) Unbounded e.0

  none_later : (k : EntryKey) (es : List (EntryKey × X)) → gfid_cmp d k.dir ≡ Less → AllByRecursion (λ y. key_cmp k y ≡ Less) (keys_of es) → filter is_after es ≡ []
  none_later k [] less h = refl
  none_later k (e ∷ es) less h =
      ap (λ b. cond (b && is_name_above after e.0.name) (e ∷ filter is_after es) (filter is_after es)) (past_dir d k.dir e.0.dir (slice_cmp nat_cmp k.name e.0.name) less h.0)
      ∙ none_later k es less h.1

  pub stands_together : (es : List (EntryKey × X)) → IsStrictlySortedBy key_cmp (keys_of es) → filter is_after es ≡ front in_dir (filter in_range es)
  unfolding IsStrictlySortedBy
  stands_together [] h = refl
  stands_together (e ∷ es) h =
      one_more in_dir e (filter in_range es) (filter is_after es) (in_dir e) (is_from_start key_cmp (start_of d after) e.0) (is_name_above after e.0.name) refl (stands_together es h.1)
      (λ here. from_name d after e.0 (sym ((exact_gfid d e.0.dir).0 here)))
      (λ other from. none_later e.0 es (from_other d after e.0 from other) h.0)

-- what passes two tests
pub filter_both :
    {A : Type 0} (p q r : A → Bool) → ((x : A) → r x ≡ (p x && q x)) → (xs : List A)
    → filter r xs ≡ filter q (filter p xs)
filter_both p q r h [] = refl
filter_both p q r h (x ∷ xs) =
    ap (λ b. cond b (x ∷ filter r xs) (filter r xs)) (h x)
    ∙ ap (λ ys. cond (p x && q x) (x ∷ ys) ys) (filter_both p q r h xs)
    ∙ both_tests q x (filter p xs) (p x)

reorder : (a v n : Bool) → (a && v && n) ≡ ((a && n) && v)
reorder true true true = refl
reorder true true false = refl
reorder true false true = refl
reorder true false false = refl
reorder false v n = refl

and_true : (b : Bool) → (b && true) ≡ b
and_true true = refl
and_true false = refl

abbrev pub is_seen_entry : EntryKey × KeptSlot → Bool
is_seen_entry e = is_visible (slot_of e.1)

-- the names of a page, and the slots that are saved, stand from the first name of the range on
pub page_together :
    (d : Gfid) (after : Option (List ℕ)) (es : List (EntryKey × KeptSlot))
    → IsStrictlySortedBy key_cmp (keys_of es)
    → filter (is_on_page d after) (shown_slots es) ≡ shown_slots (filter is_seen_entry (front (in_dir d after) (filter (in_range d after) es)))
page_together d after es h =
    filter-map (is_on_page d after) (λ (e : EntryKey × KeptSlot). (entry_at e.0, slot_of e.1)) es
    ∙ ap shown_slots (filter_both (is_after d after) is_seen_entry (λ e. is_on_page d after (entry_at e.0, slot_of e.1)) (λ e. reorder (same_gfid d e.0.dir) (is_visible (slot_of e.1)) (is_name_above after e.0.name)) es
    ∙ ap (filter is_seen_entry) (stands_together d after es h))

pub dir_together :
    (d : Gfid) (es : List (EntryKey × KeptSlot)) → IsStrictlySortedBy key_cmp (keys_of es)
    → filter (λ (e : Entry × Slot). same_gfid d e.0.0) (shown_slots es) ≡ shown_slots (front (in_dir d None) (filter (in_range d None) es))
dir_together d es h =
    filter-map (λ (e : Entry × Slot). same_gfid d e.0.0) (λ (e : EntryKey × KeptSlot). (entry_at e.0, slot_of e.1)) es
    ∙ ap shown_slots ((λ i. filter (λ (e : EntryKey × KeptSlot). sym (and_true (same_gfid d e.0.dir)) i) es) ∙ stands_together d None es h)

not_same : (b : Bool) → not b ≡ true → b ≡ false
not_same true h = cc
not_same false h = refl

-- at the first name of another directory
pub ends_here :
    (d : Gfid) (after : Option (List ℕ)) (e : EntryKey × KeptSlot)
    (rest es : List (EntryKey × KeptSlot))
    → es ≡ e ∷ rest → not (same_gfid d e.0.dir) ≡ true → front (in_dir d after) es ≡ []
ends_here d after e rest es is other = ap (front (in_dir d after)) is ∙ ap (λ b. cond b (e ∷ front (in_dir d after) rest) []) (not_same (same_gfid d e.0.dir) other)
