-- What the map of slots keeps, shown as a finite map.
use Rattle.std.proofs.Common.{suc, ◌++◌, ◌≡◌, Bool, true, false, cond, List, [], ◌∷◌, map, length, refl, sym, ap, ◌∙◌}
use Rattle.std.specs.Prelude.{Option, Some, None, ◌||◌, filter, unwrap_or, count_by, IsSome}
use Rattle.std.specs.List.{list_any}
use Rattle.std.specs.List.Sorted.{IsStrictlySortedBy}
use Rattle.std.specs.Map.{keys_of, values_of}
use Rattle.std.specs.declared.cmp.Ordering.{Ordering}
use Rattle.std.specs.declared.cmp.Ordering.TheVariants.{Less, Equal, Greater}
use Rattle.std.specs.Ordering.{is_eq, eq_by_cmp}
use Rattle.std.specs.Cmp.{IsTotalOrder}
use Rattle.std.specs.FinMap.{IsAntisymmetric, empty, insert, remove, retain_keys, entries, values, len, find, from_entries, get-from_entries, get-retain_keys, len-entries, same_map}
use Rattle.dht_types.specs.Gfid.{Entry}
use Rattle.dht_types.specs.declared.names.EntryKey.{EntryKey}
use Rattle.dht_types.specs.declared.stored.Slot.{Slot}
use Rattle.dht_brick.specs.Contents.{Slots, entry_at, entry_cmp, bare}
use Rattle.dht_brick.specs.Parts.{is_bare, put_slot}
use Rattle.dht_names.specs.Kept.{slot_of}
use Rattle.dht_names.specs.declared.kept.KeptSlot.{KeptSlot}
pub use Rattle.dht_brick.proofs.TableLemmas.{gfid_total, gfid_exact, entry_total, entry_exact, get-shown, insert-shown, remove-shown, get-plain, entries-plain, remove-insert, is_some-option_map, option_map-same}
use Rattle.dht_brick.proofs.TableLemmas.{entries-shown, count_by-map}

-- the entries of slots as they are shown
abbrev pub shown_slots : List (EntryKey × KeptSlot) → List (Entry × Slot)
shown_slots es = map (λ e. (entry_at e.0, slot_of e.1)) es

abbrev pub slots_from : List (EntryKey × KeptSlot) → Slots
slots_from es = from_entries {R = entry_cmp} (shown_slots es)

abbrev pub IsInOrder : List (EntryKey × KeptSlot) → Type 0
IsInOrder es = IsStrictlySortedBy (λ a b. entry_cmp (entry_at a) (entry_at b)) (keys_of es)

pub entries-slots :
    (es : List (EntryKey × KeptSlot)) → IsInOrder es → entries (slots_from es) ≡ shown_slots es
entries-slots es h = entries-shown entry_cmp entry_at slot_of entry_total entry_exact es h

pub list_any-map :
    {X Y : Type 0} (p : Y → Bool) (f : X → Y) (xs : List X)
    → list_any p (map f xs) ≡ list_any (λ x. p (f x)) xs
list_any-map p f [] = refl
list_any-map p f (x ∷ xs) = ap (λ b. p (f x) || b) (list_any-map p f xs)

pub length-map : {X Y : Type 0} (f : X → Y) (xs : List X) → length (map f xs) ≡ length xs
length-map f [] = refl
length-map f (x ∷ xs) = ap (λ n. suc n) (length-map f xs)

filter-map-if :
    {Y : Type 0} (b : Bool) (y : Y) (xs ys : List Y) → xs ≡ ys
    → cond b (y ∷ xs) xs ≡ cond b (y ∷ ys) ys
filter-map-if b y xs ys e = ap (λ zs. cond b (y ∷ zs) zs) e

map-cond :
    {X Y : Type 0} (f : X → Y) (b : Bool) (xs ys : List X)
    → map f (cond b xs ys) ≡ cond b (map f xs) (map f ys)
map-cond f true xs ys = refl
map-cond f false xs ys = refl

pub filter-map :
    {X Y : Type 0} (p : Y → Bool) (f : X → Y) (xs : List X)
    → filter p (map f xs) ≡ map f (filter (λ x. p (f x)) xs)
filter-map p f [] = refl
filter-map p f (x ∷ xs) =
    filter-map-if (p (f x)) (f x) (filter p (map f xs)) (map f (filter (λ y. p (f y)) xs)) (filter-map p f xs)
    ∙ sym (map-cond f (p (f x)) (x ∷ filter (λ y. p (f y)) xs) (filter (λ y. p (f y)) xs))

-- how many slots pass a test, and whether one does
pub count-slots :
    (p : Slot → Bool) (es : List (EntryKey × KeptSlot)) → IsInOrder es
    → count_by p (values (slots_from es)) ≡ count_by (λ k. p (slot_of k)) (values_of es)
count-slots p es h =
    ap (λ (xs : List (Entry × Slot)). count_by p (map (λ e. e.1) xs)) (entries-slots es h)
    ∙ count_by-map p (λ (e : Entry × Slot). e.1) (shown_slots es)
    ∙ count_by-map (λ (e : Entry × Slot). p e.1) (λ (e : EntryKey × KeptSlot). (entry_at e.0, slot_of e.1)) es
    ∙ sym (count_by-map (λ k. p (slot_of k)) (λ (e : EntryKey × KeptSlot). e.1) es)

pub any-slots :
    (p : Slot → Bool) (es : List (EntryKey × KeptSlot)) → IsInOrder es
    → list_any p (values (slots_from es)) ≡ list_any (λ k. p (slot_of k)) (values_of es)
any-slots p es h =
    ap (λ (xs : List (Entry × Slot)). list_any p (map (λ e. e.1) xs)) (entries-slots es h)
    ∙ list_any-map p (λ (e : Entry × Slot). e.1) (shown_slots es)
    ∙ list_any-map (λ (e : Entry × Slot). p e.1) (λ (e : EntryKey × KeptSlot). (entry_at e.0, slot_of e.1)) es
    ∙ sym (list_any-map (λ k. p (slot_of k)) (λ (e : EntryKey × KeptSlot). e.1) es)

pub any-entries :
    (p : Entry × Slot → Bool) (es : List (EntryKey × KeptSlot)) → IsInOrder es
    → list_any p (entries (slots_from es)) ≡ list_any (λ e. p (entry_at e.0, slot_of e.1)) es
any-entries p es h = ap (list_any p) (entries-slots es h) ∙ list_any-map p (λ (e : EntryKey × KeptSlot). (entry_at e.0, slot_of e.1)) es

pub len-slots : (es : List (EntryKey × KeptSlot)) → IsInOrder es → len (slots_from es) ≡ length es
len-slots es h = len-entries (slots_from es) ∙ ap length (entries-slots es h) ∙ length-map (λ (e : EntryKey × KeptSlot). (entry_at e.0, slot_of e.1)) es

-- ---- the entries that pass a test of their keys

cond-same : {X : Type 0} (b : Bool) (x : X) → cond b x x ≡ x
cond-same true x = refl
cond-same false x = refl

-- e: the key ties with the one that is sought, and then passes as that one does
find-step :
    {X : Type 0} (tie here there : Bool) (x rest : Option X) → (tie ≡ true → there ≡ here)
    → cond here (cond tie x (cond there rest None)) (cond there rest None)
    ≡ cond there (cond tie x rest) None
find-step true true true x rest h = refl
find-step true true false x rest h = let e = h refl in cc
find-step true false true x rest h = let e = h refl in cc
find-step true false false x rest h = refl
find-step false true true x rest h = refl
find-step false true false x rest h = refl
find-step false false true x rest h = refl
find-step false false false x rest h = refl

find-cond :
    {K X : Type 0} (R : K → K → Ordering) (q : K) (b : Bool) (e : K × X) (es : List (K × X))
    → find R q (cond b (e ∷ es) es)
    ≡ cond b (cond (eq_by_cmp R q e.0) (Some e.1) (find R q es)) (find R q es)
find-cond R q true e es = refl
find-cond R q false e es = refl

tied : (r : Ordering) → is_eq r ≡ true → r ≡ Equal
tied Less e = cc
tied Equal e = refl
tied Greater e = cc

module _ {K X : Type 0} (R : K → K → Ordering) (exact : IsAntisymmetric R) (test : K → Bool) where
  find-filter : (es : List (K × X)) (q : K) → find R q (filter (λ e. test e.0) es) ≡ cond (test q) (find R q es) None
  find-filter [] q = sym (cond-same (test q) None)
  find-filter (e ∷ es) q =
      find-cond R q (test e.0) e (filter (λ x. test x.0) es)
      ∙ ap (λ o. cond (test e.0) (cond (eq_by_cmp R q e.0) (Some e.1) o) o) (find-filter es q)
      ∙ find-step (eq_by_cmp R q e.0) (test e.0) (test q) (Some e.1) (find R q es) (λ t. ap test (exact q e.0 (tied (R q e.0) t)))

  pub retain-entries : IsTotalOrder R → (es : List (K × X)) → from_entries {R = R} (filter (λ e. test e.0) es) ≡ retain_keys (from_entries es) test
  retain-entries o es =
      same_map o exact (from_entries {R = R} (filter (λ e. test e.0) es)) (retain_keys (from_entries es) test) (λ q.
      get-from_entries o (filter (λ e. test e.0) es) q ∙ find-filter es q
      ∙ ap (λ v. cond (test q) v None) (sym (get-from_entries o es q))
      ∙ sym (get-retain_keys (from_entries es) test q (λ x e. sym (ap test (exact q x e)))))

pub retain-slots :
    (test : Entry → Bool) (es : List (EntryKey × KeptSlot))
    → slots_from (filter (λ e. test (entry_at e.0)) es) ≡ retain_keys (slots_from es) test
retain-slots test es =
    ap (from_entries {R = entry_cmp}) (sym (filter-map (λ (e : Entry × Slot). test e.0) (λ (e : EntryKey × KeptSlot). (entry_at e.0, slot_of e.1)) es))
    ∙ retain-entries entry_cmp entry_exact test entry_total (shown_slots es)

-- ---- slots that are there

-- what is kept where a slot has a part
pub there-get : (o : Option Slot) → is_bare (unwrap_or o bare) ≡ false → IsSome o
there-get None h = cc
there-get (Some p) h = refl

pub put-whole :
    (slots : Slots) (e : Entry) (p : Slot) → is_bare p ≡ false
    → put_slot slots e p ≡ insert slots e p
put-whole slots e p h = ap (λ b. cond b (remove slots e) (insert slots e p)) h

pub put-bare :
    (slots : Slots) (e : Entry) (p : Slot) → is_bare p ≡ true → put_slot slots e p ≡ remove slots e
put-bare slots e p h = ap (λ b. cond b (remove slots e) (insert slots e p)) h

pub not_there : {X P : Type 0} (o : Option X) → IsSome o → None ≡ o → P
not_there None s e = cc
not_there (Some x) s e = cc

pub same_some : {X : Type 0} (x y : X) → Some x ≡ Some y → x ≡ y
same_some x y e = ap (λ o. unwrap_or o x) e

-- slots with these entries put over them, the last one first
abbrev pub put_onto : List (EntryKey × KeptSlot) → Slots → Slots
put_onto [] slots = slots
put_onto (e ∷ es) slots = insert (put_onto es slots) (entry_at e.0) (slot_of e.1)

pub put_onto-empty : (es : List (EntryKey × KeptSlot)) → put_onto es empty ≡ slots_from es
put_onto-empty [] = refl
put_onto-empty (e ∷ es) = ap (λ m. insert m (entry_at e.0) (slot_of e.1)) (put_onto-empty es)

pub put_onto-push :
    (es : List (EntryKey × KeptSlot)) (k : EntryKey) (v : KeptSlot) (slots : Slots)
    → put_onto (es ++ (k, v) ∷ []) slots ≡ put_onto es (insert slots (entry_at k) (slot_of v))
put_onto-push [] k v slots = refl
put_onto-push (e ∷ es) k v slots = ap (λ m. insert m (entry_at e.0) (slot_of e.1)) (put_onto-push es k v slots)
