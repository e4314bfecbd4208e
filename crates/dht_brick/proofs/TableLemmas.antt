-- What a `BTreeMap` keeps, shown as a finite map: keys and values may be shown as others.
use Rattle.std.proofs.Common.{◌≡◌, Bool, true, false, cond, List, [], ◌∷◌, map, refl, sym, ap, subst, ◌∙◌}
use Rattle.std.specs.Prelude.{ℕ, Option, Some, None, ◌&&◌, ◌+◌, is_some, is_none, count_by}
use Rattle.std.specs.Prelude.{T}
use Rattle.std.specs.Option.{option_map}
use Rattle.std.specs.declared.cmp.Ordering.{Ordering}
use Rattle.std.specs.declared.cmp.Ordering.TheVariants.{Less, Equal, Greater}
use Rattle.std.specs.Ordering.{is_lt, is_eq, eq_by_cmp, nat_cmp}
use Rattle.std.specs.Cmp.{IsTotalOrder, eq_by_cmp_equiv}
use Rattle.std.specs.Cmp.Lexicographic.{slice_cmp}
use Rattle.std.specs.Map.{lookup, keys_of}
use Rattle.std.specs.BTreeMap.{is_at}
use Rattle.std.specs.List.{AllByRecursion}
use Rattle.std.specs.List.Sorted.{IsStrictlySortedBy}
use Rattle.std.specs.FinMap.{FinMap, IsAntisymmetric, get, insert, remove, entries, find, from_entries, from_sorted, get-from_entries, get-from_sorted, get-insert, get-remove, get_tied, entries-from_sorted, same_map, is_sorted}
use Rattle.std.specs.FinMap.Entries.{below_all}
use Rattle.std.proofs.lemmas.List.Sums.{sum_by-cons}
use Rattle.std.proofs.lemmas.Cmp.{on_total, then_total, nat_cmp_total, nat_list_cmp_total}
use Rattle.std.proofs.lemmas.Map.Lookups.{exact_unsigned, exact_bytes, exact_pairs}
use Rattle.dht_types.specs.declared.identifiers.Gfid.{Gfid}
use Rattle.std.specs.Prelude.{find as find_item, filter}
use Rattle.std.specs.declared.ops.Bound.TheVariants.{Unbounded}
use Rattle.std.specs.Range.Bound.{IsForward}
use Rattle.std.specs.BTreeMap.Range.{range_contains, entries_between}
use Rattle.dht_brick.specs.Contents.{gfid_cmp, entry_cmp}
use Rattle.dht_brick.specs.Looks.{is_gfid_above}
use Rattle.dht_brick.specs.Order.{gfids_from}

-- the orders of gfids and of names are total, and only a key itself ties with it
pub gfid_total : IsTotalOrder gfid_cmp
gfid_total = on_total (λ g. g.0) nat_cmp_total

pub gfid_exact : IsAntisymmetric gfid_cmp
gfid_exact a b h = ap (λ (n : ℕ). let g : Gfid = record { 0 = n } in g) (exact_unsigned a.0 b.0 h)

pub entry_total : IsTotalOrder entry_cmp
entry_total = then_total (on_total (λ e. e.0) gfid_total) (on_total (λ e. e.1) nat_list_cmp_total)

pub entry_exact : IsAntisymmetric entry_cmp
entry_exact = exact_pairs gfid_cmp (slice_cmp nat_cmp) gfid_exact exact_bytes

both : (a b : Bool) → T a → T b → T (a && b)
both true b p q = q
both false b p q = p

option_map-cond :
    {X Y : Type 0} (f : X → Y) (b : Bool) (v w : Option X)
    → option_map f (cond b v w) ≡ cond b (option_map f v) (option_map f w)
option_map-cond f true v w = refl
option_map-cond f false v w = refl

pub is_some-option_map :
    {X Y : Type 0} (f : X → Y) (o : Option X) → is_some (option_map f o) ≡ is_some o
is_some-option_map f None = refl
is_some-option_map f (Some x) = refl

pub second_none :
    {X Y : Type 0} (v : Option X) (w : Option Y) → (is_none v && is_none w) ≡ true → w ≡ None
second_none None None h = refl
second_none None (Some y) h = cc
second_none (Some x) w h = cc

pub count_by-map :
    {X Y : Type 0} (p : Y → Bool) (f : X → Y) (xs : List X)
    → count_by p (map f xs) ≡ count_by (λ x. p (f x)) xs
count_by-map p f [] = refl
count_by-map p f (x ∷ xs) = sum_by-cons (λ y. cond (p y) 1 0) (f x) (map f xs) ∙ ap (λ n. cond (p (f x)) 1 0 + n) (count_by-map p f xs) ∙ sym (sum_by-cons (λ z. cond (p (f z)) 1 0) x xs)

module _ {K L X Y : Type 0} (R : L → L → Ordering) (key : K → L) (val : X → Y) where
  -- the entries as they are shown
  abbrev pub shown : List (K × X) → List (L × Y)
  shown es = map (λ e. (key e.0, val e.1)) es

  -- what the map has at a key
  abbrev pub at : List (K × X) → K → Option X
  at es q = lookup (is_at (λ k. R (key q) (key k))) es

  find-shown : (es : List (K × X)) (q : K) → find R (key q) (shown es) ≡ option_map val (at es q)
  find-shown [] q = refl
  find-shown (e ∷ es) q = ap (cond (eq_by_cmp R (key q) (key e.0)) (Some (val e.1))) (find-shown es q) ∙ sym (option_map-cond val (eq_by_cmp R (key q) (key e.0)) (Some e.1) (at es q))

  shown_below : (k : K) (es : List (K × X)) → AllByRecursion (λ y. R (key k) (key y) ≡ Less) (keys_of es) → T (below_all R (key k) (shown es))
  shown_below k [] h = tt
  shown_below k (e ∷ es) h = both _ _ (subst (λ r. T (is_lt r)) (sym h.0) tt) (shown_below k es h.1)

  is_sorted-shown : (es : List (K × X)) → IsStrictlySortedBy (λ a b. R (key a) (key b)) (keys_of es) → T (is_sorted R (shown es))
  unfolding IsStrictlySortedBy
  is_sorted-shown [] h = tt
  is_sorted-shown (e ∷ es) h = both _ _ (shown_below e.0 es h.0) (is_sorted-shown es h.1)

  module _ (o : IsTotalOrder R) where
    pub get-shown : (es : List (K × X)) (q : K) → get (from_entries {R = R} (shown es)) (key q) ≡ option_map val (at es q)
    get-shown es q = get-from_entries o (shown es) (key q) ∙ find-shown es q

    module _ (exact : IsAntisymmetric R) where
      -- where a map's keys ascend, its entries are those of the finite map
      pub entries-shown : (es : List (K × X)) → IsStrictlySortedBy (λ a b. R (key a) (key b)) (keys_of es) → entries (from_entries {R = R} (shown es)) ≡ shown es
      entries-shown es h =
          let sorted = is_sorted-shown es h in
          ap entries (same_map o exact (from_entries {R = R} (shown es)) (from_sorted (shown es)) (λ q. get-from_entries o (shown es) q ∙ sym (get-from_sorted R (shown es) q sorted)))
          ∙ entries-from_sorted R (shown es) sorted

      module _ (back : L → K) (back_is : (l : L) → key (back l) ≡ l) where
        -- entries that differ at one key make finite maps that differ there
        pub insert-shown : (es fs : List (K × X)) (k : K) (v : X) → ((q : K) → at fs q ≡ cond (is_at (λ j. R (key k) (key j)) q) (Some v) (at es q)) → from_entries {R = R} (shown fs) ≡ insert (from_entries (shown es)) (key k) (val v)
        insert-shown es fs k v h =
            let m = from_entries {R = R} (shown fs) in
            let n = insert (from_entries {R = R} (shown es)) (key k) (val v) in
            let here : (q : K) → get m (key q) ≡ get n (key q) = λ q.
            get-shown fs q ∙ ap (option_map val) (h q) ∙ option_map-cond val (eq_by_cmp R (key k) (key q)) (Some v) (at es q)
            ∙ ap (λ b. cond b (Some (val v)) (option_map val (at es q))) ((eq_by_cmp_equiv o).symm (key k) (key q))
            ∙ ap (cond (eq_by_cmp R (key q) (key k)) (Some (val v))) (sym (get-shown es q))
            ∙ sym (get-insert o (from_entries (shown es)) (key k) (val v) (key q)) in
            same_map o exact m n (λ l. subst (λ j. get m j ≡ get n j) (back_is l) (here (back l)))

        pub remove-shown : (es fs : List (K × X)) (k : K) → ((q : K) → at fs q ≡ cond (is_at (λ j. R (key k) (key j)) q) None (at es q)) → from_entries {R = R} (shown fs) ≡ remove (from_entries (shown es)) (key k)
        remove-shown es fs k h =
            let m = from_entries {R = R} (shown fs) in
            let n = remove (from_entries {R = R} (shown es)) (key k) in
            let here : (q : K) → get m (key q) ≡ get n (key q) = λ q.
            get-shown fs q ∙ ap (option_map val) (h q) ∙ option_map-cond val (eq_by_cmp R (key k) (key q)) None (at es q)
            ∙ ap (λ b. cond b None (option_map val (at es q))) ((eq_by_cmp_equiv o).symm (key k) (key q))
            ∙ ap (cond (eq_by_cmp R (key q) (key k)) None) (sym (get-shown es q))
            ∙ sym (get-remove o (from_entries (shown es)) (key k) (key q)) in
            same_map o exact m n (λ l. subst (λ j. get m j ≡ get n j) (back_is l) (here (back l)))

-- the same where entries are shown as they are
plain : {K X : Type 0} (es : List (K × X)) → map (λ e. (e.0, e.1)) es ≡ es
plain [] = refl
plain (e ∷ es) = ap (λ fs. e ∷ fs) (plain es)

pub option_map-same : {X : Type 0} (o : Option X) → option_map (λ x. x) o ≡ o
option_map-same None = refl
option_map-same (Some x) = refl

module _ {K X : Type 0} {R : K → K → Ordering} (o : IsTotalOrder R) where
  pub get-plain : (es : List (K × X)) (q : K) → get (from_entries {R = R} es) q ≡ lookup (is_at (R q)) es
  get-plain es q = ap (λ fs. get (from_entries {R = R} fs) q) (sym (plain es)) ∙ get-shown R (λ k. k) (λ x. x) o es q ∙ option_map-same _

  pub entries-plain : IsAntisymmetric R → (es : List (K × X)) → IsStrictlySortedBy R (keys_of es) → entries (from_entries {R = R} es) ≡ es
  entries-plain exact es h = ap (λ fs. entries (from_entries {R = R} fs)) (sym (plain es)) ∙ entries-shown R (λ k. k) (λ x. x) o exact es h ∙ plain es

tied : (r : Ordering) → is_eq r ≡ true → r ≡ Equal
tied Less e = cc
tied Equal e = refl
tied Greater e = cc

-- to take out what was just put where nothing was leaves the map as it was
pub remove-insert :
    {K X : Type 0} {R : K → K → Ordering} → IsTotalOrder R → IsAntisymmetric R
    → (m : FinMap R X) (k : K) (v : X) → get m k ≡ None → remove (insert m k v) k ≡ m
remove-insert {R = R} o exact m k v none =
    same_map o exact (remove (insert m k v) k) m (λ q. get-remove o (insert m k v) k q ∙ ap (cond (eq_by_cmp R q k) None) (get-insert o m k v q)
    ∙ elim (eq_by_cmp R q k) as (λ b. eq_by_cmp R q k ≡ b → cond b None (cond b (Some v) (get m q)) ≡ get m q) [
      | true ↦ λ t. sym (sym (get_tied o m q k (tied (R q k) t)) ∙ none)
      | false ↦ λ t. refl
    ] refl)

-- ---- the keys above one, in a map by gfids

and_true : (b : Bool) → (b && true) ≡ b
and_true true = refl
and_true false = refl

pub above_is :
    (after : Option Gfid) (q : Gfid)
    → range_contains gfid_cmp (gfids_from after) Unbounded q ≡ is_gfid_above after q
above_is None q = refl
above_is (Some g) q = and_true (is_lt (gfid_cmp g q))

pub starts_forward :
    (after : Option Gfid) (P Q : Gfid → Gfid → Type 0) → IsForward P Q (gfids_from after) Unbounded
starts_forward None P Q = tt
starts_forward (Some g) P Q = tt

abbrev pub first_key : {K X : Type 0} → List (K × X) → Option K
first_key [] = None
first_key (e ∷ es) = Some e.0

first_cond :
    {K X : Type 0} (b : Bool) (e : K × X) (es : List (K × X))
    → first_key (cond b (e ∷ es) es) ≡ cond b (Some e.0) (first_key es)
first_cond true e es = refl
first_cond false e es = refl

find-filter :
    {K X : Type 0} (p : K → Bool) (es : List (K × X))
    → find_item p (map (λ e. e.0) es) ≡ first_key (filter (λ e. p e.0) es)
find-filter p [] = refl
find-filter p (e ∷ es) = ap (cond (p e.0) (Some e.0)) (find-filter p es) ∙ sym (first_cond (p e.0) e (filter (λ x. p x.0) es))

-- the least key above one is the first of the range
pub first_above :
    {X : Type 0} (after : Option Gfid) (es : List (Gfid × X))
    → find_item (is_gfid_above after) (map (λ e. e.0) es)
    ≡ first_key (entries_between gfid_cmp (gfids_from after) Unbounded es)
first_above {X} after es = find-filter (is_gfid_above after) es ∙ (λ i. first_key (filter (λ (e : Gfid × X). sym (above_is after e.0) i) es))
