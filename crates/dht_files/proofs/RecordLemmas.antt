-- What the map of records keeps, as a finite map.
use Rattle.std.proofs.Common.{◌≡◌, Bool, true, false, cond, List, refl, sym, ap, ◌∙◌}
use Rattle.std.specs.Prelude.{Option, Some, None, not, filter, IsSome, is_some}
use Rattle.std.specs.Map.{lookup, keys_of}
use Rattle.std.specs.BTreeMap.{is_at}
use Rattle.std.specs.List.Sorted.{IsStrictlySortedBy}
use Rattle.std.specs.Ordering.{eq_by_cmp, is_eq}
use Rattle.std.specs.Cmp.{eq_by_cmp_equiv}
use Rattle.std.specs.declared.cmp.Ordering.{Ordering}
use Rattle.std.specs.declared.cmp.Ordering.TheVariants.{Less, Equal, Greater}
use Rattle.std.specs.FinMap.{get, insert, remove, retain_keys, from_entries, get-insert, get-remove, get-retain_keys, get_tied, same_map}
use Rattle.std.proofs.lemmas.Map.Entries.{option_filter, lookup-filter-values}
use Rattle.std.proofs.lemmas.Map.Keys.{IsDistinct-from_sorted}
use Rattle.dht_types.specs.declared.identifiers.Gfid.{Gfid}
use Rattle.dht_types.specs.declared.stored.Record.{Record}
use Rattle.dht_brick.specs.Contents.{Files, gfid_cmp}
use Rattle.dht_brick.specs.Events.{forgotten}
use Rattle.dht_brick.specs.Parts.{is_forward}
use Rattle.dht_brick.proofs.MapLemmas.{get-insert_here}
use Rattle.dht_brick.proofs.TableLemmas.{gfid_total, gfid_exact, get-plain, remove-insert}
use Rattle.dht_files.specs.Records.{with_record}

-- the record at a gfid
abbrev pub at : List (Gfid × Record) → Gfid → Option Record
at es q = lookup (is_at (gfid_cmp q)) es

abbrev pub files_of : List (Gfid × Record) → Files
files_of es = from_entries {R = gfid_cmp} es

pub get-at : (es : List (Gfid × Record)) (q : Gfid) → get (files_of es) q ≡ at es q
get-at es q = get-plain gfid_total es q

turned : (k q : Gfid) → eq_by_cmp gfid_cmp k q ≡ eq_by_cmp gfid_cmp q k
turned k q = (eq_by_cmp_equiv gfid_total).symm k q

-- entries that differ at one gfid make finite maps that differ there
pub insert-at :
    (es fs : List (Gfid × Record)) (k : Gfid) (v : Record)
    → ((q : Gfid) → at fs q ≡ cond (is_at (gfid_cmp k) q) (Some v) (at es q))
    → files_of fs ≡ insert (files_of es) k v
insert-at es fs k v h =
    same_map gfid_total gfid_exact (files_of fs) (insert (files_of es) k v) (λ q. get-at fs q ∙ h q
    ∙ ap (λ b. cond b (Some v) (at es q)) (turned k q) ∙ ap (cond (eq_by_cmp gfid_cmp q k) (Some v)) (sym (get-at es q)) ∙ sym (get-insert gfid_total (files_of es) k v q))

pub remove-at :
    (es fs : List (Gfid × Record)) (k : Gfid)
    → ((q : Gfid) → at fs q ≡ cond (is_at (gfid_cmp k) q) None (at es q))
    → files_of fs ≡ remove (files_of es) k
remove-at es fs k h =
    same_map gfid_total gfid_exact (files_of fs) (remove (files_of es) k) (λ q. get-at fs q ∙ h q
    ∙ ap (λ b. cond b None (at es q)) (turned k q) ∙ ap (cond (eq_by_cmp gfid_cmp q k) None) (sym (get-at es q)) ∙ sym (get-remove gfid_total (files_of es) k q))

-- ---- records that were moved on

filtered_alike :
    (o : Option Record)
    → option_filter (λ x. not (is_forward (Some x))) o ≡ cond (not (is_forward o)) o None
filtered_alike None = refl
filtered_alike (Some x) = refl

pub forgotten-at :
    (es : List (Gfid × Record)) → IsStrictlySortedBy gfid_cmp (keys_of es)
    → files_of (filter (λ e. not (is_forward (Some e.1))) es) ≡ forgotten (files_of es)
forgotten-at es sorted =
    let stays : Record → Bool = λ x. not (is_forward (Some x)) in
    let kept : Gfid → Bool = λ f. not (is_forward (get (files_of es) f)) in
    same_map gfid_total gfid_exact (files_of (filter (λ e. stays e.1) es)) (retain_keys (files_of es) kept) (λ q. get-at (filter (λ e. stays e.1) es) q
    ∙ lookup-filter-values (eq_by_cmp_equiv gfid_total) stays q es (IsDistinct-from_sorted gfid_cmp (keys_of es) sorted)
    ∙ filtered_alike (at es q) ∙ ap (λ o. cond (not (is_forward o)) o None) (sym (get-at es q))
    ∙ sym (get-retain_keys (files_of es) kept q (λ x t. ap kept (sym (gfid_exact q x t)))))

-- ---- a record that was put in place of another one

twice : {A : Type 0} (b : Bool) (x y z : A) → cond b x (cond b y z) ≡ cond b x z
twice true x y z = refl
twice false x y z = refl

pub insert_twice : (m : Files) (f : Gfid) (v w : Record) → insert (insert m f v) f w ≡ insert m f w
insert_twice m f v w =
    same_map gfid_total gfid_exact (insert (insert m f v) f w) (insert m f w) (λ q. get-insert gfid_total (insert m f v) f w q
    ∙ ap (cond (eq_by_cmp gfid_cmp q f) (Some w)) (get-insert gfid_total m f v q) ∙ twice (eq_by_cmp gfid_cmp q f) (Some w) (Some v) (get m q) ∙ sym (get-insert gfid_total m f w q))

tied : (r : Ordering) → is_eq r ≡ true → r ≡ Equal
tied Less e = cc
tied Equal e = refl
tied Greater e = cc

pub insert_same : (m : Files) (f : Gfid) (v : Record) → get m f ≡ Some v → insert m f v ≡ m
insert_same m f v here =
    same_map gfid_total gfid_exact (insert m f v) m (λ q. get-insert gfid_total m f v q ∙ elim (eq_by_cmp gfid_cmp q f) as (λ b. eq_by_cmp gfid_cmp q f ≡ b → cond b (Some v) (get m q) ≡ get m q) [
      | true ↦ λ t. sym here ∙ get_tied gfid_total m q f (tied (gfid_cmp q f) t)
      | false ↦ λ t. refl
    ] refl)

undone_at :
    (m : Files) (f : Gfid) (v : Record) (before : Option Record) → get m f ≡ before
    → with_record (insert m f v) f before ≡ m
undone_at m f v None e = remove-insert gfid_total gfid_exact m f v e
undone_at m f v (Some w) e = insert_twice m f v w ∙ insert_same m f w e

-- to give back the record that was there before undoes it
pub undone : (m : Files) (f : Gfid) (v : Record) → with_record (insert m f v) f (get m f) ≡ m
undone m f v = undone_at m f v (get m f) refl

pub placed : (m n : Files) (f : Gfid) (v : Record) → n ≡ insert m f v → IsSome (get n f)
placed m n f v e = ap (λ x. is_some (get x f)) e ∙ ap is_some (get-insert_here gfid_total m f v)

pub placed_again :
    (m n : Files) (f : Gfid) (v : Record) → n ≡ insert m f v → (r : Record)
    → insert n f r ≡ insert m f r
placed_again m n f v e r = ap (λ x. insert x f r) e ∙ insert_twice m f v r
