-- What the map of directory records keeps, shown as a finite map.
use Rattle.std.proofs.Common.{◌≡◌, Bool, true, false, cond, List, refl, sym, ap, ◌∙◌}
use Rattle.std.specs.Prelude.{Option, Some, None, is_some}
use Rattle.std.specs.Map.{lookup}
use Rattle.std.specs.BTreeMap.{is_at}
use Rattle.std.specs.Ordering.{is_eq, eq_by_cmp}
use Rattle.std.specs.declared.cmp.Ordering.{Ordering}
use Rattle.std.specs.declared.cmp.Ordering.TheVariants.{Less, Equal, Greater}
use Rattle.std.specs.FinMap.{FinMap, get, insert, remove, from_entries, get-insert, get-remove, get_tied, same_map}
use Rattle.std.specs.Cmp.{eq_by_cmp_equiv, tied_itself}
use Rattle.dht_types.specs.declared.identifiers.Gfid.{Gfid}
use Rattle.dht_types.specs.declared.stored.DirRecord.{DirRecord}
use Rattle.dht_brick.specs.Contents.{Dirs, gfid_cmp}
use Rattle.dht_brick.proofs.TableLemmas.{gfid_total, gfid_exact, get-plain, remove-insert}

abbrev pub dirs_from : List (Gfid × DirRecord) → Dirs
dirs_from es = from_entries {R = gfid_cmp} es

-- the same for values of any kind
abbrev pub table_from : {X : Type 0} → List (Gfid × X) → FinMap gfid_cmp X
table_from es = from_entries {R = gfid_cmp} es

-- entries that differ at one key make finite maps that differ there
pub insert-plain :
    {X : Type 0} (es fs : List (Gfid × X)) (k : Gfid) (v : X)
    → ((q : Gfid)
    → lookup (is_at (gfid_cmp q)) fs
    ≡ cond (is_at (gfid_cmp k) q) (Some v) (lookup (is_at (gfid_cmp q)) es))
    → table_from fs ≡ insert (table_from es) k v
insert-plain es fs k v h =
    same_map gfid_total gfid_exact (table_from fs) (insert (table_from es) k v) (λ q.
    get-plain gfid_total fs q ∙ h q
    ∙ ap (λ b. cond b (Some v) (lookup (is_at (gfid_cmp q)) es)) ((eq_by_cmp_equiv gfid_total).symm k q)
    ∙ ap (cond (eq_by_cmp gfid_cmp q k) (Some v)) (sym (get-plain gfid_total es q))
    ∙ sym (get-insert gfid_total (table_from es) k v q))

pub remove-plain :
    {X : Type 0} (es fs : List (Gfid × X)) (k : Gfid)
    → ((q : Gfid)
    → lookup (is_at (gfid_cmp q)) fs
    ≡ cond (is_at (gfid_cmp k) q) None (lookup (is_at (gfid_cmp q)) es))
    → table_from fs ≡ remove (table_from es) k
remove-plain es fs k h =
    same_map gfid_total gfid_exact (table_from fs) (remove (table_from es) k) (λ q.
    get-plain gfid_total fs q ∙ h q
    ∙ ap (λ b. cond b None (lookup (is_at (gfid_cmp q)) es)) ((eq_by_cmp_equiv gfid_total).symm k q)
    ∙ ap (cond (eq_by_cmp gfid_cmp q k) None) (sym (get-plain gfid_total es q))
    ∙ sym (get-remove gfid_total (table_from es) k q))

tied : (r : Ordering) → is_eq r ≡ true → r ≡ Equal
tied Less e = cc
tied Equal e = refl
tied Greater e = cc

twice : {X : Type 0} (b : Bool) (x y z : Option X) → cond b x (cond b y z) ≡ cond b x z
twice true x y z = refl
twice false x y z = refl

-- what is put back where it was leaves the map as it was
pub insert-back :
    (m : Dirs) (k : Gfid) (v w : DirRecord) → get m k ≡ Some w → insert (insert m k v) k w ≡ m
insert-back m k v w old =
    same_map gfid_total gfid_exact (insert (insert m k v) k w) m (λ q.
    get-insert gfid_total (insert m k v) k w q
    ∙ ap (cond (eq_by_cmp gfid_cmp q k) (Some w)) (get-insert gfid_total m k v q)
    ∙ twice (eq_by_cmp gfid_cmp q k) (Some w) (Some v) (get m q)
    ∙ elim (eq_by_cmp gfid_cmp q k) as (λ b. eq_by_cmp gfid_cmp q k ≡ b → cond b (Some w) (get m q) ≡ get m q) [
      | true ↦ λ t. sym (sym (get_tied gfid_total m q k (tied (gfid_cmp q k) t)) ∙ old)
      | false ↦ λ t. refl
    ] refl)

pub remove-put :
    (m : Dirs) (k : Gfid) (v : DirRecord) → get m k ≡ None → remove (insert m k v) k ≡ m
remove-put m k v none = remove-insert gfid_total gfid_exact m k v none

-- what was put is there
pub there-put : (m : Dirs) (k : Gfid) (v : DirRecord) → is_some (get (insert m k v) k) ≡ true
there-put m k v = ap is_some (get-insert gfid_total m k v k ∙ ap (λ b. cond b (Some v) (get m k)) (ap is_eq (tied_itself gfid_total k)))
