-- What a change of one key leaves in a brick's maps.
use Rattle.std.proofs.Common.{◌≡◌, ◌≢◌, Bool, true, false, refl, ap, ◌∙◌, cond}
use Rattle.std.specs.Prelude.{Some, None, [], unwrap_or}
use Rattle.std.specs.FinMap.{FinMap, IsAntisymmetric, get, insert, get-insert}
use Rattle.std.specs.Ordering.{eq_by_cmp, is_eq}
use Rattle.std.specs.Cmp.{IsTotalOrder, eq_by_cmp_equiv}
use Rattle.std.specs.declared.cmp.Ordering.{Ordering}
use Rattle.std.specs.declared.cmp.Ordering.TheVariants.{Less, Equal, Greater}
use Rattle.dht_types.specs.Gfid.{Entry}
use Rattle.dht_types.specs.declared.identifiers.Gfid.{Gfid}
use Rattle.dht_types.specs.declared.stored.Main.TheVariants.{File}
use Rattle.dht_types.specs.declared.stored.Slot.{Slot}
use Rattle.dht_types.specs.declared.stored.Record.{Record}
use Rattle.dht_types.specs.declared.stored.Record.TheVariants.{Live}
use Rattle.dht_brick.specs.Contents.{Store, slot, file, bare}
use Rattle.dht_brick.specs.Parts.{with_main, with_slot, with_file}
use Rattle.dht_brick.proofs.TableLemmas.{gfid_total, gfid_exact, entry_total, entry_exact}

pub is_equal : (o : Ordering) → is_eq o ≡ true → o ≡ Equal
is_equal Less h = absurd (let e : false ≡ true = h in cc)
is_equal Equal h = refl
is_equal Greater h = absurd (let e : false ≡ true = h in cc)

-- the value at the key that was set
pub get_at :
    {K X : Type 0} {R : K → K → Ordering} → IsTotalOrder R → (m : FinMap R X) (k : K) (v : X)
    → get (insert m k v) k ≡ Some v
get_at {K} {X} {R} o m k v = get-insert o m k v k ∙ ap (λ b. cond b (Some v) (get m k)) ((eq_by_cmp_equiv o).refl k)

off_by :
    {K X : Type 0} {R : K → K → Ordering} → IsAntisymmetric R
    → (m : FinMap R X) (k : K) (v : X) (q : K) (b : Bool) → eq_by_cmp R q k ≡ b → q ≢ k
    → cond b (Some v) (get m q) ≡ get m q
off_by {K} {X} {R} exact m k v q true e ne = absurd (ne (exact q k (is_equal (R q k) e)))
off_by exact m k v q false e ne = refl

-- the value at any other key
pub get_off :
    {K X : Type 0} {R : K → K → Ordering} → IsTotalOrder R → IsAntisymmetric R
    → (m : FinMap R X) (k : K) (v : X) (q : K) → q ≢ k → get (insert m k v) q ≡ get m q
get_off {K} {X} {R} o exact m k v q ne = get-insert o m k v q ∙ off_by exact m k v q (eq_by_cmp R q k) refl ne

-- a new, empty file, and the slot that is made for it
abbrev pub new_file : Record
new_file = Live 0 []

abbrev pub new_slot : Store → Entry → Gfid → Slot
new_slot s e f = with_main (slot s e) (File f None)

abbrev pub added : Store → Entry → Gfid → Store
added s e f = with_file (with_slot s e (new_slot s e f)) f new_file

pub slot_at_new : (s : Store) (e : Entry) (f : Gfid) → slot (added s e f) e ≡ new_slot s e f
slot_at_new s e f = ap (λ o. unwrap_or o bare) (get_at entry_total s.slots e (new_slot s e f))

pub slot_off_new :
    (s : Store) (e : Entry) (f : Gfid) (q : Entry) → q ≢ e → slot (added s e f) q ≡ slot s q
slot_off_new s e f q ne = ap (λ o. unwrap_or o bare) (get_off entry_total entry_exact s.slots e (new_slot s e f) q ne)

pub file_at_new : (s : Store) (e : Entry) (f : Gfid) → file (added s e f) f ≡ Some new_file
file_at_new s e f = get_at gfid_total s.files f new_file

pub file_off_new : (s : Store) (e : Entry) (f q : Gfid) → q ≢ f → file (added s e f) q ≡ file s q
file_off_new s e f q ne = get_off gfid_total gfid_exact s.files f new_file q ne
