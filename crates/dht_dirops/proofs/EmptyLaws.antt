-- What a brick's record of a directory shows of the names in it.
use Rattle.std.proofs.Common.{◌≡◌, ℕ, Bool, true, false, cond, refl, sym, ◌∙◌, ap, subst, T, List, [], ◌∷◌}
use Rattle.std.specs.Prelude.{Option, Some, None, is_some, not, ◌&&◌, ◌||◌, unwrap_or}
use Rattle.std.specs.Cmp.{Equal-is, tied_itself}
use Rattle.std.specs.FinMap.{entries, entries_sorted, find, get-entries, is_sorted}
use Rattle.std.specs.FinMap.Entries.{below_all}
use Rattle.std.specs.List.{list_any}
use Rattle.std.specs.Ordering.{eq_by_cmp, is_eq, is_lt}
use Rattle.std.specs.declared.cmp.Ordering.{Ordering}
use Rattle.std.specs.declared.cmp.Ordering.TheVariants.{Less, Equal, Greater}
use Rattle.dht_types.proofs.PutLaws.{exact_gfid}
use Rattle.dht_types.specs.Gfid.{Entry, same_gfid}
use Rattle.dht_types.specs.declared.identifiers.Gfid.{Gfid}
use Rattle.dht_types.specs.declared.stored.Main.{Main}
use Rattle.dht_types.specs.declared.stored.Main.TheVariants.{Dir, File, Linkto}
use Rattle.dht_types.specs.declared.stored.Slot.{Slot}
use Rattle.dht_brick.proofs.TableLemmas.{entry_exact, entry_total}
use Rattle.dht_brick.specs.Contents.{Slots, bare, entry_cmp, slot_in}
use Rattle.dht_brick.specs.Links.{is_occupied}
use Rattle.dht_brick.specs.Parts.{is_vacant, is_visible}
use Rattle.dht_section.specs.Views.{core, visible}

-- ---- a slot

or_false : (v w : Bool) → (v || w) ≡ false → (v ≡ false) × (w ≡ false)
or_false true w h = absurd (let e : true ≡ false = h in cc)
or_false false w h = (refl, h)

vacant_main : (m : Option Main) → visible m ≡ None → not (is_vacant m) ≡ false
vacant_main None h = refl
vacant_main (Some (Dir g)) h = absurd (let e : Some (Dir g) ≡ None = h in cc)
vacant_main (Some (File f over)) h = absurd (let e : Some (File f over) ≡ None = h in cc)
vacant_main (Some (Linkto value)) h = refl

hidden_main : (m : Option Main) → not (is_vacant m) ≡ false → visible m ≡ None
hidden_main None h = refl
hidden_main (Some (Dir g)) h = absurd (let e : true ≡ false = h in cc)
hidden_main (Some (File f over)) h = absurd (let e : true ≡ false = h in cc)
hidden_main (Some (Linkto value)) h = refl

-- one that is bare, but for a linkto, is not visible; and the main part of one that is not is none
pub bare_hidden : (p : Slot) → core p ≡ bare → is_visible p ≡ false
bare_hidden p e =
    ap (λ (v : Bool). v || is_some p.standby) (vacant_main p.main (ap (λ (x : Slot). x.main) e))
    ∙ ap (λ (x : Slot). is_some x.standby) e

pub hidden_is : (p : Slot) → is_visible p ≡ false → visible p.main ≡ None
hidden_is p h = hidden_main p.main (or_false (not (is_vacant p.main)) (is_some p.standby) h).0

-- ---- the slots in a directory

and_false : (v w : Bool) → v ≡ true → (v && w) ≡ false → w ≡ false
and_false true w e h = h
and_false false w e h = absurd (let z : false ≡ true = e in cc)

and_right : (v w : Bool) → w ≡ false → (v && w) ≡ false
and_right true w e = e
and_right false w e = refl

no_or : (v w : Bool) → v ≡ false → w ≡ false → (v || w) ≡ false
no_or true w e h = absurd (let z : true ≡ false = e in cc)
no_or false w e h = h

split : (a b : Bool) → T (a && b) → T a × T b
split true b h = (tt, h)
split false b h = absurd h

not_equal : (r : Ordering) → T (is_lt r) → is_eq r ≡ false
not_equal Less h = refl
not_equal Equal h = absurd h
not_equal Greater h = absurd h

abbrev shown_in : Gfid → Entry × Slot → Bool
shown_in g x = same_gfid g x.0.0 && is_visible x.1

-- where none is visible, none is at any name
seek :
    (g : Gfid) (n : List ℕ) (es : List (Entry × Slot)) → list_any (shown_in g) es ≡ false
    → is_visible (unwrap_or (find entry_cmp (g, n) es) bare) ≡ false
seek g n [] h = refl
seek g n (x ∷ es) h = by (eq_by_cmp entry_cmp (g, n) x.0) refl (seek g n es (or_false (shown_in g x) (list_any (shown_in g) es) h).1)
  where
    by : (v : Bool) → eq_by_cmp entry_cmp (g, n) x.0 ≡ v → is_visible (unwrap_or (find entry_cmp (g, n) es) bare) ≡ false → is_visible (unwrap_or (cond v (Some x.1) (find entry_cmp (g, n) es)) bare) ≡ false
    by true k rest =
        let same : (g, n) ≡ x.0 = entry_exact (g, n) x.0 ((Equal-is (entry_cmp (g, n) x.0)).0 k) in
        and_false (same_gfid g x.0.0) (is_visible x.1) ((exact_gfid g x.0.0).1 (ap (λ (y : Entry). y.0) same)) (or_false (shown_in g x) (list_any (shown_in g) es) h).0
    by false k rest = rest

pub none_visible :
    (slots : Slots) (g : Gfid) (n : List ℕ) → is_occupied slots g ≡ false
    → is_visible (slot_in slots (g, n)) ≡ false
unfolding is_occupied
none_visible slots g n h = ap (λ (o : Option Slot). is_visible (unwrap_or o bare)) (get-entries slots (g, n)) ∙ seek g n (entries slots) h

-- and the other way round: each entry is found at its name, as names rise
below_none :
    (k q : Entry) (es : List (Entry × Slot)) → entry_cmp q k ≡ Equal → T (below_all entry_cmp k es)
    → find entry_cmp q es ≡ None
below_none k q [] t h = refl
below_none k q (e ∷ es) t h =
    let below = split (is_lt (entry_cmp k e.0)) (below_all entry_cmp k es) h in
    ap (λ (b : Bool). cond b (Some e.1) (find entry_cmp q es)) (ap is_eq (entry_total.congr q k e.0 t) ∙ not_equal (entry_cmp k e.0) below.0) ∙ below_none k q es t below.1

-- nothing is visible at any name of the directory, of these
abbrev NoneFound : Gfid → List (Entry × Slot) → Type 0
NoneFound g es = (n : List ℕ) → is_visible (unwrap_or (find entry_cmp (g, n) es) bare) ≡ false

rest_found :
    (g : Gfid) (e : Entry × Slot) (es : List (Entry × Slot)) → T (below_all entry_cmp e.0 es)
    → NoneFound g (e ∷ es) → NoneFound g es
rest_found g e es below h n = by (eq_by_cmp entry_cmp (g, n) e.0) refl (h n)
  where
    by : (v : Bool) → eq_by_cmp entry_cmp (g, n) e.0 ≡ v → is_visible (unwrap_or (cond v (Some e.1) (find entry_cmp (g, n) es)) bare) ≡ false → is_visible (unwrap_or (find entry_cmp (g, n) es) bare) ≡ false
    by true k z = ap (λ (o : Option Slot). is_visible (unwrap_or o bare)) (below_none e.0 (g, n) es ((Equal-is (entry_cmp (g, n) e.0)).0 k) below)
    by false k z = z

first_hidden :
    (g : Gfid) (e : Entry × Slot) (es : List (Entry × Slot)) → NoneFound g (e ∷ es)
    → shown_in g e ≡ false
first_hidden g e es h = by (same_gfid g e.0.0) refl
  where
    found : is_visible (unwrap_or (cond (is_eq (entry_cmp e.0 e.0)) (Some e.1) (find entry_cmp e.0 es)) bare) ≡ is_visible e.1
    found = ap (λ (r : Ordering). is_visible (unwrap_or (cond (is_eq r) (Some e.1) (find entry_cmp e.0 es)) bare)) (tied_itself entry_total e.0)

    by : (v : Bool) → same_gfid g e.0.0 ≡ v → (v && is_visible e.1) ≡ false
    by true k = sym found ∙ subst (λ (d : Gfid). is_visible (unwrap_or (find entry_cmp (d, e.0.1) (e ∷ es)) bare) ≡ false) ((exact_gfid g e.0.0).0 k) (h e.0.1)
    by false k = refl

none_listed :
    (g : Gfid) (es : List (Entry × Slot)) → T (is_sorted entry_cmp es) → NoneFound g es
    → list_any (shown_in g) es ≡ false
none_listed g [] sorted h = refl
none_listed g (e ∷ es) sorted h =
    let below = split (below_all entry_cmp e.0 es) (is_sorted entry_cmp es) sorted in
    no_or (shown_in g e) (list_any (shown_in g) es) (first_hidden g e es h) (none_listed g es below.1 (rest_found g e es below.0 h))

pub not_occupied :
    (slots : Slots) (g : Gfid) → ((n : List ℕ) → is_visible (slot_in slots (g, n)) ≡ false)
    → is_occupied slots g ≡ false
unfolding is_occupied
not_occupied slots g h = none_listed g (entries slots) (entries_sorted slots) (λ n. sym (ap (λ (o : Option Slot). is_visible (unwrap_or o bare)) (get-entries slots (g, n))) ∙ h n)
