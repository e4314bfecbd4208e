-- What a brick has after it made or dropped a copy of a directory, or set its range.
use Rattle.std.proofs.Common.{◌≡◌, ◌≢◌, ℕ, Bool, true, false, cond, List, refl, sym, ap, ◌∙◌, subst}
use Rattle.std.specs.Prelude.{Option, Some, None, is_some, not, unwrap_or}
use Rattle.std.specs.FinMap.{get, get-retain_keys}
use Rattle.dht_types.proofs.PutLaws.{exact_gfid}
use Rattle.dht_types.specs.Gfid.{Entry, same_gfid}
use Rattle.dht_types.specs.declared.identifiers.Gfid.{Gfid}
use Rattle.dht_types.specs.declared.stored.DirRecord.{DirRecord}
use Rattle.dht_types.specs.declared.stored.Main.TheVariants.{Dir}
use Rattle.dht_brick.proofs.LocalityLaws.{names_are_local}
use Rattle.dht_brick.proofs.MapLemmas.{get-insert_here, get-remove_here}
use Rattle.dht_brick.proofs.TableLemmas.{entry_exact, gfid_total}
use Rattle.dht_brick.specs.Contents.{Contents, Store, Slots, bare, slot, slot_in, dir}
use Rattle.dht_brick.specs.Links.{is_occupied}
use Rattle.dht_brick.specs.Locality.{ChangesOnly, IsLocal, name_places}
use Rattle.dht_brick.specs.NameRows.{name_row, on_slot, when, if_empty}
use Rattle.dht_brick.specs.Outcome.{Outcome, Do, Refuse, in_dir, within, left_by}
use Rattle.dht_brick.specs.Parts.{is_dir, is_free, with_main, without_main, with_slot, with_dir, without_dir, slot_shown, put_slot, slots_outside}
use Rattle.dht_brick.specs.Rows.{with_store}
use Rattle.dht_brick.specs.declared.replies.Given.{Given}
use Rattle.dht_brick.specs.declared.replies.Given.TheVariants as given
use Rattle.dht_brick.specs.declared.replies.Why.TheVariants as why
use Rattle.dht_brick.specs.declared.requests.NameRequest.{NameRequest}
use Rattle.dht_brick.specs.declared.requests.NameRequest.TheVariants.{SetLayout, MakeDir, DropDir}
use Rattle.dht_section.proofs.SlotLaws.{slot_put}
use Rattle.dht_invariant.proofs.ServedLaws.{within_done}

-- ---- a row that was carried out

-- it changes the store at its places only, and nothing else
pub record StoresOnly (q : NameRequest) (c new : Contents) : Type 0 where
  pub only : ChangesOnly (name_places q) c.store new.store
  pub opens : new.opens ≡ c.opens
  pub locks : new.locks ≡ c.locks

pub stores_only :
    (bricks : List (List ℕ)) (q : NameRequest) (c new : Contents) (gives : Given)
    → within (with_store c) (name_row bricks q c.store) ≡ Do gives new → StoresOnly q c new
stores_only bricks q c new gives done =
    let (a, row, is) = within_done (with_store c) (name_row bricks q c.store) gives new done in
    record {
      only = subst (λ (s : Store). ChangesOnly (name_places q) c.store s) (sym (ap (λ (x : Contents). x.store) is)) (subst (IsLocal (name_places q) c.store) row (names_are_local bricks q c.store));
      opens = ap (λ (x : Contents). x.opens) is;
      locks = ap (λ (x : Contents). x.locks) is;
    }

-- ---- a copy is made

abbrev pub new_copy : Gfid → List ℕ → ℕ → Option (List ℕ) → DirRecord
new_copy d n depth value = record { place = Some (record { dir = d; name = n }); depth = depth; value = value }

pub record CopyMade (d : Gfid) (n : List ℕ) (g : Gfid) (depth : ℕ) (value : Option (List ℕ)) (c new : Contents) : Type 0 where
  pub parent : is_some (dir c.store d) ≡ true
  pub free : is_free (slot c.store (d, n)) ≡ true
  pub here : slot new.store (d, n) ≡ with_main (slot c.store (d, n)) (Dir g)
  pub copy : dir new.store g ≡ Some (new_copy d n depth value)

-- what it comes to, where the directory is there and the slot is free, or not
abbrev made :
    Gfid → List ℕ → Gfid → ℕ → Option (List ℕ) → Contents → Option DirRecord → Bool
    → Outcome Contents
made d n g depth value c o v = within (with_store c) (in_dir o (λ r. on_slot (MakeDir d n g depth value) c.store (d, n) (when v (with_main (slot c.store (d, n)) (Dir g)))))

made_by :
    (d : Gfid) (n : List ℕ) (g : Gfid) (depth : ℕ) (value : Option (List ℕ)) (c new : Contents)
    (gives : Given) (o : Option DirRecord) (v : Bool)
    → dir c.store d ≡ o → is_free (slot c.store (d, n)) ≡ v
    → made d n g depth value c o v ≡ Do gives new → CopyMade d n g depth value c new
made_by d n g depth value c new gives None v there free done = absurd (let z : Refuse why.Nodir ≡ Do gives new = done in cc)
made_by d n g depth value c new gives (Some x) false there free done = absurd (let z : Refuse (why.Slot (slot_shown (slot c.store (d, n)))) ≡ Do gives new = done in cc)
made_by d n g depth value c new gives (Some x) true there free done =
    let p = with_main (slot c.store (d, n)) (Dir g) in
    let is : new.store ≡ with_dir (with_slot c.store (d, n) p) g (new_copy d n depth value) = ap (λ (y : Outcome Contents). (left_by y c).store) (sym done) in
    record {
      parent = ap is_some there;
      free = free;
      here = ap (λ (s : Store). slot s (d, n)) is ∙ slot_put c.store.slots (d, n) p;
      copy = ap (λ (s : Store). dir s g) is ∙ get-insert_here gfid_total c.store.dirs g (new_copy d n depth value);
    }

pub copy_made :
    (bricks : List (List ℕ)) (d : Gfid) (n : List ℕ) (g : Gfid) (depth : ℕ)
    (value : Option (List ℕ)) (c new : Contents) (gives : Given)
    → within (with_store c) (name_row bricks (MakeDir d n g depth value) c.store) ≡ Do gives new
    → CopyMade d n g depth value c new
copy_made bricks d n g depth value c new gives done = made_by d n g depth value c new gives (dir c.store d) (is_free (slot c.store (d, n))) refl refl done

-- ---- a copy is dropped

pub record CopyDropped (d : Gfid) (n : List ℕ) (g : Gfid) (c new : Contents) : Type 0 where
  pub parent : is_some (dir c.store d) ≡ true
  pub named : is_dir g (slot c.store (d, n)).main ≡ true
  pub here : g ≢ d → slot new.store (d, n) ≡ without_main (slot c.store (d, n))
  pub slots : (y : Entry) → y.0 ≡ g → slot new.store y ≡ bare
  pub copy : dir new.store g ≡ None

abbrev dropped : Gfid → List ℕ → Gfid → Contents → Option DirRecord → Bool → Bool → Outcome Contents
dropped d n g c o full v = within (with_store c) (in_dir o (λ r. if_empty full (on_slot (DropDir d n g) c.store (d, n) (when v (without_main (slot c.store (d, n)))))))

-- the slots in a directory that is dropped
gone : (slots : Slots) (g : Gfid) (y : Entry) → y.0 ≡ g → slot_in (slots_outside slots g) y ≡ bare
gone slots g y e =
    ap (λ o. unwrap_or o bare)
    (get-retain_keys slots (λ (x : Entry). not (same_gfid g x.0)) y (λ x t. ap (λ (z : Entry). not (same_gfid g z.0)) (sym (entry_exact y x t)))
    ∙ ap (λ b. cond (not b) (get slots y) None) ((exact_gfid g y.0).1 (sym e)))

stayed :
    (slots : Slots) (g : Gfid) (y : Entry) → g ≢ y.0
    → slot_in (slots_outside slots g) y ≡ slot_in slots y
stayed slots g y ne = by (same_gfid g y.0) refl
  where
    by : (v : Bool) → same_gfid g y.0 ≡ v → slot_in (slots_outside slots g) y ≡ slot_in slots y
    by true e = absurd (ne ((exact_gfid g y.0).0 e))
    by false e =
        ap (λ o. unwrap_or o bare)
        (get-retain_keys slots (λ (x : Entry). not (same_gfid g x.0)) y (λ x t. ap (λ (z : Entry). not (same_gfid g z.0)) (sym (entry_exact y x t)))
        ∙ ap (λ b. cond (not b) (get slots y) None) e)

dropped_by :
    (d : Gfid) (n : List ℕ) (g : Gfid) (c new : Contents) (gives : Given) (o : Option DirRecord)
    (full v : Bool)
    → dir c.store d ≡ o → is_dir g (slot c.store (d, n)).main ≡ v
    → dropped d n g c o full v ≡ Do gives new → CopyDropped d n g c new
dropped_by d n g c new gives None full v there is_its done = absurd (let z : Refuse why.Nodir ≡ Do gives new = done in cc)
dropped_by d n g c new gives (Some x) true true there is_its done = absurd (let z : Refuse why.NotEmpty ≡ Do gives new = done in cc)
dropped_by d n g c new gives (Some x) true false there is_its done = absurd (let z : Refuse (why.Slot (slot_shown (slot c.store (d, n)))) ≡ Do gives new = done in cc)
dropped_by d n g c new gives (Some x) false false there is_its done = absurd (let z : Refuse (why.Slot (slot_shown (slot c.store (d, n)))) ≡ Do gives new = done in cc)
dropped_by d n g c new gives (Some x) false true there is_its done =
    let p = without_main (slot c.store (d, n)) in
    let is : new.store ≡ without_dir (with_slot c.store (d, n) p) g = ap (λ (y : Outcome Contents). (left_by y c).store) (sym done) in
    record {
      parent = ap is_some there;
      named = is_its;
      here = λ ne. ap (λ (s : Store). slot s (d, n)) is ∙ (stayed (put_slot c.store.slots (d, n) p) g (d, n) ne ∙ slot_put c.store.slots (d, n) p);
      slots = λ y e. ap (λ (s : Store). slot s y) is ∙ gone (put_slot c.store.slots (d, n) p) g y e;
      copy = ap (λ (s : Store). dir s g) is ∙ get-remove_here gfid_total c.store.dirs g;
    }

pub copy_dropped :
    (bricks : List (List ℕ)) (d : Gfid) (n : List ℕ) (g : Gfid) (c new : Contents) (gives : Given)
    → within (with_store c) (name_row bricks (DropDir d n g) c.store) ≡ Do gives new
    → CopyDropped d n g c new
copy_dropped bricks d n g c new gives done = dropped_by d n g c new gives (dir c.store d) (is_occupied c.store.slots g) (is_dir g (slot c.store (d, n)).main) refl refl done

-- ---- a range is set

pub record RangeSet (d : Gfid) (value : Option (List ℕ)) (c new : Contents) : Type 0 where
  pub old : DirRecord
  pub there : dir c.store d ≡ Some old
  pub copy : dir new.store d ≡ Some (record old { value = value })

abbrev set : Gfid → Option (List ℕ) → Contents → Option DirRecord → Outcome Contents
set d value c o = within (with_store c) (in_dir o (λ r. Do given.Nothing (with_dir c.store d (record r { value = value }))))

set_by :
    (d : Gfid) (value : Option (List ℕ)) (c new : Contents) (gives : Given) (o : Option DirRecord)
    → dir c.store d ≡ o → set d value c o ≡ Do gives new → RangeSet d value c new
set_by d value c new gives None there done = absurd (let z : Refuse why.Nodir ≡ Do gives new = done in cc)
set_by d value c new gives (Some x) there done = record {
  old = x;
  there = there;
  copy = ap (λ (y : Outcome Contents). dir (left_by y c).store d) (sym done) ∙ get-insert_here gfid_total c.store.dirs d (record x { value = value });
}

pub range_set :
    (bricks : List (List ℕ)) (d : Gfid) (value : Option (List ℕ)) (c new : Contents) (gives : Given)
    → within (with_store c) (name_row bricks (SetLayout d value) c.store) ≡ Do gives new
    → RangeSet d value c new
range_set bricks d value c new gives done = set_by d value c new gives (dir c.store d) refl done
