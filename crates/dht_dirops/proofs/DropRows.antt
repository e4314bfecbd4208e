-- What a brick has after it was asked to drop its copy of a directory.
use Rattle.std.proofs.Common.{◌≡◌, ◌≢◌, ℕ, Bool, true, false, cond, refl, sym, ◌∙◌, ap, List}
use Rattle.std.specs.Prelude.{Option, Some, None, is_some, not, unwrap_or}
use Rattle.std.specs.FinMap.{get, get-retain_keys}
use Rattle.dht_types.proofs.PutLaws.{exact_gfid}
use Rattle.dht_types.specs.Gfid.{Entry, same_gfid}
use Rattle.dht_types.specs.History.{is_carried}
use Rattle.dht_types.specs.declared.identifiers.Gfid.{Gfid}
use Rattle.dht_types.specs.declared.stored.DirRecord.{DirRecord}
use Rattle.dht_brick.proofs.TableLemmas.{entry_exact}
use Rattle.dht_brick.specs.Contents.{Contents, Slots, Store, bare, slot, slot_in}
use Rattle.dht_brick.specs.Kinds.{reply_kind}
use Rattle.dht_brick.specs.NameRows.{if_empty, on_slot, when}
use Rattle.dht_brick.specs.Outcome.{Outcome, Do, in_dir, reply_in, within}
use Rattle.dht_brick.specs.Parts.{put_slot, slots_outside, with_slot, without_dir, without_main}
use Rattle.dht_brick.specs.Rows.{with_store}
use Rattle.dht_brick.specs.declared.replies.Given.TheVariants as given
use Rattle.dht_brick.specs.declared.requests.NameRequest.TheVariants.{DropDir}
use Rattle.dht_section.proofs.SlotLaws.{slot_put}
use Rattle.dht_dirops.specs.Rmdir.{is_dropped}

-- what it comes to, by the record of the directory above, by whether a
-- name stands in the directory, and by whether the slot is the directory's
abbrev pub drop_outcome :
    Gfid → List ℕ → Gfid → Contents → Option DirRecord → (full its : Bool) → Outcome Contents
drop_outcome d n g c o full its = within (with_store c) (in_dir o (λ r. if_empty full (on_slot (DropDir d n g) c.store (d, n) (when its (without_main (slot c.store (d, n)))))))

abbrev pub dropped_store : Gfid → List ℕ → Gfid → Store → Store
dropped_store d n g s = without_dir (with_slot s (d, n) (without_main (slot s (d, n)))) g

-- a slot that is the directory's, in which nothing stands, is cleared
pub drop_carried :
    (d : Gfid) (n : List ℕ) (g : Gfid) (c : Contents) (o : Option DirRecord) (full its : Bool)
    → is_some o ≡ true → full ≡ false → its ≡ true
    → drop_outcome d n g c o full its
    ≡ Do given.Nothing (with_store c (dropped_store d n g c.store))
drop_carried d n g c None full its there none is = absurd (let z : false ≡ true = there in cc)
drop_carried d n g c (Some x) true its there none is = absurd (let z : true ≡ false = none in cc)
drop_carried d n g c (Some x) false true there none is = refl
drop_carried d n g c (Some x) false false there none is = absurd (let z : false ≡ true = is in cc)

-- one that is not is refused, or the brick has no record of the directory above
pub drop_refused :
    (d : Gfid) (n : List ℕ) (g : Gfid) (c : Contents) (o : Option DirRecord) (full its : Bool)
    → full ≡ false → its ≡ false
    → (is_dropped (reply_in (drop_outcome d n g c o full its)) ≡ true)
    × (is_carried (reply_kind (reply_in (drop_outcome d n g c o full its))) ≡ false)
drop_refused d n g c None full its none is = (refl, refl)
drop_refused d n g c (Some x) true its none is = absurd (let z : true ≡ false = none in cc)
drop_refused d n g c (Some x) false true none is = absurd (let z : true ≡ false = is in cc)
drop_refused d n g c (Some x) false false none is = (refl, refl)

-- ---- the slots that are left

outside :
    (slots : Slots) (g : Gfid) (y : Entry) (v : Bool) → same_gfid g y.0 ≡ v
    → slot_in (slots_outside slots g) y ≡ unwrap_or (cond (not v) (get slots y) None) bare
outside slots g y v e =
    ap (λ o. unwrap_or o bare)
    (get-retain_keys slots (λ (x : Entry). not (same_gfid g x.0)) y (λ x t. ap (λ (z : Entry). not (same_gfid g z.0)) (sym (entry_exact y x t)))
    ∙ ap (λ b. cond (not b) (get slots y) None) e)

other_gfid : (g h : Gfid) (v : Bool) → same_gfid g h ≡ v → g ≢ h → v ≡ false
other_gfid g h true e ne = absurd (ne ((exact_gfid g h).0 e))
other_gfid g h false e ne = refl

stayed :
    (slots : Slots) (g : Gfid) (y : Entry) → g ≢ y.0
    → slot_in (slots_outside slots g) y ≡ slot_in slots y
stayed slots g y ne = outside slots g y false (other_gfid g y.0 (same_gfid g y.0) refl ne)

-- the name has no main part, and nothing is left in the directory
pub dropped_here :
    (d : Gfid) (n : List ℕ) (g : Gfid) (s : Store) → g ≢ d
    → slot (dropped_store d n g s) (d, n) ≡ without_main (slot s (d, n))
dropped_here d n g s ne = stayed (put_slot s.slots (d, n) (without_main (slot s (d, n)))) g (d, n) ne ∙ slot_put s.slots (d, n) (without_main (slot s (d, n)))

pub dropped_within :
    (d : Gfid) (n : List ℕ) (g : Gfid) (s : Store) (m : List ℕ)
    → slot (dropped_store d n g s) (g, m) ≡ bare
dropped_within d n g s m = outside (put_slot s.slots (d, n) (without_main (slot s (d, n)))) g (g, m) true ((exact_gfid g g).1 refl)
