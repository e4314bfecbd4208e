-- When the rows of requests about names are met.
use Rattle.std.proofs.Common.{◌≡◌, ℕ, List, Bool, true, false, true≢false, cond, refl, sym, ap, subst, ◌∙◌}
use Rattle.std.specs.Prelude.{Option, Some, None, Result, Ok, Err, OnOk, is_none, is_some, is_err}
use Rattle.std.specs.FinMap.{get, insert, remove}
use Rattle.dht_types.specs.declared.identifiers.Gfid.{Gfid}
use Rattle.dht_types.specs.declared.names.EntryKey.{EntryKey}
use Rattle.dht_types.specs.declared.stored.DirRecord.{DirRecord}
use Rattle.dht_types.specs.declared.stored.Slot.{Slot}
use Rattle.dht_types.specs.declared.stored.Record.{Record}
use Rattle.dht_types.specs.declared.stored.Record.TheVariants.{Live, Moving, Standby as Copied, Forward}
use Rattle.dht_guard.specs.declared.records.State.{State}
use Rattle.dht_brick.specs.Contents.{Tables, Files, Store, Slots, store_of, slot_in, entry_at}
use Rattle.dht_types.specs.Gfid.{Entry}
use Rattle.dht_brick.proofs.TableLemmas.{gfid_total, gfid_exact, remove-insert}
use Rattle.dht_brick.specs.Looks.{shape_of}
use Rattle.dht_brick.specs.Named.{name_named}
use Rattle.dht_brick.specs.NameRows.{name_row, when, slot_row, on_slot, beside, given_by}
use Rattle.dht_brick.specs.Outcome.{Outcome, Do, in_dir, Serves}
use Rattle.dht_brick.specs.Parts.{state_of, slot_shown, put_slot}
use Rattle.dht_brick.specs.declared.replies.Given.{Given}
use Rattle.dht_brick.specs.declared.replies.SlotShown.{SlotShown}
use Rattle.dht_brick.specs.declared.replies.Reply.{Reply}
use Rattle.dht_brick.specs.declared.replies.Reply.TheVariants as reply
use Rattle.dht_brick.specs.declared.replies.Why.TheVariants as why
use Rattle.dht_brick.specs.declared.requests.NameRequest.{NameRequest}
use Rattle.dht_names.specs.Served.{Meets, MeetsRow, Changes, lacks_dir}

-- ---- the state in the outline of a record

pub dest-shape : (s : State) (r : Option Record) → (shape_of r).state ≡ state_of r
dest-shape s None = refl
dest-shape s (Some (Live hop bytes)) = refl
dest-shape s (Some (Moving hop dest bytes)) = refl
dest-shape s (Some (Copied c)) = refl
dest-shape s (Some (Forward hop brick)) = refl

-- ---- a slot that is refused or changed

-- where the reply shows the slot, and the row wants it otherwise
pub refuses :
    (t : Tables) (f : Files) (q : NameRequest) (r : Reply) (x : SlotShown)
    → r ≡ reply.Refused (why.Slot x) → x ≡ slot_shown (slot_in t.slots (name_named q))
    → slot_row t.bricks (store_of t f) q (slot_in t.slots (name_named q)) ≡ None
    → Changes q t f r t f
refuses t f q r x e shown none =
    let given = e ∙ ap (λ y. reply.Refused (why.Slot y)) shown in
    subst (λ y. Changes q t f y t f) (sym given) (record { served = (ap (on_slot q (store_of t f) (name_named q)) none, refl); bricks = refl })

-- where the slot becomes what the row says, and nothing else changes
pub changes :
    (t : Tables) (f : Files) (q : NameRequest) (p : Slot) (slots2 : Slots) (g : Given)
    → ((s : Store) → beside q s ≡ s)
    → slot_row t.bricks (store_of t f) q (slot_in t.slots (name_named q)) ≡ Some p
    → slots2 ≡ put_slot t.slots (name_named q) p
    → g ≡ given_by q (store_of (record t { slots = slots2 }) f)
    → Changes q t f (reply.Ok g) (record t { slots = slots2 }) f
changes t f q p slots2 g same some new given = record {
  served =
      ap (on_slot q (store_of t f) (name_named q)) some
      ∙ ap (λ s. Do (given_by q s) s) (same (store_of (record t { slots = put_slot t.slots (name_named q) p }) f) ∙ ap (λ x. store_of (record t { slots = x }) f) (sym new))
      ∙ ap (λ y. Do y (store_of (record t { slots = slots2 }) f)) (sym given);
  bricks = refl;
}

-- where there was no memory, and nothing changed
pub lacks :
    (outcome : Store → Outcome Store) (t t2 : Tables) (f : Files) → t2 ≡ t
    → Meets outcome t f reply.NoMemory t2 f
lacks outcome t t2 f e = record { served = ap (λ x. store_of x f) e; bricks = ap (λ x. x.bricks) e }

pub when_false : (b : Bool) (p : Slot) → b ≡ false → when b p ≡ None
when_false b p e = ap (λ x. cond x (Some p) None) e

pub when_true : (b : Bool) (p : Slot) → b ≡ true → when b p ≡ Some p
when_true b p e = ap (λ x. cond x (Some p) None) e

-- ---- a directory that is there

in_dir-there :
    (o : Option DirRecord) (x : Outcome Store) → is_none o ≡ false → in_dir o (λ _. x) ≡ x
in_dir-there None x h = cc
in_dir-there (Some r) x h = refl

pub there :
    (outcome : Store → Outcome Store) (t t2 : Tables) (f f2 : Files) (d : Gfid) (r : Reply)
    → is_none (get t.dirs d) ≡ false → Meets outcome t f r t2 f2
    → Meets (λ s. in_dir (get s.dirs d) (λ _. outcome s)) t f r t2 f2
there outcome t t2 f f2 d r h m = record {
  served = subst (λ y. Serves y (store_of t f) r (store_of t2 f2)) (sym (in_dir-there (get t.dirs d) (outcome (store_of t f)) h)) m.served;
  bricks = m.bricks;
}

pub in_dir-known :
    (o : Option DirRecord) (x : Outcome Store) → is_some o ≡ true → in_dir o (λ _. x) ≡ x
in_dir-known None x e = cc
in_dir-known (Some r) x e = refl

-- where there was no memory, and what was made was taken back
pub lacks-both :
    (outcome : Store → Outcome Store) (t t2 : Tables) (f f2 : Files) → t2 ≡ t → f2 ≡ f
    → Meets outcome t f reply.NoMemory t2 f2
lacks-both outcome t t2 f f2 e same = record { served = ap (λ x. store_of x f2) e ∙ ap (store_of t) same; bricks = ap (λ x. x.bricks) e }

pub remove-made : (m : Files) (f : Gfid) (r : Record) → get m f ≡ None → remove (insert m f r) f ≡ m
remove-made m f r none = remove-insert gfid_total gfid_exact m f r none

pub none-is : {X : Type 0} (o : Option X) → is_none o ≡ true → o ≡ None
none-is None e = refl
none-is (Some x) e = cc

-- what holds of a result that is no error
pub ok-made :
    {T E : Type 0} (r : Result T E) (P : Type 0) {b : Bool} → OnOk r P → b ≡ is_err r → b ≡ false
    → P
ok-made (Ok x) P h e n = h
ok-made (Err y) P h e n = absurd (true≢false (sym e ∙ n))

-- ---- what a function made of a slot answers the request

-- the key of the slot that a request names
pub key_of :
    (k : EntryKey) (q q2 : NameRequest) → entry_at k ≡ name_named q → q ≡ q2
    → k ≡ record { dir = (name_named q2).0; name = (name_named q2).1 }
key_of k q q2 named is = ap (λ (e : Entry). record { dir = e.0; name = e.1 }) (named ∙ ap name_named is)

module _ (t t2 : Tables) (f : Files) (r : Reply) (q : NameRequest) (known : lacks_dir t.dirs q ≡ false) (k : EntryKey) (d : Gfid) (n : List ℕ) (key : k ≡ record { dir = d; name = n }) where
  -- where the request is this one of its key, and its row is that of a directory which is there
  pub answered : (made : EntryKey → NameRequest) (outcome : EntryKey → Store → Outcome Store) → q ≡ made (record { dir = d; name = n })
      → lacks_dir t.dirs (made (record { dir = d; name = n })) ≡ is_none (get t.dirs d)
      → name_row t.bricks (made (record { dir = d; name = n })) ≡ (λ s. in_dir (get s.dirs d) (λ _. outcome (record { dir = d; name = n }) s))
      → ((f : Files) → Meets (outcome k) t f r t2 f) → MeetsRow q t f r t2 f
  answered made outcome is there_is row_is change =
      subst (λ (x : NameRequest). MeetsRow x t f r t2 f) (sym is)
      (subst (λ (o : Store → Outcome Store). Meets o t f r t2 f) (sym row_is)
      (there (outcome (record { dir = d; name = n })) t t2 f f d r (sym there_is ∙ subst (λ (x : NameRequest). lacks_dir t.dirs x ≡ false) is known)
      (subst (λ (x : EntryKey). Meets (outcome x) t f r t2 f) key (change f))))
