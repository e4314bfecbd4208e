-- What a request leaves that changes one slot, and nothing else of what bricks store.
use Rattle.std.proofs.Common.{◌≡◌, ◌≢◌, ◌⊎◌, ℕ, Bool, true, false, refl, sym, ◌∙◌, ap, inl, inr}
use Rattle.std.specs.Prelude.{Option, Some, None, is_some, is_none, ◌&&◌, nat_eq, if◌then◌else◌, unwrap_or}
use Rattle.std.specs.FinMap.{insert, remove}
use Rattle.std.specs.Ordering.{eq_by_cmp, is_eq}
use Rattle.std.specs.declared.cmp.Ordering.{Ordering}
use Rattle.std.specs.declared.cmp.Ordering.TheVariants.{Less, Equal, Greater}
use Rattle.std.proofs.lemmas.Bool.{false_from_ne_true}
use Rattle.dht_types.proofs.PutLaws.{exact_entry, exact_nat, put_keeps, put_other}
use Rattle.dht_types.specs.Gfid.{Entry}
use Rattle.dht_types.specs.Put.{same_entry}
use Rattle.dht_types.specs.declared.identifiers.Gfid.{Gfid}
use Rattle.dht_types.specs.declared.stored.DirRecord.{DirRecord}
use Rattle.dht_types.specs.declared.stored.Slot.{Slot}
use Rattle.dht_brick.proofs.MapLemmas.{get-insert_here, get-insert_other, get-remove_here, get-remove_other}
use Rattle.dht_brick.proofs.TableLemmas.{entry_exact, entry_total}
use Rattle.dht_brick.specs.Contents.{Contents, Slots, bare, entry_cmp, slot, slot_in, dir, file}
use Rattle.dht_brick.specs.NameRows.{beside, given_by, on_slot, when}
use Rattle.dht_brick.specs.Outcome.{Outcome, Do, in_dir, within, left_by, reply_in}
use Rattle.dht_brick.specs.Parts.{is_bare, put_slot, with_slot}
use Rattle.dht_brick.specs.Rows.{with_store}
use Rattle.dht_brick.specs.declared.replies.Given.{Given}
use Rattle.dht_brick.specs.declared.replies.Reply.{Reply}
use Rattle.dht_brick.specs.declared.replies.Reply.TheVariants.{Ok as Carried}
use Rattle.dht_brick.specs.declared.requests.NameRequest.{NameRequest}
use Rattle.dht_section.proofs.SceneLaws.{new_is, row_moved}
use Rattle.dht_section.specs.Disk.{dir_at, file_at, slot_at}
use Rattle.dht_section.specs.Moves.{Guarantee, outcome_of}
use Rattle.dht_section.specs.Replies.{fault_of}
use Rattle.dht_section.specs.Scene.{Scene}
use Rattle.dht_section.specs.declared.machine.Ask.{Ask}

pub entry_cases : (x y : Entry) → (x ≡ y) ⊎ (x ≢ y)
entry_cases x y = by (same_entry x y) refl
  where
    by : (v : Bool) → same_entry x y ≡ v → (x ≡ y) ⊎ (x ≢ y)
    by true e = inl ((exact_entry x y).0 e)
    by false e = inr (λ h. let k : true ≡ false = sym ((exact_entry x y).1 h) ∙ e in cc)

-- ---- the slots of one brick

none_is : {A : Type 0} (o : Option A) → is_none o ≡ true → None ≡ o
none_is None h = refl
none_is (Some x) h = absurd (let z : false ≡ true = h in cc)

both_true : (a b : Bool) → (a && b) ≡ true → (a ≡ true) × (b ≡ true)
both_true true b h = (refl, h)
both_true false b h = absurd (let z : false ≡ true = h in cc)

bare_is : (p : Slot) → is_bare p ≡ true → bare ≡ p
bare_is p e = (let q = both_true (is_none p.main) (is_none p.standby) e in λ i. record { main = none_is p.main q.0 i; standby = none_is p.standby q.1 i })

-- a slot that was put is there
pub slot_put : (slots : Slots) (x : Entry) (p : Slot) → slot_in (put_slot slots x p) x ≡ p
slot_put slots x p = by (is_bare p) refl
  where
    by : (v : Bool) → is_bare p ≡ v → slot_in (if v then remove slots x else insert slots x p) x ≡ p
    by true e = ap (λ o. unwrap_or o bare) (get-remove_here entry_total slots x) ∙ bare_is p e
    by false e = ap (λ o. unwrap_or o bare) (get-insert_here entry_total slots x p)

-- and another name's stays
tied : (r : Ordering) → is_eq r ≡ true → r ≡ Equal
tied Less e = absurd (let z : false ≡ true = e in cc)
tied Equal e = refl
tied Greater e = absurd (let z : false ≡ true = e in cc)

apart : (x y : Entry) → y ≢ x → eq_by_cmp entry_cmp y x ≡ false
apart x y ne = false_from_ne_true (eq_by_cmp entry_cmp y x) (λ e. ne (entry_exact y x (tied (entry_cmp y x) e)))

pub slot_put_other :
    (slots : Slots) (x : Entry) (p : Slot) (y : Entry) → y ≢ x
    → slot_in (put_slot slots x p) y ≡ slot_in slots y
slot_put_other slots x p y ne = by (is_bare p)
  where
    by : (v : Bool) → slot_in (if v then remove slots x else insert slots x p) y ≡ slot_in slots y
    by true = ap (λ o. unwrap_or o bare) (get-remove_other entry_total slots x y (apart x y ne))
    by false = ap (λ o. unwrap_or o bare) (get-insert_other entry_total slots x p y (apart x y ne))

-- ---- the row

-- what a request comes to that changes a slot where a test passes
abbrev pub slot_outcome :
    NameRequest → Option DirRecord → Bool → Contents → Entry → Slot → Outcome Contents
slot_outcome q o v c e p = within (with_store c) (in_dir o (λ x. on_slot q c.store e (when v p)))

-- it is carried out where the directory is there and the test passes
pub slot_carried :
    (q : NameRequest) (o : Option DirRecord) (v : Bool) (c : Contents) (e : Entry) (p : Slot)
    → is_some o ≡ true → v ≡ true
    → slot_outcome q o v c e p
    ≡ Do (given_by q (beside q (with_slot c.store e p)))
    (with_store c (beside q (with_slot c.store e p)))
slot_carried q None v c e p there passes = absurd (let z : false ≡ true = there in cc)
slot_carried q (Some x) true c e p there passes = refl
slot_carried q (Some x) false c e p there passes = absurd (let z : false ≡ true = passes in cc)

-- ---- what it leaves

-- a brick has this slot at the name, and nothing else of what bricks store changed
pub record TakesSlot (s t : Scene) (b : ℕ) (e : Entry) (p : Slot) : Type 0 where
  pub here : slot_at t.disk b e ≡ p
  pub off : (i : ℕ) (x : Entry) → i ≢ b → slot_at t.disk i x ≡ slot_at s.disk i x
  pub others : (i : ℕ) (x : Entry) → x ≢ e → slot_at t.disk i x ≡ slot_at s.disk i x
  pub dirs : (i : ℕ) (g : Gfid) → dir_at t.disk i g ≡ dir_at s.disk i g
  pub files : (i : ℕ) (f : Gfid) → file_at t.disk i f ≡ file_at s.disk i f
  pub opens : (i : ℕ) → (t.disk.brick i).opens ≡ (s.disk.brick i).opens

module _ (s t : Scene) (a : Ask) (r : Reply) (g : Given) (e : Entry) (p : Slot) (m : Guarantee s a r t) (is : outcome_of s a ≡ Do g (with_store (s.disk.brick a.brick.0) (with_slot (s.disk.brick a.brick.0).store e p))) (z : fault_of r ≡ None) where
  -- it was carried out, and gave this
  pub slot_reply : r ≡ Carried g
  slot_reply = (row_moved s t a r m z).0 ∙ ap reply_in is

  new_by : m.new ≡ with_store (s.disk.brick a.brick.0) (with_slot (s.disk.brick a.brick.0).store e p)
  new_by = (row_moved s t a r m z).1 ∙ ap (λ o. left_by o (s.disk.brick a.brick.0)) is

  pub slot_new : t.disk.brick a.brick.0 ≡ with_store (s.disk.brick a.brick.0) (with_slot (s.disk.brick a.brick.0).store e p)
  slot_new = new_is s t a r m ∙ new_by

  kept : {X : Type 0} (f : Contents → X) → f (with_store (s.disk.brick a.brick.0) (with_slot (s.disk.brick a.brick.0).store e p)) ≡ f (s.disk.brick a.brick.0) → (i : ℕ) → f (t.disk.brick i) ≡ f (s.disk.brick i)
  kept f same i =
      ap (λ (k : ℕ → Contents). f (k i)) m.disk.brick
      ∙ put_keeps f nat_eq exact_nat s.disk.brick a.brick.0 m.new (ap f new_by ∙ same) i

  pub slot_taken : TakesSlot s t a.brick.0 e p
  slot_taken = record {
    here = ap (λ (c : Contents). slot c.store e) slot_new ∙ slot_put (s.disk.brick a.brick.0).store.slots e p;
    off = λ i x ne. ap (λ (k : ℕ → Contents). slot (k i).store x) m.disk.brick ∙ ap (λ (c : Contents). slot c.store x) (put_other nat_eq exact_nat s.disk.brick a.brick.0 m.new i ne);
    others = λ i x ne. kept (λ (c : Contents). slot c.store x) (slot_put_other (s.disk.brick a.brick.0).store.slots e p x ne) i;
    dirs = λ i d. kept (λ (c : Contents). dir c.store d) refl i;
    files = λ i f. kept (λ (c : Contents). file c.store f) refl i;
    opens = λ i. kept (λ (c : Contents). c.opens) refl i;
  }
