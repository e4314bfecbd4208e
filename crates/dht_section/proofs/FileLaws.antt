-- What follows of the records of a file, and of how many links a brick counts of it.
use Rattle.std.proofs.Common.{◌≡◌, ◌≢◌, ◌<◌, ◌∙◌, ℕ, Bool, true, false, refl, sym, ap, subst, arith, cond, List, [], ◌∷◌, inl, inr}
use Rattle.std.specs.Prelude.{Option, Some, None, is_some, count_by, map, nat_eq, if◌then◌else◌, unwrap_or, ◌||◌, ◌+◌}
use Rattle.std.specs.FinMap.{entries, find, get, get-entries}
use Rattle.std.specs.Ordering.{eq_by_cmp}
use Rattle.std.specs.declared.cmp.Ordering.{Ordering}
use Rattle.std.proofs.lemmas.List.Sums.{sum_by-cons}
use Rattle.dht_types.specs.Gfid.{Entry}
use Rattle.dht_types.specs.declared.identifiers.Gfid.{Gfid}
use Rattle.dht_types.specs.declared.stored.Record.{Record}
use Rattle.dht_types.specs.declared.stored.Record.TheVariants as stored
use Rattle.dht_types.specs.declared.stored.Slot.{Slot}
use Rattle.dht_brick.specs.Contents.{Slots, bare, entry_cmp, slot_in}
use Rattle.dht_brick.specs.Links.{links}
use Rattle.dht_brick.specs.Parts.{is_file, is_live, is_standlink}
use Rattle.dht_section.proofs.EarlyLaws.{here_at, here_off, nat_cases}
use Rattle.dht_section.specs.Disk.{file_at, slot_at}
use Rattle.dht_section.specs.Early.{IsUnmoved}
use Rattle.dht_section.specs.Files.{FileInvariant, NamedAs, NoCopy, RecordsAs}
use Rattle.dht_section.specs.Claims.{places_of}
use Rattle.dht_section.specs.Invariant.{most_hops}
use Rattle.dht_section.specs.Rely.{IsNameless, ByRecord}
use Rattle.dht_section.specs.Scene.{Scene, Sound}
use Rattle.dht_section.specs.Shapes.{FileShape, Gone, Live, Moving, Copying, Moved, body, either, here, main_brick, record_at}
use Rattle.dht_section.specs.Views.{FileView, links_to, view_of}

-- ---- the record of a file on its brick

-- the brick that has the file has a record of its bytes
pub main_record :
    (count : ℕ) (records : ℕ → Option Record) (h : FileShape) (b : ℕ) → RecordsAs count records h
    → main_brick h ≡ Some b → b < count → is_some (body (records b)) ≡ true
main_record count records Gone b r e l = absurd (let z : None ≡ Some b = e in cc)
main_record count records (Live i hop bytes) b r e l = ap is_some (r.has b l ∙ (ap (λ (j : ℕ). here (Some (stored.Live hop bytes)) j b) (let z : i ≡ b = cc in z) ∙ here_at (Some (stored.Live hop bytes)) b))
main_record count records (Moving i hop t bytes) b r e l = ap is_some (r.has b l ∙ (ap (λ (j : ℕ). here (Some (stored.Moving hop t bytes)) j b) (let z : i ≡ b = cc in z) ∙ here_at (Some (stored.Moving hop t bytes)) b))
main_record count records (Copying i hop t bytes c) b r e l = ap is_some (r.has b l) ∙ (ap (λ (j : ℕ). is_some (either (here (Some (stored.Moving hop t bytes)) j b) (here (Some (stored.Standby c)) t.0 b))) (let z : i ≡ b = cc in z)
    ∙ ap (λ (o : Option Record). is_some (either o (here (Some (stored.Standby c)) t.0 b))) (here_at (Some (stored.Moving hop t bytes)) b))
main_record count records (Moved t c) b r e l = absurd (let z : None ≡ Some b = e in cc)

-- a record of a file that was never moved is a live one
pub live_by :
    (r : Option Record) → is_some (body r) ≡ true → ((x : Record) → r ≡ Some x → IsUnmoved x)
    → is_live r ≡ true
live_by None h u = absurd (let z : false ≡ true = h in cc)
live_by (Some x) h u = ap (λ (y : Record). is_live (Some y)) (u x refl).1

-- where a brick has a live record, the file is on that brick and nowhere else, and has no copy
pub record LivesAt (count : ℕ) (v : FileView) (places : ℕ → ℕ → ℕ) (h : FileShape) (b : ℕ) : Type 0 where
  pub brick : main_brick h ≡ Some b
  pub copies : NamedAs count v places h → NoCopy count v

live_body : (r : Option Record) → is_live r ≡ true → is_live (body r) ≡ true
live_body None h = h
live_body (Some (stored.Live hop bytes)) h = h
live_body (Some (stored.Moving hop t bytes)) h = h
live_body (Some (stored.Standby c)) h = h
live_body (Some (stored.Forward hop brick)) h = absurd (let z : false ≡ true = h in cc)

never_live : (r : Record) (i b : ℕ) → is_live (Some r) ≡ false → is_live (here (Some r) i b) ≡ false
never_live r i b e = by (nat_eq b i)
  where
    by : (v : Bool) → is_live (if v then Some r else None) ≡ false
    by true = e
    by false = refl

live_here : (r : Record) (i b : ℕ) → is_live (here (Some r) i b) ≡ true → i ≡ b
live_here r i b e = elim (nat_cases b i) [
  | inl q ↦ sym q
  | inr ne ↦ absurd (let z : true ≡ false = sym e ∙ ap is_live (here_off (Some r) i b ne) in cc)
]

either_dead :
    (x y : Option Record) → is_live x ≡ false → is_live y ≡ false → is_live (either x y) ≡ false
either_dead None y e k = k
either_dead (Some x) y e k = e

not_live : {A : Type 0} (x : Option Record) → is_live x ≡ true → is_live x ≡ false → A
not_live x e k = absurd (let z : true ≡ false = sym e ∙ k in cc)

lives_by :
    (count : ℕ) (v : FileView) (places : ℕ → ℕ → ℕ) (h : FileShape) (b : ℕ)
    → is_live (record_at h b) ≡ true → LivesAt count v places h b
lives_by count v places Gone b e = not_live (record_at Gone b) e refl
lives_by count v places (Live i hop bytes) b e = record { brick = ap Some (live_here (stored.Live hop bytes) i b e); copies = λ n. n }
lives_by count v places (Moving i hop t bytes) b e = not_live (record_at (Moving i hop t bytes) b) e (never_live (stored.Moving hop t bytes) i b refl)
lives_by count v places (Copying i hop t bytes c) b e = not_live (record_at (Copying i hop t bytes c) b) e (either_dead _ _ (never_live (stored.Moving hop t bytes) i b refl) (never_live (stored.Standby c) t.0 b refl))
lives_by count v places (Moved t c) b e = not_live (record_at (Moved t c) b) e (never_live (stored.Standby c) t b refl)

-- ---- the links that a brick counts

none_or : (a b : Bool) → a ≡ false → b ≡ false → (a || b) ≡ false
none_or a b e k = ap (λ (x : Bool). x || b) e ∙ k

-- a test that no value of a map passes
none_passes :
    {K X : Type 0} (cmp : K → K → Ordering) (p : X → Bool) (q : K) (es : List (K × X)) (x : X)
    → count_by p (map (λ (e : K × X). e.1) es) ≡ 0 → find cmp q es ≡ Some x → p x ≡ false
none_passes cmp p q [] x h e = absurd (let z : None ≡ Some x = e in cc)
none_passes {K} {X} cmp p q (y ∷ es) x h e = by (eq_by_cmp cmp q y.0) e (of (p y.1) (sym (sum_by-cons (λ (v : X). cond (p v) 1 0) y.1 (map (λ (e : K × X). e.1) es)) ∙ h)) (none_passes cmp p q es x)
  where
    of : (v : Bool) → cond v 1 0 + count_by p (map (λ (e : K × X). e.1) es) ≡ 0 → (v ≡ false) × (count_by p (map (λ (e : K × X). e.1) es) ≡ 0)
    of true k = absurd (omega arith)
    of false k = (refl, omega arith)

    by : (v : Bool) → cond v (Some y.1) (find cmp q es) ≡ Some x → (p y.1 ≡ false) × (count_by p (map (λ (e : K × X). e.1) es) ≡ 0) → (count_by p (map (λ (e : K × X). e.1) es) ≡ 0 → find cmp q es ≡ Some x → p x ≡ false) → p x ≡ false
    by true k w rest = subst (λ (v : X). p v ≡ false) (let z : y.1 ≡ x = cc in z) w.0
    by false k w rest = rest w.1 k

-- where a brick counts no link of a file, no name there is the file's or readied for it
pub no_links :
    (slots : Slots) (f : Gfid) (e : Entry) → links slots f ≡ 0
    → links_to f (slot_in slots e) ≡ false
unfolding links
no_links slots f e h = by (get slots e) refl
  where
    named : (p : Slot) → get slots e ≡ Some p → is_file f p.main ≡ false
    named p k = none_passes entry_cmp (λ (x : Slot). is_file f x.main) e (entries slots) p (omega arith) (sym (get-entries slots e) ∙ k)

    readied : (p : Slot) → get slots e ≡ Some p → is_standlink f p.standby ≡ false
    readied p k = none_passes entry_cmp (λ (x : Slot). is_standlink f x.standby) e (entries slots) p (omega arith) (sym (get-entries slots e) ∙ k)

    by : (o : Option Slot) → get slots e ≡ o → links_to f (unwrap_or o bare) ≡ false
    by None k = refl
    by (Some p) k = none_or (is_file f p.main) (is_standlink f p.standby) (named p k) (readied p k)

-- a live file of which its brick counts no link has no name on any brick
pub nameless_by :
    (s : Scene) (f : Gfid) (b : ℕ) (r : Record) → Sound s → b < s.disk.count
    → file_at s.disk b f ≡ Some r → is_live (Some r) ≡ true
    → links (s.disk.brick b).store.slots f ≡ 0 → IsNameless s.disk s.history.tree f
nameless_by s f b r sound l e live none = record {
  used = ByRecord b r l e;
  links = λ i x m. elim (nat_cases i b) [
    | inl q ↦ ap (λ (j : ℕ). links_to f (slot_at s.disk j x)) q ∙ no_links (s.disk.brick b).store.slots f x none
    | inr ne ↦ elsewhere i x m ne (links_to f (slot_at s.disk i x)) refl
  ];
  copies = lives.copies file.names;
}
  where
    file : FileInvariant s.disk.count (most_hops s.history) (places_of s.claims f) (view_of s.disk f) (s.history.tree.bytes f)
    file = sound.kept.things.files f

    lives : LivesAt s.disk.count (view_of s.disk f) (places_of s.claims f) file.shape b
    lives = lives_by s.disk.count (view_of s.disk f) (places_of s.claims f) file.shape b (ap is_live (sym (file.records.has b l)) ∙ live_body (file_at s.disk b f) (ap is_live e ∙ live))

    elsewhere : (i : ℕ) (x : Entry) → i < s.disk.count → i ≢ b → (v : Bool) → links_to f (slot_at s.disk i x) ≡ v → links_to f (slot_at s.disk i x) ≡ false
    elsewhere i x m ne false k = k
    elsewhere i x m ne true k = absurd (ne (let q : Some i ≡ Some b = sym (file.linked i x m k) ∙ lives.brick in let z : i ≡ b = cc in z))
