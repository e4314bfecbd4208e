-- What the invariant of a name and of a file keeps where
-- there are more bricks, on which nothing of it stands.
use Rattle.std.proofs.Common.{◌≡◌, ◌≢◌, ◌<◌, ◌≤◌, ℕ, Bool, true, false, List, refl, sym, ap, ◌∙◌, inl, inr, arith}
use Rattle.std.specs.Prelude.{Option, Some, None}
use Rattle.std.proofs.lemmas.Bool.{cases_lt}
use Rattle.dht_types.specs.Gfid.{Entry}
use Rattle.dht_types.specs.Tree.{Node}
use Rattle.dht_types.specs.declared.stored.Main.{Main}
use Rattle.dht_types.specs.declared.stored.Main.TheVariants.{Dir, File}
use Rattle.dht_types.specs.declared.stored.Record.{Record}
use Rattle.dht_types.specs.declared.stored.Record.TheVariants as stored
use Rattle.dht_types.specs.declared.stored.Slot.{Slot}
use Rattle.dht_types.specs.declared.stored.Standby.{Standby}
use Rattle.dht_types.specs.declared.stored.Standby.TheVariants.{StandLink, Copy}
use Rattle.dht_brick.specs.Contents.{bare}
use Rattle.dht_section.specs.Files.{FileInvariant, NamedAs, OnlyName, OnlyCopy, NoCopy, NoLink, HasName, PointsOn, Leads, ToMain, ToMoved, ToCopy, Onward}
use Rattle.dht_section.specs.Names.{NameInvariant}
use Rattle.dht_section.specs.Shapes.{NameShape, Bare, Folder, Plain, Marked, Contested, Standing, Copied, Committed, NameFits, when_on, here, either, core_at, FileShape, Gone, Live, Moving, Copying, Moved, FileFits, body, record_at}
use Rattle.dht_section.specs.Views.{FileView}
use Rattle.dht_invariant.proofs.Basics.{true_false}
use Rattle.dht_section.proofs.EarlyLaws.{here_off}

apart : (i b m : ℕ) → b < m → m ≤ i → i ≢ b
apart i b m k l e = omega arith

less : (b m n : ℕ) → b < m → m ≤ n → b < n
less b m n k l = omega arith

-- ---- names

name_fits : (m n : ℕ) (h : NameShape) → m ≤ n → NameFits m h → NameFits n h
name_fits m n Bare l fits = tt
name_fits m n (Folder g on) l fits = (less _ m n fits.0 l, fits.1, λ i k. fits.2 i (omega arith))
name_fits m n (Plain b f) l fits = less b m n fits l
name_fits m n (Marked b f x) l fits = (less b m n fits.0 l, less x.0 m n fits.1 l, fits.2)
name_fits m n (Contested b f x g) l fits = (less b m n fits.0 l, less x.0 m n fits.1 l, fits.2)
name_fits m n (Standing x g) l fits = less x m n fits l
name_fits m n (Copied b f t) l fits = (less b m n fits.0 l, less t m n fits.1 l, fits.2)
name_fits m n (Committed t f) l fits = less t m n fits l

-- a slot whose parts are both none
none_bare :
    (x : Option Main) (y : Option Standby) → x ≡ None → y ≡ None
    → (let p : Slot = record { main = x; standby = y } in p) ≡ bare
none_bare x y h k = λ j. record { main = h j; standby = k j }

core_above : (m i : ℕ) (h : NameShape) → m ≤ i → NameFits m h → core_at h i ≡ bare
core_above m i Bare l fits = refl
core_above m i (Folder g on) l fits = none_bare _ _ (ap (λ (v : Bool). when_on v (Dir g)) (fits.2 i l)) refl
core_above m i (Plain b f) l fits = none_bare _ _ (here_off (Some (File f None)) b i (apart i b m fits l)) refl
core_above m i (Marked b f x) l fits = none_bare _ _ (here_off (Some (File f (Some x))) b i (apart i b m fits.0 l)) refl
core_above m i (Contested b f x g) l fits = none_bare _ _ (here_off (Some (File f (Some x))) b i (apart i b m fits.0 l)) (here_off (Some (StandLink g)) x.0 i (apart i x.0 m fits.1 l))
core_above m i (Standing x g) l fits = none_bare _ _ refl (here_off (Some (StandLink g)) x i (apart i x m fits l))
core_above m i (Copied b f t) l fits = none_bare _ _ (here_off (Some (File f None)) b i (apart i b m fits.0 l)) (here_off (Some (Copy f)) t i (apart i t m fits.1 l))
core_above m i (Committed t f) l fits = none_bare _ _ refl (here_off (Some (Copy f)) t i (apart i t m fits l))

pub name_wider :
    (m n : ℕ) (old new : ℕ → Slot) (t : Option Node) → m ≤ n → ((b : ℕ) → b < m → new b ≡ old b)
    → ((b : ℕ) → m ≤ b → b < n → new b ≡ bare) → NameInvariant m old t → NameInvariant n new t
name_wider m n old new t l same none h = (
  h.0,
  record {
    fits = name_fits m n h.0 l h.1.fits;
    has = λ b k. elim (cases_lt b m) [
      | inl q ↦ same b q ∙ h.1.has b q
      | inr q ↦ none b q k ∙ sym (core_above m b h.0 q h.1.fits)
    ];
    node = h.1.node;
  },
)

-- ---- files

file_fits : (m n : ℕ) (h : FileShape) → m ≤ n → FileFits m h → FileFits n h
file_fits m n Gone l fits = tt
file_fits m n (Live b hop bytes) l fits = less b m n fits l
file_fits m n (Moving b hop t bytes) l fits = (less b m n fits.0 l, less t.0 m n fits.1 l, fits.2)
file_fits m n (Copying b hop t bytes c) l fits = (less b m n fits.0 l, less t.0 m n fits.1 l, fits.2)
file_fits m n (Moved t c) l fits = less t m n fits l

record_above : (m i : ℕ) (h : FileShape) → m ≤ i → FileFits m h → record_at h i ≡ None
record_above m i Gone l fits = refl
record_above m i (Live b hop bytes) l fits = here_off (Some (stored.Live hop bytes)) b i (apart i b m fits l)
record_above m i (Moving b hop t bytes) l fits = here_off (Some (stored.Moving hop t bytes)) b i (apart i b m fits.0 l)
record_above m i (Copying b hop t bytes c) l fits =
    ap (λ (o : Option Record). either o (here (Some (stored.Standby c)) t.0 i)) (here_off (Some (stored.Moving hop t bytes)) b i (apart i b m fits.0 l))
    ∙ here_off (Some (stored.Standby c)) t.0 i (apart i t.0 m fits.1 l)
record_above m i (Moved t c) l fits = here_off (Some (stored.Standby c)) t i (apart i t m fits l)

-- the bricks that were there show the file as before, the
-- further ones do not show it, and fewer have it open
pub record ShowsWider (m n : ℕ) (v w : FileView) : Type 0 where
  pub more : m ≤ n
  pub records : (b : ℕ) → b < m → w.records b ≡ v.records b
  pub no_records : (b : ℕ) → m ≤ b → b < n → w.records b ≡ None
  pub links : (b : ℕ) (x : Entry) → b < m → w.links b x ≡ v.links b x
  pub no_links : (b : ℕ) (x : Entry) → m ≤ b → b < n → w.links b x ≡ false
  pub unmarked : (b : ℕ) (x : Entry) → b < m → w.unmarked b x ≡ v.unmarked b x
  pub copies : (b : ℕ) (x : Entry) → b < m → w.copies b x ≡ v.copies b x
  pub no_copies : (b : ℕ) (x : Entry) → m ≤ b → b < n → w.copies b x ≡ false
  pub opened : w.opened ≤ v.opened
  pub sealed : w.sealed ≡ true → v.sealed ≡ true

-- what is false where it was not there before
was_true :
    (m n : ℕ) (p q : ℕ → Entry → Bool) → ((b : ℕ) (x : Entry) → b < m → q b x ≡ p b x)
    → ((b : ℕ) (x : Entry) → m ≤ b → b < n → q b x ≡ false) → (b : ℕ) (x : Entry) → b < n
    → q b x ≡ true → (b < m) × (p b x ≡ true)
was_true m n p q same none b x l h = elim (cases_lt b m) [
  | inl k ↦ (k, sym (same b x k) ∙ h)
  | inr k ↦ absurd (true_false (q b x) h (none b x k l))
]

still_false :
    (m n : ℕ) (p q : ℕ → Entry → Bool) → ((b : ℕ) (x : Entry) → b < m → q b x ≡ p b x)
    → ((b : ℕ) (x : Entry) → m ≤ b → b < n → q b x ≡ false)
    → ((b : ℕ) (x : Entry) → b < m → p b x ≡ false) → (b : ℕ) (x : Entry) → b < n → q b x ≡ false
still_false m n p q same none h b x l = elim (cases_lt b m) [
  | inl k ↦ same b x k ∙ h b x k
  | inr k ↦ none b x k l
]

module _ (m n : ℕ) (v w : FileView) (s : ShowsWider m n v w) where
  was_link : (i : ℕ) (x : Entry) → i < n → w.links i x ≡ true → (i < m) × (v.links i x ≡ true)
  was_link = was_true m n v.links w.links s.links s.no_links

  was_copy : (i : ℕ) (x : Entry) → i < n → w.copies i x ≡ true → (i < m) × (v.copies i x ≡ true)
  was_copy = was_true m n v.copies w.copies s.copies s.no_copies

  no_copy : NoCopy m v → NoCopy n w
  no_copy = still_false m n v.copies w.copies s.copies s.no_copies

  no_link : NoLink m v → NoLink n w
  no_link = still_false m n v.links w.links s.links s.no_links

  only_name : (b : ℕ) (e : Entry) → b < m → OnlyName m v b e → OnlyName n w b e
  only_name b e l h = (s.unmarked b e l ∙ h.0, λ i x k link. (let was = was_link i x k link in h.1 i x was.0 was.1))

  only_copy : (t : ℕ) (e : Entry) → t < m → OnlyCopy m v t e → OnlyCopy n w t e
  only_copy t e l h = (s.copies t e l ∙ h.0, λ i x k copy. (let was = was_copy i x k copy in h.1 i x was.0 was.1))

  named_wider : (p : ℕ → ℕ → ℕ) (h : FileShape) → FileFits m h → NamedAs m v p h → NamedAs n w p h
  named_wider p Gone fits k = no_copy k
  named_wider p (Live b hop bytes) fits k = no_copy k
  named_wider p (Moving b hop t bytes) fits k = (no_copy k.0, k.1, only_name b k.1 fits.0 k.2)
  named_wider p (Copying b hop t bytes c) fits k = (k.0, k.1, only_name b _ fits.0 k.2, only_copy t.0 _ fits.1 k.3, k.4)
  named_wider p (Moved t c) fits k = (k.0, only_copy t _ fits k.1)

  leads_on : (h : FileShape) (b k : ℕ) → b < m → Leads v h b k → Leads w h b k
  leads_on h b k l (ToMain e i t q) = ToMain e i t q
  leads_on h b k l (ToMoved c e q) = ToMoved c e q
  leads_on h b k l (ToCopy c e q) = ToCopy c (s.records b l ∙ e) q
  leads_on h b k l (Onward i next e q) = Onward i next (s.records b l ∙ e) q

  points_wider : (h : FileShape) → PointsOn m v h → PointsOn n w h
  points_wider h points i k hop b l r e = elim (cases_lt i m) [
    | inl q ↦ (let z = points i k hop b q (sym (s.records i q) ∙ r) e in (less b.0 m n z.0 s.more, z.1, leads_on h b.0 k z.0 z.2))
    | inr q ↦ absurd (let z : None ≡ Some (stored.Forward k b) = sym (s.no_records i q l) ∙ r in cc)
  ]

  had_name : HasName n w → HasName m v
  had_name h = elim h.3 [
    | inl z ↦ (let was = was_link h.0 h.1 h.2 z in (h.0, h.1, was.0, inl was.1))
    | inr z ↦ (let was = was_copy h.0 h.1 h.2 z in (h.0, h.1, was.0, inr was.1))
  ]

  pub file_wider : (low top : ℕ) (p : ℕ → ℕ → ℕ) (t : Option (List ℕ)) → low ≤ top → FileInvariant m low p v t → FileInvariant n top p w t
  file_wider low top p t l h = record {
    shape = h.shape;
    records = record {
      fits = file_fits m n h.shape s.more h.records.fits;
      has = λ b k. elim (cases_lt b m) [
        | inl q ↦ ap body (s.records b q) ∙ h.records.has b q
        | inr q ↦ ap body (s.no_records b q k) ∙ sym (record_above m b h.shape q h.records.fits)
      ];
    };
    low = λ k e. (let z = h.low k e in omega arith);
    linked = λ i x k link. (let was = was_link i x k link in h.linked i x was.0 was.1);
    names = named_wider p h.shape h.records.fits h.names;
    points = points_wider h.shape h.points;
    sealed = λ z. (let was = h.sealed (s.sealed z) in let shut = was.2 in let fewer = s.opened in (no_link was.0, no_copy was.1, omega arith));
    truth = λ z. h.truth (had_name z);
    opened = λ z. (let fewer = s.opened in h.opened (omega arith));
    kept = h.kept;
  }
