-- A create that is carried out keeps the clauses: its
-- name and its file change, and nothing else does.
use Rattle.std.proofs.Common.{◌≡◌, ◌≢◌, ◌<◌, ℕ, Bool, true, false, List, [], refl, sym, ap, ◌∙◌, subst, inl, inr, arith}
use Rattle.std.specs.Prelude.{Option, Some, None, nat_eq, is_some, ◌||◌, if◌then◌else◌}
use Rattle.dht_types.specs.Put.{same_entry}
use Rattle.dht_types.proofs.PutLaws.{put_same, put_other, exact_entry, exact_gfid}
use Rattle.dht_types.specs.Gfid.{Entry, root, anchor, same_gfid}
use Rattle.dht_types.specs.Tree.{Tree, IsFile, applied}
use Rattle.dht_types.specs.declared.calls.TreeStep.TheVariants.{AddFile}
use Rattle.dht_types.specs.declared.identifiers.Gfid.{Gfid}
use Rattle.dht_types.specs.declared.stored.Main.TheVariants.{File}
use Rattle.dht_types.specs.declared.stored.Record.{Record}
use Rattle.dht_types.specs.declared.stored.Record.TheVariants as stored
use Rattle.dht_types.specs.declared.stored.Slot.{Slot}
use Rattle.dht_types.specs.declared.identifiers.BrickNo.{BrickNo}
use Rattle.dht_brick.specs.Contents.{Contents, Opens, bare, slot, file}
use Rattle.dht_brick.specs.OpenRows.{registrations, is_sealed}
use Rattle.dht_brick.specs.Parts.{is_copy, is_dir, is_plain, is_standlink}
use Rattle.dht_section.specs.Claims.{Claim, places_of}
use Rattle.dht_section.specs.Disk.{Disk, slot_at, file_at, dir_at, holders}
use Rattle.dht_section.specs.Files.{FileInvariant, RecordsAs, NamedAs}
use Rattle.dht_section.specs.Invariant.{Things, ByBytes, ByRecord, BySeal}
use Rattle.dht_invariant.specs.Makes.{Makes, IsNew}
use Rattle.dht_section.specs.Names.{NameInvariant}
use Rattle.dht_section.specs.Shapes.{Plain, FileShape, Gone, Live, Moving, Copying, Moved, here, core_at, body, either, main_brick}
use Rattle.dht_section.specs.Views.{core, cores_of, links_to, view_of, dir_view}
use Rattle.dht_invariant.proofs.Basics.{gfid_cases, none_some, other_some, not_true}
use Rattle.dht_section.proofs.EarlyLaws.{nat_cases, here_at, here_off}
use Rattle.dht_section.proofs.SlotLaws.{entry_cases}
use Rattle.dht_invariant.proofs.Frames.{links_core, plain_core, dir_core, name_kept, file_kept, dir_kept, lock_kept, view_same, dir_view_same}

-- where no brick has a record of it, a file is gone
gone_of :
    (count : ℕ) (records : ℕ → Option Record) (h : FileShape) → RecordsAs count records h
    → ((i : ℕ) → i < count → records i ≡ None) → h ≡ Gone
gone_of count records Gone r none = refl
gone_of count records (Live b hop bytes) r none = absurd (none_some (body (records b)) _ (ap body (none b r.fits)) (r.has b r.fits ∙ here_at _ b))
gone_of count records (Moving b hop t bytes) r none = absurd (none_some (body (records b)) _ (ap body (none b r.fits.0)) (r.has b r.fits.0 ∙ here_at _ b))
gone_of count records (Copying b hop t bytes c) r none = absurd (none_some (body (records b)) (stored.Moving hop t bytes) (ap body (none b r.fits.0)) (r.has b r.fits.0 ∙ ap (λ o. either o (here (Some (stored.Standby c)) t.0 b)) (here_at _ b)))
gone_of count records (Moved t c) r none = absurd (none_some (body (records t)) _ (ap body (none t r.fits)) (r.has t r.fits ∙ here_at _ t))

-- a new record is no pointer
body_here :
    (b hop : ℕ) (bytes : List ℕ) (i : ℕ)
    → body (here (Some (stored.Live hop bytes)) b i) ≡ here (Some (stored.Live hop bytes)) b i
body_here b hop bytes i = by (nat_eq i b)
  where
    by : (v : Bool) → body (if v then Some (stored.Live hop bytes) else None) ≡ (if v then Some (stored.Live hop bytes) else None)
    by true = refl
    by false = refl

no_forward :
    (b i n : ℕ) (x : BrickNo) {o : Option Record} → o ≡ here (Some (stored.Live 0 [])) b i
    → o ≡ Some (stored.Forward n x) → ⊥
no_forward b i n x {o} h k = elim (nat_cases i b) [
  | inl q ↦ (let z : Some (stored.Forward n x) ≡ Some (stored.Live 0 []) = sym k ∙ (h ∙ (ap (here (Some (stored.Live 0 [])) b) q ∙ here_at _ b)) in cc)
  | inr ne ↦ (let z : Some (stored.Forward n x) ≡ None = sym k ∙ (h ∙ here_off _ b i ne) in cc)
]

module _ (d e : Disk) (t : Tree) (b : ℕ) (x : Entry) (f : Gfid) (top : ℕ) (p : ℕ → Claim) (m : Makes d e b x f) (n : IsNew d t x f) (k : Things d t top p) where
  abbrev later : Tree
  later = applied (AddFile x.0 x.1 f) t

  apart : (y : Entry) → y ≢ x → Some x ≢ Some y
  apart y ne = other_some x y ne

  slot_other : (i : ℕ) (y : Entry) → y ≢ x → slot_at e i y ≡ slot_at d i y
  slot_other i y ne = m.framed.slots i y (apart y ne) (λ q. let z : None ≡ Some y.0 = q in cc)

  slot_off : (i : ℕ) (y : Entry) → i ≢ b → slot_at e i y ≡ slot_at d i y
  slot_off i y ne = ap (λ (c : Contents). slot c.store y) (m.framed.off i ne)

  -- a fact of slots that stays at the slot that changed stays everywhere
  slots_keep : {X : Type 0} (g : Slot → X) → g (slot_at e b x) ≡ g (slot_at d b x) → (i : ℕ) (y : Entry) → g (slot_at e i y) ≡ g (slot_at d i y)
  slots_keep g same i y = elim (entry_cases y x) [
    | inl q ↦ elim (nat_cases i b) [
      | inl r ↦ ap (λ (j : ℕ). g (slot_at e j y)) r ∙ (ap (λ z. g (slot_at e b z)) q ∙ (same ∙ (ap (λ z. g (slot_at d b z)) (sym q) ∙ ap (λ (j : ℕ). g (slot_at d j y)) (sym r))))
      | inr ne ↦ ap g (slot_off i y ne)
    ]
    | inr ne ↦ ap g (slot_other i y ne)
  ]

  -- the slot before
  was_bare : core (slot_at d b x) ≡ bare
  was_bare = n.bare.has b m.there

  no_file : (g : Gfid) (p : Slot) → core p ≡ bare → links_to g p ≡ false
  no_file g p q = links_core g p ∙ ap (links_to g) q

  no_dir : (g : Gfid) (p : Slot) → core p ≡ bare → is_dir g p.main ≡ false
  no_dir g p q = dir_core g p ∙ ap (λ (s : Slot). is_dir g s.main) q

  -- ---- the name
  new_core : core (slot_at e b x) ≡ core_at (Plain b f) b
  new_core = ap core m.slot ∙ (ap (λ (s : Slot). record s { main = Some (File f None) }) was_bare
      ∙ ap (λ o. record { main = o; standby = None }) (sym (here_at (Some (File f None)) b)))

  name_new : NameInvariant e.count (cores_of e x) (Some (IsFile f))
  name_new = (
    Plain b f,
    record {
      fits = subst (λ (c : ℕ). b < c) (sym m.framed.count) m.there;
      has = λ i l. elim (nat_cases i b) [
        | inl q ↦ subst (λ (j : ℕ). core (slot_at e j x) ≡ core_at (Plain b f) j) (sym q) new_core
        | inr ne ↦ ap core (slot_off i x ne) ∙ (n.bare.has i (subst (λ (c : ℕ). i < c) m.framed.count l) ∙ ap (λ o. record { main = o; standby = None }) (sym (here_off (Some (File f None)) b i ne)))
      ];
      node = refl;
    },
  )

  name_all : (y : Entry) → NameInvariant e.count (cores_of e y) (later.names y)
  name_all y = elim (entry_cases y x) [
    | inl q ↦ subst (λ (z : Entry). NameInvariant e.count (cores_of e z) (later.names z)) (sym q) (subst (NameInvariant e.count (cores_of e x)) (sym (put_same same_entry exact_entry t.names x (Some (IsFile f)))) name_new)
    | inr ne ↦ name_kept d.count e.count (cores_of d y) (cores_of e y) (t.names y) (later.names y) m.framed.count (λ i. ap core (slot_other i y ne)) (put_other same_entry exact_entry t.names x (Some (IsFile f)) y ne) (k.names y)
  ]

  -- ---- the file
  no_record : (i : ℕ) → i < d.count → file_at d i f ≡ None
  no_record i l = by (file_at d i f) refl
    where
      by : (o : Option Record) → file_at d i f ≡ o → o ≡ None
      by None q = refl
      by (Some r) q = absurd (n.unused (ByRecord i r l q))

  record_new : (i : ℕ) → i < d.count → file_at e i f ≡ here (Some (stored.Live 0 [])) b i
  record_new i l = elim (nat_cases i b) [
    | inl q ↦ subst (λ (j : ℕ). file_at e j f ≡ here (Some (stored.Live 0 [])) b j) (sym q) (m.file ∙ sym (here_at (Some (stored.Live 0 [])) b))
    | inr ne ↦ ap (λ (c : Contents). file c.store f) (m.framed.off i ne) ∙ (no_record i l ∙ sym (here_off (Some (stored.Live 0 [])) b i ne))
  ]

  file_was : FileInvariant d.count top (places_of p f) (view_of d f) (t.bytes f)
  file_was = k.files f

  was_gone : file_was.shape ≡ Gone
  was_gone = gone_of d.count (view_of d f).records file_was.shape file_was.records no_record

  pub no_link : (i : ℕ) (y : Entry) → i < d.count → links_to f (slot_at d i y) ≡ true → ⊥
  no_link i y l h = (let q : main_brick Gone ≡ Some i = ap main_brick (sym was_gone) ∙ file_was.linked i y l h in let z : None ≡ Some i = q in cc)

  pub same_copies : (g : Gfid) (i : ℕ) (y : Entry) → is_copy g (slot_at e i y).standby ≡ is_copy g (slot_at d i y).standby
  same_copies g i y = slots_keep (λ (p : Slot). is_copy g p.standby) (ap (λ (p : Slot). is_copy g p.standby) m.slot) i y

  no_copy : (i : ℕ) (y : Entry) → i < d.count → is_copy f (slot_at d i y).standby ≡ false
  no_copy = subst (λ (h : FileShape). NamedAs d.count (view_of d f) (places_of p f) h) was_gone file_was.names

  links_are : (i : ℕ) (y : Entry) → i < d.count → links_to f (slot_at e i y) ≡ true → i ≡ b
  links_are i y l h = elim (nat_cases i b) [
    | inl q ↦ q
    | inr ne ↦ absurd (no_link i y l (ap (links_to f) (sym (slot_off i y ne)) ∙ h))
  ]

  same_sealed : (g : Gfid) → (view_of e g).sealed ≡ (view_of d g).sealed
  same_sealed g = ap (λ (i : ℕ). is_sealed (e.brick i).opens g) (ap (anchor g) m.framed.count) ∙ ap (λ (o : Opens). is_sealed o g) (m.framed.opens (anchor g d.count))

  same_open : (g : Gfid) → (view_of e g).opened ≡ (view_of d g).opened
  same_open g = ap (λ (i : ℕ). registrations (e.brick i).opens g) (ap (anchor g) m.framed.count) ∙ ap (λ (o : Opens). registrations o g) (m.framed.opens (anchor g d.count))

  within : (i : ℕ) → i < e.count → i < d.count
  within i l = subst (λ (c : ℕ). i < c) m.framed.count l

  file_new : FileInvariant e.count top (places_of p f) (view_of e f) (Some [])
  file_new = record {
    shape = Live b 0 [];
    records = record { fits = subst (λ (c : ℕ). b < c) (sym m.framed.count) m.there; has = λ i l. ap body (record_new i (within i l)) ∙ body_here b 0 [] i };
    low = λ n q. (let z : 0 ≡ n = cc in omega arith);
    linked = λ i y l h. ap Some (sym (links_are i y (within i l) h));
    names = λ i y l. same_copies f i y ∙ no_copy i y (within i l);
    points = λ i h n x l r q. absurd (no_forward b i h x (record_new i (within i l)) r);
    sealed = λ h. absurd (n.unused (BySeal (sym (same_sealed f) ∙ h)));
    truth = λ h. refl;
    opened = λ h. absurd (n.unused (ByBytes (file_was.opened (subst (λ (j : ℕ). 0 < j) (same_open f) h)).1));
    kept = λ bytes shown h q. (let z : shown ≡ bytes = cc in z);
  }

  pub links_other : (g : Gfid) → g ≢ f → links_to g (slot_at e b x) ≡ links_to g (slot_at d b x)
  links_other g ne =
      let standby : (slot_at d b x).standby ≡ None = ap (λ (s : Slot). s.standby) was_bare in
      ap (links_to g) m.slot
      ∙ (ap (λ (v : Bool). v || is_standlink g (slot_at d b x).standby) (not_true (same_gfid g f) (λ h. ne ((exact_gfid g f).0 h)))
      ∙ (ap (λ o. is_standlink g o) standby ∙ sym (no_file g (slot_at d b x) was_bare)))

  unmarked_other : (g : Gfid) → g ≢ f → is_plain g (slot_at e b x).main ≡ is_plain g (slot_at d b x).main
  unmarked_other g ne =
      ap (λ (p : Slot). is_plain g p.main) m.slot
      ∙ (not_true (same_gfid g f) (λ h. ne ((exact_gfid g f).0 h))
      ∙ sym (plain_core g (slot_at d b x).main ∙ ap (λ (s : Slot). is_plain g s.main) was_bare))

  file_all : (g : Gfid) → FileInvariant e.count top (places_of p g) (view_of e g) (later.bytes g)
  file_all g = elim (gfid_cases g f) [
    | inl q ↦ subst (λ (z : Gfid). FileInvariant e.count top (places_of p z) (view_of e z) (later.bytes z)) (sym q)
        (subst (FileInvariant e.count top (places_of p f) (view_of e f)) (sym (put_same same_gfid exact_gfid t.bytes f (Some []))) file_new)
    | inr ne ↦ file_kept d.count e.count top top (places_of p g) (view_of d g) (view_of e g) (t.bytes g) (later.bytes g) m.framed.count
        (view_same d e g m.framed.count m.framed.opens (λ i. m.framed.files i g (other_some f g ne)) (slots_keep (links_to g) (links_other g ne)) (slots_keep (λ (p : Slot). is_plain g p.main) (unmarked_other g ne)) (same_copies g))
        (put_other same_gfid exact_gfid t.bytes f (Some []) g ne) (omega arith) (k.files g)
  ]

  -- ---- directories, locks and slots
  same_dirs : (i : ℕ) (g : Gfid) → dir_at e i g ≡ dir_at d i g
  same_dirs i g = m.framed.dirs i g (λ q. let z : None ≡ Some g = q in cc)

  slot_housed : (i : ℕ) (y : Entry) → i < d.count → slot_at e i y ≢ bare → is_some (dir_at d i y.0) ≡ true
  slot_housed i y l h = elim (entry_cases y x) [
    | inl q ↦ elim (nat_cases i b) [
      | inl r ↦ ap (λ (j : ℕ). is_some (dir_at d j y.0)) r ∙ (ap (λ (z : Entry). is_some (dir_at d b z.0)) q ∙ m.housed)
      | inr ne ↦ k.housed y i l (λ z. h (slot_off i y ne ∙ z))
    ]
    | inr ne ↦ k.housed y i l (λ z. h (slot_other i y ne ∙ z))
  ]

  pub create_keeps : Things e later top p
  create_keeps = record {
    names = name_all;
    files = file_all;
    dirs = λ g. dir_kept d.count e.count g (dir_view d g) (dir_view e g) (t.dirs g) (t.dirs g) (t.descents g) (t.descents g) m.framed.count
        (dir_view_same d e g same_dirs (slots_keep (λ (p : Slot). is_dir g p.main) (ap (λ (p : Slot). is_dir g p.main) m.slot ∙ sym (no_dir g (slot_at d b x) was_bare)))) refl refl (k.dirs g);
    locks = λ i key l. lock_kept i key (holders d i key) (holders e i key) p (ap (λ h. h key) (m.framed.locks i)) (k.locks i key (within i l));
    housed = λ y i l h. ap is_some (same_dirs i y.0) ∙ slot_housed i y (within i l) h;
    roots = λ i l. ap is_some (same_dirs i root) ∙ k.roots i (within i l);
  }
