-- The invariant implies that the bricks stand for the tree, and that each file's name is placed.
use Rattle.std.proofs.Common.{◌≡◌, ◌≢◌, ◌<◌, ℕ, Bool, true, false, List, refl, sym, ap, ◌∙◌, subst, inl, inr, ◌⊎◌}
use Rattle.std.specs.Prelude.{Option, Some, None, is_some, ◌||◌}
use Rattle.dht_types.proofs.PutLaws.{exact_gfid}
use Rattle.dht_types.specs.Gfid.{Entry, home}
use Rattle.dht_types.specs.Tree.{Node, IsFile, IsDir}
use Rattle.dht_types.specs.History.{History}
use Rattle.dht_types.specs.declared.identifiers.Gfid.{Gfid}
use Rattle.dht_types.specs.declared.identifiers.BrickNo.{BrickNo}
use Rattle.dht_types.specs.declared.stored.Main.{Main}
use Rattle.dht_types.specs.declared.stored.Main.TheVariants.{Dir, File, Linkto}
use Rattle.dht_types.specs.declared.stored.Standby.{Standby}
use Rattle.dht_types.specs.declared.stored.Standby.TheVariants.{StandLink, Copy}
use Rattle.dht_types.specs.declared.stored.StandbyRecord.{StandbyRecord}
use Rattle.dht_types.specs.declared.stored.Slot.{Slot}
use Rattle.dht_types.specs.declared.stored.Record.{Record}
use Rattle.dht_types.specs.declared.stored.Record.TheVariants as stored
use Rattle.dht_brick.specs.Parts.{is_file, is_copy, is_standlink}
use Rattle.dht_section.specs.Claims.{Claim}
use Rattle.dht_section.specs.Disk.{Disk, file_in, slot_at, file_at}
use Rattle.dht_section.specs.Truth.{AllShow, TruthIs, Meaning, AFile, ADirectory, main_shows, standby_shows, meaning_of, NameTruth, main_bytes, standby_bytes, FileTruth, IsInUse, ByName, ByOpen, ByBytes, Stands, Placed}
use Rattle.dht_section.specs.Early.{Early}
use Rattle.dht_section.specs.Files.{RecordsAs, HasName}
use Rattle.dht_section.specs.Invariant.{Invariant}
use Rattle.dht_section.specs.Names.{NameInvariant}
use Rattle.dht_section.specs.Shapes.{NameShape, Bare, Folder, Plain, Marked, Contested, Standing, Copied, Committed, NameFits, FileShape, Gone, Live, Moving, Copying, Moved, FileFits, here, when_on, either, main_at, standby_at, core_at, node_of, body, record_at, bytes_shown}
use Rattle.dht_section.specs.Views.{visible, cores_of, links_to, view_of}
use Rattle.dht_section.proofs.FileLaws.{main_record, live_by}
use Rattle.dht_invariant.proofs.Basics.{none_some, some_same}
use Rattle.dht_section.proofs.EarlyLaws.{nat_cases, here_at, here_off, stands_plainly, Nowhere, Once, AsFolder}
use Rattle.dht_invariant.proofs.Frames.{links_core}

-- ---- truths

-- the truth is the same where bricks show the same
truth_same :
    {A : Type 0} (count : ℕ) (p q : ℕ → Option A) (v w : ℕ → Option A) (o : Option A)
    → ((b : ℕ) → b < count → v b ≡ p b) → ((b : ℕ) → b < count → w b ≡ q b) → TruthIs count p q o
    → TruthIs count v w o
truth_same {A} count p q v w None same alike h = (λ b l. same b l ∙ h.0 b l, λ b l. alike b l ∙ h.1 b l)
truth_same {A} count p q v w (Some x) same alike h = elim h [
  | inl a ↦ inl (all_same p v same a)
  | inr a ↦ inr (λ b l. same b l ∙ a.0 b l, all_same q w alike a.1)
]
  where
    all_same : (f g : ℕ → Option A) → ((b : ℕ) → b < count → g b ≡ f b) → AllShow count f x → AllShow count g x
    all_same f g e a = record { brick = a.brick; there = a.there; shows = e a.brick a.there ∙ a.shows; same = λ b y l k. a.same b y l (sym (e b l) ∙ k) }

-- what stands on one brick alone is all that is shown
shows_here :
    {A B : Type 0} (count b : ℕ) (g : Option A → Option B) (x : A) (y : B) → b < count
    → g None ≡ None → g (Some x) ≡ Some y → AllShow count (λ i. g (here (Some x) b i)) y
shows_here count b g x y l none some = record {
  brick = b;
  there = l;
  shows = ap g (here_at (Some x) b) ∙ some;
  same = λ i z li h. elim (nat_cases i b) [
    | inl e ↦ some_same (g (here (Some x) b i)) z y h (ap (λ (j : ℕ). g (here (Some x) b j)) e ∙ (ap g (here_at (Some x) b) ∙ some))
    | inr ne ↦ absurd (none_some (g (here (Some x) b i)) z (ap g (here_off (Some x) b i ne) ∙ none) h)
  ];
}

-- what shows nothing of what stands there shows nothing anywhere
hides_here :
    {A B : Type 0} (b : ℕ) (g : Option A → Option B) (x : A) → g None ≡ None → g (Some x) ≡ None
    → (i : ℕ) → g (here (Some x) b i) ≡ None
hides_here b g x none some i = elim (nat_cases i b) [
  | inl e ↦ ap (λ (j : ℕ). g (here (Some x) b j)) e ∙ (ap g (here_at (Some x) b) ∙ some)
  | inr ne ↦ ap g (here_off (Some x) b i ne) ∙ none
]

-- ---- names

folder_shows :
    (g : Gfid) (v : Bool) (y : Meaning) → main_shows (when_on v (Dir g)) ≡ Some y → y ≡ ADirectory g
folder_shows g true y h = (let z : Some (ADirectory g) ≡ Some y = h in cc)
folder_shows g false y h = absurd (let z : None ≡ Some y = h in cc)

-- the truth of a name in each shape
shape_truth :
    (count : ℕ) (h : NameShape) → NameFits count h
    → TruthIs count (λ i. main_shows (main_at h i)) (λ i. standby_shows (standby_at h i))
    (meaning_of (node_of h))
shape_truth count Bare fits = (λ i l. refl, λ i l. refl)
shape_truth count (Folder g on) fits = inl (record {
  brick = home g;
  there = fits.0;
  shows = ap (λ (v : Bool). main_shows (when_on v (Dir g))) fits.1;
  same = λ b y l h. folder_shows g (on b) y h;
})
shape_truth count (Plain b f) fits = inl (shows_here count b main_shows (File f None) (AFile f) fits refl refl)
shape_truth count (Marked b f x) fits = inl (shows_here count b main_shows (File f (Some x)) (AFile f) fits.0 refl refl)
shape_truth count (Contested b f x g) fits = inl (shows_here count b main_shows (File f (Some x)) (AFile f) fits.0 refl refl)
shape_truth count (Standing x g) fits = inr (λ i l. refl, shows_here count x standby_shows (StandLink g) (AFile g) fits refl refl)
shape_truth count (Copied b f t) fits = inl (shows_here count b main_shows (File f None) (AFile f) fits.0 refl refl)
shape_truth count (Committed t f) fits = inr (λ i l. refl, shows_here count t standby_shows (Copy f) (AFile f) fits refl refl)

-- a linkto shows nothing
shows_visible : (m : Option Main) → main_shows m ≡ main_shows (visible m)
shows_visible None = refl
shows_visible (Some (Dir g)) = refl
shows_visible (Some (File f over)) = refl
shows_visible (Some (Linkto value)) = refl

name_truth :
    (d : Disk) (x : Entry) (told : Option Node) → NameInvariant d.count (cores_of d x) told
    → NameTruth d x told
name_truth d x told n = subst (NameTruth d x) (sym n.1.node)
    (truth_same d.count (λ i. main_shows (main_at n.0 i)) (λ i. standby_shows (standby_at n.0 i)) (λ b. main_shows (slot_at d b x).main) (λ b. standby_shows (slot_at d b x).standby) (meaning_of (node_of n.0))
    (λ b l. shows_visible (slot_at d b x).main ∙ ap (λ (s : Slot). main_shows s.main) (n.1.has b l))
    (λ b l. ap (λ (s : Slot). standby_shows s.standby) (n.1.has b l))
    (shape_truth d.count n.0 n.1.fits))

-- ---- files

-- the truth of a file's bytes in each shape of its records
copying_record :
    (b hop : ℕ) (t : BrickNo) (bytes : List ℕ) (c : StandbyRecord) → t.0 ≢ b → (i : ℕ)
    → main_bytes (record_at (Copying b hop t bytes c) i)
    ≡ main_bytes (here (Some (stored.Moving hop t bytes)) b i)
copying_record b hop t bytes c apart i = by (here (Some (stored.Moving hop t bytes)) b i) refl
  where
    by : (o : Option Record) → here (Some (stored.Moving hop t bytes)) b i ≡ o → main_bytes (either o (here (Some (stored.Standby c)) t.0 i)) ≡ main_bytes o
    by None e = hides_here t.0 main_bytes (stored.Standby c) refl refl i
    by (Some r) e = refl

shape_bytes :
    (count : ℕ) (h : FileShape) → FileFits count h
    → TruthIs count (λ i. main_bytes (record_at h i)) (λ i. standby_bytes (record_at h i))
    (bytes_shown h)
shape_bytes count Gone fits = (λ i l. refl, λ i l. refl)
shape_bytes count (Live b hop bytes) fits = inl (shows_here count b main_bytes (stored.Live hop bytes) bytes fits refl refl)
shape_bytes count (Moving b hop t bytes) fits = inl (shows_here count b main_bytes (stored.Moving hop t bytes) bytes fits.0 refl refl)
shape_bytes count (Copying b hop t bytes c) fits =
    truth_same count (λ i. main_bytes (here (Some (stored.Moving hop t bytes)) b i)) (λ i. standby_bytes (record_at (Copying b hop t bytes c) i)) (λ i. main_bytes (record_at (Copying b hop t bytes c) i)) (λ i. standby_bytes (record_at (Copying b hop t bytes c) i)) (Some bytes)
    (λ i l. copying_record b hop t bytes c fits.2 i) (λ i l. refl) (inl (shows_here count b main_bytes (stored.Moving hop t bytes) bytes fits.0 refl refl))
shape_bytes count (Moved t c) fits = inr (λ i l. hides_here t main_bytes (stored.Standby c) refl refl i, shows_here count t standby_bytes (stored.Standby c) c.bytes fits refl refl)

-- a pointer shows no bytes
main_body : (r : Option Record) → main_bytes r ≡ main_bytes (body r)
main_body None = refl
main_body (Some (stored.Live hop bytes)) = refl
main_body (Some (stored.Moving hop t bytes)) = refl
main_body (Some (stored.Standby c)) = refl
main_body (Some (stored.Forward hop brick)) = refl

standby_body : (r : Option Record) → standby_bytes r ≡ standby_bytes (body r)
standby_body None = refl
standby_body (Some (stored.Live hop bytes)) = refl
standby_body (Some (stored.Moving hop t bytes)) = refl
standby_body (Some (stored.Standby c)) = refl
standby_body (Some (stored.Forward hop brick)) = refl

bytes_truth :
    (d : Disk) (f : Gfid) (h : FileShape) → RecordsAs d.count (view_of d f).records h
    → FileTruth d f (bytes_shown h)
bytes_truth d f h r = truth_same d.count (λ i. main_bytes (record_at h i)) (λ i. standby_bytes (record_at h i)) (λ b. main_bytes (file_at d b f)) (λ b. standby_bytes (file_at d b f)) (bytes_shown h)
    (λ b l. main_body (file_at d b f) ∙ ap main_bytes (r.has b l)) (λ b l. standby_body (file_at d b f) ∙ ap standby_bytes (r.has b l)) (shape_bytes d.count h r.fits)

-- a name that the tree has is the file's on some brick, or readied for it, or its copy's
links_main :
    (f g : Gfid) (over : Option BrickNo) (p : Slot) → p.main ≡ Some (File g over) → g ≡ f
    → links_to f p ≡ true
links_main f g over p e same = ap (λ (m : Option Main). is_file f m || is_standlink f p.standby) e ∙ ap (λ (v : Bool). v || is_standlink f p.standby) ((exact_gfid f g).1 (sym same))

or_true : (v : Bool) → (v || true) ≡ true
or_true true = refl
or_true false = refl

links_standby :
    (f g : Gfid) (p : Slot) → p.standby ≡ Some (StandLink g) → g ≡ f → links_to f p ≡ true
links_standby f g p e same = ap (λ (m : Option Standby). is_file f p.main || is_standlink f m) e ∙ (ap (λ (v : Bool). is_file f p.main || v) ((exact_gfid f g).1 (sym same)) ∙ or_true (is_file f p.main))

copy_standby :
    (f g : Gfid) (p : Slot) → p.standby ≡ Some (Copy g) → g ≡ f → is_copy f p.standby ≡ true
copy_standby f g p e same = ap (is_copy f) e ∙ (exact_gfid f g).1 (sym same)

abbrev IsShown : ℕ → NameShape → Gfid → Type 0
IsShown count h f = (i : ℕ) × (i < count) × ((links_to f (core_at h i) ≡ true) ⊎ (is_copy f (core_at h i).standby ≡ true))

file_same : (g f : Gfid) → Some (IsFile g) ≡ Some (IsFile f) → g ≡ f
file_same g f e = cc

shape_shows :
    (count : ℕ) (h : NameShape) (f : Gfid) → NameFits count h → node_of h ≡ Some (IsFile f)
    → IsShown count h f
shape_shows count Bare f fits e = absurd (let z : None ≡ Some (IsFile f) = e in cc)
shape_shows count (Folder g on) f fits e = absurd (let z : Some (IsDir g) ≡ Some (IsFile f) = e in cc)
shape_shows count (Plain b g) f fits e = (b, fits, inl (links_main f g None (core_at (Plain b g) b) (here_at (Some (File g None)) b) (file_same g f e)))
shape_shows count (Marked b g x) f fits e = (b, fits.0, inl (links_main f g (Some x) (core_at (Marked b g x) b) (here_at (Some (File g (Some x))) b) (file_same g f e)))
shape_shows count (Contested b g x o) f fits e = (b, fits.0, inl (links_main f g (Some x) (core_at (Contested b g x o) b) (here_at (Some (File g (Some x))) b) (file_same g f e)))
shape_shows count (Standing x g) f fits e = (x, fits, inl (links_standby f g (core_at (Standing x g) x) (here_at (Some (StandLink g)) x) (file_same g f e)))
shape_shows count (Copied b g t) f fits e = (b, fits.0, inl (links_main f g None (core_at (Copied b g t) b) (here_at (Some (File g None)) b) (file_same g f e)))
shape_shows count (Committed t g) f fits e = (t, fits, inr (copy_standby f g (core_at (Committed t g) t) (here_at (Some (Copy g)) t) (file_same g f e)))

has_name :
    (d : Disk) (x : Entry) (f : Gfid) → NameInvariant d.count (cores_of d x) (Some (IsFile f))
    → HasName d.count (view_of d f)
has_name d x f n =
    let z = shape_shows d.count n.0 f n.1.fits (sym n.1.node) in (
      z.0,
      x,
      z.1,
      elim z.2 [
        | inl h ↦ inl (links_core f (slot_at d z.0 x) ∙ (ap (links_to f) (n.1.has z.0 z.1) ∙ h))
        | inr h ↦ inr (ap (λ (s : Slot). is_copy f s.standby) (n.1.has z.0 z.1) ∙ h)
      ],
    )

-- where nobody shows bytes, no brick has bytes
some_none : {A : Type 0} (o : Option A) → is_some o ≡ true → o ≡ None → ⊥
some_none o h e = (let z : true ≡ false = sym h ∙ ap is_some e in cc)

-- what is shown of a file of the tree is what the tree has
told_same :
    (shown tree : Option (List ℕ))
    → ((bytes seen : List ℕ) → tree ≡ Some bytes → shown ≡ Some seen → seen ≡ bytes) → tree ≢ None
    → shown ≢ None → shown ≡ tree
told_same None tree same some seen = absurd (seen refl)
told_same (Some x) None same some seen = absurd (some refl)
told_same (Some x) (Some y) same some seen = ap Some (same y x refl refl)

file_truth :
    (d : Disk) (s : History) (p : ℕ → Claim) (f : Gfid) → Invariant d s p → IsInUse d s.tree f
    → FileTruth d f (s.tree.bytes f)
file_truth d s p f k c = subst (FileTruth d f) (told c) (bytes_truth d f (k.things.files f).shape (k.things.files f).records)
  where
    told : IsInUse d s.tree f → bytes_shown (k.things.files f).shape ≡ s.tree.bytes f
    told (ByName x e) = (k.things.files f).truth (has_name d x f (subst (NameInvariant d.count (cores_of d x)) e (k.things.names x)))
    told (ByOpen l) = ((k.things.files f).opened l).0
    told (ByBytes some b l h) = told_same (bytes_shown (k.things.files f).shape) (s.tree.bytes f) (λ bytes seen e q. (k.things.files f).kept bytes seen e q) some
        (λ none. (let t : FileTruth d f None = subst (FileTruth d f) none (bytes_truth d f (k.things.files f).shape (k.things.files f).records) in
        elim h [
          | inl m ↦ some_none (main_bytes (file_at d b f)) m (t.0 b l)
          | inr m ↦ some_none (standby_bytes (file_at d b f)) m (t.1 b l)
        ]))

pub stands_of :
    (d : Disk) (s : History) (p : ℕ → Claim) → Invariant d s p → Early d s → Stands d s.tree
stands_of d s p k now = record {
  names = λ x. name_truth d x (s.tree.names x) (k.things.names x);
  dirs = λ g. (k.things.dirs g).homed;
  bytes = λ f c. file_truth d s p f k c;
}

-- ---- each file of the tree stands once, on its holder

pub placed_of :
    (d : Disk) (s : History) (p : ℕ → Claim) (x : Entry) (f : Gfid) → Invariant d s p → Early d s
    → s.run ≡ 1 → s.tree.names x ≡ Some (IsFile f) → Placed d x
placed_of d s p x f k now first told = elim (stands_plainly d x (s.tree.names x) (k.things.names x) (now.plain x)) [
  | Nowhere z ↦ absurd (let w : None ≡ Some (IsFile f) = sym z.node ∙ told in cc)
  | AsFolder z ↦ absurd (let w : Some (IsDir z.directory) ≡ Some (IsFile f) = sym z.stands.node ∙ told in cc)
  | Once z ↦ record {
    brick = z.brick;
    there = z.there;
    holds = now.held x z.brick z.file first z.there (ap file_in z.slot);
    file = z.file;
    slot = z.slot;
    recorded =
        live_by (file_at d z.brick z.file)
        (main_record d.count (view_of d z.file).records (k.things.files z.file).shape z.brick (k.things.files z.file).records
        ((k.things.files z.file).linked z.brick x z.there (links_main z.file z.file None (slot_at d z.brick x) (ap (λ (p : Slot). p.main) z.slot) refl)) z.there)
        (λ r e. now.unmoved z.file z.brick r z.there e);
    alone = λ b l ne. now.unlinked x b first l ∙ z.alone b l ne;
  }
]
