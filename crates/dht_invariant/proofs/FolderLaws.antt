-- Slots of names that are directories', and of names at which nothing stands.
use Rattle.std.proofs.Common.{◌≡◌, ◌≢◌, ◌<◌, ℕ, Bool, true, false, refl, sym, ap, ◌∙◌, subst, inl, inr, ◌⊎◌, arith}
use Rattle.std.specs.Prelude.{Option, Some, None, is_none, nat_eq, if◌then◌else◌}
use Rattle.dht_types.proofs.PutLaws.{exact_nat, exact_gfid}
use Rattle.dht_types.specs.Gfid.{home}
use Rattle.dht_types.specs.Tree.{IsDir, IsFile}
use Rattle.dht_types.specs.declared.identifiers.Gfid.{Gfid}
use Rattle.dht_types.specs.declared.stored.Main.{Main}
use Rattle.dht_types.specs.declared.stored.Main.TheVariants.{Dir, File, Linkto}
use Rattle.dht_types.specs.declared.stored.Standby.{Standby}
use Rattle.dht_types.specs.declared.stored.Slot.{Slot}
use Rattle.dht_brick.specs.Contents.{bare}
use Rattle.dht_brick.specs.Parts.{is_copy, is_dir, is_free, is_plain, is_vacant}
use Rattle.dht_section.specs.Acts.{set_on, no_brick}
use Rattle.dht_section.specs.Shapes.{NameShape, Bare, Folder, Plain, Marked, Contested, Standing, Copied, Committed, NameFits, core_at, node_of, when_on}
use Rattle.dht_section.specs.Truth.{folder}
use Rattle.dht_section.specs.Views.{core, links_to, visible}
use Rattle.dht_invariant.proofs.Basics.{both_true, not_true}
use Rattle.dht_invariant.proofs.Frames.{links_core, plain_core}

-- ---- sets of bricks

pub on_at : (on : ℕ → Bool) (b : ℕ) (v : Bool) → set_on on b v b ≡ v
on_at on b v = ap (λ (x : Bool). if x then v else on b) ((exact_nat b b).1 refl)

pub on_off : (on : ℕ → Bool) (b : ℕ) (v : Bool) (i : ℕ) → i ≢ b → set_on on b v i ≡ on i
on_off on b v i ne = ap (λ (x : Bool). if x then v else on i) (not_true (nat_eq i b) (λ h. ne ((exact_nat i b).0 h)))

pub on_more : (on : ℕ → Bool) (b i : ℕ) → on i ≡ true → set_on on b true i ≡ true
on_more on b i e = by (nat_eq i b)
  where
    by : (v : Bool) → (if v then true else on i) ≡ true
    by true = refl
    by false = e

-- ---- shapes of a directory's name

pub on_folder :
    (g : Gfid) (on : ℕ → Bool) (i : ℕ) → on i ≡ true → core_at (Folder g on) i ≡ folder g
on_folder g on i e = ap (λ (v : Bool). let p : Slot = record { main = when_on v (Dir g); standby = None } in p) e

pub off_folder : (g : Gfid) (on : ℕ → Bool) (i : ℕ) → on i ≡ false → core_at (Folder g on) i ≡ bare
off_folder g on i e = ap (λ (v : Bool). let p : Slot = record { main = when_on v (Dir g); standby = None } in p) e

pub same_folder :
    (g : Gfid) (on more : ℕ → Bool) (i : ℕ) → on i ≡ more i
    → core_at (Folder g on) i ≡ core_at (Folder g more) i
same_folder g on more i e = ap (λ (v : Bool). let p : Slot = record { main = when_on v (Dir g); standby = None } in p) e

-- only a directory's name is one of the tree
pub folder_shape :
    (h : NameShape) (g : Gfid) → node_of h ≡ Some (IsDir g) → (on : ℕ → Bool) × (h ≡ Folder g on)
folder_shape Bare g e = absurd (let z : None ≡ Some (IsDir g) = e in cc)
folder_shape (Folder x on) g e = (on, (let z : x ≡ g = cc in ap (λ y. Folder y on) z))
folder_shape (Plain b f) g e = absurd (let z : Some (IsFile f) ≡ Some (IsDir g) = e in cc)
folder_shape (Marked b f x) g e = absurd (let z : Some (IsFile f) ≡ Some (IsDir g) = e in cc)
folder_shape (Contested b f x y) g e = absurd (let z : Some (IsFile f) ≡ Some (IsDir g) = e in cc)
folder_shape (Standing x f) g e = absurd (let z : Some (IsFile f) ≡ Some (IsDir g) = e in cc)
folder_shape (Copied b f t) g e = absurd (let z : Some (IsFile f) ≡ Some (IsDir g) = e in cc)
folder_shape (Committed t f) g e = absurd (let z : Some (IsFile f) ≡ Some (IsDir g) = e in cc)

-- a shape with a brick more or less fits where it did
pub more_fits :
    (count b : ℕ) (g : Gfid) (on : ℕ → Bool) → b < count → NameFits count (Folder g on)
    → NameFits count (Folder g (set_on on b true))
more_fits count b g on l fit = (fit.0, on_more on b (home g) fit.1, λ i m. on_off on b true i (λ q. let z : i ≡ b = q in absurd (omega arith)) ∙ fit.2 i m)

pub less_fits :
    (count b : ℕ) (g : Gfid) (on : ℕ → Bool) → b < count → b ≢ home g → NameFits count (Folder g on)
    → NameFits count (Folder g (set_on on b false))
less_fits count b g on l ne fit = (
  fit.0,
  on_off on b false (home g) (λ z. ne (sym z)) ∙ fit.1,
  λ i m. on_off on b false i (λ z. let y : i ≡ b = z in absurd (omega arith)) ∙ fit.2 i m,
)

pub first_fits :
    (count b : ℕ) (g : Gfid) → b < count → b ≡ home g
    → NameFits count (Folder g (set_on no_brick b true))
first_fits count b g l at = (
  subst (λ (i : ℕ). i < count) at l,
  subst (λ (i : ℕ). set_on no_brick b true i ≡ true) at (on_at no_brick b true),
  λ i m. on_off no_brick b true i (λ q. let z : i ≡ b = q in absurd (omega arith)),
)

-- ---- the slots of such names

-- nothing, or the directory
abbrev pub IsOrNone : Gfid → Slot → Type 0
IsOrNone g p = (p ≡ bare) ⊎ (p ≡ folder g)

-- a slot that is free has no part but perhaps a linkto
vacant_none : (m : Option Main) → is_vacant m ≡ true → visible m ≡ None
vacant_none None e = refl
vacant_none (Some (Dir g)) e = absurd (let k : false ≡ true = e in cc)
vacant_none (Some (File f over)) e = absurd (let k : false ≡ true = e in cc)
vacant_none (Some (Linkto v)) e = refl

none_is : (o : Option Standby) → is_none o ≡ true → o ≡ None
none_is None e = refl
none_is (Some x) e = absurd (let k : false ≡ true = e in cc)

pub free_bare : (p : Slot) → is_free p ≡ true → core p ≡ bare
free_bare p h =
    let q = both_true (is_vacant p.main) (is_none p.standby) h in
    λ i. record { main = vacant_none p.main q.0 i; standby = none_is p.standby q.1 i }

pub free_standby : (p : Slot) → is_free p ≡ true → p.standby ≡ None
free_standby p h = ap (λ (x : Slot). x.standby) (free_bare p h)

-- a slot that is the directory's
pub main_is : (g : Gfid) (m : Option Main) → is_dir g m ≡ true → m ≡ Some (Dir g)
main_is g None e = absurd (let k : false ≡ true = e in cc)
main_is g (Some (Dir h)) e = ap (λ (x : Gfid). Some (Dir x)) (sym ((exact_gfid g h).0 e))
main_is g (Some (File f over)) e = absurd (let k : false ≡ true = e in cc)
main_is g (Some (Linkto v)) e = absurd (let k : false ≡ true = e in cc)

-- the core of a slot that is the directory's, or none, tells which
pub folder_core : (p : Slot) (g : Gfid) → core p ≡ folder g → is_dir g p.main ≡ true
folder_core p g e = by p.main (ap (λ (x : Slot). x.main) e)
  where
    by : (m : Option Main) → visible m ≡ Some (Dir g) → is_dir g m ≡ true
    by None k = absurd (let z : None ≡ Some (Dir g) = k in cc)
    by (Some (Dir h)) k = (let z : h ≡ g = cc in (exact_gfid g h).1 (sym z))
    by (Some (File f over)) k = absurd (let z : Some (File f over) ≡ Some (Dir g) = k in cc)
    by (Some (Linkto v)) k = absurd (let z : None ≡ Some (Dir g) = k in cc)

pub bare_core : (p : Slot) (g : Gfid) → core p ≡ bare → is_dir g p.main ≡ false
bare_core p g e = by p.main (ap (λ (x : Slot). x.main) e)
  where
    by : (m : Option Main) → visible m ≡ None → is_dir g m ≡ false
    by None k = refl
    by (Some (Dir h)) k = absurd (let z : Some (Dir h) ≡ None = k in cc)
    by (Some (File f over)) k = absurd (let z : Some (File f over) ≡ None = k in cc)
    by (Some (Linkto v)) k = refl

-- and of it no other directory is
pub other_folder : (p : Slot) (g h : Gfid) → h ≢ g → IsOrNone g (core p) → is_dir h p.main ≡ false
other_folder p g h ne (inl e) = bare_core p h e
other_folder p g h ne (inr e) = by p.main (ap (λ (x : Slot). x.main) e)
  where
    by : (m : Option Main) → visible m ≡ Some (Dir g) → is_dir h m ≡ false
    by None k = refl
    by (Some (Dir y)) k = (let z : y ≡ g = cc in not_true _ (λ t. ne ((exact_gfid h y).0 t ∙ z)))
    by (Some (File f over)) k = refl
    by (Some (Linkto v)) k = refl

-- no file is shown there
pub no_links : (p : Slot) (g f : Gfid) → IsOrNone g (core p) → links_to f p ≡ false
no_links p g f (inl e) = links_core f p ∙ ap (links_to f) e
no_links p g f (inr e) = links_core f p ∙ ap (links_to f) e

pub no_plain : (p : Slot) (g f : Gfid) → IsOrNone g (core p) → is_plain f p.main ≡ false
no_plain p g f (inl e) = plain_core f p.main ∙ ap (λ (x : Slot). is_plain f x.main) e
no_plain p g f (inr e) = plain_core f p.main ∙ ap (λ (x : Slot). is_plain f x.main) e

pub no_copy : (p : Slot) (g f : Gfid) → IsOrNone g (core p) → is_copy f p.standby ≡ false
no_copy p g f (inl e) = ap (λ (x : Slot). is_copy f x.standby) e
no_copy p g f (inr e) = ap (λ (x : Slot). is_copy f x.standby) e

-- a slot of these is its core
pub core_of : (g : Gfid) (p : Slot) → IsOrNone g p → core p ≡ p
core_of g p (inl e) = ap core e ∙ sym e
core_of g p (inr e) = ap core e ∙ sym e

pub core_or : (g : Gfid) (p : Slot) → IsOrNone g p → IsOrNone g (core p)
core_or g p (inl e) = inl (ap core e)
core_or g p (inr e) = inr (ap core e)
