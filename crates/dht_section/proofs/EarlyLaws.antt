-- What follows of names and files while calls only look for files and make them.
use Rattle.std.proofs.Common.{◌≡◌, ◌≢◌, ◌<◌, ℕ, Bool, true, false, refl, sym, ap, ◌∙◌, subst, inl, inr, ◌⊎◌}
use Rattle.std.specs.Prelude.{Option, Some, None, nat_eq, if◌then◌else◌}
use Rattle.dht_types.proofs.PutLaws.{exact_nat}
use Rattle.dht_types.specs.Gfid.{Entry}
use Rattle.dht_types.specs.Tree.{Node, IsFile, IsDir}
use Rattle.dht_types.specs.declared.identifiers.Gfid.{Gfid}
use Rattle.dht_types.specs.declared.identifiers.BrickNo.{BrickNo}
use Rattle.dht_types.specs.declared.stored.Main.{Main}
use Rattle.dht_types.specs.declared.stored.Main.TheVariants.{Dir, File, Linkto}
use Rattle.dht_types.specs.declared.stored.Standby.{Standby}
use Rattle.dht_types.specs.declared.stored.Standby.TheVariants.{StandLink, Copy}
use Rattle.dht_types.specs.declared.stored.Slot.{Slot}
use Rattle.dht_brick.specs.Contents.{bare}
use Rattle.dht_section.specs.Disk.{Disk, slot_at}
use Rattle.dht_section.specs.Truth.{plain, folder}
use Rattle.dht_section.specs.Early.{IsPlain}
use Rattle.dht_section.specs.Scene.{Scene, Sound}
use Rattle.dht_section.specs.Names.{NameInvariant, StandsAs}
use Rattle.dht_section.specs.Shapes.{NameShape, Bare, Folder, Plain, Marked, Contested, Standing, Copied, Committed, NameFits, here, core_at}
use Rattle.dht_section.specs.Views.{visible, core, cores_of}

pub nat_cases : (x y : ℕ) → (x ≡ y) ⊎ (x ≢ y)
nat_cases x y = by (nat_eq x y) refl
  where
    by : (v : Bool) → nat_eq x y ≡ v → (x ≡ y) ⊎ (x ≢ y)
    by true e = inl ((exact_nat x y).0 e)
    by false e = inr (λ h. let k : true ≡ false = sym ((exact_nat x y).1 h) ∙ e in cc)

-- what stands on one brick alone
pub here_at : {A : Type 0} (v : Option A) (b : ℕ) → here v b b ≡ v
here_at v b = ap (λ (x : Bool). if x then v else None) ((exact_nat b b).1 refl)

pub here_off : {A : Type 0} (v : Option A) (b i : ℕ) → i ≢ b → here v b i ≡ None
here_off {A} v b i ne = by (nat_eq i b) refl
  where
    by : (x : Bool) → nat_eq i b ≡ x → here v b i ≡ None
    by true e = absurd (ne ((exact_nat i b).0 e))
    by false e = ap (λ (y : Bool). if y then v else None) e

-- what is seen stands there
seen_stands : (m : Option Main) (x : Main) → visible m ≡ Some x → m ≡ Some x
seen_stands None x e = absurd (let z : None ≡ Some x = e in cc)
seen_stands (Some (Dir g)) x e = e
seen_stands (Some (File f over)) x e = e
seen_stands (Some (Linkto value)) x e = absurd (let z : None ≡ Some x = e in cc)

-- the slot of a file's name has no linkto
pub core_file : (p : Slot) (f : Gfid) → core p ≡ plain f → p ≡ plain f
core_file p f e =
    let m : p.main ≡ Some (File f None) = seen_stands p.main (File f None) (ap (λ (x : Slot). x.main) e) in
    let s : p.standby ≡ None = ap (λ (x : Slot). x.standby) e in
    λ i. record { main = m i; standby = s i }

-- nor has that of a directory's
pub core_folder : (p : Slot) (g : Gfid) → core p ≡ folder g → p ≡ folder g
core_folder p g e =
    let m : p.main ≡ Some (Dir g) = seen_stands p.main (Dir g) (ap (λ (x : Slot). x.main) e) in
    let s : p.standby ≡ None = ap (λ (x : Slot). x.standby) e in
    λ i. record { main = m i; standby = s i }

-- the core of a plain slot is plain
core_core : (m : Option Main) → visible (visible m) ≡ visible m
core_core None = refl
core_core (Some (Dir g)) = refl
core_core (Some (File f over)) = refl
core_core (Some (Linkto value)) = refl

pub plain_core : (p : Slot) → IsPlain p → IsPlain (core p)
plain_core p h = elim h [
  | inl q ↦ inl ((λ i. record { main = core_core p.main i; standby = p.standby }) ∙ q)
  | inr q ↦ inr (elim q [
    | inl f ↦ inl (f.0, ap core f.1)
    | inr g ↦ inr (g.0, ap core g.1)
  ])
]

-- no mark and no standby part
no_mark : (p : Slot) (f : Gfid) (x : BrickNo) → IsPlain p → p.main ≡ Some (File f (Some x)) → ⊥
no_mark p f x h e = elim h [
  | inl q ↦ (let z : None ≡ Some (File f (Some x)) = ap (λ (y : Slot). y.main) (sym q) ∙ ap visible e in cc)
  | inr q ↦ elim q [
    | inl k ↦ (let z : Some (File k.0 None) ≡ Some (File f (Some x)) = ap (λ (y : Slot). y.main) (sym k.1) ∙ e in cc)
    | inr g ↦ (let z : Some (Dir g.0) ≡ Some (File f (Some x)) = ap (λ (y : Slot). y.main) (sym g.1) ∙ e in cc)
  ]
]

no_standby : (p : Slot) (x : Standby) → IsPlain p → p.standby ≡ Some x → ⊥
no_standby p x h e = elim h [
  | inl q ↦ (let z : None ≡ Some x = ap (λ (y : Slot). y.standby) (sym q) ∙ e in cc)
  | inr q ↦ elim q [
    | inl k ↦ (let z : None ≡ Some x = ap (λ (y : Slot). y.standby) (sym k.1) ∙ e in cc)
    | inr g ↦ (let z : None ≡ Some x = ap (λ (y : Slot). y.standby) (sym g.1) ∙ e in cc)
  ]
]

-- nothing is under way at a name in this shape: it is bare, a directory's, or a file's
abbrev pub IsPlainShape : NameShape → Type 0
IsPlainShape Bare = Unit {0}
IsPlainShape (Folder g on) = Unit {0}
IsPlainShape (Plain b f) = Unit {0}
IsPlainShape h = ⊥

-- where all slots of a name are plain, it is in one of these
pub plain_shape :
    (count : ℕ) (h : NameShape) → NameFits count h → ((b : ℕ) → b < count → IsPlain (core_at h b))
    → IsPlainShape h
plain_shape count Bare fits p = tt
plain_shape count (Folder g on) fits p = tt
plain_shape count (Plain b f) fits p = tt
plain_shape count (Marked b f x) fits p = absurd (no_mark _ f x (p b fits.0) (here_at (Some (File f (Some x))) b))
plain_shape count (Contested b f x g) fits p = absurd (no_mark _ f x (p b fits.0) (here_at (Some (File f (Some x))) b))
plain_shape count (Standing x g) fits p = absurd (no_standby _ (StandLink g) (p x fits) (here_at (Some (StandLink g)) x))
plain_shape count (Copied b f t) fits p = absurd (no_standby _ (Copy f) (p t fits.1) (here_at (Some (Copy f)) t))
plain_shape count (Committed t f) fits p = absurd (no_standby _ (Copy f) (p t fits) (here_at (Some (Copy f)) t))

-- nothing stands at the name but perhaps linktos
pub record StandsNowhere (d : Disk) (x : Entry) (told : Option Node) : Type 0 where
  pub node : told ≡ None
  pub bare : (b : ℕ) → b < d.count → core (slot_at d b x) ≡ bare

-- the name is a file's on one brick, and nothing stands there on any other but perhaps a linkto
pub record StandsOnce (d : Disk) (x : Entry) (told : Option Node) : Type 0 where
  pub brick : ℕ
  pub there : brick < d.count
  pub file : Gfid
  pub node : told ≡ Some (IsFile file)
  pub slot : slot_at d brick x ≡ plain file
  pub alone : (b : ℕ) → b < d.count → b ≢ brick → core (slot_at d b x) ≡ bare

-- the name is a directory's
pub record StandsAsFolder (d : Disk) (x : Entry) (told : Option Node) : Type 0 where
  pub directory : Gfid
  pub on : ℕ → Bool
  pub node : told ≡ Some (IsDir directory)
  pub stands : StandsAs d.count (cores_of d x) told (Folder directory on)

-- a name whose slots are plain stands in one of these ways
pub data StandsPlainly (d : Disk) (x : Entry) (told : Option Node) : Type 0 where
  Nowhere : StandsNowhere d x told → StandsPlainly d x told
  Once : StandsOnce d x told → StandsPlainly d x told
  AsFolder : StandsAsFolder d x told → StandsPlainly d x told

-- a part that stands on one brick, beside no standby part
abbrev main_alone : Option Main → Slot
main_alone m = record { main = m; standby = None }

plainly_by :
    (d : Disk) (x : Entry) (told : Option Node) (h : NameShape) → IsPlainShape h
    → StandsAs d.count (cores_of d x) told h → StandsPlainly d x told
plainly_by d x told Bare p k = Nowhere (record { node = k.node; bare = k.has })
plainly_by d x told (Folder g on) p k = AsFolder (record { directory = g; on = on; node = k.node; stands = k })
plainly_by d x told (Plain b f) p k = Once (record {
  brick = b;
  there = k.fits;
  file = f;
  node = k.node;
  slot = core_file (slot_at d b x) f (k.has b k.fits ∙ ap main_alone (here_at (Some (File f None)) b));
  alone = λ i l ne. k.has i l ∙ ap main_alone (here_off (Some (File f None)) b i ne);
})
plainly_by d x told (Marked b f y) p k = absurd p
plainly_by d x told (Contested b f y g) p k = absurd p
plainly_by d x told (Standing y g) p k = absurd p
plainly_by d x told (Copied b f t) p k = absurd p
plainly_by d x told (Committed t f) p k = absurd p

pub shape_plain :
    (d : Disk) (x : Entry) (told : Option Node) (h : NameShape)
    → StandsAs d.count (cores_of d x) told h → ((b : ℕ) → b < d.count → IsPlain (slot_at d b x))
    → IsPlainShape h
shape_plain d x told h k p = plain_shape d.count h k.fits (λ b l. subst IsPlain (k.has b l) (plain_core (slot_at d b x) (p b l)))

pub stands_plainly :
    (d : Disk) (x : Entry) (told : Option Node) → NameInvariant d.count (cores_of d x) told
    → ((b : ℕ) → b < d.count → IsPlain (slot_at d b x)) → StandsPlainly d x told
stands_plainly d x told n p = plainly_by d x told n.0 (shape_plain d x told n.0 n.1 p) n.1

-- so does each name of a sound scene
pub name_stands :
    (s : Scene) (x : Entry) → Sound s → StandsPlainly s.disk x (s.history.tree.names x)
name_stands s x sound = stands_plainly s.disk x (s.history.tree.names x) (sound.kept.things.names x) (sound.early.plain x)
