-- What a change of one brick's store leaves of the clauses:
-- those on things that it does not touch stand as before.
use Rattle.std.proofs.Common.{◌≡◌, ◌≢◌, ◌<◌, ◌≤◌, ℕ, Bool, true, refl, sym, ap, ◌∙◌, subst, arith}
use Rattle.std.specs.Prelude.{Option, Some, None, nat_eq, is_some, ◌||◌, List}
use Rattle.std.specs.Option.{option_map}
use Rattle.dht_types.proofs.PutLaws.{put_elim, put_same, exact_nat}
use Rattle.dht_types.specs.Gfid.{Entry, anchor}
use Rattle.dht_types.specs.Tree.{Tree, Node, Descent}
use Rattle.dht_types.specs.declared.identifiers.Gfid.{Gfid}
use Rattle.dht_types.specs.declared.locks.Key.{Key}
use Rattle.dht_types.specs.declared.locks.Mode.{Mode}
use Rattle.dht_types.specs.declared.stored.DirRecord.{DirRecord}
use Rattle.dht_types.specs.declared.stored.Main.{Main}
use Rattle.dht_types.specs.declared.stored.Main.TheVariants.{Dir, File, Linkto}
use Rattle.dht_types.specs.declared.stored.Slot.{Slot}
use Rattle.dht_brick.specs.Contents.{Contents, Opens}
use Rattle.dht_brick.specs.OpenRows.{registrations, is_sealed}
use Rattle.dht_brick.specs.Parts.{is_dir, is_file, is_plain, is_copy, is_standlink}
use Rattle.dht_section.specs.Claims.{Claim}
use Rattle.dht_section.specs.Disk.{Disk, slot_at, file_at, dir_at, ChangesOneBrick}
use Rattle.dht_section.specs.Dirs.{DirInvariant}
use Rattle.dht_section.specs.Files.{FileInvariant}
use Rattle.dht_section.specs.Invariant.{Used, ByBytes, ByDir, ByDescent, ByRecord, ByCopy, BySeal}
use Rattle.dht_section.specs.Locks.{LockInvariant}
use Rattle.dht_invariant.proofs.Basics.{is_there}
use Rattle.dht_section.specs.Names.{NameInvariant}
use Rattle.dht_section.specs.Rely as rely
use Rattle.dht_section.specs.Rely.{IsFileUsed}
use Rattle.dht_section.specs.Shapes.{NameFits}
use Rattle.dht_section.specs.Views.{FileView, DirView, visible, core, links_to, view_of, dir_view}

-- by cases on whether a brick is the one that changed
pub brick_by :
    (P : Contents → Type 0) (d e : Disk) (b : ℕ) (new : Contents) (i : ℕ)
    → ChangesOneBrick d b new e → (i ≡ b → P new) → (i ≢ b → P (d.brick i)) → P (e.brick i)
brick_by P d e b new i h at_b off_b = subst P (sym (ap (λ (g : ℕ → Contents). g i) h.brick)) (put_elim P nat_eq exact_nat d.brick b new i at_b off_b)

pub brick_is : (d e : Disk) (b : ℕ) (new : Contents) → ChangesOneBrick d b new e → e.brick b ≡ new
brick_is d e b new h = ap (λ (g : ℕ → Contents). g b) h.brick ∙ put_same nat_eq exact_nat d.brick b new

-- a fact that the new contents keep of the old
pub kept_by :
    {X : Type 0} (g : Contents → X) (d e : Disk) (b : ℕ) (new : Contents)
    → ChangesOneBrick d b new e → g new ≡ g (d.brick b) → (i : ℕ) → g (e.brick i) ≡ g (d.brick i)
kept_by g d e b new h same i = brick_by (λ c. g c ≡ g (d.brick i)) d e b new i h (λ q. same ∙ ap (λ (j : ℕ). g (d.brick j)) (sym q)) (λ ne. refl)

-- ---- a slot without its linkto

main_core : (g : Gfid) (m : Option Main) → is_file g m ≡ is_file g (visible m)
main_core g None = refl
main_core g (Some (Dir h)) = refl
main_core g (Some (File h over)) = refl
main_core g (Some (Linkto value)) = refl

pub links_core : (g : Gfid) (p : Slot) → links_to g p ≡ links_to g (core p)
links_core g p = ap (λ (x : Bool). x || is_standlink g p.standby) (main_core g p.main)

pub plain_core : (g : Gfid) (m : Option Main) → is_plain g m ≡ is_plain g (visible m)
plain_core g None = refl
plain_core g (Some (Dir h)) = refl
plain_core g (Some (File h over)) = refl
plain_core g (Some (Linkto value)) = refl

folder_core : (g : Gfid) (m : Option Main) → is_dir g m ≡ is_dir g (visible m)
folder_core g None = refl
folder_core g (Some (Dir h)) = refl
folder_core g (Some (File h over)) = refl
folder_core g (Some (Linkto value)) = refl

pub dir_core : (g : Gfid) (p : Slot) → is_dir g p.main ≡ is_dir g (core p).main
dir_core g p = folder_core g p.main

-- ---- the same view, the same clause

pub name_kept :
    (m n : ℕ) (old new : ℕ → Slot) (t u : Option Node) → n ≡ m → ((i : ℕ) → new i ≡ old i) → u ≡ t
    → NameInvariant m old t → NameInvariant n new u
name_kept m n old new t u count same node h = (
  h.0,
  record {
    fits = subst (λ (c : ℕ). NameFits c h.0) (sym count) h.1.fits;
    has = λ i l. same i ∙ h.1.has i (subst (λ (c : ℕ). i < c) count l);
    node = node ∙ h.1.node;
  },
)

-- hops may have grown
file_low :
    (n low top : ℕ) (places : ℕ → ℕ → ℕ) (v : FileView) (t : Option (List ℕ)) → low ≤ top
    → FileInvariant n low places v t → FileInvariant n top places v t
file_low n low top places v t l h = record {
  shape = h.shape;
  records = h.records;
  low = λ k e. (let q = h.low k e in omega arith);
  linked = h.linked;
  names = h.names;
  points = h.points;
  sealed = h.sealed;
  truth = h.truth;
  opened = h.opened;
  kept = h.kept;
}

pub file_kept :
    (m n low top : ℕ) (places : ℕ → ℕ → ℕ) (v w : FileView) (t u : Option (List ℕ)) → n ≡ m → w ≡ v
    → u ≡ t → low ≤ top → FileInvariant m low places v t → FileInvariant n top places w u
file_kept m n low top places v w t u count view bytes l h =
    subst (λ (c : ℕ). FileInvariant c top places w u) (sym count)
    (subst (λ (x : FileView). FileInvariant m top places x u) (sym view)
    (subst (λ (y : Option (List ℕ)). FileInvariant m top places v y) (sym bytes) (file_low m low top places v t l h)))

pub dir_kept :
    (m n : ℕ) (g : Gfid) (v w : DirView) (t u : Bool) (x y : Option Descent) → n ≡ m → w ≡ v → u ≡ t
    → y ≡ x → DirInvariant m g v t x → DirInvariant n g w u y
dir_kept m n g v w t u x y count view is descent h =
    subst (λ (c : ℕ). DirInvariant c g w u y) (sym count) (subst (λ (i : DirView). DirInvariant m g i u y) (sym view)
    (subst (λ (i : Bool). DirInvariant m g v i y) (sym is) (subst (λ (i : Option Descent). DirInvariant m g v t i) (sym descent) h)))

pub lock_kept :
    (b : ℕ) (key : Key) (old new : ℕ → Option Mode) (claims : ℕ → Claim) → new ≡ old
    → LockInvariant b key old claims → LockInvariant b key new claims
lock_kept b key old new claims e h = subst (λ (x : ℕ → Option Mode). LockInvariant b key x claims) (sym e) h

-- a view is the same where each of its parts is
pub view_same :
    (d e : Disk) (f : Gfid) → e.count ≡ d.count → ((i : ℕ) → (e.brick i).opens ≡ (d.brick i).opens)
    → ((i : ℕ) → file_at e i f ≡ file_at d i f)
    → ((i : ℕ) (x : Entry) → links_to f (slot_at e i x) ≡ links_to f (slot_at d i x))
    → ((i : ℕ) (x : Entry) → is_plain f (slot_at e i x).main ≡ is_plain f (slot_at d i x).main)
    → ((i : ℕ) (x : Entry) → is_copy f (slot_at e i x).standby ≡ is_copy f (slot_at d i x).standby)
    → view_of e f ≡ view_of d f
view_same d e f count opens files links unmarked copies =
    let at : anchor f e.count ≡ anchor f d.count = ap (anchor f) count in
    let o : (e.brick (anchor f e.count)).opens ≡ (d.brick (anchor f d.count)).opens = ap (λ (i : ℕ). (e.brick i).opens) at ∙ opens (anchor f d.count) in
    let opened : registrations (e.brick (anchor f e.count)).opens f ≡ registrations (d.brick (anchor f d.count)).opens f = ap (λ (x : Opens). registrations x f) o in
    let sealed : is_sealed (e.brick (anchor f e.count)).opens f ≡ is_sealed (d.brick (anchor f d.count)).opens f = ap (λ (x : Opens). is_sealed x f) o in
    λ j. record { records = λ i. files i j; links = λ i x. links i x j; unmarked = λ i x. unmarked i x j; copies = λ i x. copies i x j; opened = opened j; sealed = sealed j }

pub dir_view_same :
    (d e : Disk) (g : Gfid) → ((i : ℕ) (p : Gfid) → dir_at e i p ≡ dir_at d i p)
    → ((i : ℕ) (x : Entry) → is_dir g (slot_at e i x).main ≡ is_dir g (slot_at d i x).main)
    → dir_view e g ≡ dir_view d g
dir_view_same d e g dirs mains =
    λ j. record { copies = λ i. dirs i g j; mains = λ i x. mains i x j; depths = λ i p. option_map (λ (r : DirRecord). r.depth) (dirs i p j) }

-- what was used stays so where records, directories and the tree's files do
pub used_kept :
    (d e : Disk) (t u : Tree) (g : Gfid) → e.count ≡ d.count → (t.bytes g ≢ None → u.bytes g ≢ None)
    → (t.dirs g ≡ true → u.dirs g ≡ true) → (t.descents g ≢ None → u.descents g ≢ None)
    → ((i : ℕ) → is_some (file_at d i g) ≡ true → is_some (file_at e i g) ≡ true)
    → ((i : ℕ) → is_some (dir_at d i g) ≡ true → is_some (dir_at e i g) ≡ true)
    → (view_of e g).sealed ≡ (view_of d g).sealed → Used d t g → Used e u g
used_kept d e t u g count bytes dirs descents files copies sealed (ByBytes h) = ByBytes (bytes h)
used_kept d e t u g count bytes dirs descents files copies sealed (ByDir h) = ByDir (dirs h)
used_kept d e t u g count bytes dirs descents files copies sealed (ByDescent h) = ByDescent (descents h)
used_kept d e t u g count bytes dirs descents files copies sealed (ByRecord b r l h) =
    let q = is_there (file_at e b g) (files b (ap is_some h)) in
    ByRecord b q.0 (subst (λ (c : ℕ). b < c) (sym count) l) q.1
used_kept d e t u g count bytes dirs descents files copies sealed (ByCopy b l h) = ByCopy b (subst (λ (c : ℕ). b < c) (sym count) l) (copies b h)
used_kept d e t u g count bytes dirs descents files copies sealed (BySeal h) = BySeal (sealed ∙ h)

-- what is used as a file's is used
pub file_is_used : (d : Disk) (t : Tree) (f : Gfid) → IsFileUsed d t f → Used d t f
file_is_used d t f (rely.ByBytes h) = ByBytes h
file_is_used d t f (rely.ByRecord b r l h) = ByRecord b r l h
file_is_used d t f (rely.BySeal h) = BySeal h
