-- A name that is a directory's on some brick is that directory's in the tree.
use Rattle.std.proofs.Common.{◌≡◌, ◌<◌, ℕ, true, false, sym, ap, ◌∙◌, inl, inr}
use Rattle.std.specs.Prelude.{Bool, Option, Some, None}
use Rattle.dht_types.specs.Gfid.{Entry}
use Rattle.dht_types.specs.Tree.{Node, IsDir}
use Rattle.dht_types.specs.declared.identifiers.BrickNo.{BrickNo}
use Rattle.dht_types.specs.declared.identifiers.Gfid.{Gfid}
use Rattle.dht_types.specs.declared.stored.Main.TheVariants.{Dir, File}
use Rattle.dht_types.specs.declared.stored.Slot.{Slot}
use Rattle.dht_brick.specs.Parts.{is_dir}
use Rattle.dht_section.specs.Disk.{Disk, slot_at}
use Rattle.dht_section.specs.Names.{NameInvariant}
use Rattle.dht_section.specs.Shapes.{NameShape, Bare, Folder, Plain, Marked, Contested, Standing, Copied, Committed, here, when_on, main_at, node_of}
use Rattle.dht_section.specs.Views.{cores_of}
use Rattle.dht_section.proofs.EarlyLaws.{nat_cases, here_at, here_off}
use Rattle.dht_invariant.proofs.FolderLaws.{main_is}
use Rattle.dht_invariant.proofs.Frames.{dir_core}

no_file :
    (f : Gfid) (over : Option BrickNo) (b i : ℕ) (g : Gfid)
    → here (Some (File f over)) b i ≡ Some (Dir g) → ⊥
no_file f over b i g e = elim (nat_cases i b) [
  | inl q ↦ (let z : Some (File f over) ≡ Some (Dir g) = sym (here_at (Some (File f over)) b) ∙ (ap (here (Some (File f over)) b) (sym q) ∙ e) in cc)
  | inr ne ↦ (let z : None ≡ Some (Dir g) = sym (here_off (Some (File f over)) b i ne) ∙ e in cc)
]

folder_is : (h g : Gfid) (v : Bool) → when_on v (Dir h) ≡ Some (Dir g) → h ≡ g
folder_is h g true e = let z : Dir h ≡ Dir g = cc in cc
folder_is h g false e = absurd (let z : None ≡ Some (Dir g) = e in cc)

-- only a directory's name has such a main part
pub folder_node :
    (h : NameShape) (i : ℕ) (g : Gfid) → main_at h i ≡ Some (Dir g) → node_of h ≡ Some (IsDir g)
folder_node Bare i g e = absurd (let z : None ≡ Some (Dir g) = e in cc)
folder_node (Folder h on) i g e = ap (λ (x : Gfid). Some (IsDir x)) (folder_is h g (on i) e)
folder_node (Plain b f) i g e = absurd (no_file f None b i g e)
folder_node (Marked b f x) i g e = absurd (no_file f (Some x) b i g e)
folder_node (Contested b f x o) i g e = absurd (no_file f (Some x) b i g e)
folder_node (Standing x f) i g e = absurd (let z : None ≡ Some (Dir g) = e in cc)
folder_node (Copied b f t) i g e = absurd (no_file f None b i g e)
folder_node (Committed t f) i g e = absurd (let z : None ≡ Some (Dir g) = e in cc)

-- so the tree has the directory at a name that is its on some brick
pub told_dir :
    (d : Disk) (x : Entry) (at : Option Node) (b : ℕ) (g : Gfid)
    → NameInvariant d.count (cores_of d x) at → b < d.count → is_dir g (slot_at d b x).main ≡ true
    → at ≡ Some (IsDir g)
told_dir d x at b g n l e =
    n.1.node
    ∙ folder_node n.0 b g (ap (λ (p : Slot). p.main) (sym (n.1.has b l)) ∙ main_is g (cores_of d x b).main (sym (dir_core g (slot_at d b x)) ∙ e))
