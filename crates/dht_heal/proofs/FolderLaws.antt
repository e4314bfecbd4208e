-- A name whose main part on some brick is a directory's.
use Rattle.std.proofs.Common.{◌≡◌, ◌<◌, ℕ, Bool, true, false, sym, ◌∙◌, ap}
use Rattle.std.specs.Prelude.{nat_eq, if◌then◌else◌, Option, Some, None}
use Rattle.dht_types.proofs.PutLaws.{exact_gfid}
use Rattle.dht_types.specs.Gfid.{Entry}
use Rattle.dht_types.specs.Tree.{IsDir}
use Rattle.dht_types.specs.declared.identifiers.BrickNo.{BrickNo}
use Rattle.dht_types.specs.declared.identifiers.Gfid.{Gfid}
use Rattle.dht_types.specs.declared.stored.Main.{Main}
use Rattle.dht_types.specs.declared.stored.Main.TheVariants.{Dir, File, Linkto}
use Rattle.dht_types.specs.declared.stored.Slot.{Slot}
use Rattle.dht_brick.specs.Parts.{is_dir}
use Rattle.dht_section.specs.Disk.{slot_at}
use Rattle.dht_section.specs.Scene.{NameStands, Scene, Sound}
use Rattle.dht_section.specs.Shapes.{Bare, Committed, Contested, Copied, Folder, Marked, NameShape, Plain, Standing, main_at, when_on}
use Rattle.dht_section.specs.Views.{visible}

-- a main part that is a directory's is shown
seen_dir : (g : Gfid) (m : Option Main) → is_dir g m ≡ true → visible m ≡ Some (Dir g)
seen_dir g None e = absurd (let z : false ≡ true = e in cc)
seen_dir g (Some (Dir h)) e = ap (λ (x : Gfid). Some (Dir x)) (sym ((exact_gfid g h).0 e))
seen_dir g (Some (File f over)) e = absurd (let z : false ≡ true = e in cc)
seen_dir g (Some (Linkto value)) e = absurd (let z : false ≡ true = e in cc)

-- only a directory's name has such a part
no_file :
    (f : Gfid) (over : Option BrickNo) (c : Bool) (g : Gfid)
    → (if c then Some (File f over) else None) ≡ Some (Dir g) → ⊥
no_file f over true g e = (let z : Some (File f over) ≡ Some (Dir g) = e in cc)
no_file f over false g e = (let z : None ≡ Some (Dir g) = e in cc)

folder_main :
    (s : Scene) (e : Entry) (g : Gfid) (b : ℕ) (h : NameShape) → NameStands s e h
    → main_at h b ≡ Some (Dir g) → s.history.tree.names e ≡ Some (IsDir g)
folder_main s e g b Bare k q = absurd (let z : None ≡ Some (Dir g) = q in cc)
folder_main s e g b (Folder f on) k q = by (on b) q
  where
    by : (v : Bool) → when_on v (Dir f) ≡ Some (Dir g) → s.history.tree.names e ≡ Some (IsDir g)
    by true z =
        let y : Some (Dir f) ≡ Some (Dir g) = z in
        let one : f ≡ g = cc in
        k.node ∙ ap (λ (x : Gfid). Some (IsDir x)) one
    by false z = absurd (let y : None ≡ Some (Dir g) = z in cc)
folder_main s e g b (Plain i f) k q = absurd (no_file f None (nat_eq b i) g q)
folder_main s e g b (Marked i f x) k q = absurd (no_file f (Some x) (nat_eq b i) g q)
folder_main s e g b (Contested i f x h) k q = absurd (no_file f (Some x) (nat_eq b i) g q)
folder_main s e g b (Standing i f) k q = absurd (let z : None ≡ Some (Dir g) = q in cc)
folder_main s e g b (Copied i f t) k q = absurd (no_file f None (nat_eq b i) g q)
folder_main s e g b (Committed t f) k q = absurd (let z : None ≡ Some (Dir g) = q in cc)

pub main_named :
    (s : Scene) (e : Entry) (g : Gfid) (b : ℕ) → Sound s → b < s.disk.count
    → is_dir g (slot_at s.disk b e).main ≡ true → s.history.tree.names e ≡ Some (IsDir g)
main_named s e g b sound l h =
    let stands = sound.kept.things.names e in
    folder_main s e g b stands.0 stands.1 (sym (ap (λ (p : Slot). p.main) (stands.1.has b l)) ∙ seen_dir g (slot_at s.disk b e).main h)
