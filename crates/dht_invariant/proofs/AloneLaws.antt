-- The invariant of directories where bricks have the root and no other directory.
use Rattle.std.proofs.Common.{◌≡◌, ◌<◌, ℕ, Bool, true, false, sym, ap, ◌∙◌, subst}
use Rattle.std.specs.Prelude.{Option, Some, None, is_some}
use Rattle.dht_types.specs.Tree.{Descent, depth_in}
use Rattle.dht_types.proofs.PutLaws.{exact_gfid}
use Rattle.dht_types.specs.Gfid.{Entry, root, home, same_gfid}
use Rattle.dht_types.specs.declared.identifiers.Gfid.{Gfid}
use Rattle.dht_types.specs.declared.stored.DirRecord.{DirRecord}
use Rattle.dht_brick.specs.Parts.{is_dir}
use Rattle.dht_section.specs.Disk.{Disk, slot_at, dir_at}
use Rattle.dht_section.specs.Dirs.{DirInvariant, PlacedAt}
use Rattle.dht_section.specs.Views.{dir_view}
use Rattle.dht_invariant.proofs.Basics.{true_false}

-- each brick has the root's record, which stands nowhere, and no other; and no name is a directory
pub record RootAlone (d : Disk) : Type 0 where
  pub some_brick : 0 < d.count
  pub alone : (b : ℕ) (g : Gfid) → b < d.count → is_some (dir_at d b g) ≡ same_gfid g root
  pub parts : (b : ℕ) (r : DirRecord) → b < d.count → dir_at d b root ≡ Some r → (r.place ≡ None) × (r.depth ≡ 0)
  pub no_name : (b : ℕ) (x : Entry) (g : Gfid) → b < d.count → is_dir g (slot_at d b x).main ≡ false

module _ (d : Disk) (m : RootAlone d) where
  is_root : (b : ℕ) (g : Gfid) → b < d.count → is_some (dir_at d b g) ≡ true → g ≡ root
  is_root b g l h = (exact_gfid g root).0 (sym (m.alone b g l) ∙ h)

  of_root : (b : ℕ) (g : Gfid) (r : DirRecord) → b < d.count → dir_at d b g ≡ Some r → g ≡ root
  of_root b g r l e = is_root b g l (ap is_some e)

  root_parts : (b : ℕ) (g : Gfid) (r : DirRecord) → b < d.count → dir_at d b g ≡ Some r → (r.place ≡ None) × (r.depth ≡ 0)
  root_parts b g r l e = m.parts b r l (ap (dir_at d b) (sym (of_root b g r l e)) ∙ e)

  root_told : (g : Gfid) (told : Bool) → told ≡ is_some (dir_at d (home g) g) → g ≡ root → told ≡ true
  root_told g told homed e = homed ∙ (ap (λ (x : Gfid). is_some (dir_at d (home x) x)) e ∙ m.alone 0 root m.some_brick)

  pub dir_alone : (g : Gfid) (told : Bool) (descent : Option Descent) → told ≡ is_some (dir_at d (home g) g) → (g ≡ root → depth_in descent ≡ 0) → DirInvariant d.count g (dir_view d g) told descent
  dir_alone g told descent homed top = record {
    homed = homed;
    led = λ b l h. (let e = is_root b g l h in (subst (λ (x : Gfid). home x < d.count) (sym e) m.some_brick, root_told g told homed e));
    one = λ b i r q l k h e. (let x = root_parts b g r l h in let y = root_parts i g q k e in record { place = y.0 ∙ sym x.0; depth = y.1 ∙ sym x.1 });
    placed = λ b r l h. (let x = root_parts b g r l h in subst (PlacedAt (dir_view d g) b r) (sym x.0) x.1);
    rooted = λ b r l h none. of_root b g r l h;
    deep = λ b r l h. (root_parts b g r l h).1 ∙ sym (top (of_root b g r l h));
    named = λ b x l h. absurd (true_false (is_dir g (slot_at d b x).main) h (m.no_name b x g l));
  }
