-- What a brick's copy of a directory tells of the tree.
use Rattle.std.proofs.Common.{◌≡◌, ◌<◌, ◌+◌, ℕ, true, refl, subst}
use Rattle.std.specs.Prelude.{Option, Some, None, is_some}
use Rattle.std.specs.Option.{option_map}
use Rattle.dht_types.specs.Gfid.{home}
use Rattle.dht_types.specs.Tree.{depth_of}
use Rattle.dht_types.specs.declared.identifiers.Gfid.{Gfid}
use Rattle.dht_types.specs.declared.names.EntryKey.{EntryKey}
use Rattle.dht_types.specs.declared.stored.DirRecord.{DirRecord}
use Rattle.dht_brick.specs.Contents.{entry_at}
use Rattle.dht_heal.proofs.FolderLaws.{main_named}
use Rattle.dht_section.specs.Dirs.{PlacedAt, StandsIn}
use Rattle.dht_section.specs.Disk.{dir_at}
use Rattle.dht_section.specs.Scene.{Scene, Sound}
use Rattle.dht_section.specs.Views.{dir_view}

-- ---- a copy stands at a name

pub copy_stands :
    (s : Scene) (g : Gfid) (b : ℕ) (y : DirRecord) (k : EntryKey) → Sound s → b < s.disk.count
    → dir_at s.disk b g ≡ Some y → y.place ≡ Some k → StandsIn (dir_view s.disk g) b y k
copy_stands s g b y k sound l there e = subst (PlacedAt (dir_view s.disk g) b y) e ((sound.kept.things.dirs g).placed b y l there)

-- its parent is a directory of the tree
pub parent_there :
    (s : Scene) (g : Gfid) (b : ℕ) (y : DirRecord) (k : EntryKey) → Sound s → b < s.disk.count
    → dir_at s.disk b g ≡ Some y → y.place ≡ Some k
    → (home k.dir < s.disk.count) × (s.history.tree.dirs k.dir ≡ true)
parent_there s g b y k sound l there e =
    let stands = copy_stands s g b y k sound l there e in
    (sound.kept.things.dirs k.dir).led b l (by (dir_at s.disk b k.dir) stands.above stands.parent)
  where
    by : (o : Option DirRecord) (above : ℕ) → option_map (λ (r : DirRecord). r.depth) o ≡ Some above → is_some o ≡ true
    by None above q = absurd (let z : None ≡ Some above = q in cc)
    by (Some x) above q = refl

-- the directory was made at that name, one deeper than the one that it stands in
pub copy_made_at :
    (s : Scene) (g : Gfid) (b : ℕ) (y : DirRecord) (k : EntryKey) → Sound s → b < s.disk.count
    → dir_at s.disk b g ≡ Some y → y.place ≡ Some k
    → s.history.tree.descents g
    ≡ Some (record { depth = depth_of s.history.tree k.dir + 1; place = Some (entry_at k) })
copy_made_at s g b y k sound l there e =
    let stands = copy_stands s g b y k sound l there e in
    (sound.kept.tree.child (entry_at k) g (main_named s (entry_at k) g b sound l stands.main)).descent
