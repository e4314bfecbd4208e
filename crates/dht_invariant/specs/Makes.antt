-- What a create makes of one brick.
use Rattle.std.specs.Prelude.{ℕ, ◌<◌, ◌≡◌, ◌≢◌, true, Some, None, is_some, []}
use Rattle.dht_types.specs.Gfid.{Entry}
use Rattle.dht_types.specs.Tree.{Tree}
use Rattle.dht_types.specs.declared.identifiers.Gfid.{Gfid}
use Rattle.dht_types.specs.declared.stored.Main.TheVariants.{File}
use Rattle.dht_types.specs.declared.stored.Record.TheVariants as stored
use Rattle.dht_brick.specs.Locality.{Places, name_places}
use Rattle.dht_brick.specs.Parts.{with_main}
use Rattle.dht_brick.specs.declared.requests.NameRequest.TheVariants.{Create}
use Rattle.dht_section.specs.Disk.{Disk, slot_at, file_at, dir_at}
use Rattle.dht_section.specs.Invariant.{Used}
use Rattle.dht_section.specs.Names.{StandsAs}
use Rattle.dht_section.specs.Shapes.{Bare}
use Rattle.dht_section.specs.Views.{cores_of}

-- one brick changed what it stores, at these places only
pub record Framed (p : Places) (b : ℕ) (d e : Disk) : Type 0 where
  pub count : e.count ≡ d.count
  pub slots :
      (i : ℕ) (x : Entry) → p.slot ≢ Some x → p.dropped ≢ Some x.0 → slot_at e i x ≡ slot_at d i x
  pub files : (i : ℕ) (f : Gfid) → p.file ≢ Some f → file_at e i f ≡ file_at d i f
  pub dirs : (i : ℕ) (g : Gfid) → p.dir ≢ Some g → dir_at e i g ≡ dir_at d i g
  pub off : (i : ℕ) → i ≢ b → e.brick i ≡ d.brick i
  pub opens : (i : ℕ) → (e.brick i).opens ≡ (d.brick i).opens
  pub locks : (i : ℕ) → (e.brick i).locks ≡ (d.brick i).locks

-- what a create makes of one brick
pub record Makes (d e : Disk) (b : ℕ) (x : Entry) (f : Gfid) : Type 0 where
  pub there : b < d.count
  pub framed : Framed (name_places (Create x.0 x.1 f)) b d e
  pub slot : slot_at e b x ≡ with_main (slot_at d b x) (File f None)
  pub file : file_at e b f ≡ Some (stored.Live 0 [])
  pub housed : is_some (dir_at d b x.0) ≡ true

-- its name is bare, and its file was never used
pub record IsNew (d : Disk) (t : Tree) (x : Entry) (f : Gfid) : Type 0 where
  pub bare : StandsAs d.count (cores_of d x) (t.names x) Bare
  pub unused : Used d t f → ⊥
