-- The invariant of one directory.
use Rattle.std.specs.Prelude.{ℕ, ◌+◌, ◌<◌, ◌≡◌, Bool, true, Option, Some, None, is_some}
use Rattle.dht_types.specs.Gfid.{Entry, root, home}
use Rattle.dht_types.specs.Tree.{Descent, depth_in}
use Rattle.dht_types.specs.declared.identifiers.Gfid.{Gfid}
use Rattle.dht_types.specs.declared.stored.DirRecord.{DirRecord}
use Rattle.dht_brick.specs.Contents.{entry_at}
use Rattle.dht_types.specs.declared.names.EntryKey.{EntryKey}
use Rattle.dht_section.specs.Views.{DirView}

-- a copy of a directory stands at its name in its parent,
-- of which the brick has a copy too, one depth above
pub record StandsIn (v : DirView) (b : ℕ) (r : DirRecord) (k : EntryKey) : Type 0 where
  pub main : v.mains b (entry_at k) ≡ true
  pub above : ℕ
  pub parent : v.depths b k.dir ≡ Some above
  pub depth : r.depth ≡ above + 1

-- or it is the root's, which stands nowhere
abbrev pub PlacedAt : DirView → ℕ → DirRecord → Option EntryKey → Type 0
PlacedAt v b r None = r.depth ≡ 0
PlacedAt v b r (Some k) = StandsIn v b r k

-- the copies on two bricks are of one directory
pub record SameCopy (r q : DirRecord) : Type 0 where
  pub place : q.place ≡ r.place
  pub depth : q.depth ≡ r.depth

-- a brick has a copy of the directory, which stands at this name
pub record CopyAt (v : DirView) (b : ℕ) (e : Entry) : Type 0 where
  pub copy : DirRecord
  pub there : v.copies b ≡ Some copy
  pub key : EntryKey
  pub place : copy.place ≡ Some key
  pub name : entry_at key ≡ e

-- the tree has the directory, or not, and this is its descent, if it ever was
pub record DirInvariant (count : ℕ) (g : Gfid) (v : DirView) (tree : Bool)
    (descent : Option Descent) : Type 0 where
  -- it is a directory of the tree exactly where its
  -- home has its copy, and a copy is beside one there
  pub homed : tree ≡ is_some (v.copies (home g))
  pub led : (b : ℕ) → b < count → is_some (v.copies b) ≡ true → (home g < count) × (tree ≡ true)
  pub one : (b i : ℕ) (r q : DirRecord)
      → b < count → i < count → v.copies b ≡ Some r → v.copies i ≡ Some q → SameCopy r q
  pub placed : (b : ℕ) (r : DirRecord) → b < count → v.copies b ≡ Some r → PlacedAt v b r r.place
  pub rooted : (b : ℕ) (r : DirRecord)
      → b < count → v.copies b ≡ Some r → r.place ≡ None → g ≡ root
  -- it is as deep as the tree says
  pub deep : (b : ℕ) (r : DirRecord)
      → b < count → v.copies b ≡ Some r → r.depth ≡ depth_in descent
  -- and no name is its but where it has a copy of that name
  pub named : (b : ℕ) (e : Entry) → b < count → v.mains b e ≡ true → CopyAt v b e
