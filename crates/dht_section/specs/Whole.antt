-- What a call knows while it is alone: nothing changes but by its own
-- requests. And what a section sees of a directory that is whole.
use Rattle.std.specs.Prelude.{ℕ, ◌<◌, ◌≡◌, ◌⊎◌, true, false, Some, List, length}
use Rattle.dht_types.specs.declared.identifiers.Gfid.{Gfid}
use Rattle.dht_section.specs.Healed.{IsWhole}
use Rattle.dht_section.specs.Location.{entry_at}
use Rattle.dht_section.specs.Looks.{looked_at, mark_at}
use Rattle.dht_section.specs.Scene.{IfAlone, Scene}
use Rattle.dht_section.specs.Section.{held_holder, held_looked}
use Rattle.dht_section.specs.Want.{Scoped, name_at}
use Rattle.dht_section.specs.declared.location.Location.{Location}
use Rattle.dht_section.specs.declared.looks.Looked.{Looked}
use Rattle.dht_section.specs.declared.looks.Sight.{Sight}
use Rattle.dht_section.specs.declared.section.Held.{Held}
use Rattle.dht_section.specs.declared.section.Opened.{Opened}
use Rattle.dht_section.specs.declared.section.Opened.TheVariants.{Held as Holding}
use Rattle.dht_section.specs.declared.section.Section.{Section}
use Rattle.dht_section.specs.declared.section.Section.TheVariants.{Looking}

-- the tree, the volume, and what each brick stores are as they were
pub record StoresTheSame (s t : Scene) : Type 0 where
  pub count : t.disk.count ≡ s.disk.count
  pub weights : t.history.weights ≡ s.history.weights
  pub tree : t.history.tree ≡ s.history.tree
  pub stores : (b : ℕ) → (t.disk.brick b).store ≡ (s.disk.brick b).store

-- each of the first bricks showed its copy of the directory
abbrev pub ShowedCopies : ℕ → Sight → Type 0
ShowedCopies limit x = (i : ℕ) → i < limit → mark_at x.copies i ≡ true

-- so did all, at each of the first names that is one of the directory g
abbrev pub AllShowed : Gfid → Scoped → ℕ → List Looked → Type 0
AllShowed g w n looks = (j : ℕ)
    → j < n → (name_at w j).0 ≡ g → ShowedCopies w.bricks (looked_at looks j).sight

-- as far as a section has looked
abbrev pub ShowedSoFar : Gfid → Section → Type 0
ShowedSoFar g (Looking w looks n b x) =
    AllShowed g w n looks × ((name_at w n).0 ≡ g → ShowedCopies b.0 x)
ShowedSoFar g m = Unit {0}

abbrev pub ShowedOpened : Gfid → Opened → Type 0
ShowedOpened g (Holding h) = AllShowed g h.scope (length h.scope.names) h.looks
ShowedOpened g out = Unit {0}

-- a directory is whole, and this was shown of it; or the tree has no such directory
abbrev pub IsWholeOrGone : Gfid → Type 0 → Scene → Type 0
IsWholeOrGone g Shown s = (IsWhole s.disk g × Shown) ⊎ (s.history.tree.dirs g ≡ false)

-- so it is for a section that began after a heal of the directory, while its call is alone
abbrev pub SeesWhole : Gfid → Section → Scene → Type 0
SeesWhole g m s = IfAlone (IsWholeOrGone g (ShowedSoFar g m)) s

-- and where it ends
abbrev pub EndsWhole : Gfid → Opened → Scene → Type 0
EndsWhole g out s = IfAlone (IsWholeOrGone g (ShowedOpened g out)) s

-- by the layout that was read a brick of the volume holds
-- the name, and it showed its copy of the directory
pub record HasHolder (l : Location) (h : Held) (s : Scene) : Type 0 where
  pub brick : ℕ
  pub there : brick < s.disk.count
  pub holds : held_holder h (entry_at l) ≡ Some brick
  pub copied : mark_at (held_looked h (entry_at l)).sight.copies brick ≡ true
