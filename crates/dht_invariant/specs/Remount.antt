-- What a remount makes of the bricks.
use Rattle.std.specs.Prelude.{ℕ, ◌<◌, ◌≤◌, ◌≡◌, ◌⊎◌, None, List, length}
use Rattle.dht_types.specs.declared.identifiers.Gfid.{Gfid}
use Rattle.dht_brick.specs.Contents.{newborn}
use Rattle.dht_brick.specs.Events.{remounted}
use Rattle.dht_section.specs.Disk.{Disk, dir_at}

-- no directory is where there is no brick
abbrev pub NoDirAbove : Disk → Type 0
NoDirAbove d = (b : ℕ) (g : Gfid) → d.count ≤ b → dir_at d b g ≡ None

-- with these weights each brick that was there was mounted anew, and each that came has the root's
-- record alone, without a range
pub record Remounts (ws : List ℕ) (d e : Disk) : Type 0 where
  pub count : e.count ≡ length ws
  pub more : d.count ≤ e.count
  pub old : (b : ℕ) → b < d.count → e.brick b ≡ remounted (d.brick b)
  pub new : (b : ℕ) → d.count ≤ b → b < e.count → e.brick b ≡ newborn None
  pub above_before : NoDirAbove d
  pub above : NoDirAbove e

-- some bricks were mounted anew, the others are as they were, and none came
pub record RemountsInPart (d e : Disk) : Type 0 where
  pub count : e.count ≡ d.count
  pub bricks : (b : ℕ) → (e.brick b ≡ d.brick b) ⊎ (e.brick b ≡ remounted (d.brick b))
