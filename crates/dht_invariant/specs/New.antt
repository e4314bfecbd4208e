-- Bricks on which nothing was done yet.
use Rattle.std.specs.Prelude.{ℕ, ◌<◌, ◌≤◌, ◌≡◌, None, List}
use Rattle.dht_types.specs.Gfid.{root}
use Rattle.dht_types.specs.declared.locks.Key.{Key}
use Rattle.dht_xattr.specs.Plan.{planned_value}
use Rattle.dht_brick.specs.Contents.{newborn}
use Rattle.dht_section.specs.Disk.{Disk, holders}
use Rattle.dht_invariant.specs.Remount.{NoDirAbove}

-- the bricks of a volume of these weights are new, and there is nothing where there is no brick
pub record AreNew (ws : List ℕ) (d : Disk) : Type 0 where
  pub contents : (b : ℕ) → b < d.count → d.brick b ≡ newborn (planned_value ws root b)
  pub no_dirs : NoDirAbove d
  pub no_locks : (b : ℕ) (key : Key) (c : ℕ) → d.count ≤ b → holders d b key c ≡ None
