-- What new bricks have.
use Rattle.std.specs.Prelude.{ℕ, Bool, if◌then◌else◌, Option, None, List}
use Rattle.dht_types.specs.Gfid.{root}
use Rattle.dht_xattr.specs.Plan.{planned_value}

-- the attribute of the root on a new brick of this number: its planned range
-- if it is among the first bricks of a volume, and none if it comes later
abbrev pub first_value : Bool → List ℕ → ℕ → Option (List ℕ)
first_value first ws b = if first then planned_value ws root b else None
