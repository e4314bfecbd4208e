-- The invariant of one lock.
use Rattle.std.specs.Prelude.{ℕ, ◌<◌, ◌≡◌, Option, Some}
use Rattle.dht_types.specs.declared.locks.Key.{Key}
use Rattle.dht_types.specs.declared.locks.Mode.{Mode}
use Rattle.dht_types.specs.declared.locks.Mode.TheVariants.{Exclusive}
use Rattle.dht_section.specs.Claims.{Claim, Listed}

-- who holds it alone is its one holder, and each
-- holder's program claims it and has a number of 16 bits
pub record LockInvariant (b : ℕ) (key : Key) (holds : ℕ → Option Mode) (claims : ℕ → Claim)
    : Type 0 where
  pub alone : (c e : ℕ) (m : Mode) → holds c ≡ Some Exclusive → holds e ≡ Some m → e ≡ c
  pub claimed : (c : ℕ) (m : Mode) → holds c ≡ Some m → Listed (claims c).locks b key
  pub low : (c : ℕ) (m : Mode) → holds c ≡ Some m → c < 65536
