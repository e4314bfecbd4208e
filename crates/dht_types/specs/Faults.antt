-- Counts of faults, which stop at 2^64 - 1.
use Rattle.std.specs.Prelude.{ℕ, ◌-◌, ◌^◌, ◌<◌, ◌≤◌, ◌⊎◌}

-- the count rose, or stands where it stops
abbrev pub HasFault : ℕ → ℕ → Type 0
HasFault old new = (old < new) ⊎ (2 ^ 64 - 1 ≤ new)
