-- How many steps a call takes at most, over so many bricks, where it is alone.
use Rattle.std.specs.Prelude.{ℕ, ◌+◌, ◌*◌}
use Rattle.dht_types.specs.declared.identifiers.Gfid.{Gfid}
use Rattle.dht_types.specs.declared.calls.Call.{Call}
use Rattle.dht_types.specs.declared.calls.Call.TheVariants.{Lookup, Create, Mkdir, Unlink, Rmdir, Heal}

-- one heal of a directory and of those above it
abbrev pub heal_cost : ℕ → ℕ
heal_cost n = 260 * n + 200

abbrev pub cost : ℕ → Call Gfid → ℕ
cost n (Lookup d m) = 2 * n + 10
cost n (Create d m) = 3 * n + 16 + heal_cost n
cost n (Mkdir d m) = 4 * n + 16 + heal_cost n
cost n (Unlink d m) = 2 * n + 10
cost n (Rmdir d m) = 5 * n + 20
cost n (Heal d) = heal_cost n
