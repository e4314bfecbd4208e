-- What the commands print that read nothing.
use Rattle.std.specs.Prelude.{ℕ, ◌+◌, ◌≡◌, ◌⊎◌, Option, List, [], ◌∷◌, ◌++◌}
use Rattle.std.specs.List.{flat_map}
use Rattle.dht_types.specs.Gfid.{root}
use Rattle.dht_hash.specs.DaviesMeyer.{dm}
use Rattle.dht_xattr.specs.Plan.{planned}
use Rattle.dht_xattr.specs.declared.range.Range.{Range}
use Rattle.dht_sched.specs.Commands.{hash_line, range_line}
use Rattle.dht_xattr.specs.Plan.{value_of}
use Rattle.dht_run.specs.Outside.{after_told}
use Rattle.dht_run.specs.Written.{TakesPrefix}

-- the hash of each name, a line each
unfoldable pub hash_text : List (List ℕ) → List ℕ
hash_text names = flat_map (λ name. hash_line (dm name) name) names

-- the ranges of bricks, a line each, where the first brick has this number
abbrev pub ranges_text : ℕ → List (Option Range) → List ℕ
ranges_text b [] = []
ranges_text b (range ∷ ranges) = range_line b (value_of range) ++ ranges_text (b + 1) ranges

-- the planned range of each brick for the root directory of a volume of these weights
unfoldable pub layout_text : List ℕ → List ℕ
layout_text weights = ranges_text 0 (planned weights root)

-- how a command that prints a text ends: at status 0
-- the text was written, and at 5 and 6 a prefix of it
pub record IsPrinted (text : List ℕ) (before taken : Option (List ℕ)) (status : ℕ) : Type 0 where
  pub ends : (status ≡ 0) ⊎ ((status ≡ 5) ⊎ (status ≡ 6))
  pub whole : status ≡ 0 → taken ≡ after_told before text
  pub prefix : TakesPrefix before text taken
