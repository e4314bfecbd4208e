use Rattle.std.proofs.Common.{ℕ, ◌<◌, ◌≡◌, false}
use Rattle.std.specs.Str.{bytes_eq}
use Rattle.dht_types.specs.Volume.{replay_name}
use Rattle.dht_xattr.proofs.linkto.linkto_brick_of.Given as goal

abbrev pub invariant-loop-brick : goal.invariant-loop-brick
invariant-loop-brick l = (k : ℕ) → k < l.brick → bytes_eq (replay_name k) l.name ≡ false
