use Rattle.std.proofs.Common.{◌≡◌, ◌/◌, length}
use Rattle.dht_hash.specs.DaviesMeyer.{absorb_all}
use Rattle.dht_hash.proofs.dm_hash.Given as goal

abbrev pub invariant-loop-bytes : goal.invariant-loop-bytes
invariant-loop-bytes l =
    absorb_all l.pad (length l.rest / 16) l.rest l.state ≡ absorb_all l.pad (length l.name / 16) l.name l.initial.state

abbrev pub decreases-loop-bytes : goal.decreases-loop-bytes
decreases-loop-bytes l = length l.rest
