use Rattle.std.proofs.Common.{refl, arith}
use Rattle.dht_hash.specs.DaviesMeyer.{encrypt}
use Rattle.dht_hash.proofs.Cycles.{encrypt-more}
use Rattle.dht_hash.proofs.cipher.State.encrypt.Goals as goal

pub cycles-init : goal.cycles-init
unfolding encrypt
cycles-init c = record { sum = refl; state = refl }

pub cycles-preserved : goal.cycles-preserved
cycles-preserved c = record {
  sum = omega arith;
  state = let more = encrypt-more c.args.key.now c.cycles.counter c.cycles.sum c.args.self c.cycles.invariant.sum in cc;
}
