use Rattle.std.proofs.Common.{◌≡◌, ◌*◌, ◌%◌, ◌^◌}
use Rattle.dht_hash.specs.DaviesMeyer.{encrypt}
use Rattle.dht_hash.proofs.cipher.State.encrypt.Given as goal

abbrev pub invariant-cycles : goal.invariant-cycles
invariant-cycles l = record {
  sum : l.sum ≡ l.counter * 0x9e3779b9 % 2 ^ 32;
  state : l.state ≡ encrypt l.key l.counter l.fn.self;
}
