use Rattle.std.proofs.Common.{◌≡◌}
use Rattle.std.specs.Prelude.{vec_len}
use Rattle.dht_run.proofs.PlaceLaws.{AreIdlePlaces}
use Rattle.dht_run.proofs.replay.new_clients.Given as goal

abbrev pub invariant-loop-number : goal.invariant-loop-number
invariant-loop-number l = record {
  count : vec_len l.clients ≡ l.number;
  idle : AreIdlePlaces 0 l.clients.items;
}
