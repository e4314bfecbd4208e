use Rattle.std.proofs.Common.{◌≡◌, ◌<◌, ℕ, length}
use Rattle.std.specs.Prelude.{slice_get}
use Rattle.dht_world.specs.Clients.{IsNewAt}
use Rattle.dht_world.proofs.remount.begin_anew.Given as goal

abbrev pub invariant-loop-number : goal.invariant-loop-number
invariant-loop-number g l = record {
  many : length l.clients.items ≡ 64;
  new : (c : ℕ) → c < l.number → IsNewAt g.C.Caller c (slice_get l.clients.items c);
}
