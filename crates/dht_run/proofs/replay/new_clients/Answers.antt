use Rattle.std.proofs.Common.{rules, sym, refl, subst, arith}
use Rattle.dht_run.proofs.PlaceLaws.{AreIdlePlaces, one_place_more, all_new}
use Rattle.dht_run.proofs.replay.new_clients.Goals as goal

pub loop-number-preserved : goal.loop-number-preserved
loop-number-preserved c = record {
  count = search rules;
  idle = subst (AreIdlePlaces 0) (sym c.in_ok-push.ensures.items)
      (one_place_more 0 c.loop-number.number c.loop-number.clients.items _ c.loop-number.invariant.idle (omega (arith, c.loop-number.invariant.count, c.loop-number.clients.ok.0)) (c.new.ensures.number, c.new.ensures.idle, refl, c.new.ensures.unread));
}

pub returns-clause-idle : goal.returns-clause-idle
returns-clause-idle c = all_new c.loop-number.clients.items c.loop-number.invariant.idle
