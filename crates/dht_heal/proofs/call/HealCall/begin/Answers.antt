use Rattle.dht_heal.proofs.call.HealCall.begin.Goals as goal
