use Rattle.std.proofs.Common.{add-one, refl}
use Rattle.dht_types.specs.Volume.{replay_names}
use Rattle.dht_types.proofs.volumes.replay_names.Goals as goal

pub loop-brick-init : goal.loop-brick-init
unfolding replay_names
loop-brick-init c = c.in_ok-names.ensures.items

pub loop-brick-preserved : goal.loop-brick-preserved
unfolding replay_names
loop-brick-preserved c = rw (add-one, c.in_ok-push.ensures.items, c.loop-brick.invariant, c.in_ok-replay_name.ensures) refl
