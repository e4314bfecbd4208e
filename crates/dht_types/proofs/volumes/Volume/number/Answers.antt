use Rattle.std.proofs.Common.{sym}
use Rattle.dht_types.proofs.VolumeLemmas.{place_holds}
use Rattle.dht_types.proofs.volumes.Volume.number.Goals as goal

pub returns-clause-some : goal.returns-clause-some
returns-clause-some c =
    rw (sym c.self.view_is, sym c.deref.ensures.value) (place_holds c.deref.result.now c.args.name.now c.in_ok-place.place (sym c.in_ok-place.ensures.place))
