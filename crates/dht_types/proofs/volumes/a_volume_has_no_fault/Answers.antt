use Rattle.dht_types.proofs.VolumeLemmas.{IsVolume-fault_of, fault_of-IsVolume}
use Rattle.dht_types.proofs.volumes.a_volume_has_no_fault.Goals as goal

pub returns : goal.returns
returns c = λ v. (IsVolume-fault_of v, fault_of-IsVolume v)
