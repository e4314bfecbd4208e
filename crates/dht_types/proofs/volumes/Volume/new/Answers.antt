use Rattle.std.proofs.Common.{◌≡◌, ◌∙◌}
use Rattle.dht_types.proofs.VolumeLemmas.{IsVolume-fault_of, no_fault}
use Rattle.dht_types.proofs.volumes.Volume.new.Goals as goal

pub invariant_of-result : goal.invariant_of-result
invariant_of-result c =
    let weights : c.new.result ≡ c.args.weights.now = c.new.ensures ∙ c.in_ok-from_slice.ensures.items in
    rw (c.in_ok-copied.ensures, weights) (IsVolume-fault_of (record { names = c.args.names.now; weights = c.args.weights.now; run = c.args.run }) (no_fault c.check.result c.in_ok-check.field-0 _ c.check.ensures c.in_ok-check.was))
