use Rattle.std.proofs.Common.{◌≡◌, ℕ, List, true, None, ◌∙◌, sym, ap, length}
use Rattle.dht_types.specs.Volume.{is_count, late_fault_of}
use Rattle.dht_types.proofs.VolumeLemmas.{IsVolume-replay_fault_of, no_fault, no_replay_fault}
use Rattle.dht_types.proofs.volumes.Volume.replay.Goals as goal

pub invariant_of-result : goal.invariant_of-result
invariant_of-result c =
    let count : is_count (length c.args.weights.now) ≡ true =
    ap (λ (weights : List ℕ). is_count (length weights)) (sym c.as_slice-count.ensures) ∙ sym c.is_count.ensures ∙ c.if-not-is_count.false in
    let late : late_fault_of c.args.weights.now c.args.run ≡ None =
    no_fault c.check_weights_and_run.result c.in_ok-check_weights_and_run.field-0 (late_fault_of c.args.weights.now c.args.run)
    (c.check_weights_and_run.ensures ∙ ap (λ (weights : List ℕ). late_fault_of weights c.args.run) c.as_slice.ensures)
    c.in_ok-check_weights_and_run.was in
    rw (c.in_ok-replay_names.ensures, c.in_ok-copied.ensures, c.as_slice-count.ensures)
    (IsVolume-replay_fault_of c.args.weights.now c.args.run (no_replay_fault c.args.weights.now c.args.run count late))
