use Rattle.std.proofs.Common.{ap, length, arith}
use Rattle.dht_sched.proofs.LineLemmas.{no_bricks}
use Rattle.dht_sched.proofs.schedule.read_bricks.Goals as goal
use Rattle.dht_sched.proofs.schedule.read_bricks.Goals.{then-bricks-as_slice-via-then-bricks-as_slice, then-bricks-as_slice-via-else-bricks-as_slice+then-not-is_volume}

pub returns-then-bricks-as_slice : goal.returns-then-bricks-as_slice
returns-then-bricks-as_slice c =
    let weights = c.in_ok-weights.weights in
    let number = c.in-Some-number.ensures in
    let given = c.in_ok-weights.ensures in
    let size = ap length c.as_slice.ensures in
    no_bricks c.args.words c.next.new.self c.in-Some-number.bricks c.in-Some.word.now weights c.in-Some.ensures.steps number.0 number.1 given.0 given.1
    (elim c.then-bricks-as_slice.branch [
      | then-bricks-as_slice-via-then-bricks-as_slice w ↦ (λ same shape. let other = w.if-bricks-as_slice.true in omega arith)
      | then-bricks-as_slice-via-else-bricks-as_slice+then-not-is_volume w ↦ (λ same shape. let other = w.if-not-is_volume.true in let says = rw w.as_slice-else-bricks-as_slice.ensures at w.is_volume.ensures in cc (other, says.1 shape))
    ])
