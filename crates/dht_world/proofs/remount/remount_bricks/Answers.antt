use Rattle.std.proofs.Common.{◌≡◌, ◌<◌, ◌+◌, ℕ, suc, refl, sym, ap, subst, ◌∙◌, length, arith}
use Rattle.std.specs.Prelude.{map, slice_set}
use Rattle.std.proofs.Math.ListN.{length-set}
use Rattle.dht_types.specs.Volume.{VolumeInfo}
use Rattle.dht_types.proofs.VolumeLemmas.{length-replay_names}
use Rattle.dht_world.specs.Bricks.{remounted_in, SomeBecame}
use Rattle.dht_world.proofs.BrickLaws.{first_mapped, none_mapped, one_mapped, all_mapped, some_mapped, length_mapped, next_ready, same_states_at}
use Rattle.dht_world.proofs.remount.remount_bricks.Goals as goal

pub loop-number-init : goal.loop-number-init
loop-number-init g c = record { many = refl; mounted = none_mapped (remounted_in c.args.volume.now) (map g.B.Brick.state c.args.bricks.now.items) }

pub remount-requires-clause-here : goal.remount-requires-clause-here
remount-requires-clause-here g c =
    let known = c.requires.ready in
    let grown = c.requires.grown in
    let items = c.loop-number.bricks.items in
    let many = c.loop-number.invariant.many in
    let within : c.loop-number.number < length items = (let below = c.loop-number-test.true in omega (arith, c.args.bricks.now.ok.0)) in
    let ready = next_ready (remounted_in c.args.volume.now) g.B.Brick.state known.0 known.1 known.2 c.args.bricks.now.items items c.loop-number.number c.index_mut.result.now within c.index_mut.ensures.value c.loop-number.invariant.mounted known.3 in
    let number = ready.number in
    omega (arith, c.args.bricks.now.ok.0)

pub remount-requires-clause-grown : goal.remount-requires-clause-grown
remount-requires-clause-grown g c =
    let known = c.requires.ready in
    let grown = c.requires.grown in
    let items = c.loop-number.bricks.items in
    let many = c.loop-number.invariant.many in
    let within : c.loop-number.number < length items = (let below = c.loop-number-test.true in omega (arith, c.args.bricks.now.ok.0)) in
    let ready = next_ready (remounted_in c.args.volume.now) g.B.Brick.state known.0 known.1 known.2 c.args.bricks.now.items items c.loop-number.number c.index_mut.result.now within c.index_mut.ensures.value c.loop-number.invariant.mounted known.3 in
    let names : length (g.B.Brick.state c.index_mut.result.now).volume.names ≡ length c.args.bricks.now.items = ap (λ (v : VolumeInfo). length v.names) ready.volume ∙ length-replay_names (length c.args.bricks.now.items) in
    omega (arith, c.args.bricks.now.ok.0)

pub returns-in_err-remount-clause-some : goal.returns-in_err-remount-clause-some
returns-in_err-remount-clause-some g c =
    let f = remounted_in c.args.volume.now in
    let olds = map g.B.Brick.state c.args.bricks.now.items in
    subst (SomeBecame f olds) (sym (same_states_at g.B.Brick.state c.loop-number.bricks.items c.loop-number.number c.index_mut.result.now c.remount.new.self c.index_mut.ensures.value c.in_err-remount.ensures.err ∙ c.loop-number.invariant.mounted)) (some_mapped f c.loop-number.number olds)

pub loop-number-preserved : goal.loop-number-preserved
loop-number-preserved g c =
    let f = remounted_in c.args.volume.now in
    let olds = map g.B.Brick.state c.args.bricks.now.items in
    let items = c.loop-number.bricks.items in
    let many = c.loop-number.invariant.many in
    let within : c.loop-number.number < length items = (let below = c.loop-number-test.true in omega (arith, c.args.bricks.now.ok.0)) in
    let next : suc c.loop-number.number ≡ c.loop-number.number + 1 = omega arith in
    record {
      many = length-set items c.loop-number.number c.remount.new.self ∙ many;
      mounted = subst (λ (n : ℕ). map g.B.Brick.state (slice_set items c.loop-number.number c.remount.new.self) ≡ first_mapped f n olds) next
          (one_mapped f g.B.Brick.state olds items c.loop-number.number c.index_mut.result.now c.remount.new.self within c.index_mut.ensures.value c.in_ok-remount.ensures.ok c.loop-number.invariant.mounted);
    }

pub returns-clause-ok : goal.returns-clause-ok
returns-clause-ok g c =
    let states = length_mapped g.B.Brick.state c.args.bricks.now.items in
    let end = c.loop-number-test.false in
    c.loop-number.invariant.mounted ∙ all_mapped (remounted_in c.args.volume.now) c.loop-number.number (map g.B.Brick.state c.args.bricks.now.items) (omega (arith, c.args.bricks.now.ok.0))

pub returns-clause-some : goal.returns-clause-some
returns-clause-some g c =
    let f = remounted_in c.args.volume.now in
    let olds = map g.B.Brick.state c.args.bricks.now.items in
    subst (SomeBecame f olds) (sym c.loop-number.invariant.mounted) (some_mapped f c.loop-number.number olds)
