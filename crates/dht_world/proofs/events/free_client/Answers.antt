use Rattle.std.proofs.Common.{◌≡◌, ap, sym, subst, ◌∙◌, length, arith, take, drop, ◌++◌, ℕ, suc, ◌+◌, ◌≤◌, ◌<◌}
use Rattle.std.specs.Prelude.{map, slice_set}
use Rattle.std.proofs.Math.Seq.{take-append_seam}
use Rattle.dht_world.specs.Bricks.{without_client}
use Rattle.dht_world.proofs.BrickLaws.{first_mapped, none_mapped, all_mapped, one_mapped, length_mapped}
use Rattle.dht_world.proofs.events.free_client.Goals as goal

pub loop-brick-init : goal.loop-brick-init
loop-brick-init g c = ap (map g.B.Brick.state) c.deref_mut-brick-items.ensures.value ∙ none_mapped (without_client c.args.client.0) (map g.B.Brick.state c.args.bricks.now.items)

pub returns : goal.returns
returns g c =
    let old = c.args.bricks.now.items in
    let items = c.loop-brick.brick-items in
    let was : length c.deref_mut-brick-items.result.now ≡ length old = ap length c.deref_mut-brick-items.ensures.value in
    let many : length items ≡ length c.deref_mut-brick-items.result.now = c.loop-brick.auto.brick-items in
    let len : c.args.bricks.now.len ≡ length items = omega (arith, c.args.bricks.now.ok.0) in
    let last : length (map g.B.Brick.state old) ≤ c.loop-brick.brick-index = (let states = length_mapped g.B.Brick.state old in let end = c.loop-brick-test.false in omega arith) in
    ap (map g.B.Brick.state) (ap (λ (n : ℕ). take n (items ++ drop (length items) old)) len ∙ take-append_seam items (drop (length items) old))
    ∙ (c.loop-brick.invariant ∙ all_mapped (without_client c.args.client.0) c.loop-brick.brick-index (map g.B.Brick.state old) last)

pub loop-brick-preserved : goal.loop-brick-preserved
loop-brick-preserved g c =
    let items = c.loop-brick.brick-items in
    let many : length items ≡ length c.deref_mut-brick-items.result.now = c.loop-brick.auto.brick-items in
    let within : c.loop-brick.brick-index < length items = (let below = c.loop-brick-test.true in omega arith) in
    let next : suc c.loop-brick.brick-index ≡ c.loop-brick.brick-index + 1 = omega arith in
    subst (λ (n : ℕ). map g.B.Brick.state (slice_set items c.loop-brick.brick-index c.free_client.new.self) ≡ first_mapped (without_client c.args.client.0) n (map g.B.Brick.state c.args.bricks.now.items)) next
    (one_mapped (without_client c.args.client.0) g.B.Brick.state (map g.B.Brick.state c.args.bricks.now.items) items c.loop-brick.brick-index c.brick-item.result c.free_client.new.self within c.brick-item.is
    (c.free_client.ensures ∙ ap (λ x. without_client c.args.client.0 (g.B.Brick.state x)) (sym c.brick-item.is)) c.loop-brick.invariant)
