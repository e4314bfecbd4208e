use Rattle.std.proofs.Common.{◌≡◌, length, arith, refl, sym, ◌∙◌}
use Rattle.std.proofs.lemmas.List.{length-set}
use Rattle.dht_xattr.specs.Plan.{order}
use Rattle.dht_xattr.proofs.OrderLaws.{order_apart}
use Rattle.dht_xattr.proofs.PlanLemmas.{placed_weighs, placed_within, AreDealt-none, AreDealt-more, AreDealt-planned, Step, step_at, order_size, next_range}
use Rattle.dht_xattr.proofs.plan.deal.Goals as goal
use Rattle.dht_xattr.proofs.plan.deal.Goals.{After-share-count, After-new}

pub loop-place-init : goal.loop-place-init
loop-place-init c = record {
  first = refl;
  size = refl;
  dealt = AreDealt-none c.args.weights.now (order c.args.weights.now c.args.dir);
}

-- what is known of the brick whose turn it is
step :
    (c : After-share-count)
    → Step c.args.weights.now c.args.dir c.order-order.result.bricks c.order-order.result.count
    c.loop-place.place c.loop-place.first c.share-count.result
step c = step_at c.args.weights.now c.args.dir c.order-order.result.bricks c.order-order.result.count c.loop-place.place c.loop-place.first c.share-count.result c.requires c.order-order.ensures.order (omega arith) c.loop-place-test.true c.loop-place.invariant.first c.share-count.ensures

pub share-count-requires-clause-positive : goal.share-count-requires-clause-positive
share-count-requires-clause-positive c =
    let weighs = placed_weighs c.args.weights.now c.args.dir c.order-order.result.bricks c.order-order.result.count c.loop-place.place c.order-order.ensures.order (omega arith) c.loop-place-test.true in
    omega arith

pub share-count-requires-clause-brick : goal.share-count-requires-clause-brick
share-count-requires-clause-brick c =
    placed_within c.args.weights.now c.args.dir c.order-order.result.bricks c.order-order.result.count c.loop-place.place c.order-order.ensures.order (omega arith) c.loop-place-test.true

pub range_from-requires : goal.range_from-requires
range_from-requires c = let most = (step (goal.at.range_from-requires c).After-share-count).most in omega arith

pub bounds-ranges-from : goal.bounds-ranges-from
bounds-ranges-from c = let small = (step (goal.at.bounds-ranges-from c).After-share-count).small in omega arith

pub overflow_add-first : goal.overflow_add-first
overflow_add-first c = let most = (step (goal.at.overflow_add-first c).After-share-count).most in omega arith

pub loop-place-preserved : goal.loop-place-preserved
loop-place-preserved c =
    let ws = c.args.weights.now in
    let os = order ws c.args.dir in
    let place = c.loop-place.place in
    let known = step (goal.at.loop-place-preserved c).After-share-count in
    let size = known.size in
    let range = next_range ws os place c.order-order.result.count c.loop-place.first c.share-count.result c.range_from.result known.size c.loop-place.invariant.first known.share c.range_from.ensures in
    record {
      first = known.next;
      size = length-set c.loop-place.ranges c.from.result c.range_from.result ∙ c.loop-place.invariant.size;
      dealt = AreDealt-more ws os place c.from.result c.range_from.result c.loop-place.ranges (order_apart ws c.args.dir) (omega arith) (known.brick ∙ sym c.from.ensures) range c.loop-place.invariant.dealt;
    }

pub returns : goal.returns
returns c =
    let ws = c.args.weights.now in
    let size : length (order ws c.args.dir) ≡ c.order-order.result.count = order_size (order ws c.args.dir) c.order-order.result.bricks c.order-order.result.count c.order-order.ensures.order (omega arith) in
    c.new.ensures ∙ AreDealt-planned ws c.args.dir c.loop-place.place (length ws) c.loop-place.ranges refl (omega arith) (omega arith) c.loop-place.invariant.dealt
