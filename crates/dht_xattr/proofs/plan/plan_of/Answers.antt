use Rattle.std.proofs.Common.{◌≡◌, ℕ, List, length, ap, ◌∙◌}
use Rattle.std.specs.Prelude.{Option}
use Rattle.dht_xattr.specs.declared.range.Range.{Range}
use Rattle.dht_xattr.specs.Layout.{covers}
use Rattle.dht_xattr.specs.Plan.{planned}
use Rattle.dht_xattr.proofs.PlanLaws.{planned_length, planned_once}
use Rattle.dht_xattr.proofs.plan.plan_of.Goals as goal
use Rattle.dht_xattr.proofs.plan.plan_of.Goals.{After-deal}

plan_is : (c : After-deal) → c.deal.result ≡ planned c.args.weights.now c.args.dir
plan_is c = c.deal.ensures ∙ ap (λ (ws : List ℕ). planned ws c.args.dir) c.as_slice.ensures

pub returns-clause-once : goal.returns-clause-once
returns-clause-once c = λ heavy hash below.
    ap (λ (ranges : List (Option Range)). covers ranges hash) (plan_is c)
    ∙ planned_once c.args.weights.now c.args.dir hash heavy below

pub returns-clause-bricks : goal.returns-clause-bricks
returns-clause-bricks c = ap length (plan_is c) ∙ planned_length c.args.weights.now c.args.dir
