use Rattle.std.proofs.Common.{◌∙◌, ap, subst, sym, List}
use Rattle.std.specs.Prelude.{All, IfSome, Option}
use Rattle.dht_types.specs.Gfid.{root}
use Rattle.dht_types.specs.Volume.{VolumeInfo}
use Rattle.dht_xattr.specs.Plan.{IsPlanned, planned}
use Rattle.dht_xattr.proofs.PlanLaws.{planned_valid}
use Rattle.dht_xattr.specs.declared.range.Range.{Range}
use Rattle.dht_run.proofs.layouts.root_layout.Goals as goal

pub returns-in-Ok-clause-valid : goal.returns-in-Ok-clause-valid
returns-in-Ok-clause-valid c =
    subst (λ (ranges : List (Option Range)). All (λ range. IfSome range IsPlanned) ranges)
    (sym (c.plan.ensures.planned ∙ ap (λ (v : VolumeInfo). planned v.weights root) c.in-Ok.ensures.volume))
    (planned_valid c.args.weights.now root c.requires.volume.heavy)
