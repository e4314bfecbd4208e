use Rattle.std.proofs.Common.{rules, ◌≡◌, ◌++◌, ap, ◌∙◌, get_or}
use Rattle.std.specs.Prelude.{None}
use Rattle.dht_sched.specs.Commands.{range_line}
use Rattle.dht_xattr.specs.Plan.{value_of}
use Rattle.dht_run.proofs.CommandLaws.{one_range_more}
use Rattle.dht_run.proofs.commands.ranges.Goals as goal

pub loop-brick-preserved : goal.loop-brick-preserved
loop-brick-preserved c =
    let value : c.in_ok-value.value ≡ value_of (get_or c.args.layout.now c.loop-brick.brick None) = search rules in
    one_range_more c.loop-brick.text.items _ c.args.layout.now c.loop-brick.brick None (search rules) c.loop-brick.invariant
    (c.in_ok-print_range.ensures.ok ∙ ap (λ v. c.loop-brick.text.items ++ range_line c.loop-brick.brick v) value)
