use Rattle.std.proofs.Common.{◌++◌, [], ap, ◌∙◌}
use Rattle.dht_hash.specs.DaviesMeyer.{dm}
use Rattle.dht_sched.specs.Commands.{hash_line}
use Rattle.dht_run.specs.Commands.{hash_text}
use Rattle.dht_run.proofs.PrintLaws.{one_more}
use Rattle.dht_run.proofs.commands.hashes.Goals as goal

pub loop-name-init : goal.loop-name-init
unfolding hash_text
loop-name-init c = c.new-text.ensures.items

pub loop-name-preserved : goal.loop-name-preserved
unfolding hash_text
loop-name-preserved c =
    let name = c.as_bytes-bytes.ensures ∙ c.name-item.is in
    let told = c.in_ok-print_hash.ensures.ok
    ∙ (ap (λ h. c.loop-name.text.items ++ hash_line h c.as_bytes-bytes.result.now) c.dm_hash.ensures
    ∙ ap (λ n. c.loop-name.text.items ++ hash_line (dm n) n) name) in
    one_more (λ n. hash_line (dm n) n) [] c.loop-name.text.items _ c.args.names.now c.loop-name.name-index c.name-item.result c.loop-name-test.true c.loop-name.invariant told
