use Rattle.dht_run.proofs.CommandLaws.{printed_whole}
use Rattle.dht_run.proofs.commands.write_text.Goals as goal

pub returns-in-Ok-clause-printed : goal.returns-in-Ok-clause-printed
returns-in-Ok-clause-printed g c = printed_whole c.args.text.now _ _ c.in-Ok.ensures.ok
