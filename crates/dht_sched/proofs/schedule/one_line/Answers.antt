use Rattle.dht_sched.proofs.LineLemmas.{event_line}
use Rattle.dht_sched.proofs.schedule.one_line.Goals as goal

pub returns : goal.returns
returns c = event_line
