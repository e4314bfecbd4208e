use Rattle.dht_sched.specs.Transcript.{line_text}
use Rattle.dht_sched.proofs.transcript.print_tree.Goals as goal

pub returns-in-RemoveFile-clause-ok : goal.returns-in-RemoveFile-clause-ok
unfolding line_text
returns-in-RemoveFile-clause-ok c = rw c.in-RemoveFile.is (rw c.as_bytes-in-RemoveFile.ensures at c.print_fields-in-RemoveFile.ensures.ok)
