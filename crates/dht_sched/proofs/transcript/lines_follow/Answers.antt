use Rattle.dht_sched.proofs.PrintLemmas.{lines_text-push, dump_lines_text-push}
use Rattle.dht_sched.proofs.transcript.lines_follow.Goals as goal

pub returns-clause-lines : goal.returns-clause-lines
returns-clause-lines c = lines_text-push

pub returns-clause-dump : goal.returns-clause-dump
returns-clause-dump c = dump_lines_text-push
