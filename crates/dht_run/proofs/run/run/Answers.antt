use Rattle.std.proofs.Common.{rules}
use Rattle.dht_membrick.specs.State.{mem_state}
use Rattle.dht_run.specs.Replay.{StopsAtLine}
use Rattle.dht_run.proofs.WholeLaws.{not_at_line}
use Rattle.dht_run.proofs.run.run.Goals as goal

pub returns-clause-complete : goal.returns-clause-complete
returns-clause-complete g c = λ is_replay whole q.
    let stops : StopsAtLine mem_state c.obey.new.shelf.mem.items (g.S.Source.left c.args.source.now) (g.K.Sink.taken c.args.sink.now) (g.K.Sink.taken c.obey.new.sink) = search rules in
    not_at_line mem_state c.obey.new.shelf.mem.items _ _ _ whole.events c.one_line.ensures whole.some whole.schedule whole.limit whole.is stops
