use Rattle.std.proofs.Common.{◌+◌, ◌≤◌, drop, arith}
use Rattle.std.proofs.lemmas.List.{length-take}
use Rattle.dht_run.proofs.HeldBytes.{held_after}
use Rattle.dht_run.proofs.line_reader.LineReader.cut_line.Goals as goal

pub returns-clause-pending : goal.returns-clause-pending
returns-clause-pending c =
    let r = c.self.inside in
    let held : c.args.len + 1 ≤ r.held = omega (arith, c.requires.held, rw (← c.self.view_is) at c.requires.held, length-take r.held (drop r.start r.buffer.items)) in
    rw (← c.self.view_is) (held_after r.buffer.items r.start r.held (c.args.len + 1) held)
