use Rattle.std.proofs.Common.{◌+◌, sym, arith}
use Rattle.dht_section.proofs.SweepSteps.{first_past}
use Rattle.dht_section.proofs.sweep.Sweep.next_brick.Goals as goal

pub returns-else-self : goal.returns-else-self
returns-else-self c = sym (first_past c.args.self.now.location.bricks c.args.self.now.linktos (c.args.self.now.brick.0 + 1) (omega arith))
