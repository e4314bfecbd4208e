use Rattle.std.proofs.Common.{◌≤◌, ◌+◌, ◌-◌, ℕ, List}
use Rattle.std.specs.Prelude.{Option}
use Rattle.dht_run.specs.SoFar.{SoFar}
use Rattle.dht_run.specs.declared.line_reader.TheConstants.{INPUT_LIMIT}
use Rattle.dht_run.proofs.replay.go_on.Given as goal

abbrev pub invariant-events : goal.invariant-events
invariant-events g l = record {
  some : (text before : Option (List ℕ)) × SoFar g.B.Brick g.C.Caller l.world l.count l.reader text (g.S.Source.left l.source) before (g.K.Sink.taken l.sink);
  each : (text before : Option (List ℕ)) → SoFar g.B.Brick g.C.Caller l.fn.world l.fn.count l.fn.reader text (g.S.Source.left l.fn.source) before (g.K.Sink.taken l.fn.sink) → SoFar g.B.Brick g.C.Caller l.world l.count l.reader text (g.S.Source.left l.source) before (g.K.Sink.taken l.sink);
  source : g.S.Source.faults l.fn.source ≤ g.S.Source.faults l.source;
  sink : g.K.Sink.faults l.fn.sink ≤ g.K.Sink.faults l.sink;
}

abbrev pub decreases-events : goal.decreases-events
decreases-events g l = INPUT_LIMIT + 1 - l.reader.cut
