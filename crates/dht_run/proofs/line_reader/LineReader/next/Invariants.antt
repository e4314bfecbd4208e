use Rattle.std.proofs.Common.{◌≡◌, ◌+◌, ◌-◌, ◌≤◌, [], length, Contains, is_some}
use Rattle.dht_run.specs.LineReader.{input_of}
use Rattle.dht_run.proofs.line_reader.LineReader.next.Given as goal

-- Nothing is cut off yet; where a newline was held from the beginning, nothing was read either.
abbrev pub invariant-loop-len : goal.invariant-loop-len
invariant-loop-len g l = record {
  line : l.self.line ≡ [];
  cut : l.self.cut ≡ l.fn.self.cut;
  input : input_of l.self (g.S.Source.left l.source) ≡ input_of l.fn.self (g.S.Source.left l.fn.source);
  unasked : Contains l.fn.self.pending 10 → (l.source ≡ l.fn.source) × (l.self.pending ≡ l.fn.self.pending);
  bounded : l.self.cut + length l.self.pending ≤ 16777217;
  faults : g.S.Source.faults l.fn.source ≤ g.S.Source.faults l.source;
  tells : is_some (g.S.Source.left l.source) ≡ is_some (g.S.Source.left l.fn.source);
}

abbrev pub decreases-loop-len : goal.decreases-loop-len
decreases-loop-len g l = 16777217 - length l.self.pending
