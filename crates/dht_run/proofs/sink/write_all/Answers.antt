use Rattle.std.proofs.Common.{rules}
use Rattle.std.proofs.lemmas.List.{take_rest}
use Rattle.dht_run.proofs.Told.{took_more}
use Rattle.dht_run.proofs.sink.write_all.Goals as goal

pub loop-done-preserved : goal.loop-done-preserved
loop-done-preserved g c = record {
  within = search rules;
  taken = took_more _ _ _ c.args.bytes.now _ c.loop-done.done c.in-Bytes.count c.loop-done.invariant.taken (take_rest c.args.bytes.now c.loop-done.done) c.in-Bytes.ensures.takes;
  faults = search rules;
}
