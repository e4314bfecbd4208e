use Rattle.std.proofs.Common.{◌≡◌, inr, ap, Result, Ok, Err}
use Rattle.std.specs.Prelude.{IsErrAnd}
use Rattle.dht_brick.proofs.ResultLemmas.{on_err}
use Rattle.dht_world.specs.declared.stop.Stop.{Stop}
use Rattle.dht_world.specs.declared.stop.Stop.TheVariants.{OutOfMemory}
use Rattle.dht_run.proofs.replay.happen.Goals as goal

is_out : (r : Result (Unit {0}) Stop) → IsErrAnd r (λ e. e ≡ OutOfMemory) → r ≡ Err OutOfMemory
is_out (Ok x) h = absurd h
is_out (Err e) h = ap (λ (x : Stop). Err x) h

pub returns-in_err-remount-in-Remount-clause-err : goal.returns-in_err-remount-in-Remount-clause-err
returns-in_err-remount-in-Remount-clause-err g c = on_err c.from_residual-in_err-remount-in-Remount.result (λ past at. inr (
  is_out c.from_residual-in_err-remount-in-Remount.result c.from_residual-in_err-remount-in-Remount.ensures.1,
  record {
    weights = c.in-Remount.weights;
    is = c.in-Remount.is;
    remounting = c.in_err-remount-in-Remount.ensures.err past at;
  },
))
