use Rattle.std.proofs.Common.{◌≡◌, ◌∙◌, sym, Ok, Err}
use Rattle.dht_world.specs.declared.stop.Stop.TheVariants.{Limit}
use Rattle.std.proofs.lemmas.Result.{on_ok_weaker}
use Rattle.dht_run.proofs.CarryLaws.{event_wrote}
use Rattle.dht_run.proofs.replay.carry_out.Goals as goal

pub returns-in-Ok-clause-ok : goal.returns-in-Ok-clause-ok
returns-in-Ok-clause-ok g c = on_ok_weaker c.write.result (λ told. λ past at.
    event_wrote g.B.Brick g.C.Caller c.args.world.now c.happen.new.world c.args.line c.args.event.now past _ c.happen.new.out.items (g.K.Sink.taken c.args.sink.now) (g.K.Sink.taken c.write.new.sink)
    c.clear.ensures.items (c.in-Ok.ensures.ok past at)
    (λ spent. let z : Ok c.in-Ok.field-0 ≡ Err Limit = sym c.in-Ok.is ∙ (c.happen.ensures.limit past at).1 spent in cc) told) c.write.ensures.written.whole
