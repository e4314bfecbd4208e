use Rattle.std.proofs.Common.{rules, ◌≡◌, sym, subst, inl}
use Rattle.dht_membrick.specs.State.{mem_state}
use Rattle.dht_run.specs.NextEvent.{CutsVolume}
use Rattle.dht_run.specs.Replay.{EndsAs}
use Rattle.dht_run.proofs.StartLaws.{nothing_done}
use Rattle.dht_run.proofs.replay.replay_volume.Goals as goal

pub returns-in_default-clause-ends : goal.returns-in_default-clause-ends
returns-in_default-clause-ends g c = λ text first. inl (nothing_done mem_state c.args.bricks.now.items text _ c.requires.empty)

pub returns-in_default-copied-clause-ends : goal.returns-in_default-copied-clause-ends
returns-in_default-copied-clause-ends g c = λ text first. inl (nothing_done mem_state c.args.bricks.now.items text _ c.requires.empty)

pub returns-clause-ends : goal.returns-clause-ends
returns-clause-ends g c = λ text first.
    let shown : c.in-Ok-copied.shown ≡ c.args.weights = search rules in
    let bricks : c.play-ending.new.world.bricks.items ≡ c.into_bricks.result.items = search rules in
    subst (λ bs. EndsAs mem_state bs text (g.S.Source.left c.play-ending.new.source) (g.K.Sink.taken c.args.sink.now) (g.K.Sink.taken c.play-ending.new.sink) c.play-ending.result) bricks
    (c.play-ending.ensures.ends text (subst (CutsVolume c.args.reader.now text (g.S.Source.left c.args.source.now)) (sym shown) first))

pub returns-in_default-new_clients-clause-ends : goal.returns-in_default-new_clients-clause-ends
returns-in_default-new_clients-clause-ends g c = λ text first. inl (nothing_done mem_state c.args.bricks.now.items text _ c.requires.empty)
