use Rattle.std.proofs.Common.{◌≡◌, ◌∙◌, ap, sym, subst}
use Rattle.dht_heal.proofs.HealBeginning.{begin_knows, begin_dir}
use Rattle.dht_heal.specs.Heal.{heal_dir, heal_on, heal_stage}
use Rattle.dht_heal.specs.declared.heal.Heal.{Heal}
use Rattle.dht_heal.specs.declared.room.HealRoom.{HealRoom}
use Rattle.dht_heal.proofs.heal.Heal.begin.Goals as goal

pub returns-clause-knows : goal.returns-clause-knows
returns-clause-knows c = λ s h. subst (λ (m : Heal). (heal_stage m).knows s)
    (sym (c.on.ensures ∙ ap (λ (room : HealRoom). heal_on (record { room = room; bricks = c.args.bricks; place = 0 })) c.with.ensures))
    (begin_knows c.args.room c.args.bricks c.args.directory s h)

pub returns-clause-directory : goal.returns-clause-directory
returns-clause-directory c = λ h. subst (λ (m : Heal). heal_dir m ≡ c.args.directory)
    (sym (c.on.ensures ∙ ap (λ (room : HealRoom). heal_on (record { room = room; bricks = c.args.bricks; place = 0 })) c.with.ensures))
    (begin_dir c.args.room c.args.bricks c.args.directory h)
