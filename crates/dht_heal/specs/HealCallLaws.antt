-- The laws of a call that heals a directory as a machine.
use Rattle.std.proofs.Common.{◌∙◌}
use Rattle.dht_section.specs.PartLaws.{part_permitted, part_stable}
use Rattle.dht_section.specs.Stages.{MaySend, IsStable}
use Rattle.dht_heal.specs.Heal.{heal_dir, heal_stage}
use Rattle.dht_heal.specs.HealCall.{IsHeal, call_stage}
use Rattle.dht_heal.specs.HealLaws.{heal_permitted, heal_stable}
use Rattle.dht_heal.specs.declared.call.HealCall.{HealCall}

pub call_permitted : (m : HealCall) → MaySend (call_stage m)
call_permitted m = part_permitted (heal_stage m.heal) 0 (λ s. IsHeal (heal_dir m.heal) s) (heal_permitted m.heal)

pub call_stable : (m : HealCall) → IsStable (call_stage m)
call_stable m = part_stable (heal_stage m.heal) 0 (λ s. IsHeal (heal_dir m.heal) s) (heal_stable m.heal) (λ s t h o. o.mine.call ∙ h)
