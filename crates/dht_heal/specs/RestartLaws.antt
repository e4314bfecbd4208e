-- The laws of a restart as a machine.
use Rattle.std.proofs.Common.{◌∙◌}
use Rattle.std.specs.Prelude.{List, Option, None, Some}
use Rattle.dht_types.specs.Cost.{heal_cost}
use Rattle.dht_types.specs.declared.identifiers.Gfid.{Gfid}
use Rattle.dht_xattr.specs.declared.range.Range.{Range}
use Rattle.dht_section.specs.PartLaws.{part_permitted, part_stable}
use Rattle.dht_section.specs.Rely.{Rely}
use Rattle.dht_section.specs.Release.{release_stage}
use Rattle.dht_section.specs.ReleaseLaws.{release_permitted, release_stable}
use Rattle.dht_section.specs.Scene.{Scene}
use Rattle.dht_section.specs.SectionLaws.{scope_stable}
use Rattle.dht_section.specs.Stages.{MaySend, IsStable}
use Rattle.dht_section.specs.Whole.{IsWholeOrGone, ShowedOpened}
use Rattle.dht_section.specs.WholeLaws.{if_alone_stable, sees_whole_stable, whole_or_gone_stays}
use Rattle.dht_section.specs.declared.release.Release.{Release}
use Rattle.dht_section.specs.declared.section.Opened.{Opened}
use Rattle.dht_section.specs.declared.section.Prepared.{Prepared}
use Rattle.dht_section.specs.declared.section.Section.{Section}
use Rattle.dht_heal.specs.Heal.{heal_stage}
use Rattle.dht_heal.specs.HealLaws.{heal_permitted, heal_stable, room_stable}
use Rattle.dht_heal.specs.Restart.{Awaits, EndsAnew, Releases, SeesAnew, restart_stage}
use Rattle.dht_heal.specs.declared.heal.Heal.{Heal}
use Rattle.dht_heal.specs.declared.restart.Restart.{Restart}
use Rattle.dht_heal.specs.declared.restart.Restart.TheVariants.{Releasing, Healing}
use Rattle.dht_heal.specs.declared.room.HealRoom.{HealRoom}

pub restart_permitted : (m : Restart) → MaySend (restart_stage m)
restart_permitted (Releasing m room) = part_permitted (release_stage m) (heal_cost m.scope.bricks) (λ s. Releases m room s) (release_permitted m)
restart_permitted (Healing m p) = part_permitted (heal_stage m) 0 (λ s. Awaits m p s) (heal_permitted m)

releases_stable :
    (m : Release) (room : HealRoom) (s t : Scene) → Releases m room s → Rely s t → Releases m room t
releases_stable m room s t h o = record { memory = room_stable room s t h.memory o; named = h.named }

awaits_stable : (m : Heal) (p : Prepared) (s t : Scene) → Awaits m p s → Rely s t → Awaits m p t
awaits_stable m p s t h o = record { order = h.order; scope = scope_stable p.scope s t h.scope o; room = h.room; heals = h.heals }

pub restart_stable : (m : Restart) → IsStable (restart_stage m)
restart_stable (Releasing m room) = part_stable (release_stage m) (heal_cost m.scope.bricks) (λ s. Releases m room s) (release_stable m) (releases_stable m room)
restart_stable (Healing m p) = part_stable (heal_stage m) 0 (λ s. Awaits m p s) (heal_stable m) (awaits_stable m p)

-- ---- a section that began after a heal

pub sees_anew_stable :
    (learned : Option (List (Option Range))) (g : Gfid) (m : Section) (s t : Scene)
    → SeesAnew learned g m s → Rely s t → SeesAnew learned g m t
sees_anew_stable None g m s t h o = tt
sees_anew_stable (Some layout) g m s t h o = sees_whole_stable g m s t h o

pub ends_anew_stable :
    (learned : Option (List (Option Range))) (g : Gfid) (out : Opened) (s t : Scene)
    → EndsAnew learned g out s → Rely s t → EndsAnew learned g out t
ends_anew_stable None g out s t h o = tt
ends_anew_stable (Some layout) g out s t h o = if_alone_stable (IsWholeOrGone g (ShowedOpened g out)) (λ a b. whole_or_gone_stays a b g (ShowedOpened g out)) s t h o
