-- The laws of a release as a machine.
use Rattle.std.proofs.Common.{arith}
use Rattle.dht_section.specs.Rely.{Rely}
use Rattle.dht_section.specs.Release.{CanBegin, memory_of, release_stage}
use Rattle.dht_section.specs.Scene.{Scene}
use Rattle.dht_section.specs.Section.{begun, section_stage}
use Rattle.dht_section.specs.SectionLaws.{fresh_stable, lock_brick_within, stands_on, unlocking_stable}
use Rattle.dht_section.specs.Stages.{MaySend, IsStable}
use Rattle.dht_section.specs.Want.{key_at}
use Rattle.dht_section.specs.declared.release.Release.{Release}
use Rattle.dht_section.specs.declared.section.Prepared.{Prepared}

-- what a section needs to begin with its memory stays true
pub can_begin_stable : (p : Prepared) (s t : Scene) → CanBegin p s → Rely s t → CanBegin p t
can_begin_stable p s t h o = record { order = h.order; fresh = fresh_stable p.scope s t h.fresh o; room = h.room }

-- and is all that it knows before its first request
pub begins_anew : (p : Prepared) (s : Scene) → CanBegin p s → (section_stage (begun p)).knows s
begins_anew p s h = record {
  order = h.order;
  fresh = h.fresh;
  within = h.order.some;
  room = h.room;
  holds = λ j l. absurd (omega arith);
}

pub release_permitted : (m : Release) → MaySend (release_stage m)
release_permitted m s sound h = record {
  there = lock_brick_within m.scope (key_at m.scope m.place) s sound h.knows.scope;
  may = stands_on m.scope (key_at m.scope m.place) s sound h.knows.scope (h.knows.order.kinds m.place h.knows.within);
}

pub release_stable : (m : Release) → IsStable (release_stage m)
release_stable m = unlocking_stable m.scope m.place (CanBegin (memory_of m)) (can_begin_stable (memory_of m))
