use Rattle.std.proofs.Common.{refl, sym, subst}
use Rattle.dht_section.proofs.FirstSection.{room_is}
use Rattle.dht_section.proofs.SectionLocks.{begins}
use Rattle.dht_section.specs.Section.{IsFirst, section_stage}
use Rattle.dht_section.specs.declared.section.Section.{Section}
use Rattle.dht_section.proofs.section.Section.begin.Goals as goal

pub returns-clause-knows : goal.returns-clause-knows
returns-clause-knows c = λ s h. subst (λ (m : Section). (section_stage m).knows s) (sym c.begin.ensures) (begins c.args.bricks c.args.want c.in_ok-prepared.prepared.scope c.in_ok-prepared.prepared.looks s c.in_ok-prepared.ensures.scope c.requires (room_is _ _ c.in_ok-prepared.ensures.looks) h)

pub returns-clause-first : goal.returns-clause-first
returns-clause-first c = subst (λ (m : Section). IsFirst c.args.bricks c.args.want m) (sym c.begin.ensures) (c.in_ok-prepared.ensures.scope, refl, c.in_ok-prepared.ensures.looks)
