-- The laws of a closing as a machine.
use Rattle.dht_section.specs.Closing.{closing_stage}
use Rattle.dht_section.specs.MayAnswerLaws.{may_answer_stable}
use Rattle.dht_section.specs.Scene.{MayAnswer}
use Rattle.dht_section.specs.SectionLaws.{lock_brick_within, stands_on, unlocking_stable}
use Rattle.dht_section.specs.Stages.{MaySend, IsStable}
use Rattle.dht_section.specs.Want.{key_at}
use Rattle.dht_section.specs.declared.closing.Closing.{Closing}

pub closing_permitted : (c : Closing) → MaySend (closing_stage c)
closing_permitted c s sound h = record {
  there = lock_brick_within c.scope (key_at c.scope c.place) s sound h.knows.scope;
  may = stands_on c.scope (key_at c.scope c.place) s sound h.knows.scope (h.knows.order.kinds c.place h.knows.within);
}

pub closing_stable : (c : Closing) → IsStable (closing_stage c)
closing_stable c = unlocking_stable c.scope c.place (MayAnswer c.finish) (may_answer_stable c.finish)
