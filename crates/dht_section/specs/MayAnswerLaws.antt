-- How long an answer that is earned stays so.
use Rattle.std.proofs.Common.{◌≡◌, ◌||◌, Bool, true, false, refl, ◌∙◌}
use Rattle.dht_types.specs.AnswerLaws.{answers_kept}
use Rattle.dht_brick.specs.declared.replies.Reply.{Reply}
use Rattle.dht_section.specs.declared.machine.Ask.{Ask}
use Rattle.dht_section.specs.declared.machine.Finish.{Finish}
use Rattle.dht_section.specs.Moves.{Guarantee}
use Rattle.dht_section.specs.Rely.{Rely}
use Rattle.dht_section.specs.Scene.{Scene, MayAnswer}

-- an answer that is earned stays so, whatever others do
pub may_answer_stable : (f : Finish) (s t : Scene) → MayAnswer f s → Rely s t → MayAnswer f t
may_answer_stable f s t h o = answers_kept s.history t.history s.mine t.mine f.at f.answer (record {
  since = o.mine.since;
  call = o.mine.call;
  deeds = o.mine.deeds;
  told_down = λ e. o.mine.was_down ∙ e;
  told_failed = λ e. o.mine.has_failed ∙ e;
  later = o.later;
  past = o.past;
}) h

-- what is true or something else is true
pub or_true : (a b : Bool) → a ≡ true → (a || b) ≡ true
or_true true b e = refl
or_true false b e = absurd (let z : false ≡ true = e in cc)

-- and after a request of one's own that does no step
pub may_answer_moved :
    (f : Finish) (s t : Scene) (a : Ask) (r : Reply) → t.mine.deeds ≡ s.mine.deeds
    → Guarantee s a r t → MayAnswer f s → MayAnswer f t
may_answer_moved f s t a r e m h = answers_kept s.history t.history s.mine t.mine f.at f.answer (record {
  since = m.mine.since;
  call = m.mine.call;
  deeds = e;
  told_down = λ q. m.mine.was_down ∙ or_true s.mine.was_down _ q;
  told_failed = λ q. m.mine.has_failed ∙ or_true s.mine.has_failed _ q;
  later = m.later;
  past = m.past;
}) h
