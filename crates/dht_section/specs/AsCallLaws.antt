-- How long an answer to another call stays right.
use Rattle.std.proofs.Common.{◌≡◌, refl, sym, subst, ◌∙◌}
use Rattle.std.specs.Prelude.{Some, None}
use Rattle.dht_types.specs.AnswerLaws.{answers_kept}
use Rattle.dht_types.specs.declared.calls.Call.{Call}
use Rattle.dht_types.specs.declared.errors.Errno.{Errno}
use Rattle.dht_types.specs.declared.errors.Errno.TheVariants.{Enoent, Enomem, Eexist, Einval, Enametoolong, Enotdir, Eisdir, Enotempty, Estale, Enotconn, Eio}
use Rattle.dht_types.specs.declared.identifiers.Gfid.{Gfid}
use Rattle.dht_brick.specs.declared.replies.Reply.{Reply}
use Rattle.dht_section.specs.AsCall.{as_call, MayAnswerAs}
use Rattle.dht_section.specs.Faults.{brick_error}
use Rattle.dht_section.specs.MayAnswerLaws.{or_true}
use Rattle.dht_section.specs.Moves.{Guarantee}
use Rattle.dht_section.specs.Rely.{Rely}
use Rattle.dht_section.specs.Scene.{Scene, MayAnswer, fault_finish}
use Rattle.dht_section.specs.declared.machine.Ask.{Ask}
use Rattle.dht_section.specs.declared.machine.Finish.{Finish}

-- it stays so, whatever others do
pub may_answer_as_stable :
    (c : Call Gfid) (f : Finish) (s t : Scene) → MayAnswerAs c f s → Rely s t → MayAnswerAs c f t
may_answer_as_stable c f s t h o = answers_kept s.history t.history (as_call c s).mine (as_call c t).mine f.at f.answer (record {
  since = o.mine.since;
  call = refl;
  deeds = o.mine.deeds;
  told_down = λ e. o.mine.was_down ∙ e;
  told_failed = λ e. o.mine.has_failed ∙ e;
  later = o.later;
  past = o.past;
}) h

-- and after a request of one's own that does no step
pub may_answer_as_moved :
    (c : Call Gfid) (f : Finish) (s t : Scene) (a : Ask) (r : Reply) → t.mine.deeds ≡ s.mine.deeds
    → Guarantee s a r t → MayAnswerAs c f s → MayAnswerAs c f t
may_answer_as_moved c f s t a r e m h = answers_kept s.history t.history (as_call c s).mine (as_call c t).mine f.at f.answer (record {
  since = m.mine.since;
  call = refl;
  deeds = e;
  told_down = λ q. m.mine.was_down ∙ or_true s.mine.was_down _ q;
  told_failed = λ q. m.mine.has_failed ∙ or_true s.mine.has_failed _ q;
  later = m.later;
  past = m.past;
}) h

-- the call that runs may answer what it could answer if it were itself
pub may_answer_as_itself :
    (c : Call Gfid) (f : Finish) (s : Scene) → s.mine.call ≡ c → MayAnswerAs c f s → MayAnswer f s
may_answer_as_itself c f s e h = subst (λ (k : Call Gfid). MayAnswer f (as_call k s)) (sym e) h

-- the error of a brick is an answer to any call
pub fault_as :
    (c : Call Gfid) (e : Errno) (s : Scene) → brick_error e ≡ Some e → MayAnswer (fault_finish e) s
    → MayAnswerAs c (fault_finish e) s
fault_as c Enotconn s is h = h
fault_as c Eio s is h = h
fault_as c Enomem s is h = h
fault_as c Enoent s is h = absurd (let z : None ≡ Some Enoent = is in cc)
fault_as c Eexist s is h = absurd (let z : None ≡ Some Eexist = is in cc)
fault_as c Einval s is h = absurd (let z : None ≡ Some Einval = is in cc)
fault_as c Enametoolong s is h = absurd (let z : None ≡ Some Enametoolong = is in cc)
fault_as c Enotdir s is h = absurd (let z : None ≡ Some Enotdir = is in cc)
fault_as c Eisdir s is h = absurd (let z : None ≡ Some Eisdir = is in cc)
fault_as c Enotempty s is h = absurd (let z : None ≡ Some Enotempty = is in cc)
fault_as c Estale s is h = absurd (let z : None ≡ Some Estale = is in cc)
