-- The lines of one event are a head line and what stands under it.
use Rattle.std.proofs.Common.{◌≡◌, ℕ, true, false, [], ◌∷◌, ◌++◌, refl, sym, ap, subst, ◌∙◌, inl, inr}
use Rattle.std.specs.Prelude.{Option, Some, None, is_some, MatchOption, List}
use Rattle.dht_types.specs.History.{History, PendingCall}
use Rattle.dht_types.specs.declared.identifiers.CallNo.{CallNo}
use Rattle.dht_types.specs.declared.identifiers.ClientNo.{ClientNo}
use Rattle.dht_types.specs.declared.calls.TreeStep.{TreeStep}
use Rattle.dht_types.specs.declared.events.Event.{Event}
use Rattle.dht_types.specs.declared.events.Event.TheVariants as event
use Rattle.dht_types.specs.declared.lines.Cause.{Cause}
use Rattle.dht_types.specs.declared.lines.Line.{Line}
use Rattle.dht_types.specs.declared.lines.Line.TheVariants.{Waited, Answered, Refused}
use Rattle.dht_brick.specs.declared.replies.Reply.{Reply}
use Rattle.dht_brick.specs.declared.replies.Reply.TheVariants.{Wait}
use Rattle.dht_section.specs.Moves.{step_of}
use Rattle.dht_section.specs.Stages.{is_wait}
use Rattle.dht_section.specs.declared.machine.Ask.{Ask}
use Rattle.dht_section.specs.declared.machine.Finish.{Finish}
use Rattle.dht_world.specs.Clients.{client}
use Rattle.dht_world.specs.Following.{Block, IsUnder, IsUnderStep, Accepted, Head, IsStep, IsWait, cause_of}
use Rattle.dht_world.specs.Lines.{tree_lines, step_line, request_lines}
use Rattle.dht_world.proofs.StepLaws.{lines_are}

-- an event that was refused
pub block_refused :
    (s : History) (n : ℕ) (e : Event) (cause : Cause) → cause_of s e ≡ Some cause
    → Block s n e (Refused n cause ∷ [])
block_refused s n e cause is = record {
  first = Refused n cause;
  more = [];
  all = refl;
  is_head = subst (λ (o : Option Cause). MatchOption o (Accepted s e (Refused n cause)) (λ x. Refused n cause ≡ Refused n x)) (sym is) refl;
  is_under = refl;
}

-- the head line of one that was accepted
pub head_accepted :
    (s : History) (n : ℕ) (e : Event) (line : Line) → cause_of s e ≡ None → Accepted s e line
    → Head s n e line
head_accepted s n e line is h = subst (λ (o : Option Cause). MatchOption o (Accepted s e line) (λ x. line ≡ Refused n x)) (sym is) h

pub block_under :
    (s : History) (n : ℕ) (e : Event) (line : Line) (more : List Line) → cause_of s e ≡ None
    → Accepted s e line → IsUnder s line more → Block s n e (line ∷ more)
block_under s n e line more is h under = record { first = line; more = more; all = refl; is_head = head_accepted s n e line is h; is_under = under }

pub block_alone :
    (s : History) (n : ℕ) (e : Event) (line : Line) → cause_of s e ≡ None → Accepted s e line
    → IsUnder s line [] → Block s n e (line ∷ [])
block_alone s n e line is h under = block_under s n e line [] is h under

-- under a step stands its tree line, or none, and then the end
under_on : (k : CallNo) (c : ClientNo) (o : Option TreeStep) → IsUnderStep k c (tree_lines k o)
under_on k c None = tt
under_on k c (Some step) = (refl, tt)

under_answered :
    (k : CallNo) (c : ClientNo) (o : Option TreeStep) (y : Finish)
    → IsUnderStep k c (tree_lines k o ++ Answered k c y.at y.answer ∷ [])
under_answered k c None y = (refl, refl)
under_answered k c (Some step) y = (refl, (refl, refl))

-- what is told of a request that was answered
pub record Told (s : History) (c : ℕ) (mine : PendingCall) (k : CallNo) (a : Ask) (r : Reply) : Type 0 where
  pub runs : s.pending c ≡ Some mine
  pub step : is_wait r ≡ false → IsStep s c mine (step_line k (client c) a r)
  pub wait : (holder : ClientNo) → r ≡ Wait holder → IsWait s c mine (Waited k (client c) a.brick holder)

on_by :
    (s : History) (n c : ℕ) (mine : PendingCall) (k : CallNo) (a : Ask) (r : Reply) (x : Reply)
    → r ≡ x → cause_of s (event.Step c) ≡ None → Told s c mine k a r
    → Block s n (event.Step c) (request_lines k (client c) a r)
on_by s n c mine k a r (Wait holder) er is h = subst (Block s n (event.Step c)) (sym (ap (request_lines k (client c) a) er)) (record {
  first = Waited k (client c) a.brick holder;
  more = [];
  all = refl;
  is_head = head_accepted s n (event.Step c) _ is (mine, h.runs, inr (h.wait holder er));
  is_under = tt;
})
on_by s n c mine k a r x er is h = subst (Block s n (event.Step c)) (sym (lines_are k (client c) a r (ap is_wait er))) (record {
  first = step_line k (client c) a r;
  more = tree_lines k (step_of a.brick.0 a.request r);
  all = refl;
  is_head = head_accepted s n (event.Step c) _ is (mine, h.runs, inl (h.step (ap is_wait er)));
  is_under = under_on k (client c) (step_of a.brick.0 a.request r);
})

-- a step, after which the call goes on
pub block_on :
    (s : History) (n c : ℕ) (mine : PendingCall) (k : CallNo) (a : Ask) (r : Reply)
    → cause_of s (event.Step c) ≡ None → Told s c mine k a r
    → Block s n (event.Step c) (request_lines k (client c) a r)
block_on s n c mine k a r is h = on_by s n c mine k a r r refl is h

answered_by :
    (s : History) (n c : ℕ) (mine : PendingCall) (k : CallNo) (a : Ask) (r : Reply) (y : Finish)
    (x : Reply)
    → r ≡ x → cause_of s (event.Step c) ≡ None → Told s c mine k a r
    → Block s n (event.Step c)
    (request_lines k (client c) a r ++ Answered k (client c) y.at y.answer ∷ [])
answered_by s n c mine k a r y (Wait holder) er is h = subst (λ (xs : List Line). Block s n (event.Step c) (xs ++ Answered k (client c) y.at y.answer ∷ [])) (sym (ap (request_lines k (client c) a) er)) (record {
  first = Waited k (client c) a.brick holder;
  more = Answered k (client c) y.at y.answer ∷ [];
  all = refl;
  is_head = head_accepted s n (event.Step c) _ is (mine, h.runs, inr (h.wait holder er));
  is_under = (refl, refl);
})
answered_by s n c mine k a r y x er is h = subst (λ (xs : List Line). Block s n (event.Step c) (xs ++ Answered k (client c) y.at y.answer ∷ [])) (sym (lines_are k (client c) a r (ap is_wait er))) (record {
  first = step_line k (client c) a r;
  more = tree_lines k (step_of a.brick.0 a.request r) ++ Answered k (client c) y.at y.answer ∷ [];
  all = refl;
  is_head = head_accepted s n (event.Step c) _ is (mine, h.runs, inl (h.step (ap is_wait er)));
  is_under = under_answered k (client c) (step_of a.brick.0 a.request r) y;
})

-- a step, after which the call answers
pub block_answered :
    (s : History) (n c : ℕ) (mine : PendingCall) (k : CallNo) (a : Ask) (r : Reply) (y : Finish)
    → cause_of s (event.Step c) ≡ None → Told s c mine k a r
    → Block s n (event.Step c)
    (request_lines k (client c) a r ++ Answered k (client c) y.at y.answer ∷ [])
block_answered s n c mine k a r y is h = answered_by s n c mine k a r y r refl is h

-- an event that is accepted is not refused
pub not_refused :
    {X : Type 0} (s : History) (e : Event) → cause_of s e ≡ None → is_some (cause_of s e) ≡ true → X
not_refused s e is h = absurd (let z : false ≡ true = sym (ap is_some is) ∙ h in cc)
