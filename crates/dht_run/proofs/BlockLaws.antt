-- How many requests the lines of one event tell of.
use Rattle.std.proofs.Common.{◌≡◌, ◌+◌, ◌≤◌, ℕ, List, [], ◌∷◌, ◌++◌, refl, sym, ap, ◌∙◌, subst, inl, inr, ◌⊎◌, length, arith}
use Rattle.std.specs.Prelude.{Option, Some, None, MatchOption}
use Rattle.std.proofs.lemmas.Bool.{cases_lt}
use Rattle.dht_types.proofs.HistoryLaws.{lines_append}
use Rattle.dht_types.specs.History.{History, PendingCall, Owed, start, history_of, with_line, with_lines, with_step}
use Rattle.dht_types.specs.declared.errors.Errno.{Errno}
use Rattle.dht_types.specs.declared.identifiers.CallNo.{CallNo}
use Rattle.dht_types.specs.declared.identifiers.ClientNo.{ClientNo}
use Rattle.dht_types.specs.Calls.{refusal_at_start}
use Rattle.dht_types.specs.declared.calls.Answer.{Answer}
use Rattle.dht_types.specs.declared.calls.TreeStep.{TreeStep}
use Rattle.dht_types.specs.declared.events.Event.{Event}
use Rattle.dht_types.specs.declared.events.Event.TheVariants as event
use Rattle.dht_types.specs.declared.lines.Cause.{Cause}
use Rattle.dht_types.specs.declared.lines.Line.{Line}
use Rattle.dht_types.specs.declared.lines.Line.TheVariants.{Volume, Remounted, Called, Stepped, Waited, Tree, Answered, WentDown, CameUp, Died, Refused}
use Rattle.dht_world.specs.Following.{IsEnd, IsUnderStep, IsUnderCall, IsUnder, Head, Accepted, IsStep, IsWait, Block, IsSpent, step_limit, cause_of}

-- no request was counted
abbrev Quiet : History → History → Type 0
Quiet s t = t.requests ≡ s.requests

tree_step :
    (s : History) (step : TreeStep) (owed allowed : Option Owed)
    → Quiet s (with_step s step owed allowed)
tree_step s step None None = refl
tree_step s step None (Some o) = refl
tree_step s step (Some o) allowed = refl

tree_line : (s : History) (k : CallNo) (step : TreeStep) → Quiet s (with_line s (Tree k step))
tree_line s k step = tree_step s step s.owed s.allowed

end_quiet :
    (s : History) (k : CallNo) (c : ClientNo) (lines : List Line) → IsEnd k c lines
    → Quiet s (with_lines s lines)
end_quiet s k c [] h = refl
end_quiet s k c (Answered j d at a ∷ []) h = refl
end_quiet s k c (Answered j d at a ∷ x ∷ xs) h = absurd h
end_quiet s k c (Volume w ∷ xs) h = absurd h
end_quiet s k c (Remounted w ∷ xs) h = absurd h
end_quiet s k c (Called j d call ∷ xs) h = absurd h
end_quiet s k c (Stepped j d b q r ∷ xs) h = absurd h
end_quiet s k c (Waited j d b e ∷ xs) h = absurd h
end_quiet s k c (Tree j step ∷ xs) h = absurd h
end_quiet s k c (WentDown b ∷ xs) h = absurd h
end_quiet s k c (CameUp b ∷ xs) h = absurd h
end_quiet s k c (Died d ∷ xs) h = absurd h
end_quiet s k c (Refused n cause ∷ xs) h = absurd h

under_quiet :
    (s : History) (k : CallNo) (c : ClientNo) (lines : List Line) → IsUnderStep k c lines
    → Quiet s (with_lines s lines)
under_quiet s k c [] h = refl
under_quiet s k c (Tree j step ∷ xs) h = end_quiet (with_line s (Tree j step)) k c xs h.1 ∙ tree_line s j step
under_quiet s k c (Answered j d at a ∷ xs) h = end_quiet s k c (Answered j d at a ∷ xs) h
under_quiet s k c (Volume w ∷ xs) h = absurd h
under_quiet s k c (Remounted w ∷ xs) h = absurd h
under_quiet s k c (Called j d call ∷ xs) h = absurd h
under_quiet s k c (Stepped j d b q r ∷ xs) h = absurd h
under_quiet s k c (Waited j d b e ∷ xs) h = absurd h
under_quiet s k c (WentDown b ∷ xs) h = absurd h
under_quiet s k c (CameUp b ∷ xs) h = absurd h
under_quiet s k c (Died d ∷ xs) h = absurd h
under_quiet s k c (Refused n cause ∷ xs) h = absurd h

no_more : (s : History) (lines : List Line) → lines ≡ [] → Quiet s (with_lines s lines)
no_more s lines e = ap (λ (xs : List Line). (with_lines s xs).requests) e

answer_quiet :
    (s : History) (k : CallNo) (c : ClientNo) (at : Option ℕ) (a : Answer) (lines : List Line)
    → lines ≡ Answered k c at a ∷ [] → Quiet s (with_lines s lines)
answer_quiet s k c at a lines e = ap (λ (xs : List Line). (with_lines s xs).requests) e

call_quiet :
    (s : History) (line : ℕ) (k : CallNo) (c : ClientNo) (refusal : Option Errno)
    (lines : List Line)
    → IsUnderCall line k c refusal lines → Quiet s (with_lines s lines)
call_quiet s line k c (Some e) lines h = answer_quiet s k c _ _ lines h
call_quiet s line k c None lines (inl h) = no_more s lines h
call_quiet s line k c None lines (inr h) = answer_quiet s k c _ _ lines h

-- what stands under a head line is quiet, which came after this history
more_quiet :
    (past s : History) (line : Line) (lines : List Line) → IsUnder past line lines
    → Quiet s (with_lines s lines)
more_quiet past s (Volume w) lines h = no_more s lines h
more_quiet past s (Remounted w) lines h = no_more s lines h
more_quiet past s (Called k c call) lines h = call_quiet s (past.size + 1) k c (refusal_at_start (length past.weights) call) lines h
more_quiet past s (Stepped k c b q r) lines h = under_quiet s k c lines h
more_quiet past s (Waited k c b d) lines h = end_quiet s k c lines h
more_quiet past s (WentDown b) lines h = no_more s lines h
more_quiet past s (CameUp b) lines h = no_more s lines h
more_quiet past s (Died c) lines h = no_more s lines h
more_quiet past s (Refused n cause) lines h = no_more s lines h
more_quiet past s (Tree k step) lines h = absurd h
more_quiet past s (Answered k c at a) lines h = absurd h

-- an event within the limit counts no request past it
abbrev Within : History → History → Type 0 → Type 0
Within s t spent = ¬ spent → s.requests ≤ step_limit → t.requests ≤ step_limit

quiet_within : (s t : History) (spent : Type 0) → Quiet s t → Within s t spent
quiet_within s t spent e = λ not l. omega arith

one_more : (n : ℕ) → ¬ (step_limit ≤ n) → n + 1 ≤ step_limit
one_more n h = elim (cases_lt n step_limit) [ inl l ↦ omega arith | inr g ↦ absurd (h g) ]

-- the head line of an event that is accepted: these lines are quiet
still_within :
    (s : History) (line is : Line) (spent : Type 0) → line ≡ is → Quiet s (with_line s is)
    → Within s (with_line s line) spent
still_within s line is spent e quiet = quiet_within s (with_line s line) spent (ap (λ (x : Line). (with_line s x).requests) e ∙ quiet)

-- and these are of a request
request_within :
    (s : History) (line is : Line) (spent : Type 0) → line ≡ is
    → (with_line s is).requests ≡ s.requests + 1 → (step_limit ≤ s.requests → spent)
    → Within s (with_line s line) spent
request_within s line is spent e more over = λ not l. (let one = one_more s.requests (λ g. not (over g)) in let same = ap (λ (x : Line). (with_line s x).requests) e in omega arith)

step_within :
    (s : History) (c : ℕ) (r : PendingCall) (line : Line) → cause_of s (event.Step c) ≡ None
    → IsStep s c r line ⊎ IsWait s c r line → Within s (with_line s line) (IsSpent s (event.Step c))
step_within s c r line none (inl h) = request_within s line (Stepped r.number (record { 0 = c }) h.brick h.request h.reply) (IsSpent s (event.Step c)) h.is refl (λ g. (none, g))
step_within s c r line none (inr h) = request_within s line (Waited r.number (record { 0 = c }) h.brick h.holder) (IsSpent s (event.Step c)) h.is refl (λ g. (none, g))

accepted_within :
    (s : History) (e : Event) (line : Line) → cause_of s e ≡ None → Accepted s e line
    → Within s (with_line s line) (IsSpent s e)
accepted_within s (event.Volume w) line none h = still_within s line (Volume w) (IsSpent s (event.Volume w)) h refl
accepted_within s (event.Remount w) line none h = still_within s line (Remounted w) (IsSpent s (event.Remount w)) h refl
accepted_within s (event.Call c call) line none h = still_within s line (Called (record { 0 = s.calls + 1 }) (record { 0 = c }) h.0) (IsSpent s (event.Call c call)) h.2 refl
accepted_within s (event.Step c) line none h = step_within s c h.0 line none h.2
accepted_within s (event.Down b) line none h = still_within s line (WentDown (record { 0 = b })) (IsSpent s (event.Down b)) h refl
accepted_within s (event.Up b) line none h = still_within s line (CameUp (record { 0 = b })) (IsSpent s (event.Up b)) h refl
accepted_within s (event.Die c) line none h = still_within s line (Died (record { 0 = c })) (IsSpent s (event.Die c)) h refl

head_within :
    (s : History) (n : ℕ) (e : Event) (line : Line) → Head s n e line
    → Within s (with_line s line) (IsSpent s e)
head_within s n e line h = by (cause_of s e) refl h
  where
    by : (o : Option Cause) → cause_of s e ≡ o → MatchOption o (Accepted s e line) (λ cause. line ≡ Refused n cause) → Within s (with_line s line) (IsSpent s e)
    by None q h = accepted_within s e line q h
    by (Some cause) q h = still_within s line (Refused n cause) (IsSpent s e) h refl

-- the lines of one event
block_within :
    (s : History) (n : ℕ) (e : Event) (lines : List Line) → Block s n e lines
    → Within s (with_lines s lines) (IsSpent s e)
block_within s n e lines h =
    let head = head_within s n e h.first h.is_head in
    let same = more_quiet s (with_line s h.first) h.first h.more h.is_under in
    subst (λ (xs : List Line). Within s (with_lines s xs) (IsSpent s e)) (sym h.all) (λ not l. (let k = head not l in omega arith))

-- no more requests than a run may have
pub limited_more :
    (past lines : List Line) (n : ℕ) (e : Event) → Block (history_of past) n e lines
    → ¬ IsSpent (history_of past) e → (history_of past).requests ≤ step_limit
    → (history_of (past ++ lines)).requests ≤ step_limit
limited_more past lines n e h not l = subst (λ (t : History). t.requests ≤ step_limit) (sym (lines_append start past lines)) (block_within (history_of past) n e lines h not l)
