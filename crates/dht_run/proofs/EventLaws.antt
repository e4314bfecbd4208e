-- Lines that are cut off, and the events that they are of.
use Rattle.std.proofs.Common.{◌≡◌, ◌≢◌, ◌<◌, ℕ, List, [], ◌∷◌, ◌++◌, zero, suc, refl, sym, ap, ◌∙◌, subst, inl, inr, length, get_or, arith, append_assoc, length-append}
use Rattle.std.specs.Prelude.{Option, Some, None, IfSome, Contains, Ok}
use Rattle.dht_types.specs.declared.events.Event.{Event}
use Rattle.dht_types.specs.declared.events.Event.TheVariants.{Volume, Remount, Call, Step, Down, Up, Die}
use Rattle.dht_sched.specs.Schedule.{schedule_text, IsScheduled, IsOneLine, IsReadOf}
use Rattle.dht_run.specs.LineReader.{HasNoNewline, HasNoLine}
use Rattle.dht_run.specs.NextEvent.{HasNoEvent}
use Rattle.dht_run.specs.Outside.{before_told}
use Rattle.dht_run.proofs.ReplayLaws.{first_line}

-- a text without newlines contains none
pub none_in : (xs : List ℕ) → HasNoNewline xs → ¬ Contains xs 10
none_in xs h c = h c.0 10 c.1 c.2

within_any : (xs : List ℕ) (k d e : ℕ) → k < length xs → get_or xs k d ≡ get_or xs k e
within_any [] k d e lt = absurd (omega arith)
within_any (x ∷ xs) zero d e lt = refl
within_any (x ∷ xs) (suc k) d e lt = within_any xs k d e (omega arith)

pub no_newline : (xs : List ℕ) → ¬ Contains xs 10 → HasNoNewline xs
no_newline xs h = λ k d lt e. h (k, lt, within_any xs k 10 d lt ∙ e)

-- an input that does not go on with a line does not go on with an event's
pub no_event :
    (cut : ℕ) (input : List ℕ) → ((o : Event) → IsScheduled o → IsOneLine (schedule_text o))
    → HasNoLine cut input → HasNoEvent cut input
no_event cut input one h = record {
  goes_on = h.goes_on;
  no_event = λ e more s eq l. (let o = one e s in let short = o.short in h.no_line (schedule_text e) more eq (no_newline (schedule_text e) o.one) (omega arith, omega arith));
}

-- nor does one whose line is of no event
pub other_line :
    (cut : ℕ) (line : List ℕ) (input after : Option (List ℕ))
    → ((o : Event) → IsScheduled o → IsOneLine (schedule_text o)) → HasNoNewline line
    → ((o : Event) → IsScheduled o → line ≢ schedule_text o)
    → input ≡ before_told (line ++ 10 ∷ []) after → IfSome input (HasNoEvent cut)
other_line cut line input None one h not eq = subst (λ (o : Option (List ℕ)). IfSome o (HasNoEvent cut)) (sym eq) tt
other_line cut line input (Some more) one h not eq = subst (λ (o : Option (List ℕ)). IfSome o (HasNoEvent cut)) (sym eq) (record {
  goes_on = λ q. absurd (let z : length ((line ++ 10 ∷ []) ++ more) ≡ 0 = ap length q in omega (arith, length-append (line ++ 10 ∷ []) more, length-append line (10 ∷ [])));
  no_event = λ o rest s q l. not o s (first_line line (schedule_text o) more rest (none_in line h) (one o s).one (sym (append_assoc line (10 ∷ []) more) ∙ q));
})

-- what was read is the one event of its text
pub only_one : (o e : Event) → IsReadOf o (Ok e) → o ≡ e
only_one (Volume w) e (inl q) = cc
only_one (Volume w) e (inr q) = cc
only_one (Remount w) e (inl q) = cc
only_one (Remount w) e (inr q) = cc
only_one (Call c call) e (inl q) = cc
only_one (Call c call) e (inr q) = cc
only_one (Step c) e q = cc
only_one (Down b) e q = cc
only_one (Up b) e q = cc
only_one (Die c) e q = cc

pub no_event_told :
    (cut : ℕ) (input : Option (List ℕ))
    → ((o : Event) → IsScheduled o → IsOneLine (schedule_text o)) → IfSome input (HasNoLine cut)
    → IfSome input (HasNoEvent cut)
no_event_told cut None one h = tt
no_event_told cut (Some bytes) one h = no_event cut bytes one h
