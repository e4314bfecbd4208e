-- Where a run has had all its steps.
use Rattle.std.proofs.Common.{◌≡◌, ◌≤◌, ℕ, Bool, true, false, refl, sym, ap, ◌∙◌, subst, Result, Ok, Err}
use Rattle.std.specs.Prelude.{Option, Some, None, is_none, nat_le, ◌&&◌, IsErrAnd}
use Rattle.std.proofs.lemmas.Bool.{leb-true, le-leb}
use Rattle.dht_types.specs.History.{History}
use Rattle.dht_types.specs.declared.events.Event.{Event}
use Rattle.dht_types.specs.declared.events.Event.TheVariants as event
use Rattle.dht_types.specs.declared.lines.Cause.{Cause}
use Rattle.dht_world.specs.Following.{cause_of, is_step, step_limit, IsSpent}
use Rattle.dht_world.specs.declared.stop.Stop.{Stop}
use Rattle.dht_world.specs.declared.stop.Stop.TheVariants.{Limit, OutOfMemory}

yes_step :
    (cause : Option Cause) (b : Bool) → (is_none cause && true && b) ≡ true
    → (cause ≡ None) × (b ≡ true)
yes_step None b e = (refl, e)
yes_step (Some x) b e = absurd (let z : false ≡ true = e in cc)

no_step : (cause : Option Cause) (b : Bool) → (is_none cause && false && b) ≡ true → ⊥
no_step None b e = let z : false ≡ true = e in cc
no_step (Some x) b e = let z : false ≡ true = e in cc

-- as the world tests it
pub is_spent_by :
    (s : History) (e : Event) (cause : Option Cause) (n : ℕ) → cause ≡ cause_of s e → s.requests ≡ n
    → (is_none cause && is_step e && nat_le step_limit n) ≡ true → IsSpent s e
is_spent_by s (event.Step c) cause n ec en h =
    let both = yes_step cause (nat_le step_limit n) h in
    (sym ec ∙ both.0, subst (λ (m : ℕ). step_limit ≤ m) (sym en) (leb-true step_limit n both.1))
is_spent_by s e cause n ec en h = absurd (no_step cause (nat_le step_limit n) h)

pub spent_is_so :
    (s : History) (e : Event) (cause : Option Cause) (n : ℕ) → cause ≡ cause_of s e → s.requests ≡ n
    → IsSpent s e → (is_none cause && is_step e && nat_le step_limit n) ≡ true
spent_is_so s (event.Step c) cause n ec en h =
    ap (λ (o : Option Cause). is_none o && true && nat_le step_limit n) (ec ∙ h.0)
    ∙ le-leb step_limit n (subst (λ (m : ℕ). step_limit ≤ m) en h.1)
spent_is_so s e cause n ec en h = absurd h

pub not_spent :
    {X : Type 0} (s : History) (e : Event) (cause : Option Cause) (n : ℕ) (b : Bool)
    → cause ≡ cause_of s e → s.requests ≡ n
    → b ≡ (is_none cause && is_step e && nat_le step_limit n) → b ≡ false → IsSpent s e → X
not_spent s e cause n b ec en eb f h = absurd (let z : true ≡ false = sym (spent_is_so s e cause n ec en h) ∙ (sym eb ∙ f) in cc)

-- memory that ran out is not the limit
pub not_limit :
    {A X : Type 0} (r : Result A Stop) → IsErrAnd r (λ e. e ≡ OutOfMemory) → r ≡ Err Limit → X
not_limit (Ok x) h e = absurd (let z : Ok x ≡ Err Limit = e in cc)
not_limit (Err x) h e = absurd (let y : Err OutOfMemory ≡ Err Limit = ap (λ (z : Stop). Err z) (sym h) ∙ e in cc)
