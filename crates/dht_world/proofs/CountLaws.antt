-- What a call that was not disturbed was before.
use Rattle.std.proofs.Common.{◌≡◌, ◌≢◌, ◌≤◌, ℕ, true, List, sym, ap, ◌∙◌, length, arith}
use Rattle.dht_types.specs.History.{History, PendingCall, IsUndisturbed}

-- what happened is no less, and what is no brick went not down
pub record Passes (c : ℕ) (s t : History) : Type 0 where
  pub weights : t.weights ≡ s.weights
  pub calls : s.calls ≤ t.calls
  pub clean : t.clean ≡ true → s.clean ≡ true
  pub dead : (w : ℕ) → w ≢ c → t.dead w ≡ s.dead w
  pub called : (w : ℕ) → w ≢ c → t.called w ≡ s.called w
  pub down : (b : ℕ) → length s.weights ≤ b → t.down b ≡ s.down b

-- a call that was not disturbed by then was not before
pub undisturbed_before :
    (c : ℕ) (s t : History) (r q : PendingCall) → Passes c s t → r.number.0 ≤ s.calls
    → q.number.0 ≡ r.number.0 → q.alone ≡ r.alone → IsUndisturbed t q → IsUndisturbed s r
undisturbed_before c s t r q p l e alone h =
    let calls = p.calls in
    let last = h.last in
    record { first = sym alone ∙ h.first; last = omega arith; clean = p.clean h.clean }

pub passes_on : (c : ℕ) (s t u : History) → Passes c s t → Passes c t u → Passes c s u
passes_on c s t u p q =
    let a = p.calls in
    let b = q.calls in
    record {
      weights = q.weights ∙ p.weights;
      calls = omega arith;
      clean = λ h. p.clean (q.clean h);
      dead = λ w ne. q.dead w ne ∙ p.dead w ne;
      called = λ w ne. q.called w ne ∙ p.called w ne;
      down = λ i l. q.down i (let bricks : length t.weights ≡ length s.weights = ap (λ (ws : List ℕ). length ws) p.weights in omega arith) ∙ p.down i l;
    }
