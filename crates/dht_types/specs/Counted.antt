-- The clients that have a pending call, as a history counts them.
use Rattle.std.specs.Prelude.{ℕ, ◌<◌, ◌≤◌, ◌≡◌, ◌≢◌, ◌⊎◌, true, is_some, Some, None, List, [], ◌∷◌}
use Rattle.dht_types.specs.History.{History, PendingCall}

-- the number is one of these
abbrev pub IsListed : ℕ → List ℕ → Type 0
IsListed c [] = ⊥
IsListed c (x ∷ xs) = (x ≡ c) ⊎ IsListed c xs

-- each pending call is listed, and who is listed has one; it has a number that was
-- given; one that was alone when it began, and after which none was accepted, is alone
pub record CallsCounted (s : History) : Type 0 where
  pub listed : (c : ℕ) (r : PendingCall) → s.pending c ≡ Some r → IsListed c s.callers
  pub calling : (c : ℕ) → IsListed c s.callers → is_some (s.pending c) ≡ true
  pub numbered : (c : ℕ) (r : PendingCall) → s.pending c ≡ Some r → r.number.0 ≤ s.calls
  pub from_one : (c : ℕ) (r : PendingCall) → s.pending c ≡ Some r → 0 < r.number.0
  pub alone : (c w : ℕ) (r : PendingCall)
      → s.pending c ≡ Some r → r.alone ≡ true → r.number.0 ≡ s.calls → w ≢ c → s.pending w ≡ None
