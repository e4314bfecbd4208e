-- Locks: which keys are one, who is the lowest that has to be
-- waited for, and what a request leaves of the locks of others.
use Rattle.std.proofs.Common.{◌≡◌, ◌≢◌, ◌<◌, ℕ, zero, suc, Bool, false, cond, refl, sym, ap, ◌∙◌, inl, inr, arith}
use Rattle.std.specs.Prelude.{Option, Some, None, nat_eq}
use Rattle.std.proofs.lemmas.Bool.{cases_eq}
use Rattle.dht_types.proofs.PutLaws.{put_keeps, put_other, exact_nat, exact_gfid, exact_entry}
use Rattle.dht_types.specs.Gfid.{Entry}
use Rattle.dht_types.specs.Put.{put, Exact}
use Rattle.dht_types.specs.declared.locks.Key.{Key}
use Rattle.dht_types.specs.declared.locks.Key.TheVariants.{Rebalance, Dir, Entry as Name, Content}
use Rattle.dht_types.specs.declared.locks.Mode.{Mode}
use Rattle.dht_brick.specs.Contents.{Contents, Locks}
use Rattle.dht_brick.specs.FileRows.{file_row}
use Rattle.dht_brick.specs.Laws.{FreeLocksAreGranted, HeldLocksAreAwaited}
use Rattle.dht_brick.specs.Locality.{LocksAreLocal}
use Rattle.dht_brick.specs.LockRows.{IsLowest, lowest, first_of, keeps_out, awaited, unless_awaited, held, same_key}
use Rattle.dht_brick.specs.NameRows.{name_row}
use Rattle.dht_brick.specs.OpenRows.{register_row, unregister_row, seal_row}
use Rattle.dht_brick.specs.Outcome.{Outcome, Do, Refuse, Await, within, left_by}
use Rattle.dht_brick.specs.Rows.{with_store, with_opens, with_locks}
use Rattle.dht_brick.specs.declared.replies.Given.TheVariants as given
use Rattle.dht_brick.specs.declared.requests.Request.TheVariants.{Lock, Unlock, Register, Unregister, Seal, OnNames, OnFile}

-- the test says which keys are one
pub exact_key : Exact same_key
exact_key Rebalance Rebalance = (λ e. refl, λ e. refl)
exact_key (Dir g) (Dir h) = (λ e. ap (λ x. Dir x) ((exact_gfid g h).0 e), λ e. (exact_gfid g h).1 cc)
exact_key (Content g) (Content h) = (λ e. ap (λ x. Content x) ((exact_gfid g h).0 e), λ e. (exact_gfid g h).1 cc)
exact_key (Name g m) (Name h n) = (
  λ e. ap (λ (x : Entry). Name x.0 x.1) ((exact_entry (g, m) (h, n)).0 e),
  λ e. let first : g ≡ h = cc in let second : m ≡ n = cc in (exact_entry (g, m) (h, n)).1 (λ i. (first i, second i)),
)
exact_key a b = (λ e. cc, λ e. cc)

module _ (test : ℕ → Bool) where
  -- where none passes, there is no lowest
  pub lowest-None : (n : ℕ) → ((m : ℕ) → m < n → test m ≡ false) → lowest test n ≡ None
  unfolding lowest
  lowest-None zero none = refl
  lowest-None (suc n) none =
      ap (λ o. first_of o (cond (test n) (Some n) None)) (lowest-None n (λ m h. none m (omega (arith, h))))
      ∙ ap (λ b. cond b (Some n) None) (none n (omega arith))

  -- where one is the lowest, it is found
  pub lowest-Some : (n holder : ℕ) → holder < n → IsLowest test holder → lowest test n ≡ Some holder
  unfolding lowest
  lowest-Some zero holder below is = absurd (omega (arith, below))
  lowest-Some (suc n) holder below is = elim (cases_eq holder n) [
    | inr differ ↦ ap (λ o. first_of o (cond (test n) (Some n) None)) (lowest-Some n holder (omega (arith, below, differ)) is)
    | inl last ↦ ap (λ o. first_of o (cond (test n) (Some n) None)) (lowest-None n (λ m h. is.below m (omega (arith, h, last))))
        ∙ ap (λ b. cond b (Some n) None) (ap test (sym last) ∙ is.passes)
        ∙ ap (λ (k : ℕ). Some k) (sym last)
  ]

pub free_locks_are_granted : FreeLocksAreGranted
free_locks_are_granted client key mode locks free =
    ap (λ o. unless_awaited o (Do given.Nothing (held locks key client.0 (Some mode)))) (lowest-None (keeps_out (locks key) client.0 mode) 65536 free)

pub held_locks_are_awaited : HeldLocksAreAwaited
held_locks_are_awaited client key mode locks holder below is =
    ap (λ o. unless_awaited o (Do given.Nothing (held locks key client.0 (Some mode)))) (lowest-Some (keeps_out (locks key) client.0 mode) 65536 holder.0 below is)

-- ---- what a request leaves of the locks of other clients

held_other :
    (locks : Locks) (k : Key) (client : ℕ) (v : Option Mode) (key : Key) (other : ℕ)
    → other ≢ client → held locks k client v key other ≡ locks key other
held_other locks k client v key other differ =
    put_keeps (λ (h : ℕ → Option Mode). h other) same_key exact_key locks k (put nat_eq (locks k) client v) (put_other nat_eq exact_nat (locks k) client v other differ) key

asked_other :
    (awaited : Option ℕ) (c : Contents) (new : Locks) (key : Key) (other : ℕ)
    → new key other ≡ c.locks key other
    → (left_by (within (with_locks c) (unless_awaited awaited (Do given.Nothing new))) c).locks key
    other
    ≡ c.locks key other
asked_other None c new key other e = e
asked_other (Some holder) c new key other e = refl

-- what is done with another part leaves the locks
beside :
    {A : Type 0} (whole : A → Contents) (outcome : Outcome A) (c : Contents)
    → ((a : A) → (whole a).locks ≡ c.locks) → (left_by (within whole outcome) c).locks ≡ c.locks
beside whole (Do given new) c same = same new
beside whole (Refuse why) c same = refl
beside whole (Await holder) c same = refl

pub locks_are_local : LocksAreLocal
locks_are_local bricks client call (Lock k mode) c key other differ = asked_other (awaited c.locks client k mode) c _ key other (held_other c.locks k client.0 (Some mode) key other differ)
locks_are_local bricks client call (Unlock k) c key other differ = held_other c.locks k client.0 None key other differ
locks_are_local bricks client call (Register f) c key other differ = ap (λ (l : Locks). l key other) (beside (with_opens c) (register_row client call f c.opens) c (λ a. refl))
locks_are_local bricks client call (Unregister f opened) c key other differ = ap (λ (l : Locks). l key other) (beside (with_opens c) (unregister_row client f opened c.opens) c (λ a. refl))
locks_are_local bricks client call (Seal f) c key other differ = ap (λ (l : Locks). l key other) (beside (with_opens c) (seal_row f c.opens) c (λ a. refl))
locks_are_local bricks client call (OnNames q) c key other differ = ap (λ (l : Locks). l key other) (beside (with_store c) (name_row bricks q c.store) c (λ a. refl))
locks_are_local bricks client call (OnFile q) c key other differ = ap (λ (l : Locks). l key other) (beside (with_store c) (file_row bricks q c.store) c (λ a. refl))
