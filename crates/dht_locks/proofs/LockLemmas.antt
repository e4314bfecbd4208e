-- The locks that a map of holds keeps, and what becomes of them where it changes.
use Rattle.std.proofs.Common.{◌≡◌, ℕ, Bool, true, false, cond, not, List, refl, sym, ap, ◌∙◌}
use Rattle.std.specs.Prelude.{Option, None, nat_eq, filter}
use Rattle.std.specs.BTreeMap.{BTreeMap, is_at, Updates}
use Rattle.std.specs.Map.{lookup}
use Rattle.std.specs.Ordering.{is_eq}
use Rattle.std.proofs.lemmas.Map.Entries.{lookup-filter-keys}
use Rattle.dht_types.proofs.PutLaws.{put_elim, exact_nat}
use Rattle.dht_types.specs.Put.{put}
use Rattle.dht_types.specs.declared.locks.Key.{Key}
use Rattle.dht_types.specs.declared.locks.Mode.{Mode}
use Rattle.dht_brick.specs.Contents.{Locks}
use Rattle.dht_brick.specs.Events.{locks_without}
use Rattle.dht_brick.specs.LockRows.{same_key, held}
use Rattle.dht_brick.proofs.LockLaws.{exact_key}
use Rattle.dht_locks.specs.Held.{is_of}
use Rattle.dht_locks.specs.declared.holds.Hold.{Hold}
use Rattle.dht_locks.proofs.HoldLemmas.{hold, hold_cmp, is_of-tied, is_of-both, not_true}

-- the locks of these holds
abbrev pub locks_of : List (Hold × Mode) → Locks
locks_of es key client = lookup (is_of key client) es

-- a look-up by the order is one by the test
pub lookup-tied :
    (es : List (Hold × Mode)) (h : Hold)
    → lookup (is_at (hold_cmp h)) es ≡ locks_of es h.key h.client.0
lookup-tied es h = λ i. lookup (λ k. is_of-tied h k i) es

-- the two do not both hold
abbrev pub Apart : Key → ℕ → Key → ℕ → Type 0
Apart key client k c = key ≡ k → client ≡ c → ⊥

-- a function of locks that differs from another at one lock of one client
put_hold :
    (f g : Locks) (k : Key) (c : ℕ) (v : Option Mode) → g k c ≡ v
    → ((key : Key) (client : ℕ) → Apart key client k c → g key client ≡ f key client)
    → g ≡ held f k c v
put_hold f g k c v here others =
    λ i key client.
    put_elim (λ (h : ℕ → Option Mode). g key client ≡ h client) same_key exact_key f k (put nat_eq (f k) c v) key
    (λ e. put_elim (λ (o : Option Mode). g key client ≡ o) nat_eq exact_nat (f k) c v client
    (λ t. (λ j. g (e j) (t j)) ∙ here)
    (λ differ. others key client (λ _ q. differ q) ∙ ap (λ x. f x client) e))
    (λ differ. others key client (λ q _. differ q)) i

-- a map that is changed at a hold has the locks changed there
pub held-updated :
    (m n : BTreeMap Hold Mode) (k : Key) (c : ℕ) (v : Option Mode)
    → Updates hold_cmp m n (hold k c) v → locks_of n.entries ≡ held (locks_of m.entries) k c v
held-updated m n k c v u =
    put_hold (locks_of m.entries) (locks_of n.entries) k c v
    (sym (lookup-tied n.entries (hold k c)) ∙ u.1)
    (λ key client apart.
    let differ : is_eq (hold_cmp (hold k c) (hold key client)) ≡ false = is_of-tied (hold k c) (hold key client) ∙ not_true (is_of k c (hold key client)) (λ e. let p = is_of-both k c (hold key client) e in apart (sym p.0) (sym p.1)) in
    sym (lookup-tied n.entries (hold key client)) ∙ u.2 (hold key client) differ ∙ lookup-tied m.entries (hold key client))

cond-not : (b : Bool) (v : Option Mode) → cond (not b) v None ≡ cond b None v
cond-not true v = refl
cond-not false v = refl

-- where the holds of a client are taken out, it holds no lock
pub locks_without-filter :
    (client : ℕ) (es : List (Hold × Mode))
    → locks_of (filter (λ e. not (nat_eq client e.0.client.0)) es)
    ≡ locks_without client (locks_of es)
locks_without-filter client es =
    λ i key other.
    (lookup-filter-keys (is_of key other) (λ h. not (nat_eq client h.client.0)) (not (nat_eq client other)) (λ h e. ap (λ c. not (nat_eq client c)) (sym (is_of-both key other h e).1)) es
    ∙ cond-not (nat_eq client other) (locks_of es key other)) i
