-- Holds by their order: by key, and then by client.
use Rattle.std.proofs.Common.{◌≡◌, ℕ, Bool, true, false, refl, sym, ap, subst, ◌∙◌}
use Rattle.std.specs.Prelude.{◌&&◌, nat_eq}
use Rattle.std.specs.Cmp.{IsTotalOrder, tied_itself}
use Rattle.std.specs.Ordering.{nat_cmp, is_eq, is_gt, ordering_then}
use Rattle.std.specs.declared.cmp.Ordering.{Ordering}
use Rattle.std.specs.declared.cmp.Ordering.TheVariants.{Less, Equal, Greater}
use Rattle.std.proofs.lemmas.Bool.Decides.{Decides-eqb}
use Rattle.std.proofs.lemmas.Map.Lookups.{exact_unsigned}
use Rattle.dht_types.specs.Gfid.{Entry}
use Rattle.dht_types.specs.declared.locks.Key.{Key}
use Rattle.dht_types.specs.declared.locks.Key.TheVariants.{Rebalance, Dir, Entry as Name, Content}
use Rattle.dht_types.specs.contracts.locks.KeyOrd.TheImpl.Laws.{total-law as key_total}
use Rattle.dht_brick.specs.LockRows.{same_key}
use Rattle.dht_brick.proofs.LockLaws.{exact_key}
use Rattle.dht_brick.proofs.TableLemmas.{gfid_exact, entry_exact}
use Rattle.dht_locks.specs.Held.{is_of}
pub use Rattle.dht_locks.specs.contracts.holds.HoldOrd.TheImpl.Laws.{total-law as hold_total}
use Rattle.dht_locks.specs.declared.holds.Hold.{Hold}

pub both : (a b : Bool) → (a && b) ≡ true → (a ≡ true) × (b ≡ true)
both true b h = (refl, h)
both false b h = (h, cc)

pub not_true : (b : Bool) → (b ≡ true → ⊥) → b ≡ false
not_true true h = absurd (h refl)
not_true false h = refl

pub is_of-both :
    (key : Key) (client : ℕ) (hold : Hold) → is_of key client hold ≡ true
    → (key ≡ hold.key) × (client ≡ hold.client.0)
is_of-both key client hold h =
    let p = both (same_key key hold.key) (nat_eq client hold.client.0) h in
    ((exact_key key hold.key).0 p.0, (Decides-eqb client hold.client.0).0 p.1)

abbrev order : {K : Type 0} {R : K → K → Ordering} → IsTotalOrder R → K → K → Ordering
order {R = R} o = R

abbrev pub key_cmp : Key → Key → Ordering
key_cmp = order key_total

abbrev pub hold_cmp : Hold → Hold → Ordering
hold_cmp = order hold_total

-- keys that tie are one
pub key_exact : (a b : Key) → key_cmp a b ≡ Equal → a ≡ b
key_exact Rebalance Rebalance e = refl
key_exact (Dir g) (Dir h) e = ap (λ x. Dir x) (gfid_exact g h e)
key_exact (Content g) (Content h) e = ap (λ x. Content x) (gfid_exact g h e)
key_exact (Name g m) (Name h n) e = ap (λ (x : Entry). Name x.0 x.1) (entry_exact (g, m) (h, n) e)
key_exact a b e = cc

abbrev pub hold : Key → ℕ → Hold
hold key client = record { key = key; client = record { 0 = client } }

both_tie : (a b : Ordering) → ordering_then a b ≡ Equal → (a ≡ Equal) × (b ≡ Equal)
both_tie Less b e = cc
both_tie Equal b e = (refl, e)
both_tie Greater b e = cc

pub hold_exact : (a b : Hold) → hold_cmp a b ≡ Equal → a ≡ b
hold_exact a b e =
    let ties = both_tie (key_cmp a.key b.key) (nat_cmp a.client.0 b.client.0) e in
    λ i. hold (key_exact a.key b.key ties.0 i) (exact_unsigned a.client.0 b.client.0 ties.1 i)

-- the holds of one key stand by client
pub hold_cmp-client : (key : Key) (c d : ℕ) → hold_cmp (hold key c) (hold key d) ≡ nat_cmp c d
hold_cmp-client key c d = ap (λ o. ordering_then o (nat_cmp c d)) (tied_itself key_total key)

-- the first and the last that clients can have of a key are in order
pub hold_le :
    (key : Key) (a b : Hold) → a ≡ hold key 0 → b ≡ hold key 65535 → is_gt (hold_cmp a b) ≡ false
hold_le key a b e f = (λ i. is_gt (hold_cmp (e i) (f i))) ∙ ap is_gt (hold_cmp-client key 0 65535)

-- the test of a hold says whether it ties
alike : (a b : Bool) → (a ≡ true → b ≡ true) → (b ≡ true → a ≡ true) → a ≡ b
alike true true f g = refl
alike false false f g = refl
alike true false f g = sym (f refl)
alike false true f g = g refl

tied : (r : Ordering) → is_eq r ≡ true → r ≡ Equal
tied Less e = cc
tied Equal e = refl
tied Greater e = cc

pub is_of-tied : (a b : Hold) → is_eq (hold_cmp a b) ≡ is_of a.key a.client.0 b
is_of-tied a b = alike (is_eq (hold_cmp a b)) (is_of a.key a.client.0 b)
    (λ e. subst (λ h. is_of a.key a.client.0 h ≡ true) (hold_exact a b (tied (hold_cmp a b) e)) (ap (λ t. t && nat_eq a.client.0 a.client.0) ((exact_key a.key a.key).1 refl) ∙ (Decides-eqb a.client.0 a.client.0).1 refl))
    (λ e. let parts = is_of-both a.key a.client.0 b e in
    let one : a ≡ b = λ i. hold (parts.0 i) (parts.1 i) in
    subst (λ h. is_eq (hold_cmp a h) ≡ true) one (ap is_eq (tied_itself hold_total a)))
