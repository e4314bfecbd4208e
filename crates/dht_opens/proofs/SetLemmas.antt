-- What a `BTreeSet` keeps, shown as a finite set.
use Rattle.std.proofs.Common.{◌≡◌, Bool, true, false, cond, List, [], ◌∷◌, map, refl, sym, ap, subst, ◌∙◌}
use Rattle.std.specs.Prelude.{ℕ, Option, Some, None, ◌&&◌, ◌||◌, filter, is_some}
use Rattle.std.specs.declared.cmp.Ordering.{Ordering}
use Rattle.std.specs.declared.cmp.Ordering.TheVariants.{Less, Equal, Greater}
use Rattle.std.specs.List.{list_any}
use Rattle.std.specs.List.Sorted.{IsStrictlySortedBy}
use Rattle.std.specs.Map.{keys_of}
use Rattle.std.specs.Ordering.{is_eq, eq_by_cmp, nat_cmp}
use Rattle.std.specs.Cmp.{IsTotalOrder, eq_by_cmp_equiv}
use Rattle.std.specs.BTreeMap.{is_at}
use Rattle.std.specs.FinMap.{FinMap, IsAntisymmetric, get, insert, remove, retain_keys, empty, keys, find, from_entries, get-from_entries, get-insert, get-remove, get-retain_keys, same_map}
use Rattle.std.proofs.lemmas.Cmp.{on_total, then_total, nat_cmp_total}
use Rattle.std.proofs.lemmas.Map.Lookups.{exact_unsigned}
use Rattle.std.proofs.lemmas.Map.Made.{is_member-filter}
use Rattle.dht_brick.specs.Contents.{gfid_cmp, registration_cmp}
use Rattle.dht_brick.specs.declared.opens.Registration.{Registration}
pub use Rattle.dht_brick.proofs.TableLemmas.{gfid_total, gfid_exact}
use Rattle.dht_brick.proofs.TableLemmas.{entries-plain}
use Rattle.dht_opens.specs.Opens.{set_of}

-- the order of registrations is total, and only a registration itself ties with it
pub registration_total : IsTotalOrder registration_cmp
registration_total = then_total (on_total (λ r. r.file) gfid_total) (then_total (on_total (λ r. r.client.0) nat_cmp_total) (on_total (λ r. r.call.0) nat_cmp_total))

first_tie :
    (a b : Ordering) → Rattle.std.specs.Ordering.ordering_then a b ≡ Equal
    → (a ≡ Equal) × (b ≡ Equal)
first_tie Less b h = cc
first_tie Equal b h = (refl, h)
first_tie Greater b h = cc

pub registration_exact : IsAntisymmetric registration_cmp
registration_exact a b h =
    let outer = first_tie (gfid_cmp a.file b.file) _ h in
    let inner = first_tie (nat_cmp a.client.0 b.client.0) _ outer.1 in
    let made : ℕ → ℕ → ℕ → Registration = λ f c n. record { file = record { 0 = f }; client = record { 0 = c }; call = record { 0 = n } } in
    ap (λ n. made n a.client.0 a.call.0) (exact_unsigned a.file.0 b.file.0 outer.0)
    ∙ ap (λ n. made b.file.0 n a.call.0) (exact_unsigned a.client.0 b.client.0 inner.0)
    ∙ ap (λ n. made b.file.0 b.client.0 n) (exact_unsigned a.call.0 b.call.0 inner.1)

-- what a set has at a key that it has, or has not
abbrev pub mark : Bool → Option (Unit {0})
mark b = cond b (Some tt) None

mark-or : (b c : Bool) → cond b (Some tt) (mark c) ≡ mark (b || c)
mark-or true c = refl
mark-or false c = refl

mark-cond : (b c d : Bool) → cond b (mark c) (mark d) ≡ mark (cond b c d)
mark-cond true c d = refl
mark-cond false c d = refl

mark-and : (c p : Bool) → mark (c && p) ≡ cond p (mark c) None
mark-and true true = refl
mark-and true false = refl
mark-and false true = refl
mark-and false false = refl

pub is_some-mark : (b : Bool) → is_some (mark b) ≡ b
is_some-mark true = refl
is_some-mark false = refl

keys_of-marked : {K : Type 0} (ks : List K) → keys_of (map (λ k. (k, tt {0})) ks) ≡ ks
keys_of-marked [] = refl
keys_of-marked (k ∷ ks) = ap (λ xs. k ∷ xs) (keys_of-marked ks)

firsts-keys_of : {K X : Type 0} (es : List (K × X)) → map (λ e. e.0) es ≡ keys_of es
firsts-keys_of [] = refl
firsts-keys_of (e ∷ es) = ap (λ xs. e.0 ∷ xs) (firsts-keys_of es)

find-marked :
    {K : Type 0} (R : K → K → Ordering) (ks : List K) (q : K)
    → find R q (map (λ k. (k, tt)) ks) ≡ mark (list_any (is_at (R q)) ks)
find-marked R [] q = refl
find-marked R (k ∷ ks) q = ap (cond (eq_by_cmp R q k) (Some tt)) (find-marked R ks q) ∙ mark-or (eq_by_cmp R q k) (list_any (is_at (R q)) ks)

module _ {K : Type 0} {R : K → K → Ordering} where
  module _ (o : IsTotalOrder R) where
    pub get-set_of : (ks : List K) (q : K) → get (set_of {R = R} ks) q ≡ mark (list_any (is_at (R q)) ks)
    get-set_of ks q = get-from_entries o (map (λ k. (k, tt)) ks) q ∙ find-marked R ks q

    -- whether the set has a key
    pub is_some-set_of : (ks : List K) (q : K) → is_some (get (set_of {R = R} ks) q) ≡ list_any (is_at (R q)) ks
    is_some-set_of ks q = ap is_some (get-set_of ks q) ∙ is_some-mark _

    module _ (exact : IsAntisymmetric R) where
      -- where the keys ascend, they are those of the set
      pub keys-set_of : (ks : List K) → IsStrictlySortedBy R ks → keys (set_of {R = R} ks) ≡ ks
      keys-set_of ks h =
          let es = map (λ k. (k, tt)) ks in
          ap (map (λ e. e.0)) (entries-plain o exact es (subst (IsStrictlySortedBy R) (sym (keys_of-marked ks)) h)) ∙ firsts-keys_of es ∙ keys_of-marked ks

      -- keys that differ at one key make sets that differ there
      pub insert-set_of : (ks ls : List K) (k : K) → ((q : K) → list_any (is_at (R q)) ls ≡ cond (is_at (R k) q) true (list_any (is_at (R q)) ks)) → set_of {R = R} ls ≡ insert (set_of ks) k tt
      insert-set_of ks ls k h =
          same_map o exact (set_of {R = R} ls) (insert (set_of ks) k tt) (λ q.
          get-set_of ls q ∙ ap mark (h q) ∙ sym (mark-cond (is_at (R k) q) true (list_any (is_at (R q)) ks))
          ∙ ap (λ b. cond b (Some tt) (mark (list_any (is_at (R q)) ks))) ((eq_by_cmp_equiv o).symm k q)
          ∙ ap (cond (eq_by_cmp R q k) (Some tt)) (sym (get-set_of ks q))
          ∙ sym (get-insert o (set_of ks) k tt q))

      pub remove-set_of : (ks ls : List K) (k : K) → ((q : K) → list_any (is_at (R q)) ls ≡ cond (is_at (R k) q) false (list_any (is_at (R q)) ks)) → set_of {R = R} ls ≡ remove (set_of ks) k
      remove-set_of ks ls k h =
          same_map o exact (set_of {R = R} ls) (remove (set_of ks) k) (λ q.
          get-set_of ls q ∙ ap mark (h q) ∙ sym (mark-cond (is_at (R k) q) false (list_any (is_at (R q)) ks))
          ∙ ap (λ b. cond b None (mark (list_any (is_at (R q)) ks))) ((eq_by_cmp_equiv o).symm k q)
          ∙ ap (cond (eq_by_cmp R q k) None) (sym (get-set_of ks q))
          ∙ sym (get-remove o (set_of ks) k q))

      alike : (p : K → Bool) (q x : K) → is_eq (R q x) ≡ true → p q ≡ p x
      alike p q x h = elim (R q x) as (λ r. R q x ≡ r → is_eq r ≡ true → p q ≡ p x) [
        | Less ↦ λ e n. cc
        | Equal ↦ λ e n. ap p (exact q x e)
        | Greater ↦ λ e n. cc
      ] refl h

      -- the keys that pass a test make the set of those that pass it
      pub filter-set_of : (p : K → Bool) (ks : List K) → set_of {R = R} (filter p ks) ≡ retain_keys (set_of ks) p
      filter-set_of p ks =
          same_map o exact (set_of {R = R} (filter p ks)) (retain_keys (set_of ks) p) (λ q.
          get-set_of (filter p ks) q ∙ ap mark (is_member-filter (eq_by_cmp_equiv o) p q (λ x e. alike p q x e) ks)
          ∙ mark-and (list_any (is_at (R q)) ks) (p q)
          ∙ ap (λ v. cond (p q) v None) (sym (get-set_of ks q))
          ∙ sym (get-retain_keys (set_of ks) p q (λ x e. sym (ap p (exact q x e)))))
