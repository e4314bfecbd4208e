-- A file has no more registrations where those of one client are taken away.
use Rattle.std.proofs.Common.{◌≡◌, ◌≤◌, ◌+◌, ℕ, Bool, true, false, refl, sym, ap, subst, ◌∙◌, cond, List, arith}
use Rattle.std.specs.Prelude.{None, is_some, T, nat_eq, not, if◌then◌else◌, map, filter, count_by, sum_by}
use Rattle.std.specs.Ordering.{nat_cmp, ordering_then}
use Rattle.std.specs.Cmp.{IsTotalOrder}
use Rattle.std.proofs.lemmas.Cmp.{on_total, then_total, nat_cmp_total}
use Rattle.std.proofs.lemmas.Map.Lookups.{exact_unsigned}
use Rattle.std.specs.FinMap.{FinMap, IsAntisymmetric, get, contains_key, entries, entries_sorted, is_sorted, retain_keys, from_sorted, get-retain_keys, get-from_sorted, get-entries, entries-from_sorted, same_map}
use Rattle.std.specs.FinMap.Entries.{where_key, is_sorted-where_key, find-where_key}
use Rattle.std.specs.declared.cmp.Ordering.{Ordering}
use Rattle.std.specs.declared.cmp.Ordering.TheVariants.{Less, Equal, Greater}
use Rattle.std.proofs.lemmas.List.Filters.{sum_by-filter_both}
use Rattle.dht_types.specs.Gfid.{same_gfid}
use Rattle.dht_types.specs.declared.identifiers.Gfid.{Gfid}
use Rattle.dht_brick.proofs.TableLemmas.{count_by-map, gfid_total}
use Rattle.dht_brick.specs.Contents.{Opens, gfid_cmp, registration_cmp}
use Rattle.dht_brick.specs.Events.{opens_without}
use Rattle.dht_brick.specs.OpenRows.{registrations}
use Rattle.dht_brick.specs.declared.opens.Registration.{Registration}

-- the entries whose keys pass a test
pub entries_kept :
    {K X : Type 0} {R : K → K → Ordering} → IsTotalOrder R → IsAntisymmetric R
    → (m : FinMap R X) (p : K → Bool) → entries (retain_keys m p) ≡ filter (λ e. p e.0) (entries m)
entries_kept {K} {X} {R} o exact m p =
    ap entries (same_map o exact (retain_keys m p) (from_sorted (where_key R p (entries m))) (λ q. get-retain_keys m p q (alike q) ∙ sym (get-from_sorted R (where_key R p (entries m)) q sorted ∙ (find-where_key R p q (alike q) (entries m) ∙ ap (λ x. cond (p q) x None) (sym (get-entries m q))))))
    ∙ entries-from_sorted R (where_key R p (entries m)) sorted
  where
    sorted : T (is_sorted R (where_key R p (entries m)))
    sorted = is_sorted-where_key R p (entries m) (entries_sorted m)

    alike : (q x : K) → R q x ≡ Equal → p x ≡ p q
    alike q x t = ap p (sym (exact q x t))

-- the order of registrations is total, and only a registration itself ties with it
pub registration_total : IsTotalOrder registration_cmp
registration_total = then_total (on_total (λ r. r.file) gfid_total) (then_total (on_total (λ r. r.client.0) nat_cmp_total) (on_total (λ r. r.call.0) nat_cmp_total))

first_tie : (a b : Ordering) → ordering_then a b ≡ Equal → (a ≡ Equal) × (b ≡ Equal)
first_tie Less b h = cc
first_tie Equal b h = (refl, h)
first_tie Greater b h = cc

pub registration_exact : IsAntisymmetric registration_cmp
registration_exact a b h =
    let outer = first_tie (gfid_cmp a.file b.file) _ h in
    let inner = first_tie (nat_cmp a.client.0 b.client.0) _ outer.1 in
    let made : ℕ → ℕ → ℕ → Registration = λ f c n. record { file = record { 0 = f }; client = record { 0 = c }; call = record { 0 = n } } in
    ap (λ n. made n a.client.0 a.call.0) (exact_unsigned a.file.0 b.file.0 outer.0)
    ∙ ap (λ n. made b.file.0 n a.call.0) (exact_unsigned a.client.0 b.client.0 inner.0)
    ∙ ap (λ n. made b.file.0 b.client.0 n) (exact_unsigned a.call.0 b.call.0 inner.1)

-- fewer are counted where fewer are kept
filtered_less :
    (p : Registration → Bool) (q : Registration × Unit {0} → Bool)
    (es : List (Registration × Unit {0}))
    → count_by p (map (λ (e : Registration × Unit {0}). e.0) (filter q es))
    ≤ count_by p (map (λ (e : Registration × Unit {0}). e.0) es)
filtered_less p q es =
    let g : Registration × Unit {0} → ℕ = λ e. if p e.0 then 1 else 0 in
    let both : sum_by g (filter q es) + sum_by g (filter (λ e. not (q e)) es) ≡ sum_by g es = sum_by-filter_both q (λ e. not (q e)) (λ e. refl) g es in
    let few : count_by p (map (λ (e : Registration × Unit {0}). e.0) (filter q es)) ≡ sum_by g (filter q es) = count_by-map p (λ (e : Registration × Unit {0}). e.0) (filter q es) in
    let all : count_by p (map (λ (e : Registration × Unit {0}). e.0) es) ≡ sum_by g es = count_by-map p (λ (e : Registration × Unit {0}). e.0) es in
    omega arith

pub registrations_less :
    (c : ℕ) (o : Opens) (f : Gfid) → registrations (opens_without c o) f ≤ registrations o f
unfolding registrations
registrations_less c o f = subst (λ es. count_by (λ (r : Registration). same_gfid f r.file) (map (λ (e : Registration × Unit {0}). e.0) es) ≤ registrations o f) (sym (entries_kept registration_total registration_exact o.registered (λ r. not (nat_eq c r.client.0)))) (filtered_less (λ r. same_gfid f r.file) (λ e. not (nat_eq c e.0.client.0)) (entries o.registered))

-- what is not registered is not registered then
pub unregistered_less :
    (c : ℕ) (o : Opens) (r : Registration) → contains_key o.registered r ≡ false
    → contains_key (opens_without c o).registered r ≡ false
unregistered_less c o r h = ap is_some (get-retain_keys o.registered (λ x. not (nat_eq c x.client.0)) r (λ x t. ap (λ (y : Registration). not (nat_eq c y.client.0)) (sym (registration_exact r x t)))) ∙ kept (not (nat_eq c r.client.0))
  where
    kept : (v : Bool) → is_some (cond v (get o.registered r) None) ≡ false
    kept true = h
    kept false = refl
