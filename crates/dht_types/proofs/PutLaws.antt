-- Laws of `put`, and the tests that say which keys are one.
use Rattle.std.proofs.Common.{◌≡◌, ◌≢◌, ℕ, Bool, true, false, refl, sym, ap, ◌∙◌}
use Rattle.std.proofs.lemmas.Bool.Decides.{Decides-eqb}
use Rattle.std.specs.Prelude.{nat_eq, ◌&&◌, if◌then◌else◌}
use Rattle.std.specs.Str.{bytes_eq}
use Rattle.std.proofs.lemmas.Slice.Eq.{bytes_eq-Decides}
use Rattle.dht_types.specs.Put.{put, Exact, same_entry}
use Rattle.dht_types.specs.Gfid.{Entry, same_gfid}
use Rattle.dht_types.specs.declared.identifiers.Gfid.{Gfid}

-- by cases on whether a key is the one that was changed
put_by :
    {K A : Type 0} (P : A → Type 0) (same : K → K → Bool) (exact : Exact same) (f : K → A) (k : K)
    (v : A) (m : K) (b : Bool)
    → same m k ≡ b → (m ≡ k → P v) → (m ≢ k → P (f m)) → P (if b then v else f m)
put_by P same exact f k v m true e at_k off_k = at_k ((exact m k).0 e)
put_by P same exact f k v m false e at_k off_k = off_k (λ q. let h : true ≡ false = sym ((exact m k).1 q) ∙ e in cc)

pub put_elim :
    {K A : Type 0} (P : A → Type 0) (same : K → K → Bool) → Exact same
    → (f : K → A) (k : K) (v : A) (m : K) → (m ≡ k → P v) → (m ≢ k → P (f m)) → P (put same f k v m)
unfolding put
put_elim P same exact f k v m at_k off_k = put_by P same exact f k v m (same m k) refl at_k off_k

pub put_same :
    {K A : Type 0} (same : K → K → Bool) → Exact same → (f : K → A) (k : K) (v : A)
    → put same f k v k ≡ v
put_same same exact f k v = put_elim (λ x. x ≡ v) same exact f k v k (λ e. refl) (λ ne. absurd (ne refl))

pub put_other :
    {K A : Type 0} (same : K → K → Bool) → Exact same → (f : K → A) (k : K) (v : A) (m : K) → m ≢ k
    → put same f k v m ≡ f m
put_other same exact f k v m h = put_elim (λ x. x ≡ f m) same exact f k v m (λ e. absurd (h e)) (λ ne. refl)

-- what a change at one place leaves as it is
pub put_keeps :
    {K A B : Type 0} (g : A → B) (same : K → K → Bool) → Exact same → (f : K → A) (k : K) (v : A)
    → g v ≡ g (f k) → (m : K) → g (put same f k v m) ≡ g (f m)
put_keeps g same exact f k v e m = put_elim (λ x. g x ≡ g (f m)) same exact f k v m (λ h. e ∙ ap (λ j. g (f j)) (sym h)) (λ h. refl)

pub exact_nat : Exact nat_eq
exact_nat a b = Decides-eqb a b

pub exact_gfid : Exact same_gfid
exact_gfid a b = (
  λ h. ap (λ (n : ℕ). let g : Gfid = record { 0 = n } in g) ((Decides-eqb a.0 b.0).0 h),
  λ h. (Decides-eqb a.0 b.0).1 (ap (λ (g : Gfid). g.0) h),
)

both : (x y : Bool) → (x && y) ≡ true → (x ≡ true) × (y ≡ true)
both true y h = (refl, h)
both false y h = absurd (let e : false ≡ true = h in cc)

pub exact_entry : Exact same_entry
exact_entry a b = (
  λ h. (let e = both (same_gfid a.0 b.0) (bytes_eq a.1 b.1) h in
      let g : a.0 ≡ b.0 = (exact_gfid a.0 b.0).0 e.0 in
      let n : a.1 ≡ b.1 = (bytes_eq-Decides a.1 b.1).0 e.1 in
      λ i. (g i, n i)),
  λ h. (let g : same_gfid a.0 b.0 ≡ true = (exact_gfid a.0 b.0).1 (ap (λ (e : Entry). e.0) h) in
      let n : bytes_eq a.1 b.1 ≡ true = (bytes_eq-Decides a.1 b.1).1 (ap (λ (e : Entry). e.1) h) in
      ap (λ x. x && bytes_eq a.1 b.1) g ∙ n),
)
