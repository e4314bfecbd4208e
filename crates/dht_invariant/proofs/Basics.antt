-- Small facts that every law of the invariant uses.
use Rattle.std.proofs.Common.{◌≡◌, ◌≢◌, ◌<◌, ℕ, arith, Bool, true, false, refl, sym, ◌∙◌, inl, inr, ◌⊎◌}
use Rattle.std.specs.Prelude.{Option, Some, None, is_some, ◌&&◌}
use Rattle.dht_types.specs.Put.{Exact}
use Rattle.dht_types.specs.Gfid.{anchor, same_gfid}
use Rattle.dht_types.proofs.PutLaws.{exact_gfid}
use Rattle.dht_types.specs.declared.identifiers.Gfid.{Gfid}

pub cases :
    {K : Type 0} (same : K → K → Bool) → Exact same → (p q : K) (v : Bool) → same p q ≡ v
    → (p ≡ q) ⊎ (p ≢ q)
cases same exact p q true e = inl ((exact p q).0 e)
cases same exact p q false e = inr (λ h. let k : true ≡ false = sym ((exact p q).1 h) ∙ e in cc)

pub gfid_cases : (x y : Gfid) → (x ≡ y) ⊎ (x ≢ y)
gfid_cases x y = cases same_gfid exact_gfid x y (same_gfid x y) refl

pub none_some : {A : Type 0} (o : Option A) (x : A) → o ≡ None → o ≡ Some x → ⊥
none_some o x h k = let e : None ≡ Some x = sym h ∙ k in cc

pub some_same : {A : Type 0} (o : Option A) (x y : A) → o ≡ Some x → o ≡ Some y → x ≡ y
some_same o x y h k = let e : Some x ≡ Some y = sym h ∙ k in cc

pub other_some : {A : Type 0} (x y : A) → y ≢ x → Some x ≢ Some y
other_some x y ne h = ne (let e : y ≡ x = cc in e)

pub true_false : (b : Bool) → b ≡ true → b ≡ false → ⊥
true_false b h k = let e : true ≡ false = sym h ∙ k in cc

pub not_true : (b : Bool) → (b ≡ true → ⊥) → b ≡ false
not_true true h = absurd (h refl)
not_true false h = refl

pub both_true : (v w : Bool) → (v && w) ≡ true → (v ≡ true) × (w ≡ true)
both_true true w h = (refl, h)
both_true false w h = absurd (let z : false ≡ true = h in cc)

pub is_there : {A : Type 0} (o : Option A) → is_some o ≡ true → (x : A) × (o ≡ Some x)
is_there None h = absurd (let e : false ≡ true = h in cc)
is_there (Some x) h = (x, refl)

pub anchor_within : (g : Gfid) (n : ℕ) → 0 < n → anchor g n < n
anchor_within g n h = omega arith
