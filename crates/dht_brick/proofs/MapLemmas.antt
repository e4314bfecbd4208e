-- A finite map at a key that was changed.
use Rattle.std.proofs.Common.{◌≡◌, true, false, cond, ap, ◌∙◌}
use Rattle.std.specs.Prelude.{Some, None}
use Rattle.std.specs.declared.cmp.Ordering.{Ordering}
use Rattle.std.specs.Ordering.{eq_by_cmp, is_eq}
use Rattle.std.specs.Cmp.{IsTotalOrder, tied_itself}
use Rattle.std.specs.FinMap.{FinMap, get, insert, remove, get-insert, get-remove}

itself : {K : Type 0} {R : K → K → Ordering} → IsTotalOrder R → (k : K) → eq_by_cmp R k k ≡ true
itself o k = ap is_eq (tied_itself o k)

module _ {K X : Type 0} {R : K → K → Ordering} (o : IsTotalOrder R) where
  pub get-insert_here : (m : FinMap R X) (k : K) (v : X) → get (insert m k v) k ≡ Some v
  get-insert_here m k v = get-insert o m k v k ∙ ap (λ b. cond b (Some v) (get m k)) (itself o k)

  pub get-remove_here : (m : FinMap R X) (k : K) → get (remove m k) k ≡ None
  get-remove_here m k = get-remove o m k k ∙ ap (λ b. cond b None (get m k)) (itself o k)

  -- at a key that does not tie
  pub get-insert_other : (m : FinMap R X) (k : K) (v : X) (q : K) → eq_by_cmp R q k ≡ false → get (insert m k v) q ≡ get m q
  get-insert_other m k v q apart = get-insert o m k v q ∙ ap (λ b. cond b (Some v) (get m q)) apart

  pub get-remove_other : (m : FinMap R X) (k q : K) → eq_by_cmp R q k ≡ false → get (remove m k) q ≡ get m q
  get-remove_other m k q apart = get-remove o m k q ∙ ap (λ b. cond b None (get m q)) apart
