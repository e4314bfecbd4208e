-- A path from a directory up to the root.
use Rattle.std.proofs.Common.{◌≡◌, ◌≢◌, ◌<◌, ◌≤◌, ◌+◌, ℕ, Bool, true, false, refl, sym, ◌∙◌, ap, subst, arith, ◌⊎◌, List}
use Rattle.std.specs.Prelude.{zero, suc, nat_lt, is_some, Option, Some, None}
use Rattle.std.proofs.lemmas.Bool.Decides.{nat_tests}
use Rattle.dht_types.specs.Gfid.{Entry, root}
use Rattle.dht_types.specs.Tree.{Descent, IsChild, IsTree, depth_in, depth_of, of_root}
use Rattle.dht_types.specs.declared.identifiers.Gfid.{Gfid}
use Rattle.dht_section.specs.Healed.{IsAbove, IsHealed, IsWhole, Self, Above}
use Rattle.dht_section.specs.Scene.{Scene}
use Rattle.dht_heal.specs.Heal.{IsPath, IsStep, path_at}
use Rattle.dht_heal.specs.declared.heal.Climb.{Climb}

same_some : {A : Type 0} (x y : A) → Some x ≡ Some y → x ≡ y
same_some x y e = let z : Some x ≡ Some y = e in cc

-- ---- a directory that is gone leaves none below it

gone_step :
    (path : List Gfid) (i : ℕ) (s : Scene) → IsTree s.history.tree → IsStep path i s
    → s.history.tree.dirs (path_at path (suc i)) ≡ false
    → s.history.tree.dirs (path_at path i) ≡ false
gone_step path i s tree h gone = by (s.history.tree.dirs (path_at path i)) refl
  where
    by : (v : Bool) → s.history.tree.dirs (path_at path i) ≡ v → v ≡ false
    by false e = refl
    by true e =
        let placed = tree.placed (path_at path i) e in
        let place : placed.descent.place ≡ Some (path_at path (suc i), h.name) = ap (λ (x : Descent). x.place) (same_some placed.descent _ (sym placed.is ∙ h.stands)) in
        let node = placed.stands (path_at path (suc i), h.name) place in
        let there : s.history.tree.dirs (path_at path (suc i)) ≡ true = tree.housed (path_at path (suc i), h.name) (ap is_some node) in
        absurd (let z : true ≡ false = sym there ∙ gone in cc)

pub gone_below :
    (c : Climb) (i : ℕ) (s : Scene) → IsTree s.history.tree → IsPath c s → i ≤ c.place
    → s.history.tree.dirs (path_at c.room.path i) ≡ false
    → s.history.tree.dirs (path_at c.room.path 0) ≡ false
gone_below c zero s tree h l gone = gone
gone_below c (suc i) s tree h l gone = gone_below c i s tree h (omega arith) (gone_step c.room.path i s tree (h.steps i (omega arith)) gone)

-- ---- its directories differ

step_depth :
    (path : List Gfid) (i : ℕ) (s : Scene) → IsStep path i s
    → depth_of s.history.tree (path_at path i) ≡ depth_of s.history.tree (path_at path (suc i)) + 1
step_depth path i s h = ap depth_in h.stands ∙ ap (λ (n : ℕ). n + 1) (sym (ap depth_in h.parent))

deeper :
    (c : Climb) (i j : ℕ) (s : Scene) → IsPath c s → i < j → j ≤ c.place
    → depth_of s.history.tree (path_at c.room.path j)
    < depth_of s.history.tree (path_at c.room.path i)
deeper c i zero s h l k = absurd (omega arith)
deeper c i (suc j) s h l k = by (λ q. deeper c i j s h q (omega arith)) (nat_lt i j) refl
  where
    by : (i < j → depth_of s.history.tree (path_at c.room.path j) < depth_of s.history.tree (path_at c.room.path i)) → (v : Bool) → nat_lt i j ≡ v → depth_of s.history.tree (path_at c.room.path (suc j)) < depth_of s.history.tree (path_at c.room.path i)
    by before true e =
        let above = before (grind (arith, nat_tests, e)) in
        let step = step_depth c.room.path j s (h.steps j (omega arith)) in
        omega arith
    by before false e =
        let same : j ≡ i = grind (arith, nat_tests, e, l) in
        let step = step_depth c.room.path j s (h.steps j (omega arith)) in
        let depth : depth_of s.history.tree (path_at c.room.path j) ≡ depth_of s.history.tree (path_at c.room.path i) = ap (λ (n : ℕ). depth_of s.history.tree (path_at c.room.path n)) same in
        omega arith

pub apart :
    (c : Climb) (i j : ℕ) (s : Scene) → IsPath c s → i < j → j ≤ c.place
    → path_at c.room.path j ≢ path_at c.room.path i
apart c i j s h l k e =
    let less = deeper c i j s h l k in
    let same = ap (depth_of s.history.tree) e in
    absurd (omega arith)

-- ---- what stands above its first directory is on it

record OnPath (c : Climb) (p : Gfid) : Type 0 where
  place : ℕ
  within : place ≤ c.place
  is : path_at c.room.path place ≡ p

on_path :
    (c : Climb) (s : Scene) (p : Gfid) → IsTree s.history.tree → IsPath c s
    → path_at c.room.path c.place ≡ root → IsAbove s.history.tree (path_at c.room.path 0) p
    → OnPath c p
on_path c s p tree h ends Self = record { place = 0; within = omega arith; is = refl }
on_path c s p tree h ends (Above e g above node) = by (on_path c s g tree h ends above)
  where
    child : IsChild s.history.tree e g
    child = tree.child e g node

    at : (place : ℕ) → place ≤ c.place → path_at c.room.path place ≡ g → (v : Bool) → nat_lt place c.place ≡ v → OnPath c e.0
    at place l is true k =
        let within : place < c.place = grind (arith, nat_tests, k) in
        let step = h.steps place within in
        let descents = sym step.stands ∙ (ap s.history.tree.descents is ∙ child.descent) in
        let places : Some (path_at c.room.path (suc place), step.name) ≡ Some e = ap (λ (o : Option Descent). place_of o) descents in
        record { place = suc place; within = omega arith; is = ap (λ (x : Entry). x.0) (same_some (path_at c.room.path (suc place), step.name) e places) }
      where
        place_of : Option Descent → Option Entry
        place_of None = None
        place_of (Some x) = x.place
    at place l is false k =
        let top : place ≡ c.place = grind (arith, nat_tests, k, l) in
        let rooted : g ≡ root = sym is ∙ (ap (path_at c.room.path) top ∙ ends) in
        let descents = sym tree.rooted.1 ∙ (ap s.history.tree.descents (sym rooted) ∙ child.descent) in
        let places : None ≡ Some e = ap (λ (x : Descent). x.place) (same_some of_root _ descents) in
        absurd (let z : None ≡ Some e = places in cc)

    by : OnPath c g → OnPath c e.0
    by q = at q.place q.within q.is (nat_lt q.place c.place) refl

-- so where all of its directories are whole the first is healed
pub path_healed :
    (c : Climb) (s : Scene) → IsTree s.history.tree → IsPath c s
    → path_at c.room.path c.place ≡ root
    → ((j : ℕ) → j ≤ c.place → IsWhole s.disk (path_at c.room.path j))
    → IsHealed s.disk s.history.tree (path_at c.room.path 0)
path_healed c s tree h ends whole p above =
    let q = on_path c s p tree h ends above in
    subst (IsWhole s.disk) q.is (whole q.place q.within)
