-- New bricks, one after the other.
use Rattle.std.proofs.Common.{◌≡◌, ℕ, ◌+◌, ◌<◌, List, [], ◌∷◌, ◌++◌, true, length, suc, zero, refl, ap, ◌∙◌, subst, arith}
use Rattle.std.specs.Prelude.{Option, slice_get}
use Rattle.dht_types.specs.Gfid.{root}
use Rattle.dht_types.specs.Volume.{VolumeInfo, replay_names}
use Rattle.dht_xattr.specs.Plan.{planned_value}
use Rattle.dht_brick.specs.Bricks.{BrickState}
use Rattle.dht_brick.specs.Contents.{newborn}
use Rattle.dht_world.specs.Bricks.{disk_of, journals_of, none_down, IsNew, AreNew, AreNewborn, AreReady, ReadyAt}
use Rattle.dht_world.proofs.BrickLaws.{nothing_beyond}

module _ {B : Type 0} (state : B → BrickState) (v : VolumeInfo) (value : ℕ → Option (List ℕ)) where
  pub one_new_more : (n m : ℕ) (bricks : List B) (b : B) → AreNew state v value n bricks → m ≡ n + length bricks → IsNew v (value m) m (state b) → AreNew state v value n (bricks ++ b ∷ [])
  one_new_more n m [] b h k new = (subst (λ (i : ℕ). IsNew v (value i) i (state b)) (omega arith) new, tt)
  one_new_more n m (x ∷ xs) b h k new = (h.0, one_new_more (suc n) m xs b h.1 (omega arith) new)

  pub new_contents : (n : ℕ) (bricks : List B) → AreNew state v value n bricks → (i : ℕ) → i < length bricks → (disk_of state bricks).brick i ≡ newborn (value (n + i))
  new_contents n [] h i lt = absurd (omega arith)
  new_contents n (x ∷ xs) h zero lt = h.0.newborn.contents ∙ ap (λ (m : ℕ). newborn (value m)) (let z : n ≡ n + 0 = omega arith in z)
  new_contents n (x ∷ xs) h (suc i) lt = new_contents (suc n) xs h.1 i (omega arith) ∙ ap (λ (m : ℕ). newborn (value m)) (let z : suc n + i ≡ n + suc i = omega arith in z)

  pub nothing_served : (n : ℕ) (bricks : List B) → AreNew state v value n bricks → (i : ℕ) → journals_of state bricks i ≡ []
  nothing_served n [] h i = refl
  nothing_served n (x ∷ xs) h zero = h.0.newborn.journal
  nothing_served n (x ∷ xs) h (suc i) = nothing_served (suc n) xs h.1 i

  pub new_ready : (n : ℕ) (bricks : List B) → AreNew state v value n bricks → (i : ℕ) → ReadyAt state v true (n + i) (slice_get bricks i)
  new_ready n [] h i = tt
  new_ready n (x ∷ xs) h zero =
      let new = h.0.newborn in
      record { number = new.number ∙ (let z : n ≡ n + 0 = omega arith in z); up = new.up; unarmed = new.unarmed; faultless = h.0.faultless; volume = new.volume }
  new_ready n (x ∷ xs) h (suc i) = subst (λ (m : ℕ). ReadyAt state v true m (slice_get xs i)) (let z : suc n + i ≡ n + suc i = omega arith in z) (new_ready (suc n) xs h.1 i)

  -- new bricks that know the names of a replay's bricks
  pub ready_all : (bricks : List B) → v.names ≡ replay_names (length bricks) → AreNew state v value 0 bricks → AreReady state v.weights v.run none_down bricks
  ready_all bricks e h b =
      subst (λ (names : List (List ℕ)). ReadyAt state (record v { names = names }) true b (slice_get bricks b)) e
      (subst (λ (m : ℕ). ReadyAt state v true m (slice_get bricks b)) (let z : 0 + b ≡ b = omega arith in z) (new_ready 0 bricks h b))

-- bricks that are all new, each with the range that is planned for it
pub newborn_all :
    {B : Type 0} (state : B → BrickState) (v : VolumeInfo) (bricks : List B)
    → AreNew state v (planned_value v.weights root) 0 bricks
    → AreNewborn v.weights (disk_of state bricks) (journals_of state bricks)
newborn_all state v bricks h = record {
  contents = λ b l. new_contents state v (planned_value v.weights root) 0 bricks h b l ∙ ap (λ (m : ℕ). newborn (planned_value v.weights root m)) (let z : 0 + b ≡ b = omega arith in z);
  elsewhere = nothing_beyond state bricks;
  journals = nothing_served state v (planned_value v.weights root) 0 bricks h;
}
