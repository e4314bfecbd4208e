-- The bricks of a new volume, and those that come in a remount.
use Rattle.std.proofs.Common.{◌≡◌, ◌-◌, ℕ, List, length, true, ap, ◌∙◌, subst, arith, Result, Ok, Err}
use Rattle.std.specs.Prelude.{IfOk}
use Rattle.dht_types.specs.Volume.{VolumeInfo, replay_info, replay_names}
use Rattle.dht_types.proofs.VolumeLemmas.{length-replay_names}
use Rattle.dht_brick.specs.Bricks.{BrickState}
use Rattle.dht_world.specs.Bricks.{disk_of, journals_of, none_down, no_range, AreNew, AreNewborn, AreReady, AreFresh}
use Rattle.dht_world.proofs.NewbornLaws.{newborn_all, ready_all}
use Rattle.dht_run.specs.NewBricks.{first_value}

-- what two facts of a value give
pub if_both :
    {A E : Type 0} (r : Result A E) (P Q R : A → Type 0) → ((x : A) → P x → Q x → R x) → IfOk r P
    → IfOk r Q → IfOk r R
if_both (Ok x) P Q R f p q = f x p q
if_both (Err e) P Q R f p q = p

module _ {B : Type 0} (state : B → BrickState) (bricks : List B) (v : VolumeInfo) (ws : List ℕ) (run : ℕ) (is : v ≡ replay_info ws run) where
  known : length v.names ≡ length ws
  known = ap (λ (x : VolumeInfo). length x.names) is ∙ length-replay_names (length ws)

  pub first_newborn : AreNew state v (first_value true v.weights) 0 bricks → AreNewborn ws (disk_of state bricks) (journals_of state bricks)
  first_newborn h = subst (λ (x : VolumeInfo). AreNewborn x.weights (disk_of state bricks) (journals_of state bricks)) is (newborn_all state v bricks h)

  pub first_ready : length bricks ≡ length v.names - 0 → AreNew state v (first_value true v.weights) 0 bricks → AreReady state ws run none_down bricks
  first_ready count h =
      let all : length ws ≡ length bricks = (let names = known in omega arith) in
      subst (λ (x : VolumeInfo). AreReady state x.weights x.run none_down bricks) is
      (ready_all state v (first_value true v.weights) bricks (ap (λ (x : VolumeInfo). x.names) is ∙ ap replay_names all) h)

  pub later_fresh : (count : ℕ) → length bricks ≡ length v.names - count → AreNew state v no_range count bricks → AreFresh state count ws run bricks
  later_fresh count many h = record {
    many = (let names = known in omega arith);
    new = subst (λ (x : VolumeInfo). AreNew state x no_range count bricks) is h;
  }
