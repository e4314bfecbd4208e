-- How a heal begins, and goes on to a directory of its path.
use Rattle.std.proofs.Common.{◌≡◌, ◌≢◌, ◌<◌, ◌≤◌, ◌+◌, ◌*◌, ◌-◌, ℕ, Bool, true, false, refl, sym, ◌∙◌, ap, subst, arith, List, []}
use Rattle.std.specs.Prelude.{None, length, nat_le, ◌==◌, if◌then◌else◌}
use Rattle.std.proofs.Math.Nat.{mul-le-mul_right}
use Rattle.std.proofs.lemmas.Bool.Decides.{nat_tests}
use Rattle.dht_types.proofs.PutLaws.{exact_gfid}
use Rattle.dht_types.specs.Gfid.{home, root, same_gfid}
use Rattle.dht_types.specs.declared.identifiers.Gfid.{Gfid}
use Rattle.dht_xattr.specs.Plan.{planned}
use Rattle.dht_section.proofs.PlaceLaws.{set_length, set_there}
use Rattle.dht_section.specs.Claims.{Claim, Lock, claims_locks, no_claim}
use Rattle.dht_section.specs.Looks.{with_at}
use Rattle.dht_section.specs.Scene.{Scene}
use Rattle.dht_section.specs.Stages.{MayClaimNext}
use Rattle.dht_heal.specs.Heal.{IsPath, IsRoom, MayHeal, StartsHeal, asked, first_climb, first_heal, heal_at, heal_dir, heal_on, heal_stage, longest, one_cost, path_at, plan_by}
use Rattle.dht_heal.specs.HealOne.{IsTarget}
use Rattle.dht_heal.specs.declared.heal.Climb.{Climb}
use Rattle.dht_heal.specs.declared.heal.Heal.{Heal}
use Rattle.dht_heal.specs.declared.heal.Heal.TheVariants.{Climbing}
use Rattle.dht_heal.specs.declared.room.HealRoom.{HealRoom}

-- ---- a directory of the path is healed

plan_is :
    (weights : List ℕ) (g : Gfid) → length weights ≤ 32 → plan_by weights g ≡ planned weights g
plan_is weights g l = by (nat_le (length weights) 32) refl
  where
    by : (v : Bool) → nat_le (length weights) 32 ≡ v → (if v then planned weights g else []) ≡ planned weights g
    by true e = refl
    by false e = absurd (grind (arith, nat_tests, e, l))

pub target_at :
    (c : Climb) (s : Scene) → length s.history.weights ≤ 32 → IsRoom c.room s
    → length s.history.weights ≡ c.bricks → home (asked c) < c.bricks → s.mine.deeds ≡ None
    → IsTarget
    (record {
      directory = asked c;
      bricks = c.bricks;
      plan = plan_by c.room.weights (asked c);
    })
    s
target_at c s few room count home deeds = record {
  count = count;
  home = home;
  plan = ap (λ (ws : List ℕ). plan_by ws (asked c)) room.weights ∙ plan_is s.history.weights (asked c) few;
  deeds = deeds;
}

-- ---- a heal that is at this place of its path

-- by whether the directory there is the root
pub by_root :
    (P : Heal → Type 0) (c : Climb) → (asked c ≡ root → P (heal_at c))
    → (asked c ≢ root → P (Climbing c)) → P (heal_on c)
by_root P c h k = by (same_gfid (asked c) root) refl
  where
    by : (v : Bool) → same_gfid (asked c) root ≡ v → P (if v then heal_at c else Climbing c)
    by true e = h ((exact_gfid (asked c) root).0 e)
    by false e = k (λ q. let z : true ≡ false = sym ((exact_gfid (asked c) root).1 q) ∙ e in cc)

heals_root :
    (c : Climb) (s : Scene) → length s.history.weights ≤ 32 → IsPath c s → home (asked c) < c.bricks
    → asked c ≡ root → (heal_stage (heal_at c)).knows s
heals_root c s few h at_home e = (
  target_at c s few h.room h.count at_home h.deeds,
  record {
    top = c.place;
    within = omega arith;
    ends = e;
    path = h;
    whole = λ alone j l k. absurd (omega arith);
    heals = refl;
    gone = tt;
  },
)

pub on_knows :
    (c : Climb) (s : Scene) → length s.history.weights ≤ 32 → IsPath c s → home (asked c) < c.bricks
    → (heal_stage (heal_on c)).knows s
on_knows c s few h at_home = by_root (λ m. (heal_stage m).knows s) c (heals_root c s few h at_home) (λ ne. record { path = h; below = ne })

-- so many requests are left then
most :
    (bricks cost : ℕ) → cost ≤ 64 * one_cost bricks
    → (bricks + bricks + bricks + 2) + cost ≤ 65 * one_cost bricks
most bricks cost l = omega arith

pub on_variant :
    (c : Climb) → c.place ≤ 64
    → (heal_stage (heal_on c)).variant ≤ (64 - c.place) + 65 * one_cost c.bricks
on_variant c l = by_root (λ m. (heal_stage m).variant ≤ (64 - c.place) + 65 * one_cost c.bricks) c
    (λ e. let w = most c.bricks (c.place * one_cost c.bricks) (mul-le-mul_right (one_cost c.bricks) l) in omega arith)
    (λ ne. omega arith)

-- it claims nothing, or the root's lock
pub claims_on :
    (t : Scene) (old : Claim) (next : List Lock) → MayClaimNext t old no_claim
    → MayClaimNext t old (claims_locks next)
claims_on t old next h = record { locks = λ b key m l k. absurd (h.locks b key m l k); copy = h.copy }

pub on_claims :
    (c : Climb) (t : Scene) (old : Claim) → MayClaimNext t old no_claim
    → MayClaimNext t old (heal_stage (heal_on c)).claims
on_claims c t old h = by_root (λ m. MayClaimNext t old (heal_stage m).claims) c (λ e. claims_on t old _ h) (λ ne. h)

-- its directory is the path's first
pub on_dir : (c : Climb) → heal_dir (heal_on c) ≡ path_at c.room.path 0
on_dir c = by_root (λ m. heal_dir m ≡ path_at c.room.path 0) c (λ e. refl) (λ ne. refl)

-- ---- its beginning

pub first_is :
    (r : HealRoom) (d : Gfid) → length r.path ≡ longest → path_at (with_at r.path 0 d) 0 ≡ d
first_is r d e = set_there r.path 0 d root (omega arith)

pub begin_knows :
    (r : HealRoom) (bricks : ℕ) (d : Gfid) (s : Scene) → MayHeal r bricks d s
    → (heal_stage (first_heal r bricks d)).knows s
begin_knows r bricks d s h =
    let first = first_is r d h.room.path in
    let at_home : home (path_at (with_at r.path 0 d) 0) < bricks = subst (λ (g : Gfid). home g < bricks) (sym first) h.home in
    on_knows (first_climb r bricks d) s (let f = h.few in let e = h.count in omega arith) (record {
      room = record { path = (let l = h.room.path in set_length r.path 0 d (omega arith)) ∙ h.room.path; weights = h.room.weights };
      count = h.count;
      home = at_home;
      deeds = h.deeds;
      steps = λ i l. absurd (omega arith);
    }) at_home

pub begin_starts :
    (r : HealRoom) (bricks : ℕ) (d : Gfid) → StartsHeal bricks (first_heal r bricks d)
begin_starts r bricks d = let w = on_variant (first_climb r bricks d) (omega arith) in omega arith

pub begin_dir :
    (r : HealRoom) (bricks : ℕ) (d : Gfid) → length r.path ≡ longest
    → heal_dir (first_heal r bricks d) ≡ d
begin_dir r bricks d e = on_dir (first_climb r bricks d) ∙ first_is r d e
