-- The section of one name, before its first request.
use Rattle.std.proofs.Common.{◌≡◌, ◌<◌, ℕ, Bool, true, false, refl, ◌∙◌, ap, subst, arith, List, [], ◌∷◌}
use Rattle.std.specs.Prelude.{Result, Ok, Err, IfOk, None, zero, suc, length, replicate, ◌&&◌, ◌||◌, if◌then◌else◌}
use Rattle.std.proofs.lemmas.List.{length-replicate}
use Rattle.dht_types.proofs.PutLaws.{exact_gfid}
use Rattle.std.specs.Ordering.{is_lt}
use Rattle.dht_types.specs.Gfid.{Entry, home}
use Rattle.dht_types.specs.declared.identifiers.Gfid.{Gfid}
use Rattle.dht_types.specs.declared.locks.Key.TheVariants.{Dir}
use Rattle.dht_types.specs.declared.locks.Mode.{Mode}
use Rattle.dht_types.specs.declared.locks.Mode.TheVariants.{Shared, Exclusive}
use Rattle.dht_brick.specs.declared.requests.Request.TheVariants.{Lock}
use Rattle.dht_section.proofs.SameLists.{one_name}
use Rattle.dht_section.specs.Claims.{claims_locks, rank_cmp}
use Rattle.dht_section.specs.Looks.{not_looked, looks_left}
use Rattle.dht_section.specs.Section.{IsFresh, StartsWith, first_section, prepared_for, scope_of_name, section_stage}
use Rattle.dht_section.specs.Want.{Wanted, Scoped, IsOfOne, IsScope, IsOrdered, IsGuard, HasKey, name_key, dir_mode, key_at, name_at, lock_in, claimed}
use Rattle.dht_section.specs.Scene.{Scene}
use Rattle.dht_section.specs.declared.looks.Looked.{Looked}
use Rattle.dht_section.specs.declared.section.Prepared.{Prepared}

abbrev pub of_one : Gfid → Mode → List ℕ → Wanted
of_one g mode n = record { dirs = (g, mode) ∷ []; names = (g, n) ∷ [] }

scope_is :
    (bricks : ℕ) (g : Gfid) (mode : Mode) (n : List ℕ) (w : Scoped) → IsOfOne bricks g mode n w
    → w ≡ scope_of_name bricks g mode n
scope_is bricks g mode n w h = λ i. record { bricks = h.count i; dirs = h.modes i; keys = h.locks i; names = h.looks i }

prepared_is :
    (bricks : ℕ) (g : Gfid) (mode : Mode) (n : List ℕ) (p : Prepared)
    → IsScope bricks (of_one g mode n) p.scope
    → p.looks ≡ replicate (length p.scope.names) not_looked → p ≡ prepared_for bricks g mode n
prepared_is bricks g mode n p h q =
    let one = one_name bricks g mode n p.scope h in
    let s = scope_is bricks g mode n p.scope one in
    let r : p.looks ≡ not_looked ∷ [] = q ∙ (ap (λ (x : List Entry). replicate (length x) not_looked) one.looks ∙ one_of) in
    λ j. record { scope = s j; looks = r j }
  where
    one_of : replicate (length {A = Entry} ((g, n) ∷ [])) not_looked ≡ not_looked ∷ []
    one_of = refl

pub room_is : (n : ℕ) (looks : List Looked) → looks ≡ replicate n not_looked → length looks ≡ n
room_is n looks e = ap length e ∙ length-replicate {A = Looked} n not_looked

-- ---- what it knows, where the call has done no step

pub one_ordered :
    (bricks : ℕ) (g : Gfid) (mode : Mode) (n : List ℕ) → IsOrdered (scope_of_name bricks g mode n)
one_ordered bricks g mode n = record { some = omega arith; kinds = kinds; above = above; named = named; housed = housed }
  where
    w : Scoped
    w = scope_of_name bricks g mode n

    kinds : (i : ℕ) → i < length w.keys → IsGuard (key_at w i)
    kinds zero l = tt
    kinds (suc zero) l = tt
    kinds (suc (suc i)) l = absurd (omega arith)

    above : (i j : ℕ) → i < j → j < length w.keys → is_lt (rank_cmp (key_at w i) (key_at w j)) ≡ true
    above i zero l k = absurd (omega arith)
    above zero (suc zero) l k = refl
    above (suc i) (suc zero) l k = absurd (omega arith)
    above i (suc (suc j)) l k = absurd (omega arith)

    named : (i : ℕ) → i < length w.names → HasKey w (name_key (name_at w i))
    named zero l = (1, omega arith, refl)
    named (suc i) l = absurd (omega arith)

    housed : (i : ℕ) → i < length w.names → HasKey w (Dir (name_at w i).0)
    housed zero l = (0, omega arith, refl)
    housed (suc i) l = absurd (omega arith)

pub one_fresh :
    (bricks : ℕ) (g : Gfid) (mode : Mode) (n : List ℕ) (s : Scene)
    → length s.history.weights ≡ bricks → home g < bricks → s.mine.deeds ≡ None
    → IsFresh (scope_of_name bricks g mode n) s
one_fresh bricks g mode n s count there deeds = record { scope = record { bricks = count; homes = homes }; deeds = deeds }
  where
    homes : (i : ℕ) → i < length (scope_of_name bricks g mode n).names → home (name_at (scope_of_name bricks g mode n) i).0 < bricks
    homes zero l = there
    homes (suc i) l = absurd (omega arith)

pub one_knows :
    (bricks : ℕ) (g : Gfid) (mode : Mode) (n : List ℕ) (s : Scene)
    → IsFresh (scope_of_name bricks g mode n) s
    → (section_stage (first_section bricks g mode n)).knows s
one_knows bricks g mode n s h = record { order = one_ordered bricks g mode n; fresh = h; within = omega arith; room = refl; holds = λ j l. absurd (omega arith) }

-- ---- its first request

mode_one : (g : Gfid) (mode : Mode) → dir_mode ((g, mode) ∷ []) g ≡ mode
mode_one g Exclusive = ap (λ (b : Bool). if (b && true) || false then Exclusive else Shared) ((exact_gfid g g).1 refl)
mode_one g Shared = ap (λ (b : Bool). if (b && false) || false then Exclusive else Shared) ((exact_gfid g g).1 refl)

first_claimed : (w : Scoped) → claimed w (suc 0) ≡ lock_in w 0 ∷ []
unfolding claimed
first_claimed w = refl

one_left : (bricks : ℕ) → looks_left bricks 1 ≡ bricks
unfolding looks_left
one_left bricks = omega arith

pub starts :
    (bricks : ℕ) (g : Gfid) (mode : Mode) (n : List ℕ)
    → StartsWith bricks g mode (section_stage (first_section bricks g mode n))
starts bricks g mode n = record {
  brick = refl;
  request = ap (λ (m : Mode). Lock (Dir g) m) (mode_one g mode);
  claims = ap claims_locks (first_claimed (scope_of_name bricks g mode n));
  variant = let e = one_left bricks in omega arith;
}

-- ---- what `of_name` prepares

want_is :
    (g : Gfid) (mode : Mode) (n : List ℕ) (want : Wanted) → want.dirs ≡ (g, mode) ∷ []
    → want.names ≡ (g, n) ∷ [] → want ≡ of_one g mode n
want_is g mode n want e k = λ i. record { dirs = e i; names = k i }

pub prepared_ok :
    (E : Type 0) (r : Result Prepared E) (bricks : ℕ) (g : Gfid) (mode : Mode) (n : List ℕ)
    (want : Wanted)
    → want.dirs ≡ (g, mode) ∷ [] → want.names ≡ (g, n) ∷ []
    → IfOk r (λ p. IsScope bricks want p.scope)
    → IfOk r (λ p. p.looks ≡ replicate (length p.scope.names) not_looked)
    → IfOk r (λ p. p ≡ prepared_for bricks g mode n)
prepared_ok E (Ok p) bricks g mode n want e k h q = prepared_is bricks g mode n p (subst (λ (w : Wanted). IsScope bricks w p.scope) (want_is g mode n want e k) h) q
prepared_ok E (Err x) bricks g mode n want e k h q = tt
