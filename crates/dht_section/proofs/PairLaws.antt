-- The section of a name that is a directory's.
use Rattle.std.proofs.Common.{◌≡◌, ◌≢◌, ◌<◌, ℕ, Bool, true, false, refl, sym, ◌∙◌, ap, subst, arith, inl, inr, List, [], ◌∷◌}
use Rattle.std.specs.Prelude.{zero, suc, length, nat_lt, Some, Contains, ◌&&◌, ◌||◌, if◌then◌else◌, None, slice_index_or}
use Rattle.std.proofs.lemmas.Bool.Decides.{nat_tests}
use Rattle.std.specs.Cmp.{nat_cmp_is}
use Rattle.std.specs.Ordering.{is_lt, ordering_then}
use Rattle.std.specs.declared.cmp.Ordering.{Ordering}
use Rattle.std.specs.declared.cmp.Ordering.TheVariants.{Less, Equal}
use Rattle.dht_types.proofs.PutLaws.{exact_gfid}
use Rattle.dht_types.specs.Gfid.{home, same_gfid}
use Rattle.dht_types.specs.declared.identifiers.Gfid.{Gfid}
use Rattle.dht_types.specs.declared.locks.Key.{Key}
use Rattle.dht_types.specs.declared.locks.Key.TheVariants.{Rebalance, Dir, Entry as Name}
use Rattle.dht_types.specs.declared.locks.Mode.TheVariants.{Shared, Exclusive}
use Rattle.dht_section.proofs.EarlyLaws.{nat_cases}
use Rattle.dht_section.proofs.HeldLaws.{found_is}
use Rattle.dht_section.proofs.SameLists.{at_first}
use Rattle.dht_section.specs.Claims.{rank_cmp}
use Rattle.dht_section.specs.Pairs.{IsPairRoom, aimed_pair, aimed_scope, lower, pair_scope, upper}
use Rattle.dht_section.specs.Release.{CanBegin}
use Rattle.dht_section.specs.Scene.{Scene, HoldsAlone, HoldsName}
use Rattle.dht_section.specs.Section.{AllHeld, HoldsKey, IsFresh, IsHeld, IsLooked, IsOfName, held_looked}
use Rattle.dht_section.specs.SectionLaws.{holds_name}
use Rattle.dht_section.specs.Want.{HasKey, IsGuard, IsOrdered, Scoped, dir_mode, key_at, name_at, name_key}
use Rattle.dht_section.specs.declared.section.Held.{Held}
use Rattle.dht_section.specs.declared.section.Prepared.{Prepared}

-- ---- what it locks

-- aimed at another directory it is the section of that one
pub aimed_is :
    (bricks : ℕ) (d x g : Gfid) (n : List ℕ)
    → aimed_scope (pair_scope bricks d x n) g ≡ pair_scope bricks d g n
aimed_is bricks d x g n = refl

-- two directories that are not one have locks in order
two_numbers : (d g : Gfid) → g ≢ d → g.0 ≡ d.0 → ⊥
two_numbers d g ne e = ne (λ i. record { 0 = e i })

lower_first : (d g : Gfid) → g ≢ d → (lower d g).0 < (upper d g).0
lower_first d g ne = by (nat_lt g.0 d.0) refl
  where
    by : (v : Bool) → nat_lt g.0 d.0 ≡ v → (if v then g else d).0 < (if v then d else g).0
    by true e = grind (arith, nat_tests, e)
    by false e = elim (nat_cases g.0 d.0) [
      | inl q ↦ absurd (two_numbers d g ne q)
      | inr q ↦ grind (arith, nat_tests, e, q)
    ]

dirs_ranked : (a b : Gfid) → a.0 < b.0 → is_lt (rank_cmp (Dir a) (Dir b)) ≡ true
dirs_ranked a b l = ap (λ (o : Ordering). is_lt (ordering_then o Equal)) (sym (nat_cmp_is a.0 b.0 Less l))

-- the lock of each directory is one of the two
key_there :
    (w : Scoped) {keys : List Key} (key : Key) (i : ℕ) → w.keys ≡ keys → i < length keys
    → slice_index_or keys i Rebalance ≡ key → HasKey w key
key_there w key i e l is = (i, subst (λ (ks : List Key). i < length ks) (sym e) l, ap (λ (ks : List Key). slice_index_or ks i Rebalance) e ∙ is)

has_either :
    (w : Scoped) (v : Bool) (d g : Gfid) (n : List ℕ)
    → w.keys ≡ Dir (if v then g else d) ∷ Dir (if v then d else g) ∷ Name d n ∷ []
    → HasKey w (Dir d) × HasKey w (Dir g)
has_either w true d g n e = (key_there w (Dir d) 1 e (omega arith) refl, key_there w (Dir g) 0 e (omega arith) refl)
has_either w false d g n e = (key_there w (Dir d) 0 e (omega arith) refl, key_there w (Dir g) 1 e (omega arith) refl)

has_shared : (bricks : ℕ) (d g : Gfid) (n : List ℕ) → HasKey (pair_scope bricks d g n) (Dir d)
has_shared bricks d g n = (has_either (pair_scope bricks d g n) (nat_lt g.0 d.0) d g n refl).0

has_alone : (bricks : ℕ) (d g : Gfid) (n : List ℕ) → HasKey (pair_scope bricks d g n) (Dir g)
has_alone bricks d g n = (has_either (pair_scope bricks d g n) (nat_lt g.0 d.0) d g n refl).1

pub pair_ordered :
    (bricks : ℕ) (d g : Gfid) (n : List ℕ) → g ≢ d → IsOrdered (pair_scope bricks d g n)
pair_ordered bricks d g n ne = record { some = omega arith; kinds = kinds; above = above; named = named; housed = housed }
  where
    w : Scoped
    w = pair_scope bricks d g n

    kinds : (i : ℕ) → i < length w.keys → IsGuard (key_at w i)
    kinds zero l = tt
    kinds (suc zero) l = tt
    kinds (suc (suc zero)) l = tt
    kinds (suc (suc (suc i))) l = absurd (omega arith)

    above : (i j : ℕ) → i < j → j < length w.keys → is_lt (rank_cmp (key_at w i) (key_at w j)) ≡ true
    above i zero l k = absurd (omega arith)
    above zero (suc zero) l k = dirs_ranked (lower d g) (upper d g) (lower_first d g ne)
    above (suc i) (suc zero) l k = absurd (omega arith)
    above zero (suc (suc zero)) l k = refl
    above (suc zero) (suc (suc zero)) l k = refl
    above (suc (suc i)) (suc (suc zero)) l k = absurd (omega arith)
    above i (suc (suc (suc j))) l k = absurd (omega arith)

    named : (i : ℕ) → i < length w.names → HasKey w (name_key (name_at w i))
    named zero l = (2, omega arith, refl)
    named (suc i) l = absurd (omega arith)

    housed : (i : ℕ) → i < length w.names → HasKey w (Dir (name_at w i).0)
    housed zero l = has_shared bricks d g n
    housed (suc i) l = absurd (omega arith)

pub pair_fresh :
    (bricks : ℕ) (d g : Gfid) (n : List ℕ) (s : Scene) → length s.history.weights ≡ bricks
    → home d < bricks → s.mine.deeds ≡ None → IsFresh (pair_scope bricks d g n) s
pair_fresh bricks d g n s count there deeds = record { scope = record { bricks = count; homes = homes }; deeds = deeds }
  where
    homes : (i : ℕ) → i < length (pair_scope bricks d g n).names → home (name_at (pair_scope bricks d g n) i).0 < bricks
    homes zero l = there
    homes (suc i) l = absurd (omega arith)

-- ---- what is held

alone_mode : (d g : Gfid) → dir_mode ((d, Shared) ∷ (g, Exclusive) ∷ []) g ≡ Exclusive
alone_mode d g = by (same_gfid d g) (same_gfid g g) ((exact_gfid g g).1 refl)
  where
    by : (a b : Bool) → b ≡ true → (if (a && false) || ((b && true) || false) then Exclusive else Shared) ≡ Exclusive
    by true true e = refl
    by false true e = refl
    by a false e = absurd (let z : false ≡ true = e in cc)

pub pair_alone :
    (bricks : ℕ) (d g : Gfid) (n : List ℕ) (w : Scoped) (s : Scene) → w ≡ pair_scope bricks d g n
    → AllHeld w (length w.keys) s → HoldsAlone s g
pair_alone bricks d g n w s e h =
    let k : AllHeld (pair_scope bricks d g n) 3 s = subst (λ (v : Scoped). AllHeld v (length v.keys) s) e h in
    let there = has_alone bricks d g n in
    subst (λ (key : Key). HoldsKey (pair_scope bricks d g n) key s) there.2 (k there.0 there.1) ∙ ap Some (alone_mode d g)

pub pair_name_held :
    (bricks : ℕ) (d g : Gfid) (n : List ℕ) (w : Scoped) (s : Scene) → w ≡ pair_scope bricks d g n
    → g ≢ d → AllHeld w (length w.keys) s → HoldsName s (d, n)
pair_name_held bricks d g n w s e ne h = holds_name (pair_scope bricks d g n) 0 s (pair_ordered bricks d g n ne) (omega arith) (subst (λ (v : Scoped). AllHeld v (length v.keys) s) e h)

-- ---- what was seen

pub pair_looked :
    (bricks : ℕ) (d g : Gfid) (n : List ℕ) (h : Held) (s : Scene)
    → h.scope ≡ pair_scope bricks d g n → IsHeld h s
    → IsLooked h.scope.bricks (d, n) (held_looked h (d, n)) s
pair_looked bricks d g n h s e k = found_is h (d, n) s k (subst (λ (w : Scoped). Contains w.names (d, n)) (sym e) (at_first (d, n) []))

-- a directory that was gone is that in which the name stands
pub pair_gone :
    (bricks : ℕ) (d g x : Gfid) (n : List ℕ) (w : Scoped) → w ≡ pair_scope bricks d g n
    → IsOfName w x → d ≡ x
pair_gone bricks d g x n w e h = one (subst (λ (v : Scoped). IsOfName v x) e h)
  where
    one : IsOfName (pair_scope bricks d g n) x → d ≡ x
    one (zero, within, q) = q
    one (suc i, within, q) = absurd (omega arith)

-- ---- its memory

pub pair_aimed :
    (bricks : ℕ) (d g : Gfid) (n : List ℕ) (p : Prepared) → IsPairRoom bricks d n p
    → (aimed_pair p g).scope ≡ pair_scope bricks d g n
pair_aimed bricks d g n p room = ap (λ (w : Scoped). aimed_scope w g) room.0.1

-- a section of the directory may begin with it
pub pair_begins :
    (bricks : ℕ) (d g : Gfid) (n : List ℕ) (p : Prepared) (s : Scene) → g ≢ d
    → IsPairRoom bricks d n p → length s.history.weights ≡ bricks → home d < bricks
    → s.mine.deeds ≡ None → CanBegin (aimed_pair p g) s
pair_begins bricks d g n p s ne room count there deeds =
    let is = pair_aimed bricks d g n p room in
    record {
      order = subst IsOrdered (sym is) (pair_ordered bricks d g n ne);
      fresh = subst (λ (w : Scoped). IsFresh w s) (sym is) (pair_fresh bricks d g n s count there deeds);
      room = room.1 ∙ ap (λ (w : Scoped). length w.names) (sym is);
    }

-- and is left when it has ended
pub pair_left :
    (bricks : ℕ) (d g : Gfid) (n : List ℕ) (p : Prepared) (s : Scene)
    → p.scope ≡ pair_scope bricks d g n → CanBegin p s → IsPairRoom bricks d n p
pair_left bricks d g n p s e h = ((g, e), h.room ∙ ap (λ (w : Scoped). length w.names) e)
