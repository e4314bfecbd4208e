-- New clients, one after the other.
use Rattle.std.proofs.Common.{◌≡◌, ℕ, ◌+◌, List, [], ◌∷◌, ◌++◌, true, false, length, suc, zero, subst, arith}
use Rattle.std.specs.Prelude.{Some, slice_get}
use Rattle.dht_section.specs.declared.caller.Caller.{Ghosts as CallerGhosts}
use Rattle.dht_client.specs.Client.{client_number, client_is_busy, client_is_new, client_stage}
use Rattle.dht_client.specs.declared.calling.Client.{Client}
use Rattle.dht_world.specs.Clients.{client, IsNewAt, AreNewClients}
use Rattle.dht_world.specs.declared.places.Place.{Place}
use Rattle.dht_world.specs.declared.places.Place.TheVariants.{Living, Dead}

-- a client that has this number lives here, is idle, has not called, and knows no layout
abbrev pub IsIdlePlace : ℕ → Place Client → Type 0
IsIdlePlace n (Living x k) = (client_number x ≡ client n) × (client_is_busy x ≡ false) × (k.0 ≡ 0) × (client_is_new x ≡ true)
IsIdlePlace n Dead = ⊥

-- the places, of which the first has number n, are of such clients
abbrev pub AreIdlePlaces : ℕ → List (Place Client) → Type 0
AreIdlePlaces n [] = Unit {0}
AreIdlePlaces n (p ∷ ps) = IsIdlePlace n p × AreIdlePlaces (suc n) ps

pub one_place_more :
    (n m : ℕ) (places : List (Place Client)) (p : Place Client) → AreIdlePlaces n places
    → m ≡ n + length places → IsIdlePlace m p → AreIdlePlaces n (places ++ p ∷ [])
one_place_more n m [] p h k new = (subst (λ (i : ℕ). IsIdlePlace i p) (omega arith) new, tt)
one_place_more n m (x ∷ xs) p h k new = (h.0, one_place_more (suc n) m xs p h.1 (omega arith) new)

-- what a client is to the world
abbrev ghosts : CallerGhosts Client
ghosts = record { number = client_number; is_busy = client_is_busy; is_new = client_is_new; stage = client_stage }

idle_place : (n : ℕ) (p : Place Client) → IsIdlePlace n p → IsNewAt ghosts n (Some p)
idle_place n (Living x k) h = h
idle_place n Dead h = h

idle_places :
    (n : ℕ) (places : List (Place Client)) → AreIdlePlaces n places → (i : ℕ)
    → IsNewAt ghosts (n + i) (slice_get places i)
idle_places n [] h i = tt
idle_places n (x ∷ xs) h zero = subst (λ (m : ℕ). IsNewAt ghosts m (Some x)) (let z : n ≡ n + 0 = omega arith in z) (idle_place n x h.0)
idle_places n (x ∷ xs) h (suc i) = subst (λ (m : ℕ). IsNewAt ghosts m (slice_get xs i)) (let z : suc n + i ≡ n + suc i = omega arith in z) (idle_places (suc n) xs h.1 i)

-- the clients of a new world
pub all_new : (places : List (Place Client)) → AreIdlePlaces 0 places → AreNewClients ghosts places
all_new places h i = subst (λ (m : ℕ). IsNewAt ghosts m (slice_get places i)) (let z : 0 + i ≡ i = omega arith in z) (idle_places 0 places h i)
