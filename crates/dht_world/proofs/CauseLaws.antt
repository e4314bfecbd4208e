-- For which cause an event is refused, by the places of the clients.
use Rattle.std.proofs.Common.{◌≡◌, ◌<◌, ℕ, Bool, true, false, refl, sym, ap, ◌∙◌, subst, length, arith}
use Rattle.std.specs.Prelude.{Option, Some, None, is_some, nat_lt, MatchBool, if◌then◌else◌, List, slice_get}
use Rattle.std.proofs.lemmas.Bool.{ltb-true, lt-ltb}
use Rattle.std.proofs.lemmas.Option.{slice_get_within}
use Rattle.dht_types.specs.Calls.{named_call}
use Rattle.dht_types.specs.History.{History, PendingCall}
use Rattle.dht_types.specs.declared.calls.Call.{Call}
use Rattle.dht_types.specs.declared.events.Directory.{Directory}
use Rattle.dht_types.specs.declared.events.Event.TheVariants as event
use Rattle.dht_types.specs.declared.identifiers.Gfid.{Gfid}
use Rattle.dht_types.specs.declared.lines.Cause.{Cause}
use Rattle.dht_types.specs.declared.lines.Cause.TheVariants as cause
use Rattle.dht_section.specs.Claims.{Claim}
use Rattle.dht_section.specs.Disk.{Disk}
use Rattle.dht_section.specs.declared.caller.Caller.{Ghosts as CallerGhosts}
use Rattle.dht_brick.specs.declared.journal.JournalEntry.{JournalEntry}
use Rattle.dht_invariant.proofs.Basics.{not_true}
use Rattle.dht_world.proofs.BrickLaws.{there_is}
use Rattle.dht_invariant.proofs.CountedLaws.{not_none}
use Rattle.dht_world.specs.Clients.{Rests, Works, ClientFits, claims_of, place_cause, IsBusy, IsIdle}
use Rattle.dht_world.specs.Answers.{answered_in}
use Rattle.dht_world.specs.Following.{client_cause, answer_cause, call_cause, step_cause, brick_cause, cause_of}
use Rattle.dht_world.specs.World.{Summary, Fit}
use Rattle.dht_world.specs.declared.places.Place.{Place}
use Rattle.dht_world.specs.declared.places.Place.TheVariants.{Living, Dead}

-- by what is pending
by_pending : Option Cause → Option Cause → Option PendingCall → Option Cause
by_pending idle busy None = idle
by_pending idle busy (Some r) = busy

module _ {C : Type 0} (g : CallerGhosts C) where
  cause_living : (d : Disk) (s : History) (p : ℕ → Claim) (c : ℕ) (x : C) (n : Rattle.dht_types.specs.declared.identifiers.CallNo.CallNo) (b : Bool) (idle busy : Option Cause) → MatchBool b (Works g d s p c x n) (Rests g s c x) → (if b then busy else idle) ≡ by_pending idle busy (s.pending c)
  unfolding by_pending
  cause_living d s p c x n true idle busy h = sym (ap (by_pending idle busy) h.runs)
  cause_living d s p c x n false idle busy h = sym (ap (by_pending idle busy) h.none)

  cause_by : (d : Disk) (s : History) (p : ℕ → Claim) (c : ℕ) (o : Option (Place C)) (there : Bool) (idle busy : Option Cause) → ClientFits g d s p c o → (o ≡ None → there ≡ false) → ((q : Place C) → o ≡ Some q → there ≡ true) → place_cause g o idle busy ≡ (if there then (if s.dead c then Some cause.Dead else by_pending idle busy (s.pending c)) else Some cause.Unknown)
  unfolding by_pending
  cause_by d s p c None there idle busy h none some = sym (ap (λ (b : Bool). if b then (if s.dead c then Some cause.Dead else by_pending idle busy (s.pending c)) else Some cause.Unknown) (none refl))
  cause_by d s p c (Some Dead) there idle busy h none some =
      sym (ap (λ (b : Bool). if b then (if s.dead c then Some cause.Dead else by_pending idle busy (s.pending c)) else Some cause.Unknown) (some Dead refl)
      ∙ ap (λ (b : Bool). if b then Some cause.Dead else by_pending idle busy (s.pending c)) h.0)
  cause_by d s p c (Some (Living x n)) there idle busy h none some =
      cause_living d s p c x n (g.is_busy x) idle busy h.2
      ∙ sym (ap (λ (b : Bool). if b then (if s.dead c then Some cause.Dead else by_pending idle busy (s.pending c)) else Some cause.Unknown) (some (Living x n) refl)
      ∙ ap (λ (b : Bool). if b then Some cause.Dead else by_pending idle busy (s.pending c)) h.0)

  -- of a client
  client_cause_is : (d : Disk) (js : ℕ → List JournalEntry) (places : List (Place C)) (ws : List ℕ) (n : Summary) (s : History) (c : ℕ) (idle busy : Option Cause) → Fit g d js places ws n s → place_cause g (slice_get places c) idle busy ≡ client_cause s c (by_pending idle busy (s.pending c))
  client_cause_is d js places ws n s c idle busy h =
      let many = h.many in
      cause_by d s (claims_of g places) c (slice_get places c) (nat_lt c 64) idle busy (h.each c)
      (λ e. not_true (nat_lt c 64) (λ b. (let l = ltb-true c 64 b in there_is places c (omega arith) e)))
      (λ q e. lt-ltb c 64 (let l = slice_get_within places c q e in omega arith))

  call_is : (o : Option PendingCall) (what : Option (Call Gfid)) → by_pending (answer_cause what) (Some cause.Busy) o ≡ call_cause o what
  unfolding by_pending
  call_is None what = refl
  call_is (Some r) what = refl

  step_is : (o : Option PendingCall) → by_pending (Some cause.Idle) None o ≡ step_cause o
  unfolding by_pending
  step_is None = refl
  step_is (Some r) = refl

  die_is : (o : Option PendingCall) → by_pending None None o ≡ None
  unfolding by_pending
  die_is None = refl
  die_is (Some r) = refl

  module _ (d : Disk) (js : ℕ → List JournalEntry) (places : List (Place C)) (ws : List ℕ) (n : Summary) (s : History) (h : Fit g d js places ws n s) where
    pub cause_of_call : (c : ℕ) (call : Call Directory) → place_cause g (slice_get places c) (answer_cause (named_call (answered_in n.answers) call)) (Some cause.Busy) ≡ cause_of s (event.Call c call)
    cause_of_call c call =
        client_cause_is d js places ws n s c (answer_cause (named_call (answered_in n.answers) call)) (Some cause.Busy) h
        ∙ (ap (λ (f : ℕ → Option Gfid). client_cause s c (by_pending (answer_cause (named_call f call)) (Some cause.Busy) (s.pending c))) (sym h.summary.answers)
        ∙ ap (client_cause s c) (call_is (s.pending c) (named_call s.answered call)))

    pub cause_of_step : (c : ℕ) → place_cause g (slice_get places c) (Some cause.Idle) None ≡ cause_of s (event.Step c)
    cause_of_step c = client_cause_is d js places ws n s c (Some cause.Idle) None h ∙ ap (client_cause s c) (step_is (s.pending c))

    pub cause_of_die : (c : ℕ) → place_cause g (slice_get places c) None None ≡ cause_of s (event.Die c)
    cause_of_die c = client_cause_is d js places ws n s c None None h ∙ ap (client_cause s c) (die_is (s.pending c))

  -- ---- what an event that is accepted tells of the client's place

  below_by : (s : History) (c : ℕ) (b : Bool) (other : Option Cause) → (if b then (if s.dead c then Some cause.Dead else other) else Some cause.Unknown) ≡ None → (b ≡ true) × (s.dead c ≡ false) × (other ≡ None)
  below_by s c true other e = alive (s.dead c) refl e
    where
      alive : (v : Bool) → s.dead c ≡ v → (if v then Some cause.Dead else other) ≡ None → (true ≡ true) × (s.dead c ≡ false) × (other ≡ None)
      alive true ev e = absurd (let z : Some cause.Dead ≡ None = e in cc)
      alive false ev e = (refl, ev, e)
  below_by s c false other e = absurd (let z : Some cause.Unknown ≡ None = e in cc)

  -- such a client lives
  pub accepted_client : (s : History) (c : ℕ) (other : Option Cause) → client_cause s c other ≡ None → (c < 64) × (s.dead c ≡ false) × (other ≡ None)
  accepted_client s c other e = (let h = below_by s c (nat_lt c 64) other e in (ltb-true c 64 h.0, h.1, h.2))

  pub accepted_brick : (s : History) (b : ℕ) → brick_cause s b ≡ None → b < length s.weights
  accepted_brick s b e = ltb-true b (length s.weights) (yes (nat_lt b (length s.weights)) e)
    where
      yes : (v : Bool) → (if v then None else Some cause.Unknown) ≡ None → v ≡ true
      yes true e = refl
      yes false e = absurd (let z : Some cause.Unknown ≡ None = e in cc)

  -- none of its calls is pending, and the directory of its call is known
  pub no_call : (o : Option PendingCall) (what : Option (Call Gfid)) → call_cause o what ≡ None → (o ≡ None) × (is_some what ≡ true)
  no_call None (Some what) e = (refl, refl)
  no_call None None e = absurd (let z : Some cause.Answer ≡ None = e in cc)
  no_call (Some r) what e = absurd (let z : Some cause.Busy ≡ None = e in cc)

  pub some_call : (o : Option PendingCall) → step_cause o ≡ None → is_some o ≡ true
  some_call None e = absurd (let z : Some cause.Idle ≡ None = e in cc)
  some_call (Some r) e = refl

  idle_place : (d : Disk) (s : History) (p : ℕ → Claim) (c : ℕ) (q : Place C) → ClientFits g d s p c (Some q) → s.dead c ≡ false → s.pending c ≡ None → IsIdle g q
  idle_place d s p c Dead h living none = absurd (let z : true ≡ false = sym h.0 ∙ living in cc)
  idle_place d s p c (Living x n) h living none = record { client = x; number = n; is = refl; idle = by (g.is_busy x) h.2 }
    where
      by : (b : Bool) → MatchBool b (Works g d s p c x n) (Rests g s c x) → b ≡ false
      by true w = absurd (not_none (s.pending c) w.mine none w.runs)
      by false w = refl

  busy_place : (d : Disk) (s : History) (p : ℕ → Claim) (c : ℕ) (q : Place C) → ClientFits g d s p c (Some q) → s.dead c ≡ false → is_some (s.pending c) ≡ true → IsBusy g q
  busy_place d s p c Dead h living some = absurd (let z : true ≡ false = sym h.0 ∙ living in cc)
  busy_place d s p c (Living x n) h living some = record { client = x; number = n; is = refl; busy = by (g.is_busy x) h.2 }
    where
      by : (b : Bool) → MatchBool b (Works g d s p c x n) (Rests g s c x) → b ≡ true
      by true w = refl
      by false w = absurd (let z : false ≡ true = sym (ap is_some w.none) ∙ some in cc)

  module _ (d : Disk) (js : ℕ → List JournalEntry) (places : List (Place C)) (ws : List ℕ) (n : Summary) (s : History) (h : Fit g d js places ws n s) where
    -- a call that is accepted is of a client that is idle, and a step of one that is busy
    pub idle_at : (c : ℕ) (call : Call Directory) (q : Place C) → slice_get places c ≡ Some q → cause_of s (event.Call c call) ≡ None → IsIdle g q
    idle_at c call q here e = (let a = accepted_client s c (call_cause (s.pending c) (named_call s.answered call)) e in
        idle_place d s (claims_of g places) c q (subst (ClientFits g d s (claims_of g places) c) here (h.each c)) a.1 (no_call (s.pending c) (named_call s.answered call) a.2).0)

    pub busy_at : (c : ℕ) (q : Place C) → slice_get places c ≡ Some q → cause_of s (event.Step c) ≡ None → IsBusy g q
    busy_at c q here e = (let a = accepted_client s c (step_cause (s.pending c)) e in
        busy_place d s (claims_of g places) c q (subst (ClientFits g d s (claims_of g places) c) here (h.each c)) a.1 (some_call (s.pending c) a.2))
