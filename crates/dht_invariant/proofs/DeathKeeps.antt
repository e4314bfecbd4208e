-- The death of a client is a transition.
use Rattle.std.proofs.Common.{◌≡◌, ◌≢◌, ◌<◌, ◌≤◌, ℕ, Bool, true, false, refl, sym, ap, ◌∙◌, subst, inl, inr, arith}
use Rattle.std.specs.Prelude.{Option, Some, None, nat_eq, if◌then◌else◌}
use Rattle.std.specs.FinMap.{contains_key}
use Rattle.std.proofs.lemmas.Bool.{cases_lt}
use Rattle.dht_types.proofs.PutLaws.{put_same, put_other, exact_nat}
use Rattle.dht_types.specs.Put.{put}
use Rattle.dht_types.specs.History.{History, with_line}
use Rattle.dht_types.specs.declared.identifiers.ClientNo.{ClientNo}
use Rattle.dht_types.specs.declared.lines.Line.TheVariants.{Died}
use Rattle.dht_types.specs.declared.locks.Key.{Key}
use Rattle.dht_types.specs.declared.locks.Mode.{Mode}
use Rattle.dht_brick.specs.Contents.{Contents}
use Rattle.dht_brick.specs.Events.{freed}
use Rattle.dht_brick.specs.OpenRows.{registrations, is_sealed}
use Rattle.dht_section.specs.Claims.{Claim, Listed, no_claim}
use Rattle.dht_section.specs.Disk.{Disk, holders}
use Rattle.dht_section.specs.Early.{Early}
use Rattle.dht_section.specs.Invariant.{Invariant, NothingUsed}
use Rattle.dht_section.specs.Locks.{LockInvariant}
use Rattle.dht_invariant.specs.Laws.{DeathsAreTransitions}
use Rattle.dht_invariant.specs.Transition.{Transition, FreesClient}
use Rattle.dht_invariant.proofs.Basics.{not_true}
use Rattle.dht_invariant.proofs.CountedLaws.{counted_ended}
use Rattle.dht_section.proofs.EarlyLaws.{nat_cases}
use Rattle.dht_invariant.proofs.LineKeeps.{places_less, line_keeps}
use Rattle.dht_invariant.proofs.QuietKeeps.{SameStores, at_most, used_same, transition_same}
use Rattle.dht_invariant.proofs.RegistrationLaws.{registrations_less, unregistered_less}

module _ (c : ClientNo) (d e : Disk) (s : History) (p : ℕ → Claim) (k : Invariant d s p) (now : Early d s) (h : FreesClient c.0 d e) where
  -- what holds of a freed brick, and of one that did not change
  brick_is : (P : Contents → Type 0) (b : ℕ) → P (freed c.0 (d.brick b)) → P (d.brick b) → P (e.brick b)
  brick_is P b gone stays = elim (cases_lt b d.count) [
    | inl l ↦ subst P (sym (h.there b l)) gone
    | inr l ↦ subst P (sym (h.elsewhere b l)) stays
  ]

  stores : SameStores d e
  stores = record {
    count = h.count;
    stores = λ b. brick_is (λ x. x.store ≡ (d.brick b).store) b refl refl;
    opened = λ b f. brick_is (λ x. registrations x.opens f ≤ registrations (d.brick b).opens f) b (registrations_less c.0 (d.brick b).opens f) (at_most _ _ refl);
    unopened = λ b r h. brick_is (λ x. contains_key x.opens.registered r ≡ false) b (unregistered_less c.0 (d.brick b).opens r h) h;
    seals = λ b f. brick_is (λ x. is_sealed x.opens f ≡ is_sealed (d.brick b).opens f) b refl refl;
  }

  -- nobody holds a lock that he did not hold, and the dead client none
  left : (w : ℕ) (o : Option Mode) (m : Mode) (v : Bool) → nat_eq c.0 w ≡ v → (if v then None else o) ≡ Some m → (w ≢ c.0) × (o ≡ Some m)
  left w o m true e g = absurd (let z : None ≡ Some m = g in cc)
  left w o m false e g = (λ q. (let z : true ≡ false = sym ((exact_nat c.0 w).1 (sym q)) ∙ e in cc), g)

  held_before : (b : ℕ) (key : Key) (w : ℕ) (m : Mode) → b < e.count → holders e b key w ≡ Some m → (w ≢ c.0) × (holders d b key w ≡ Some m)
  held_before b key w m l g = left w (holders d b key w) m (nat_eq c.0 w) refl (sym (ap (λ (x : Contents). x.locks key w) (h.there b (subst (λ (n : ℕ). b < n) h.count l))) ∙ g)

  others_hold : (b : ℕ) (key : Key) (w : ℕ) → w ≢ c.0 → holders e b key w ≡ holders d b key w
  others_hold b key w ne = brick_is (λ x. x.locks key w ≡ holders d b key w) b
      (ap (λ (v : Bool). if v then None else holders d b key w) (not_true (nat_eq c.0 w) (λ q. ne (sym ((exact_nat c.0 w).0 q))))) refl

  locks : (b : ℕ) (key : Key) → b < e.count → LockInvariant b key (holders e b key) (put nat_eq p c.0 no_claim)
  locks b key l =
      let old = k.things.locks b key (subst (λ (n : ℕ). b < n) h.count l) in
      record {
        alone = λ x y m hx hy. old.alone x y m (held_before b key x _ l hx).1 (held_before b key y m l hy).1;
        claimed = λ w m g. (let was = held_before b key w m l g in
            subst (λ (x : Claim). Listed x.locks b key) (sym (put_other nat_eq exact_nat p c.0 no_claim w was.0)) (old.claimed w m was.1));
        low = λ w m g. old.low w m (held_before b key w m l g).1;
      }

  fresh : NothingUsed e (with_line s (Died c))
  fresh w r g small told none own u = elim (nat_cases w.0 c.0) [
    | inl q ↦ absurd (let z : None ≡ Some r = sym (ap (put nat_eq s.pending c.0 None) q ∙ put_same nat_eq exact_nat s.pending c.0 None) ∙ told in cc)
    | inr ne ↦ k.fresh w r g small (sym (put_other nat_eq exact_nat s.pending c.0 None w.0 ne) ∙ told) none own (used_same d e stores s.tree g u)
  ]

  pub death_transition : Transition c.0 d s p e (with_line s (Died c)) (put nat_eq p c.0 no_claim)
  death_transition = transition_same d e stores s (with_line s (Died c)) (line_keeps s (Died c) refl refl refl (at_most _ _ refl) (λ q. counted_ended s (with_line s (Died c)) c.0 q refl refl refl))
      c.0 p (put nat_eq p c.0 no_claim) h.elsewhere (places_less p c.0 no_claim (λ f b. omega arith)) locks others_hold
      (λ w ne. put_other nat_eq exact_nat p c.0 no_claim w ne) (λ w ne. put_other nat_eq exact_nat s.pending c.0 None w ne) fresh k now

pub deaths_are_transitions : DeathsAreTransitions
deaths_are_transitions c d e s p k now h = death_transition c d e s p k now h
