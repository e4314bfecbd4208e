-- The world after something happened: the places of the clients.
use Rattle.std.proofs.Common.{◌≡◌, ◌≢◌, ◌<◌, ◌≤◌, ◌+◌, ℕ, Bool, true, false, refl, sym, ap, ◌∙◌, subst, inl, inr, arith, List, length}
use Rattle.std.specs.Prelude.{Option, Some, None, is_some, cond, MatchBool, slice_get, slice_set, nat_eq}
use Rattle.dht_types.specs.Put.{put}
use Rattle.dht_types.proofs.PutLaws.{put_elim, exact_nat}
use Rattle.dht_types.specs.Cost.{cost}
use Rattle.dht_types.specs.History.{History}
use Rattle.dht_types.specs.declared.identifiers.CallNo.{CallNo}
use Rattle.dht_types.specs.declared.locks.Key.{Key}
use Rattle.dht_brick.specs.declared.journal.JournalEntry.{JournalEntry}
use Rattle.dht_section.specs.Claims.{Claim, Listed, no_claim}
use Rattle.dht_section.specs.Disk.{Disk}
use Rattle.dht_section.specs.Stages.{IsCallStable}
use Rattle.dht_section.specs.declared.caller.Caller.{Ghosts as CallerGhosts}
use Rattle.dht_world.proofs.LineLaws.{nat_cases}
use Rattle.dht_invariant.specs.Transition.{scene, Transition}
use Rattle.dht_world.specs.Bricks.{Logged}
use Rattle.dht_types.specs.Counted.{CallsCounted}
use Rattle.dht_world.specs.Clients.{client, claim_at, claims_of, Rests, Works, ClientFits}
use Rattle.dht_world.specs.World.{Summary, IsSummary, Fit, HoldersCall}
use Rattle.dht_world.specs.declared.places.Place.{Place}
use Rattle.dht_world.specs.declared.places.Place.TheVariants.{Living, Dead}
use Rattle.dht_world.proofs.CountLaws.{Passes, undisturbed_before}
use Rattle.dht_world.proofs.BrickLaws.{get_set_same, get_set_other}

pub idle_is : (X Y : Type 0) (b : Bool) → b ≡ false → MatchBool b X Y → Y
idle_is X Y true e h = absurd (let z : true ≡ false = e in cc)
idle_is X Y false e h = h

pub busy_is : (X Y : Type 0) (b : Bool) → b ≡ true → MatchBool b X Y → X
busy_is X Y true e h = h
busy_is X Y false e h = absurd (let z : false ≡ true = e in cc)

module _ {C : Type 0} (g : CallerGhosts C) where
  -- one place is set, and one claim changes
  claims_set_at : (places : List (Place C)) (c : ℕ) (k : Place C) → c < length places → (i : ℕ) → put nat_eq (claims_of g places) c (claim_at g (Some k)) i ≡ claims_of g (slice_set places c k) i
  claims_set_at places c k l i = put_elim (λ (p : Claim). p ≡ claims_of g (slice_set places c k) i) nat_eq exact_nat (claims_of g places) c (claim_at g (Some k)) i
      (λ e. subst (λ (j : ℕ). claim_at g (Some k) ≡ claim_at g (slice_get (slice_set places c k) j)) (sym e) (sym (ap (claim_at g) (get_set_same places c k l))))
      (λ ne. sym (ap (claim_at g) (get_set_other places c k i ne)))

  pub claims_set : (places : List (Place C)) (c : ℕ) (k : Place C) → c < length places → put nat_eq (claims_of g places) c (claim_at g (Some k)) ≡ claims_of g (slice_set places c k)
  claims_set places c k l = λ j. λ i. claims_set_at places c k l i j

  -- who claims a lock has a pending call
  claims_call_by : (d : Disk) (s : History) (claims : ℕ → Claim) (c : ℕ) (k : C) (n : CallNo) (b : Bool) (x : Claim) → MatchBool b (Works g d s claims c k n) (Rests g s c k) → (i : ℕ) (key : Key) → Listed (cond b x no_claim).locks i key → is_some (s.pending c) ≡ true
  claims_call_by d s claims c k n true x h i key l = ap is_some h.runs
  claims_call_by d s claims c k n false x h i key l = absurd l

  claims_call : (d : Disk) (s : History) (claims : ℕ → Claim) (c : ℕ) (o : Option (Place C)) → ClientFits g d s claims c o → (i : ℕ) (key : Key) → Listed (claim_at g o).locks i key → is_some (s.pending c) ≡ true
  claims_call d s claims c None h i key l = absurd l
  claims_call d s claims c (Some Dead) h i key l = absurd l
  claims_call d s claims c (Some (Living k n)) h i key l = claims_call_by d s claims c k n (g.is_busy k) (g.stage k).claims h.2 i key l

  -- each lock is held by a client that has a pending call
  pub holders_call : (d : Disk) (js : ℕ → List JournalEntry) (places : List (Place C)) (ws : List ℕ) (n : Summary) (s : History) → Fit g d js places ws n s → HoldersCall d s
  holders_call d js places ws n s h b key c m l e = claims_call d s (claims_of g places) c (slice_get places c) (h.each c) b key ((h.kept.things.locks b key l).claimed c m e)

  -- what happened: at most the place of this client changed, and what it claims
  pub record Happens (c : ℕ) (d e : Disk) (ks : ℕ → List JournalEntry) (s t : History) (places after : List (Place C)) (n : Summary) : Type 0 where
    pub transition : Transition c d s (claims_of g places) e t (claims_of g after)
    pub passes : Passes c s t
    pub logged : Logged ks t
    pub summary : IsSummary n t
    pub many : length after ≡ length places
    pub same : (w : ℕ) → w ≢ c → slice_get after w ≡ slice_get places w
    pub own : ClientFits g e t (claims_of g after) c (slice_get after c)

  module _ (stable : (x : C) → IsCallStable (g.stage x)) where
    works_on : (d e : Disk) (s t : History) (p q : ℕ → Claim) (c w : ℕ) (k : C) (n : CallNo) (b : Bool) → w ≢ c → Transition c d s p e t q → Passes c s t → CallsCounted s → MatchBool b (Works g d s p w k n) (Rests g s w k) → MatchBool b (Works g e t q w k n) (Rests g t w k)
    works_on d e s t p q c w k n true ne tr ps counted h =
        let later = tr.later in
        let begun = h.begun in
        record {
          mine = h.mine;
          runs = tr.pending w ne ∙ h.runs;
          number = h.number;
          named = h.named;
          begun = omega arith;
          called = ps.called w ne ∙ h.called;
          knows = stable k (scene d s p (client w) h.mine) (scene e t q (client w) h.mine) h.knows (tr.others (client w) h.mine ne h.runs) refl;
          in_time = λ u. subst (λ (ws : List ℕ). h.mine.steps + (g.stage k).variant ≤ cost (length ws) h.mine.call) (sym ps.weights)
              (h.in_time (undisturbed_before c s t h.mine h.mine ps (counted.numbered w h.mine h.runs) refl refl u));
        }
    works_on d e s t p q c w k n false ne tr ps counted h = record { none = tr.pending w ne ∙ h.none; fresh = λ u. h.fresh (sym (ps.called w ne) ∙ u) }

    client_on : (d e : Disk) (s t : History) (p q : ℕ → Claim) (c w : ℕ) (o : Option (Place C)) → w ≢ c → Transition c d s p e t q → Passes c s t → CallsCounted s → ClientFits g d s p w o → ClientFits g e t q w o
    client_on d e s t p q c w None ne tr ps counted h = tr.pending w ne ∙ h
    client_on d e s t p q c w (Some Dead) ne tr ps counted h = (ps.dead w ne ∙ h.0, tr.pending w ne ∙ h.1)
    client_on d e s t p q c w (Some (Living k n)) ne tr ps counted h = (ps.dead w ne ∙ h.0, h.1, works_on d e s t p q c w k n (g.is_busy k) ne tr ps counted h.2)

    pub fit_after : (c : ℕ) (d e : Disk) (js ks : ℕ → List JournalEntry) (s t : History) (places after : List (Place C)) (ws : List ℕ) (m n : Summary) → Fit g d js places ws m s → Happens c d e ks s t places after n → Fit g e ks after ws n t
    fit_after c d e js ks s t places after ws m n fit h = record {
      kept = h.transition.kept;
      early = h.transition.early;
      logged = h.logged;
      same_weights = h.passes.weights ∙ fit.same_weights;
      up_above = λ b l. h.passes.down b (let bricks : length s.weights ≡ length ws = ap (λ (xs : List ℕ). length xs) fit.same_weights in omega arith) ∙ fit.up_above b l;
      summary = h.summary;
      many = h.many ∙ fit.many;
      each = λ w. elim (nat_cases w c) [
        | inl i ↦ subst (λ (y : ℕ). ClientFits g e t (claims_of g after) y (slice_get after y)) (sym i) h.own
        | inr ne ↦ subst (λ (o : Option (Place C)). ClientFits g e t (claims_of g after) w o) (sym (h.same w ne))
            (client_on d e s t (claims_of g places) (claims_of g after) c w (slice_get places w) ne h.transition h.passes fit.kept.counts (fit.each w))
      ];
    }
