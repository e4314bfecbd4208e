-- What holds of new bricks and new clients, before the first event after the volume line.
use Rattle.std.proofs.Common.{◌≡◌, ◌<◌, ◌≤◌, ℕ, Bool, false, List, [], ◌∷◌, refl, sym, ap, ◌∙◌, subst, length, arith}
use Rattle.std.specs.Prelude.{Option, Some, None, MatchBool, if◌then◌else◌, map, slice_get}
use Rattle.std.specs.FinMap.{get-empty}
use Rattle.dht_types.specs.History.{History, with_line, start}
use Rattle.dht_types.specs.declared.lines.Line.TheVariants.{Volume}
use Rattle.dht_types.specs.declared.events.Event.TheVariants as event
use Rattle.dht_types.specs.Volume.{HasWeight}
use Rattle.dht_brick.specs.Contents.{Contents, dir, gfid_cmp}
use Rattle.dht_brick.specs.declared.journal.JournalEntry.{JournalEntry}
use Rattle.dht_section.specs.Claims.{Claim, no_claim}
use Rattle.dht_section.specs.Disk.{Disk}
use Rattle.dht_section.specs.Invariant.{Invariant}
use Rattle.dht_section.specs.declared.caller.Caller.{Ghosts as CallerGhosts}
use Rattle.dht_invariant.specs.Laws.{NewBricksMeet, no_claims}
use Rattle.dht_invariant.specs.New.{AreNew}
use Rattle.dht_invariant.proofs.Newborn.{new_invariant, new_early}
use Rattle.dht_world.specs.Bricks.{AreNewborn, act_of, changed_slots}
use Rattle.dht_world.specs.Clients.{Rests, Works, ClientFits, IsNewAt, AreNewClients, claim_at, claims_of}
use Rattle.dht_world.specs.Following.{Block}
use Rattle.dht_world.specs.World.{At}
use Rattle.dht_world.specs.declared.places.Place.{Place}
use Rattle.dht_world.specs.declared.places.Place.TheVariants.{Living, Dead}
use Rattle.dht_world.proofs.AnsweredLaws.{none_answered}

-- new bricks are new, and where there is no brick there is nothing
are_new : (ws : List ℕ) (d : Disk) (js : ℕ → List JournalEntry) → AreNewborn ws d js → AreNew ws d
are_new ws d js h = record {
  contents = h.contents;
  no_dirs = λ b g l. ap (λ (c : Contents). dir c.store g) (h.elsewhere b l) ∙ get-empty gfid_cmp g;
  no_locks = λ b key c l. ap (λ (x : Contents). x.locks key c) (h.elsewhere b l);
}

meet : NewBricksMeet
meet ws d new heavy count some few = (new_invariant ws d new some heavy count few, new_early ws d new some heavy count)

module _ {C : Type 0} (g : CallerGhosts C) where
  -- new clients claim nothing
  pub new_claim : (c : ℕ) (o : Option (Place C)) → IsNewAt g c o → claim_at g o ≡ no_claim
  new_claim c None h = refl
  new_claim c (Some Dead) h = absurd h
  new_claim c (Some (Living x n)) h = ap (λ (b : Bool). if b then (g.stage x).claims else no_claim) h.1

  pub new_fits : (d : Disk) (s : History) (p : ℕ → Claim) (c : ℕ) (o : Option (Place C)) → s.dead c ≡ false → s.pending c ≡ None → IsNewAt g c o → ClientFits g d s p c o
  new_fits d s p c None living none h = none
  new_fits d s p c (Some Dead) living none h = absurd h
  new_fits d s p c (Some (Living x n)) living none h = (living, h.0, subst (λ (b : Bool). MatchBool b (Works g d s p c x n) (Rests g s c x)) (sym h.1) (record { none = none; fresh = λ q. h.3 }))

  -- before the first event after the volume line
  pub at_start : (d : Disk) (js : ℕ → List JournalEntry) (places : List (Place C)) (ws : List ℕ) → AreNewborn ws d js → HasWeight ws → d.count ≡ length ws → 0 < d.count → d.count ≤ 32 → length places ≡ 64 → AreNewClients g places → At g d js places ws (record { run = 1; calls = 0; lines = 1; requests = 0; answers = [] }) (Volume ws ∷ [])
  at_start d js places ws h heavy count some few many idle =
      let s = with_line start (Volume ws) in
      let new = meet ws d (are_new ws d js h) heavy count some few in
      let claims : no_claims ≡ claims_of g places = (λ i. λ c. sym (new_claim c (slice_get places c) (idle c)) i) in
      record {
        legal = record { from = (refl, tt); whole = refl };
        in_time = (tt, tt);
        noted = (tt, tt);
        fit = record {
          kept = subst (λ (p : ℕ → Claim). Invariant d s p) claims new.0;
          early = new.1;
          logged = record { steps = λ b. ap (map act_of) (h.journals b); slots = λ b. ap changed_slots (h.journals b); dirs = λ b. tt };
          same_weights = refl;
          up_above = λ b l. refl;
          summary = record { run = refl; calls = refl; lines = refl; requests = refl; answers = none_answered; places = refl; fewer = omega arith; less = omega arith };
          many = many;
          each = λ c. new_fits d s (claims_of g places) c (slice_get places c) refl refl (idle c);
        };
      }

pub block_start : (s : History) (ws : List ℕ) → Block s 1 (event.Volume ws) (Volume ws ∷ [])
block_start s ws = record { first = Volume ws; more = []; all = refl; is_head = refl; is_under = refl }
