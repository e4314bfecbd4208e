-- A claim and a line that tells nothing of the tree are transitions.
use Rattle.std.proofs.Common.{◌≡◌, ◌<◌, ◌≤◌, ◌^◌, ℕ, refl, sym, ap, ◌∙◌, subst, inl, inr, arith}
use Rattle.std.specs.Prelude.{nat_eq}
use Rattle.dht_types.proofs.PutLaws.{put_elim, put_same, put_other, exact_nat}
use Rattle.dht_types.proofs.HistoryLaws.{past_with_line, point_with_line}
use Rattle.dht_types.specs.Put.{put}
use Rattle.dht_types.specs.Counted.{CallsCounted}
use Rattle.dht_types.specs.Tree.{Tree}
use Rattle.dht_types.specs.History.{History, IsOwn, tells, with_line}
use Rattle.dht_types.specs.declared.identifiers.CallNo.{CallNo}
use Rattle.dht_types.specs.declared.identifiers.Gfid.{Gfid}
use Rattle.dht_types.specs.declared.lines.Line.{Line}
use Rattle.dht_types.specs.declared.locks.Key.{Key}
use Rattle.dht_section.specs.Claims.{Claim, Listed, place_in, places_of}
use Rattle.dht_section.specs.Disk.{holders}
use Rattle.dht_section.specs.Invariant.{Used, NothingUsed}
use Rattle.dht_section.specs.Locks.{LockInvariant}
use Rattle.dht_invariant.specs.Laws.{ClaimsAreTransitions, LinesAreTransitions}
use Rattle.dht_section.proofs.EarlyLaws.{nat_cases}
use Rattle.dht_invariant.proofs.QuietKeeps.{SameHistory, at_most, same_stores, transition_same}

-- one client claims of a copy no more than before
pub places_less :
    (p : ℕ → Claim) (c : ℕ) (new : Claim)
    → ((f : Gfid) (b : ℕ) → place_in new.copy f b ≤ place_in (p c).copy f b) → (f : Gfid) (b w : ℕ)
    → places_of (put nat_eq p c new) f b w ≤ places_of p f b w
places_less p c new h f b w = put_elim (λ (x : Claim). place_in x.copy f b ≤ place_in (p w).copy f b) nat_eq exact_nat p c new w
    (λ q. subst (λ (i : ℕ). place_in new.copy f b ≤ place_in (p i).copy f b) (sym q) (h f b))
    (λ ne. at_most _ _ refl)

pub claims_are_transitions : ClaimsAreTransitions
claims_are_transitions c d s p new k now may =
    transition_same d d (same_stores d) s s
    (record { tree = refl; weights = refl; run = refl; calls = at_most _ _ refl; counts = λ h. h; later = at_most _ _ refl; past = λ j l. refl; point = k.point })
    c p (put nat_eq p c new) (λ b l. refl) (places_less p c new may.copy) locks (λ b key w ne. refl)
    (λ w ne. put_other nat_eq exact_nat p c new w ne) (λ w ne. refl) k.fresh k now
  where
    locks : (b : ℕ) (key : Key) → b < d.count → LockInvariant b key (holders d b key) (put nat_eq p c new)
    locks b key l = record {
      alone = (k.things.locks b key l).alone;
      claimed = λ w m h. elim (nat_cases w c) [
        | inl q ↦ subst (λ (i : ℕ). Listed (put nat_eq p c new i).locks b key) (sym q)
            (subst (λ (x : Claim). Listed x.locks b key) (sym (put_same nat_eq exact_nat p c new)) (may.locks b key m l (ap (holders d b key) (sym q) ∙ h)))
        | inr ne ↦ subst (λ (x : Claim). Listed x.locks b key) (sym (put_other nat_eq exact_nat p c new w ne)) ((k.things.locks b key l).claimed w m h)
      ];
      low = (k.things.locks b key l).low;
    }

-- one more line, of which this is known, keeps the history
pub line_keeps :
    (s : History) (x : Line) → (tells s x).tree ≡ s.tree → (tells s x).weights ≡ s.weights
    → (tells s x).run ≡ s.run → s.calls ≤ (tells s x).calls
    → (CallsCounted s → CallsCounted (with_line s x)) → SameHistory s (with_line s x)
line_keeps s x tree weights run calls counts = record {
  tree = tree;
  weights = weights;
  run = run;
  calls = calls;
  counts = counts;
  later = omega arith;
  past = past_with_line s x;
  point = point_with_line s x;
}

pub lines_are_transitions : LinesAreTransitions
lines_are_transitions c d s p x k now h =
    transition_same d d (same_stores d) s (with_line s x) (line_keeps s x h.tree h.weights h.run h.calls h.counts)
    c p p (λ b l. refl) (λ f b w. at_most _ _ refl) k.things.locks (λ b key w ne. refl) (λ w ne. refl) h.pending fresh k now
  where
    fresh : NothingUsed d (with_line s x)
    fresh w r g small e none own u =
        let used : Used d s.tree g = subst (λ (y : Tree). Used d y g) h.tree u in
        let owned : IsOwn s.run w r.number g = subst (λ (i : ℕ). IsOwn i w r.number g) h.run own in
        elim (nat_cases w.0 c) [
          | inl q ↦ elim (h.own r (ap (tells s x).pending (sym q) ∙ e) none) [
            | inl m ↦ k.fresh w m.before g (subst (λ (i : CallNo). i.0 < 2 ^ 64) (sym m.number) small) (ap s.pending q ∙ m.was_it) m.fresh
                (subst (λ (i : CallNo). IsOwn s.run w i g) (sym m.number) owned) used
            | inr l ↦ (let z = k.known g w r.number small used owned in omega arith)
          ]
          | inr ne ↦ k.fresh w r g small (sym (h.pending w.0 ne) ∙ e) none owned used
        ]
