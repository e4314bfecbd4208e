-- The steps of a release.
use Rattle.std.proofs.Common.{◌≡◌, ◌-◌, Bool, true, false, refl, arith}
use Rattle.std.specs.Prelude.{suc, ℕ, length, nat_lt, if◌then◌else◌}
use Rattle.std.proofs.lemmas.Bool.Decides.{nat_tests}
use Rattle.dht_brick.specs.declared.replies.Reply.{Reply}
use Rattle.dht_section.proofs.SceneLaws.{IsQuiet}
use Rattle.dht_section.proofs.SectionLocks.{fresh_moved}
use Rattle.dht_section.proofs.UnlockingSteps.{unlocking_next, nothing_claimed, still_earned}
use Rattle.dht_section.specs.Moves.{Guarantee}
use Rattle.dht_section.specs.Release.{CanBegin, Releases, memory_of, release_after, release_stage, released_ending}
use Rattle.dht_section.specs.Scene.{Scene}
use Rattle.dht_section.specs.Section.{IsHeld}
use Rattle.dht_section.specs.Stages.{GoesOn, EndsIn, Moves, MatchTurn}
use Rattle.dht_section.specs.declared.machine.Ask.{Ask}
use Rattle.dht_section.specs.declared.machine.Turn.{Turn}
use Rattle.dht_section.specs.declared.release.Release.{Release}
use Rattle.dht_section.specs.declared.section.Held.{Held}
use Rattle.dht_section.specs.declared.section.Prepared.{Prepared}

pub can_begin_moved :
    (p : Prepared) (s t : Scene) (a : Ask) (r : Reply) → IsQuiet a.request → CanBegin p s
    → Guarantee s a r t → CanBegin p t
can_begin_moved p s t a r q h m = record { order = h.order; fresh = fresh_moved p.scope s t a r q h.fresh m; room = h.room }

abbrev Went : Release → Reply → Scene → Turn Release Prepared → Type 0
Went m r t turn = MatchTurn turn (λ n. GoesOn (release_stage m) (release_stage n) r t) (λ d. EndsIn (release_stage m) (released_ending d) t)

either :
    (m : Release) (r : Reply) (t : Scene) (b : Bool) (x y : Turn Release Prepared)
    → (b ≡ true → Went m r t x) → (b ≡ false → Went m r t y) → Went m r t (if b then x else y)
either m r t true x y h k = h refl
either m r t false x y h k = k refl

pub release_moves :
    (m : Release) (r : Reply) (at : ℕ)
    → Moves release_stage released_ending m r at (release_after m)
release_moves m r at s t v = either m r t (nat_lt 0 m.place) _ _
    (λ e. unlocking_next m.scope m.place (CanBegin (memory_of m)) (can_begin_moved (memory_of m)) (grind (arith, nat_tests, e)) r at s t v)
    (λ e. record {
      claims = nothing_claimed m.scope m.place (CanBegin (memory_of m)) (grind (arith, nat_tests, e)) r at s t v;
      earned = still_earned m.scope m.place (CanBegin (memory_of m)) (can_begin_moved (memory_of m)) r at s t v;
    })

pub releases : (h : Held) (s : Scene) → IsHeld h s → Releases h s
releases h s k =
    let some = k.order.some in
    let e : suc (length h.scope.keys - 1) ≡ length h.scope.keys = omega arith in
    record {
      claims = refl;
      knows = record {
        order = k.order;
        scope = k.fresh.scope;
        within = omega arith;
        earned = record { order = k.order; fresh = k.fresh; room = k.room };
      };
      variant = e;
    }
