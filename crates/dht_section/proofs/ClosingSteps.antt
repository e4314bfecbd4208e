-- The steps of a closing.
use Rattle.std.proofs.Common.{◌≡◌, ◌-◌, Bool, true, false, refl, arith}
use Rattle.std.specs.Prelude.{suc, ℕ, length, nat_lt, if◌then◌else◌}
use Rattle.std.proofs.lemmas.Bool.Decides.{nat_tests}
use Rattle.dht_brick.specs.declared.replies.Reply.{Reply}
use Rattle.dht_section.proofs.SceneLaws.{IsQuiet, deeds_quiet}
use Rattle.dht_section.proofs.UnlockingSteps.{unlocking_next, nothing_claimed, still_earned}
use Rattle.dht_section.specs.Closing.{closing_stage, closing_after, Closes}
use Rattle.dht_section.specs.MayAnswerLaws.{may_answer_moved}
use Rattle.dht_section.specs.Moves.{Guarantee}
use Rattle.dht_section.specs.Scene.{Scene, MayAnswer}
use Rattle.dht_section.specs.Section.{IsHeld}
use Rattle.dht_section.specs.Stages.{GoesOn, EndsIn, Moves, MatchTurn, answered}
use Rattle.dht_section.specs.declared.closing.Closing.{Closing}
use Rattle.dht_section.specs.declared.machine.Ask.{Ask}
use Rattle.dht_section.specs.declared.machine.Finish.{Finish}
use Rattle.dht_section.specs.declared.machine.Turn.{Turn}
use Rattle.dht_section.specs.declared.section.Held.{Held}

answer_moved :
    (f : Finish) (s t : Scene) (a : Ask) (r : Reply) → IsQuiet a.request → MayAnswer f s
    → Guarantee s a r t → MayAnswer f t
answer_moved f s t a r q h m = may_answer_moved f s t a r (deeds_quiet s t a r q m) m h

abbrev Went : Closing → Reply → Scene → Turn Closing Finish → Type 0
Went c r t turn = MatchTurn turn (λ n. GoesOn (closing_stage c) (closing_stage n) r t) (λ d. EndsIn (closing_stage c) (answered d) t)

either :
    (c : Closing) (r : Reply) (t : Scene) (b : Bool) (x y : Turn Closing Finish)
    → (b ≡ true → Went c r t x) → (b ≡ false → Went c r t y) → Went c r t (if b then x else y)
either c r t true x y h k = h refl
either c r t false x y h k = k refl

pub closing_moves :
    (c : Closing) (r : Reply) (at : ℕ) → Moves closing_stage answered c r at (closing_after c)
closing_moves c r at s t v = either c r t (nat_lt 0 c.place) _ _
    (λ e. unlocking_next c.scope c.place (MayAnswer c.finish) (answer_moved c.finish) (grind (arith, nat_tests, e)) r at s t v)
    (λ e. record {
      claims = nothing_claimed c.scope c.place (MayAnswer c.finish) (grind (arith, nat_tests, e)) r at s t v;
      earned = still_earned c.scope c.place (MayAnswer c.finish) (answer_moved c.finish) r at s t v;
    })

pub closes : (h : Held) (f : Finish) (s : Scene) → IsHeld h s → MayAnswer f s → Closes h f s
closes h f s k a =
    let some = k.order.some in
    let e : suc (length h.scope.keys - 1) ≡ length h.scope.keys = omega arith in
    record {
      claims = refl;
      knows = record { order = k.order; scope = k.fresh.scope; within = omega arith; earned = a };
      variant = e;
    }
