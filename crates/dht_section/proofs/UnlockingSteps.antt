-- The steps of giving back locks, the last first.
use Rattle.std.proofs.Common.{◌≡◌, ◌<◌, ◌-◌, ℕ, refl, sym, ◌∙◌, ap, subst, arith, List, []}
use Rattle.std.specs.Prelude.{suc, length}
use Rattle.dht_brick.specs.declared.replies.Reply.{Reply}
use Rattle.dht_section.proofs.ClaimLaws.{claims_less}
use Rattle.dht_section.proofs.SceneLaws.{IsQuiet, lock_given_back}
use Rattle.dht_section.specs.Claims.{claims_locks}
use Rattle.dht_section.specs.Claims.{Lock as ALock}
use Rattle.dht_section.specs.Moves.{Guarantee}
use Rattle.dht_section.specs.Scene.{Scene}
use Rattle.dht_section.specs.Section.{HasScope, unlocking_stage}
use Rattle.dht_section.specs.SectionLaws.{claimed_more}
use Rattle.dht_section.specs.Stages.{Served, GoesOn, MayClaimNext}
use Rattle.dht_section.specs.Want.{Scoped, key_at, lock_brick, lock_in, claimed}
use Rattle.dht_section.specs.declared.machine.Ask.{Ask}

pub scope_moved :
    (w : Scoped) (s t : Scene) (a : Ask) (r : Reply) → HasScope w s → Guarantee s a r t
    → HasScope w t
scope_moved w s t a r h m = record { bricks = ap length m.weights ∙ h.bricks; homes = h.homes }

-- the locks below one that was given back are still claimed
pub rest_claimed :
    (w : Scoped) (i : ℕ) (right : Scene → Type 0) (r : Reply) (at : ℕ) (s t : Scene)
    → Served (unlocking_stage w i right) r at s t
    → MayClaimNext t (unlocking_stage w i right).claims (claims_locks (claimed w i))
rest_claimed w i right r at s t v = claims_less (unlocking_stage w i right) r at s t (lock_in w i) (claimed w i) (ap claims_locks (claimed_more w i)) (lock_given_back s t (lock_brick w (key_at w i)) (key_at w i) r v.moved) v

-- what is earned stays so
pub still_earned :
    (w : Scoped) (i : ℕ) (right : Scene → Type 0)
    → ((s t : Scene) (a : Ask) (r : Reply) → IsQuiet a.request → right s → Guarantee s a r t
    → right t)
    → (r : Reply) (at : ℕ) (s t : Scene) → Served (unlocking_stage w i right) r at s t → right t
still_earned w i right stays r at s t v = stays s t _ r tt v.is_at.knows.earned v.moved

pub unlocking_next :
    (w : Scoped) (i : ℕ) (right : Scene → Type 0)
    → ((s t : Scene) (a : Ask) (r : Reply) → IsQuiet a.request → right s → Guarantee s a r t
    → right t)
    → 0 < i → (r : Reply) (at : ℕ) (s t : Scene) → Served (unlocking_stage w i right) r at s t
    → GoesOn (unlocking_stage w i right) (unlocking_stage w (i - 1) right) r t
unlocking_next w i right stays l r at s t v =
    let e : suc (i - 1) ≡ i = omega arith in
    let h = v.is_at.knows in
    let within = h.within in
    record {
      claims = subst (λ (n : ℕ). MayClaimNext t (unlocking_stage w i right).claims (claims_locks (claimed w n))) (sym e) (rest_claimed w i right r at s t v);
      knows = record {
        order = h.order;
        scope = scope_moved w s t _ r h.scope v.moved;
        within = omega arith;
        earned = still_earned w i right stays r at s t v;
      };
      nearer = λ u. (λ k. omega arith, omega arith);
    }

none_claimed : (w : Scoped) → claimed w 0 ≡ []
unfolding claimed
none_claimed w = refl

-- after the first lock nothing is claimed
pub nothing_claimed :
    (w : Scoped) (i : ℕ) (right : Scene → Type 0) → i ≡ 0 → (r : Reply) (at : ℕ) (s t : Scene)
    → Served (unlocking_stage w i right) r at s t
    → MayClaimNext t (unlocking_stage w i right).claims (claims_locks [])
nothing_claimed w i right e r at s t v = subst (λ (ls : List ALock). MayClaimNext t (unlocking_stage w i right).claims (claims_locks ls)) (ap (claimed w) e ∙ none_claimed w) (rest_claimed w i right r at s t v)
