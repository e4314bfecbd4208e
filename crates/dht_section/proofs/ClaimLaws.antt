-- What may be claimed after a request: each lock that is held is still claimed.
use Rattle.std.proofs.Common.{◌≡◌, ◌<◌, ℕ, sym, ◌∙◌, ap, subst, arith, inl, inr, List, ◌∷◌}
use Rattle.std.specs.Prelude.{Some, None}
use Rattle.dht_types.specs.declared.locks.Key.{Key}
use Rattle.dht_types.specs.declared.locks.Mode.{Mode}
use Rattle.dht_brick.specs.declared.replies.Reply.{Reply}
use Rattle.dht_section.specs.Claims.{Lock, Claim, Listed, claims_locks}
use Rattle.dht_section.specs.Disk.{holders}
use Rattle.dht_section.specs.Scene.{Scene, my_claim}
use Rattle.dht_section.specs.Stages.{Stage, Served, MayClaimNext}

-- after its request a program claims what it claimed before
pub claims_after :
    (x : Stage) (r : Reply) (at : ℕ) (s t : Scene) → Served x r at s t → my_claim t ≡ x.claims
claims_after x r at s t v = (λ i. v.moved.claims i (v.moved.who i).0) ∙ v.is_at.claims

pub listed_after :
    (x : Stage) (r : Reply) (at : ℕ) (s t : Scene) (b : ℕ) (key : Key) (m : Mode)
    → Served x r at s t → b < t.disk.count → holders t.disk b key t.who.0 ≡ Some m
    → Listed x.claims.locks b key
listed_after x r at s t b key m v l h = subst (λ (c : Claim). Listed c.locks b key) (claims_after x r at s t v) ((v.after.kept.things.locks b key l).claimed t.who.0 m h)

-- what it claims next has those locks too
pub claims_more :
    (x : Stage) (r : Reply) (at : ℕ) (s t : Scene) (next : List Lock) → Served x r at s t
    → ((b : ℕ) (key : Key) → Listed x.claims.locks b key → Listed next b key)
    → MayClaimNext t x.claims (claims_locks next)
claims_more x r at s t next v more = record {
  locks = λ b key m l h. more b key (listed_after x r at s t b key m v l h);
  copy = λ f dest. omega arith;
}

-- or it has all but a lock that was given back
other_listed :
    (first : Lock) (rest : List Lock) (t : Scene) (b : ℕ) (key : Key) (m : Mode)
    → holders t.disk first.brick first.key t.who.0 ≡ None → holders t.disk b key t.who.0 ≡ Some m
    → Listed (first ∷ rest) b key → Listed rest b key
other_listed first rest t b key m free h q = elim q [
  | inl e ↦ absurd (let z : None ≡ Some m = sym free ∙ (ap (λ (i : ℕ). holders t.disk i first.key t.who.0) e.0 ∙ (ap (λ (k : Key). holders t.disk b k t.who.0) e.1 ∙ h)) in cc)
  | inr e ↦ e
]

pub claims_less :
    (x : Stage) (r : Reply) (at : ℕ) (s t : Scene) (first : Lock) (rest : List Lock)
    → x.claims ≡ claims_locks (first ∷ rest) → holders t.disk first.brick first.key t.who.0 ≡ None
    → Served x r at s t → MayClaimNext t x.claims (claims_locks rest)
claims_less x r at s t first rest e free v = record {
  locks = λ b key m l h. other_listed first rest t b key m free h (subst (λ (c : Claim). Listed c.locks b key) e (listed_after x r at s t b key m v l h));
  copy = λ f dest. omega arith;
}
