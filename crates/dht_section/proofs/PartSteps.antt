-- The steps of a program while a part of it runs, or before it has claimed anything.
use Rattle.std.proofs.Common.{◌≡◌, ◌<◌, ◌+◌, ℕ, List, [], sym, subst, arith}
use Rattle.dht_brick.specs.declared.replies.Reply.{Reply}
use Rattle.dht_section.proofs.ClaimLaws.{claims_more}
use Rattle.dht_section.specs.Claims.{Lock, Claim, Listed, claims_locks, no_claim}
use Rattle.dht_section.specs.Scene.{Scene}
use Rattle.dht_section.specs.Stages.{Stage, Ending, Served, GoesOn, EndsIn, MayClaimNext}
use Rattle.dht_types.specs.declared.locks.Key.{Key}
use Rattle.dht_section.specs.Parts.{as_part}

-- ---- a part

pub part_served :
    (x : Stage) (more : ℕ) (Beside : Scene → Type 0) (r : Reply) (at : ℕ) (s t : Scene)
    → Served (as_part x more Beside) r at s t → Served x r at s t
part_served x more Beside r at s t h = record {
  before = h.before;
  after = h.after;
  is_at = record { claims = h.is_at.claims; knows = h.is_at.knows.0 };
  moved = h.moved;
  line = h.line;
}

pub part_goes_on :
    (x y : Stage) (more : ℕ) (Before After : Scene → Type 0) (r : Reply) (t : Scene)
    → GoesOn x y r t → After t → GoesOn (as_part x more Before) (as_part y more After) r t
part_goes_on x y more Before After r t h beside = record {
  claims = h.claims;
  knows = (h.knows, beside);
  nearer = λ u. (λ w. let k = (h.nearer u).0 w in omega arith, let k = (h.nearer u).1 in omega arith);
}

pub part_ends :
    (x n : Stage) (end : Ending) (more : ℕ) (Before : Scene → Type 0) (r : Reply) (t : Scene)
    → EndsIn x end t → n.claims ≡ end.claims → n.variant < x.variant + more → n.knows t
    → GoesOn (as_part x more Before) n r t
part_ends x n end more Before r t h claims nearer knows = record {
  claims = subst (λ (k : Claim). MayClaimNext t x.claims k) (sym claims) h.claims;
  knows = knows;
  nearer = λ u. (λ w. nearer, omega arith);
}

-- ---- before it has claimed anything

nothing_listed :
    (locks more : List Lock) → locks ≡ [] → (b : ℕ) (key : Key) → Listed locks b key
    → Listed more b key
nothing_listed locks more e b key h = absurd (subst (λ (ls : List Lock). Listed ls b key) e h)

pub free_goes_on :
    (x y : Stage) (next : List Lock) (r : Reply) (at : ℕ) (s t : Scene) → x.claims.locks ≡ []
    → y.claims ≡ claims_locks next → y.knows t → y.variant < x.variant → Served x r at s t
    → GoesOn x y r t
free_goes_on x y next r at s t e claims knows nearer h = record {
  claims = subst (λ (k : Claim). MayClaimNext t x.claims k) (sym claims) (claims_more x r at s t next h (nothing_listed x.claims.locks next e));
  knows = knows;
  nearer = λ u. (λ w. nearer, omega arith);
}

pub free_ends :
    (x : Stage) (end : Ending) (r : Reply) (at : ℕ) (s t : Scene) → end.claims ≡ no_claim
    → x.claims.locks ≡ [] → end.earned t → Served x r at s t → EndsIn x end t
free_ends x end r at s t claims e earned h = record {
  claims = subst (λ (k : Claim). MayClaimNext t x.claims k) (sym claims) (claims_more x r at s t [] h (nothing_listed x.claims.locks [] e));
  earned = earned;
}

-- ---- what is known of a stage is known of one that is the same

pub goes_as :
    (x y w z : Stage) (r : Reply) (at : ℕ) (s t : Scene) → x ≡ y → w ≡ z
    → (Served y r at s t → GoesOn y z r t) → Served x r at s t → GoesOn x w r t
goes_as x y w z r at s t e k f h = subst (λ (i : Stage). GoesOn i w r t) (sym e) (subst (λ (i : Stage). GoesOn y i r t) (sym k) (f (subst (λ (i : Stage). Served i r at s t) e h)))

pub ends_as :
    (x y : Stage) (end : Ending) (r : Reply) (at : ℕ) (s t : Scene) → x ≡ y
    → (Served y r at s t → EndsIn y end t) → Served x r at s t → EndsIn x end t
ends_as x y end r at s t e f h = subst (λ (i : Stage). EndsIn i end t) (sym e) (f (subst (λ (i : Stage). Served i r at s t) e h))
