-- What a served request leaves, on its brick and on all.
use Rattle.std.proofs.Common.{◌≡◌, ◌≢◌, ℕ, refl, sym, ◌∙◌, ap, subst}
use Rattle.std.specs.Prelude.{nat_eq, None}
use Rattle.dht_types.proofs.PutLaws.{put_keeps, exact_nat}
use Rattle.dht_types.specs.declared.locks.Key.{Key}
use Rattle.dht_brick.specs.Bricks.{ServesOrFails}
use Rattle.dht_brick.specs.Contents.{Contents}
use Rattle.dht_brick.specs.Outcome.{Outcome, Do, Refuse, Await, within, left_by}
use Rattle.dht_brick.proofs.LockLaws.{locks_are_local}
use Rattle.dht_brick.specs.declared.replies.Given.{Given}
use Rattle.dht_brick.specs.declared.replies.Reply.{Reply}
use Rattle.dht_brick.specs.declared.replies.Reply.TheVariants.{Ok as Carried, Refused as Declined, Wait, Down, Failed, NoMemory}
use Rattle.dht_brick.specs.declared.requests.Request.{Request}
use Rattle.dht_section.specs.declared.machine.Ask.{Ask}
use Rattle.dht_section.specs.Disk.{holders}
use Rattle.dht_section.specs.Moves.{Guarantee, outcome_of, step_of}
use Rattle.dht_section.specs.Scene.{Scene}

-- what a part of the contents leaves of the whole
pub within_keeps :
    {A X : Type 0} (g : Contents → X) (whole : A → Contents) (o : Outcome A) (c : Contents)
    → ((a : A) → g (whole a) ≡ g c) → g (left_by (within whole o) c) ≡ g c
within_keeps g whole (Do given new) c h = h new
within_keeps g whole (Refuse why) c h = refl
within_keeps g whole (Await holder) c h = refl

-- where the whole was carried out, the part was
pub within_done :
    {A : Type 0} (whole : A → Contents) (o : Outcome A) (given : Given) (new : Contents)
    → within whole o ≡ Do given new → (a : A) × (o ≡ Do given a) × (new ≡ whole a)
within_done whole (Do gives a) given new h = (
  a,
  (let z : Do gives (whole a) ≡ Do given new = h in let y : gives ≡ given = cc in ap (λ g. Do g a) y),
  ap (λ x. left_by x new) (sym h),
)
within_done whole (Refuse why) given new h = absurd (let z : Refuse why ≡ Do given new = h in cc)
within_done whole (Await holder) given new h = absurd (let z : Await holder ≡ Do given new = h in cc)

-- what holds of the old contents and of those that the row leaves holds of the new ones
pub served_is :
    (P : Contents → Type 0) (o : Outcome Contents) (old : Contents) (r : Reply) (new : Contents)
    → P (left_by o old) → P old → ServesOrFails o old r new → P new
served_is P o old (Carried given) new p q h = subst P (ap (λ x. left_by x old) h) p
served_is P o old (Declined why) new p q h = subst P (sym h.1) q
served_is P o old (Wait holder) new p q h = subst P (sym h.1) q
served_is P o old Down new p q h = subst P (sym h) q
served_is P o old Failed new p q h = subst P (sym h) q
served_is P o old NoMemory new p q h = subst P (sym h) q

-- a fact of the contents that the row keeps is kept, whatever was replied
pub served_keeps :
    {X : Type 0} (g : Contents → X) (o : Outcome Contents) (old : Contents) (r : Reply)
    (new : Contents)
    → g (left_by o old) ≡ g old → ServesOrFails o old r new → g new ≡ g old
served_keeps g o old r new e h = served_is (λ c. g c ≡ g old) o old r new e refl h

-- what one request keeps on its brick, it keeps on all
pub brick_keeps :
    {X : Type 0} (g : Contents → X) (s t : Scene) (a : Ask) (r : Reply) → Guarantee s a r t
    → g (left_by (outcome_of s a) (s.disk.brick a.brick.0)) ≡ g (s.disk.brick a.brick.0) → (i : ℕ)
    → g (t.disk.brick i) ≡ g (s.disk.brick i)
brick_keeps g s t a r m e i =
    ap (λ (f : ℕ → Contents). g (f i)) m.disk.brick
    ∙ put_keeps g nat_eq exact_nat s.disk.brick a.brick.0 m.new (served_keeps g (outcome_of s a) (s.disk.brick a.brick.0) m.real m.new e m.served) i

-- no other client's lock changes
pub others_hold :
    (s t : Scene) (a : Ask) (r : Reply) → Guarantee s a r t → (b : ℕ) (key : Key) (w : ℕ)
    → w ≢ s.who.0 → holders t.disk b key w ≡ holders s.disk b key w
others_hold s t a r m b key w ne = brick_keeps (λ (c : Contents). c.locks key w) s t a r m (locks_are_local _ s.who s.mine.number a.request (s.disk.brick a.brick.0) key w ne) b

-- a request was carried out, or it stands for no step of the tree and changed nothing
pub data Came (b : ℕ) (q : Request) (o : Outcome Contents) (old : Contents) (r : Reply) (new : Contents) : Type 0 where
  WasDone : (given : Given) → r ≡ Carried given → o ≡ Do given new → Came b q o old r new
  WasNot : step_of b q r ≡ None → new ≡ old → Came b q o old r new

pub came :
    (b : ℕ) (q : Request) (o : Outcome Contents) (old : Contents) (r : Reply) (new : Contents)
    → ServesOrFails o old r new → Came b q o old r new
came b q o old (Carried given) new h = WasDone given refl h
came b q o old (Declined why) new h = WasNot refl h.1
came b q o old (Wait holder) new h = WasNot refl h.1
came b q o old Down new h = WasNot refl h
came b q o old Failed new h = WasNot refl h
came b q o old NoMemory new h = WasNot refl h
