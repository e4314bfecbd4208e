-- A text that is a schedule is carried out whole.
use Rattle.std.proofs.Common.{◌≡◌, ◌≢◌, ◌+◌, ◌≤◌, ℕ, List, [], ◌∷◌, ◌++◌, refl, sym, ap, ◌∙◌, subst, length, arith, append_assoc, length-append}
use Rattle.std.specs.Prelude.{Option, Some, None, IfSome}
use Rattle.dht_types.specs.declared.events.Event.{Event}
use Rattle.dht_brick.specs.Bricks.{BrickState}
use Rattle.dht_sched.specs.Schedule.{schedule_text, IsScheduled, IsOneLine}
use Rattle.dht_sched.specs.Spelling.{words_of}
use Rattle.dht_sched.proofs.LineLemmas.{same_event, words_of_text}
use Rattle.dht_run.specs.Outside.{before_told}
use Rattle.dht_run.specs.Replay.{schedule_of, IsSchedule, AreAfterFirst, MayCome, IsMalformed, StopsAtLine}
use Rattle.dht_run.specs.declared.line_reader.TheConstants.{INPUT_LIMIT}
use Rattle.dht_run.proofs.ReplayLaws.{first_line}

-- each event has a line
abbrev AreScheduled : List Event → Type 0
AreScheduled [] = Unit {0}
AreScheduled (e ∷ es) = IsScheduled e × AreScheduled es

after_scheduled : (es : List Event) → AreAfterFirst es → AreScheduled es
after_scheduled [] h = tt
after_scheduled (e ∷ es) h = (h.0, after_scheduled es h.2)

all_scheduled : (es : List Event) → IsSchedule es → AreScheduled es
all_scheduled [] h = tt
all_scheduled (e ∷ es) h = (h.0, after_scheduled es h.2)

-- what is left behind the first events of a schedule's text is the text of the others
rest_of :
    ((o : Event) → IsScheduled o → IsOneLine (schedule_text o))
    → (done all : List Event) (rest : List ℕ) → AreScheduled done → AreScheduled all
    → schedule_of all ≡ schedule_of done ++ rest
    → (more : List Event) × (all ≡ done ++ more) × (rest ≡ schedule_of more)
rest_of one [] all rest d a e = (all, refl, sym e)
rest_of one (x ∷ xs) [] rest d a e = absurd (let z : length ((schedule_text x ++ 10 ∷ schedule_of xs) ++ rest) ≡ 0 = ap length (sym e) in omega (arith, length-append (schedule_text x ++ 10 ∷ schedule_of xs) rest, length-append (schedule_text x) (10 ∷ schedule_of xs)))
rest_of one (x ∷ xs) (y ∷ ys) rest d a e =
    let line : schedule_text y ++ 10 ∷ schedule_of ys ≡ schedule_text x ++ 10 ∷ (schedule_of xs ++ rest) = e ∙ append_assoc (schedule_text x) (10 ∷ schedule_of xs) rest in
    let text = first_line (schedule_text y) (schedule_text x) (schedule_of ys) (schedule_of xs ++ rest) (one y a.0).one (one x d.0).one line in
    let same : y ≡ x = same_event y x a.0 d.0 (sym (words_of_text y a.0) ∙ (ap words_of text ∙ words_of_text x d.0)) in
    let tails : schedule_of ys ≡ schedule_of xs ++ rest = cut (schedule_text x) (schedule_of ys) (schedule_of xs ++ rest) (ap (λ t. t ++ 10 ∷ schedule_of ys) (sym text) ∙ line) in
    let ih = rest_of one xs ys rest d.1 a.1 tails in
    (ih.0, ap (λ zs. y ∷ zs) ih.1 ∙ ap (λ z. z ∷ (xs ++ ih.0)) same, ih.2)
  where
    cut : (t a b : List ℕ) → t ++ 10 ∷ a ≡ t ++ 10 ∷ b → a ≡ b
    cut [] a b h = cc
    cut (c ∷ t) a b h = cut t a b cc

may_come :
    (done : List Event) (e : Event) (more : List Event) → IsSchedule (done ++ e ∷ more)
    → MayCome done e
may_come [] e more h = (h.0, h.1)
may_come (x ∷ xs) e more h = by xs h.2
  where
    by : (xs : List Event) → AreAfterFirst (xs ++ e ∷ more) → MayCome (x ∷ xs) e
    by [] h = (h.0, h.1)
    by (y ∷ ys) h = by ys h.2

not_malformed :
    ((o : Event) → IsScheduled o → IsOneLine (schedule_text o))
    → (done all : List Event) (rest : List ℕ) → IsSchedule done → IsSchedule all → all ≢ []
    → length (schedule_of all) ≤ INPUT_LIMIT → schedule_of all ≡ schedule_of done ++ rest
    → IsMalformed done rest → ⊥
not_malformed one done all rest d a some limit e bad = (let r = rest_of one done all rest (all_scheduled done d) (all_scheduled all a) e in by r.0 r.1 r.2)
  where
    by : (more : List Event) → all ≡ done ++ more → rest ≡ schedule_of more → ⊥
    by [] f g = (let none : done ≡ [] = bad.no_end g in some (f ∙ ap (λ xs. xs ++ []) none))
    by (x ∷ more) f g =
        let size : length (schedule_of all) ≡ length (schedule_of done) + length rest = ap length e ∙ length-append (schedule_of done) rest in
        let tail : length rest ≡ length (schedule_text x) + length (10 ∷ schedule_of more) = ap length g ∙ length-append (schedule_text x) (10 ∷ schedule_of more) in
        bad.no_line x (schedule_of more) (may_come done x more (subst IsSchedule f a)) g (omega arith)

-- a whole schedule does not stop at a line
pub not_at_line :
    {B : Type 0} (state : B → BrickState) (bricks : List B) (text before taken : Option (List ℕ))
    (all : List Event)
    → ((o : Event) → IsScheduled o → IsOneLine (schedule_text o)) → all ≢ [] → IsSchedule all
    → length (schedule_of all) ≤ INPUT_LIMIT → text ≡ Some (schedule_of all)
    → StopsAtLine state bricks text before taken → ⊥
not_at_line state bricks text before taken all one some a limit is h = by h.rest (sym is ∙ h.replays.done.prefix) h.malformed
  where
    by : (rest : Option (List ℕ)) → Some (schedule_of all) ≡ before_told (schedule_of h.events) rest → IfSome rest (IsMalformed h.events) → ⊥
    by None e bad = absurd (let z : Some (schedule_of all) ≡ None = e in cc)
    by (Some rest) e bad = (let z : Some (schedule_of all) ≡ Some (schedule_of h.events ++ rest) = e in let same : schedule_of all ≡ schedule_of h.events ++ rest = cc in not_malformed one h.events all rest h.replays.done.schedule a some limit same bad)
