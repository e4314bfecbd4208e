-- One more event of a schedule, and the lines that it gave.
use Rattle.std.proofs.Common.{◌≡◌, ◌+◌, ◌≤◌, ◌<◌, ◌^◌, ℕ, List, [], ◌∷◌, ◌++◌, Bool, true, false, suc, refl, sym, ap, ◌∙◌, subst, length, arith, append_assoc, length-append}
use Rattle.std.specs.Prelude.{Option, Some, None, IfSome, MatchBool, Contains, slice_get}
use Rattle.std.specs.List.{flat_map}
use Rattle.dht_types.specs.Cost.{cost}
use Rattle.dht_types.specs.History.{History, PendingCall, IsUndisturbed, with_line, with_lines, history_of, start}
use Rattle.dht_types.proofs.HistoryLaws.{lines_append, run_with_line}
use Rattle.dht_types.specs.declared.events.Event.{Event}
use Rattle.dht_types.specs.declared.lines.Line.{Line}
use Rattle.dht_types.specs.declared.lines.Line.TheVariants.{Remounted}
use Rattle.dht_sched.specs.Schedule.{schedule_text, IsScheduled, IsOneLine}
use Rattle.dht_section.specs.Claims.{Claim}
use Rattle.dht_section.specs.Disk.{Disk}
use Rattle.dht_types.specs.declared.identifiers.CallNo.{CallNo}
use Rattle.dht_invariant.proofs.StandsLaws.{stands_of, placed_of}
use Rattle.dht_sched.specs.Transcript.{line_text, lines_text}
use Rattle.dht_world.specs.Bricks.{disk_of, journals_of}
use Rattle.dht_world.specs.Clients.{claims_of, ClientFits, Rests, Works}
use Rattle.dht_world.specs.Following.{ComesFrom, Block, IsSpent, step_limit}
use Rattle.dht_world.specs.Places.{IsLed, Advances, summary_of}
use Rattle.dht_world.specs.declared.places.Place.{Place}
use Rattle.dht_world.specs.declared.places.Place.TheVariants.{Living, Dead}
use Rattle.dht_world.proofs.ClientLaws.{holders_call}
use Rattle.dht_brick.specs.declared.brick.Brick.{Ghosts as BrickGhosts}
use Rattle.dht_section.specs.declared.caller.Caller.{Ghosts as CallerGhosts}
use Rattle.dht_world.specs.declared.events.World.{World}
use Rattle.dht_run.specs.Outside.{before_told}
use Rattle.dht_run.specs.LineReader.{Reader, input_of}
use Rattle.dht_run.proofs.Told.{before_told-before_told}
use Rattle.dht_run.specs.NextEvent.{CutsEvent, HasNoEvent}
use Rattle.dht_run.specs.Replay.{schedule_of, IsSchedule, AreAfterFirst, IsAfterFirst, MayCome, IsMalformed, IsTranscript}
use Rattle.dht_run.specs.SoFar.{Carried}
use Rattle.dht_run.proofs.BlockLaws.{limited_more}

-- one more event at the end
pub schedule_more :
    (es : List Event) (e : Event)
    → schedule_of (es ++ e ∷ []) ≡ schedule_of es ++ (schedule_text e ++ 10 ∷ [])
schedule_more [] e = refl
schedule_more (x ∷ xs) e = ap (λ ys. schedule_text x ++ 10 ∷ ys) (schedule_more xs e) ∙ sym (append_assoc (schedule_text x) (10 ∷ schedule_of xs) (schedule_text e ++ 10 ∷ []))

after_more :
    (es : List Event) (e : Event) → AreAfterFirst es → IsScheduled e → IsAfterFirst e
    → AreAfterFirst (es ++ e ∷ [])
after_more [] e h s a = (s, a, tt)
after_more (x ∷ xs) e h s a = (h.0, h.1, after_more xs e h.2 s a)

pub is_schedule_more :
    (es : List Event) (e : Event) → IsSchedule es → 0 < length es → IsScheduled e → IsAfterFirst e
    → IsSchedule (es ++ e ∷ [])
is_schedule_more [] e h some s a = absurd (omega arith)
is_schedule_more (x ∷ xs) e h some s a = (h.0, h.1, after_more xs e h.2 s a)

comes_more :
    (s : History) (n : ℕ) (es : List Event) (lines : List Line) (e : Event) (block : List Line)
    → ComesFrom s n es lines → Block (with_lines s lines) (n + length es) e block
    → ComesFrom s n (es ++ e ∷ []) (lines ++ block)
comes_more s n [] lines e block h b = (block, [], ap (λ xs. xs ++ block) h ∙ sym (nil_end block), subst (λ (m : ℕ). Block s m e block) (omega arith) (subst (λ (xs : List Line). Block (with_lines s xs) (n + 0) e block) h b), refl)
  where
    nil_end : {A : Type 0} (xs : List A) → xs ++ [] ≡ xs
    nil_end [] = refl
    nil_end (x ∷ xs) = ap (λ ys. x ∷ ys) (nil_end xs)
comes_more s n (x ∷ xs) lines e block h b = (
  h.0,
  h.1 ++ block,
  ap (λ ys. ys ++ block) h.2 ∙ append_assoc h.0 h.1 block,
  h.3,
  comes_more (with_lines s h.0) (n + 1) xs h.1 e block h.4 (subst (λ (m : ℕ). Block (with_lines (with_lines s h.0) h.1) m e block) (omega arith) (subst (λ (t : History). Block t (n + length (x ∷ xs)) e block) (ap (with_lines s) h.2 ∙ lines_append s h.0 h.1) b)),
)

pub comes_from_more :
    (es : List Event) (lines : List Line) (n : ℕ) (e : Event) (block : List Line)
    → n ≡ length es + 1 → ComesFrom start 1 es lines → Block (history_of lines) n e block
    → ComesFrom start 1 (es ++ e ∷ []) (lines ++ block)
comes_from_more es lines n e block en h b = comes_more start 1 es lines e block h (subst (λ (m : ℕ). Block (history_of lines) m e block) (omega arith) b)

flat_more :
    (xs ys : List Line)
    → flat_map line_text (xs ++ ys) ≡ flat_map line_text xs ++ flat_map line_text ys
flat_more [] ys = refl
flat_more (x ∷ xs) ys = ap (λ zs. line_text x ++ zs) (flat_more xs ys) ∙ sym (append_assoc (line_text x) (flat_map line_text xs) (flat_map line_text ys))

pub lines_text-append : (xs ys : List Line) → lines_text (xs ++ ys) ≡ lines_text xs ++ lines_text ys
unfolding lines_text
lines_text-append xs ys = flat_more xs ys

-- each line begins one more run at most
fewer_runs :
    (s : History) (x : Line) → s.run ≤ s.size + 1 → (with_line s x).run ≤ (with_line s x).size + 1
fewer_runs s (Remounted w) l = omega arith
fewer_runs s x l = (let same = run_with_line s x tt in omega arith)

few_runs :
    (s : History) (xs : List Line) → s.run ≤ s.size + 1
    → (with_lines s xs).run ≤ (with_lines s xs).size + 1
few_runs s [] l = l
few_runs s (x ∷ xs) l = few_runs (with_line s x) xs (fewer_runs s x l)

-- so another run can begin
pub run_small :
    {B C : Type 0} (b : BrickGhosts B) (c : CallerGhosts C) (w : World B C) (count : ℕ)
    (text rest : Option (List ℕ)) (events : List Event) (lines : List Line)
    → Carried b c w count text rest events lines → w.run + 1 < 2 ^ 32
run_small b c w count text rest events lines h =
    let summary = h.at.led.fit.summary in
    let run = summary.run in
    let size = summary.lines in
    let few = h.few in
    let shorter = h.shorter in
    let limit = h.limit in
    let runs = few_runs start lines (omega arith) in
    omega arith

-- nothing that may come next comes
pub malformed_after :
    (events : List Event) (cut : ℕ) (input : List ℕ) → 0 < length events
    → cut ≡ length (schedule_of events) → HasNoEvent cut input → IsMalformed events input
malformed_after [] cut input some e h = absurd (omega arith)
malformed_after (x ∷ xs) cut input some e h = record {
  no_end = λ q. absurd (h.goes_on q);
  no_line = λ o more may eq l. h.no_event o more may.0 eq (omega arith);
}

-- a text with no newline in it ends where the first newline stands
head_in : (x : ℕ) (xs : List ℕ) → x ≡ 10 → Contains (x ∷ xs) 10
head_in x xs e = (0, omega arith, e)

tail_in : (x : ℕ) (xs : List ℕ) → Contains xs 10 → Contains (x ∷ xs) 10
tail_in x xs h = (let l = h.1 in (suc h.0, omega arith, h.2))

pub first_line :
    (a b x y : List ℕ) → ¬ Contains a 10 → ¬ Contains b 10 → a ++ 10 ∷ x ≡ b ++ 10 ∷ y → a ≡ b
first_line [] [] x y na nb e = refl
first_line [] (c ∷ b) x y na nb e = absurd (nb (head_in c b (let z : 10 ∷ x ≡ c ∷ (b ++ 10 ∷ y) = e in cc)))
first_line (c ∷ a) [] x y na nb e = absurd (na (head_in c a (let z : c ∷ (a ++ 10 ∷ x) ≡ 10 ∷ y = e in cc)))
first_line (c ∷ a) (d ∷ b) x y na nb e =
    let z : c ∷ (a ++ 10 ∷ x) ≡ d ∷ (b ++ 10 ∷ y) = e in
    let heads : c ≡ d = cc in
    let tails : a ++ 10 ∷ x ≡ b ++ 10 ∷ y = cc in
    let rest = first_line a b x y (λ h. na (tail_in c a h)) (λ h. nb (tail_in d b h)) tails in
    cc

-- an event that may not come next comes
pub misplaced :
    (events : List Event) (e : Event) (input after : Option (List ℕ))
    → ((o : Event) → IsScheduled o → IsOneLine (schedule_text o)) → IsScheduled e
    → (MayCome events e → ⊥)
    → ((o : Event) → IsScheduled o → schedule_text o ≡ schedule_text e → o ≡ e)
    → input ≡ before_told (schedule_text e ++ 10 ∷ []) after → IfSome input (IsMalformed events)
misplaced events e input None one s not only eq = subst (λ (o : Option (List ℕ)). IfSome o (IsMalformed events)) (sym eq) tt
misplaced events e input (Some more) one s not only eq = subst (λ (o : Option (List ℕ)). IfSome o (IsMalformed events)) (sym eq) (record {
  no_end = λ q. absurd (let z : length ((schedule_text e ++ 10 ∷ []) ++ more) ≡ 0 = ap length q in omega (arith, length-append (schedule_text e ++ 10 ∷ []) more, length-append (schedule_text e) (10 ∷ [])));
  no_line = λ o rest may q l. (let scheduled = may_scheduled events o may in
      let same = first_line (schedule_text o) (schedule_text e) rest more (one o scheduled).one (one e s).one (sym q ∙ append_assoc (schedule_text e) (10 ∷ []) more) in
      not (subst (MayCome events) (only o scheduled same) may));
})
  where
    may_scheduled : (events : List Event) (o : Event) → MayCome events o → IsScheduled o
    may_scheduled [] o h = h.0
    may_scheduled (x ∷ xs) o h = h.0

-- a call that nobody disturbed has requests left
answers_by :
    {C : Type 0} (c : CallerGhosts C) → ((x : C) → c.is_busy x ≡ true → 0 < (c.stage x).variant)
    → (d : Disk) (s : History) (claims : ℕ → Claim) (i : ℕ) (x : C) (n : CallNo) (busy : Bool)
    → c.is_busy x ≡ busy → MatchBool busy (Works c d s claims i x n) (Rests c s i x)
    → (r : PendingCall) → s.pending i ≡ Some r → IsUndisturbed s r
    → r.steps < cost (length s.weights) r.call
answers_by c goes_on d s claims i x n true busy h r e alone =
    let z : Some h.mine ≡ Some r = sym h.runs ∙ e in
    let same : h.mine ≡ r = cc in
    let some = goes_on x busy in
    let l = h.in_time (subst (IsUndisturbed s) (sym same) alone) in
    subst (λ (o : PendingCall). o.steps < cost (length s.weights) o.call) same (omega arith)
answers_by c goes_on d s claims i x n false idle h r e alone = absurd (let z : Some r ≡ None = sym e ∙ h.none in cc)

answers_at :
    {C : Type 0} (c : CallerGhosts C) → ((x : C) → c.is_busy x ≡ true → 0 < (c.stage x).variant)
    → (d : Disk) (s : History) (claims : ℕ → Claim) (i : ℕ) (place : Option (Place C))
    → ClientFits c d s claims i place → (r : PendingCall) → s.pending i ≡ Some r → IsUndisturbed s r
    → r.steps < cost (length s.weights) r.call
answers_at c goes_on d s claims i None h r e alone = absurd (let z : Some r ≡ None = sym e ∙ h in cc)
answers_at c goes_on d s claims i (Some Dead) h r e alone = absurd (let z : Some r ≡ None = sym e ∙ h.1 in cc)
answers_at c goes_on d s claims i (Some (Living x n)) h r e alone = answers_by c goes_on d s claims i x n (c.is_busy x) refl h.2 r e alone

-- the transcript so far is one
pub transcript_of :
    {B C : Type 0} (b : BrickGhosts B) (c : CallerGhosts C)
    → ((x : C) → c.is_busy x ≡ true → 0 < (c.stage x).variant)
    → (w : World B C) (events : List Event) (lines : List Line) → IsLed b c w lines
    → ComesFrom start 1 events lines → (history_of lines).requests ≤ step_limit
    → IsTranscript events lines (disk_of b.state w.bricks.items)
    (journals_of b.state w.bricks.items)
transcript_of b c goes_on w events lines led comes limited =
    let s = history_of lines in
    let d = disk_of b.state w.bricks.items in
    let fit = led.fit in
    let claims = claims_of c w.clients.items in
    record {
      legal = led.legal;
      follows = comes;
      logged = fit.logged;
      noted = led.noted;
      stands = λ some. stands_of d s claims fit.kept fit.early;
      placed = λ e f first h. placed_of d s claims e f fit.kept fit.early first h;
      in_time = led.in_time;
      answers = λ i r e alone. answers_at c goes_on d s claims i (slice_get w.clients.items i) (fit.each i) r e alone;
      held = holders_call c d (journals_of b.state w.bricks.items) w.clients.items w.weights (summary_of w) s fit;
      limited = limited;
      counted = fit.kept.counted;
    }

-- one event more was carried out
pub carried_more :
    {B C : Type 0} (b : BrickGhosts B) (c : CallerGhosts C) (w v : World B C) (count : ℕ)
    (old new : Reader) (text before after : Option (List ℕ)) (events : List Event)
    (lines block : List Line) (e : Event)
    → old.cut ≡ length (schedule_of events) → CutsEvent old new before after e → IsAfterFirst e
    → v.lines ≤ w.lines + 3 → Advances b c w v (count + 1) e lines block
    → ¬ IsSpent (history_of lines) e → Carried b c w count text (input_of old before) events lines
    → Carried b c v (count + 1) text (input_of new after) (events ++ e ∷ []) (lines ++ block)
carried_more b c w v count old new text before after events lines block e cut cuts later grows a unspent h =
    let n = h.counted in
    let some = h.some in
    let shorter = h.shorter in
    let few = h.few in
    let counted = cuts.counted in
    let within = cuts.within in
    let size : length (schedule_of (events ++ e ∷ [])) ≡ length (schedule_of events) + (length (schedule_text e) + 1) = ap length (schedule_more events e) ∙ (length-append (schedule_of events) (schedule_text e ++ 10 ∷ []) ∙ ap (λ m. length (schedule_of events) + m) (length-append (schedule_text e) (10 ∷ []))) in
    record {
      at = a.at;
      follows = comes_from_more events lines (count + 1) e block (omega arith) h.follows a.block;
      schedule = is_schedule_more events e h.schedule (omega arith) cuts.scheduled later;
      counted = omega (arith, length-append events (e ∷ []));
      some = omega arith;
      limit = omega arith;
      shorter = omega arith;
      few = omega arith;
      limited = limited_more lines block (count + 1) e a.block unspent h.limited;
      prefix = h.prefix ∙ (ap (before_told (schedule_of events)) cuts.prefix ∙ (before_told-before_told (schedule_of events) (schedule_text e ++ 10 ∷ []) (input_of new after) ∙ ap (λ xs. before_told xs (input_of new after)) (sym (schedule_more events e))));
    }

pub cut_more :
    (old new : Reader) (before after : Option (List ℕ)) (events : List Event) (e : Event)
    → old.cut ≡ length (schedule_of events) → CutsEvent old new before after e
    → new.cut ≡ length (schedule_of (events ++ e ∷ []))
cut_more old new before after events e cut cuts =
    let counted = cuts.counted in
    omega (arith, ap length (schedule_more events e), length-append (schedule_of events) (schedule_text e ++ 10 ∷ []), length-append (schedule_text e) (10 ∷ []))
