-- One event after another: what the loop over them keeps true, and how it ends.
use Rattle.std.proofs.Common.{◌≡◌, ◌+◌, ◌≤◌, ◌<◌, ℕ, List, [], ◌∷◌, ◌++◌, refl, sym, ap, ◌∙◌, subst, inl, inr, ◌⊎◌, length, take, arith}
use Rattle.std.specs.Prelude.{Option, Some, None, IfSome, IfOk, Ok, Err, Result}
use Rattle.std.proofs.lemmas.List.{take_all}
use Rattle.dht_types.specs.declared.events.Event.{Event}
use Rattle.dht_types.specs.declared.events.Event.TheVariants.{Remount}
use Rattle.dht_types.specs.declared.lines.Line.{Line}
use Rattle.dht_sched.specs.Transcript.{lines_text}
use Rattle.dht_world.specs.Places.{IsAt}
use Rattle.dht_brick.specs.declared.brick.Brick.{Ghosts as BrickGhosts}
use Rattle.dht_section.specs.declared.caller.Caller.{Ghosts as CallerGhosts}
use Rattle.dht_world.specs.declared.events.World.{World}
use Rattle.dht_run.specs.LineReader.{Reader, input_of, HasNoNewline}
use Rattle.dht_types.specs.Faults.{HasFault}
use Rattle.dht_run.specs.Outside.{before_told, after_told, IsAtEnd}
use Rattle.dht_run.specs.Replay.{IsMalformed, IsAfterFirst}
use Rattle.dht_run.specs.SoFar.{Carried, SoFar, Reached, ReachedBad, ReachedLimit, Stopped, StoppedInRemount, IsInRemount, EndsSo, Wrote, WroteInPart, Spends}
use Rattle.dht_run.specs.declared.ending.Ending.{Ending}
use Rattle.dht_run.specs.declared.ending.Ending.TheVariants.{Done, Usage, Malformed, SourceFailed, SinkFailed, OutOfMemory, Limit}
use Rattle.dht_sched.specs.Schedule.{schedule_text, IsScheduled, IsOneLine}
use Rattle.dht_run.specs.NextEvent.{CutsEvent, HasNoEvent}
use Rattle.dht_run.specs.Replay.{schedule_of, MayCome}
use Rattle.dht_run.specs.Written.{IsEventCause}
use Rattle.dht_run.proofs.FinishLaws.{written_prefix, written_all}
use Rattle.dht_run.proofs.ReplayLaws.{carried_more, cut_more, lines_text-append, malformed_after, misplaced}

-- one event more
pub so_far_more :
    {B C : Type 0} (b : BrickGhosts B) (c : CallerGhosts C) (w v : World B C) (count : ℕ)
    (old new : Reader) (e : Event) (bl al : Option (List ℕ)) (taken told : Option (List ℕ))
    → CutsEvent old new bl al e → IsAfterFirst e → v.lines ≤ w.lines + 3
    → ((past : List Line) → IsAt b c w past → (lines : List Line) × Wrote b c w v (count + 1) e past lines taken told (lines_text lines))
    → (text before : Option (List ℕ)) → SoFar b c w count old text bl before taken → SoFar b c v (count + 1) new text al before told
so_far_more b c w v count old new e bl al taken told cuts later grows wrote text before h =
    let a = wrote h.lines h.carried.at in
    record {
      events = h.events ++ e ∷ [];
      lines = h.lines ++ a.0;
      carried = carried_more b c w v count old new text bl al h.events h.lines a.0 e h.cut cuts later grows a.1.advances a.1.unspent h.carried;
      cut = cut_more old new bl al h.events e h.cut cuts;
      written = written_all before taken told (lines_text h.lines) (lines_text a.0) h.written a.1.written ∙ ap (after_told before) (sym (lines_text-append h.lines a.0));
    }

told_nothing : (x : Option (List ℕ)) → before_told [] x ≡ x
told_nothing None = refl
told_nothing (Some xs) = refl

carried_from :
    {B C : Type 0} (b : BrickGhosts B) (c : CallerGhosts C) (w : World B C) (count : ℕ)
    (text was now : Option (List ℕ)) (events : List Event) (lines : List Line)
    → was ≡ now → Carried b c w count text was events lines
    → Carried b c w count text now events lines
carried_from b c w count text was now events lines e h = subst (λ (o : Option (List ℕ)). Carried b c w count text o events lines) e h

-- at the end of the input
pub end_reached :
    {B C : Type 0} (b : BrickGhosts B) (c : CallerGhosts C) (w : World B C) (count : ℕ)
    (old new : Reader) (text bl al before taken : Option (List ℕ))
    → input_of new al ≡ input_of old bl → new.pending ≡ [] → IsAtEnd (input_of old bl)
    → SoFar b c w count old text bl before taken
    → Reached b c w count text al before taken × IsAtEnd al
end_reached b c w count old new text bl al before taken same none end h =
    let e : input_of old bl ≡ al = sym same ∙ (ap (λ xs. before_told xs al) none ∙ told_nothing al) in (
      record {
        events = h.events;
        lines = h.lines;
        carried = carried_from b c w count text (input_of old bl) al h.events h.lines e h.carried;
        written = h.written;
      },
      subst IsAtEnd e end,
    )

-- what comes next is no event that may come
pub bad_reached :
    {B C : Type 0} (b : BrickGhosts B) (c : CallerGhosts C) (w : World B C) (count : ℕ)
    (old : Reader) (text bl before taken : Option (List ℕ))
    (h : SoFar b c w count old text bl before taken)
    → IfSome (input_of old bl) (IsMalformed h.events) → ReachedBad b c w count text before taken
bad_reached b c w count old text bl before taken h bad = record {
  events = h.events;
  lines = h.lines;
  input = input_of old bl;
  carried = h.carried;
  malformed = bad;
  written = h.written;
}

no_event_comes :
    (events : List Event) (cut : ℕ) (input : Option (List ℕ)) → 0 < length events
    → cut ≡ length (schedule_of events) → IfSome input (HasNoEvent cut)
    → IfSome input (IsMalformed events)
no_event_comes events cut None some e h = tt
no_event_comes events cut (Some bytes) some e h = malformed_after events cut bytes some e h

pub no_event_reached :
    {B C : Type 0} (b : BrickGhosts B) (c : CallerGhosts C) (w : World B C) (count : ℕ)
    (old : Reader) (text bl before taken : Option (List ℕ))
    → IfSome (input_of old bl) (HasNoEvent old.cut) → SoFar b c w count old text bl before taken
    → ReachedBad b c w count text before taken
no_event_reached b c w count old text bl before taken none h =
    let n = h.carried.counted in
    let some = h.carried.some in
    bad_reached b c w count old text bl before taken h (no_event_comes h.events old.cut (input_of old bl) (omega arith) h.cut none)

-- a volume does not come behind the first line
pub volume_reached :
    {B C : Type 0} (b : BrickGhosts B) (c : CallerGhosts C) (w : World B C) (count : ℕ)
    (old new : Reader) (e : Event) (text bl al before taken : Option (List ℕ))
    → ((o : Event) → IsScheduled o → IsOneLine (schedule_text o)) → CutsEvent old new bl al e
    → ¬ IsAfterFirst e → SoFar b c w count old text bl before taken
    → ReachedBad b c w count text before taken
volume_reached b c w count old new e text bl al before taken one cuts first h =
    let n = h.carried.counted in
    let some = h.carried.some in
    bad_reached b c w count old text bl before taken h (misplaced h.events e (input_of old bl) (input_of new al) one cuts.scheduled (not_next h.events (omega arith)) cuts.only cuts.prefix)
  where
    not_next : (events : List Event) → 0 < length events → MayCome events e → ⊥
    not_next [] more m = absurd (omega arith)
    not_next (x ∷ xs) more m = first m.1

-- the run was cut short between two events
pub stopped_here :
    {B C : Type 0} (b : BrickGhosts B) (c : CallerGhosts C) (w : World B C) (count : ℕ) (r : Reader)
    (text bl before taken : Option (List ℕ))
    → SoFar b c w count r text bl before taken → Stopped b c w text before taken
stopped_here b c w count r text bl before taken h = record {
  events = h.events;
  lines = h.lines;
  count = count;
  input = input_of r bl;
  carried = h.carried;
  written = (length (lines_text h.lines), h.written ∙ ap (after_told before) (sym (take_all (length (lines_text h.lines)) (lines_text h.lines) (omega arith))));
}

-- why an event did not come
pub none_came :
    {B C : Type 0} (b : BrickGhosts B) (c : CallerGhosts C) (w : World B C) (count : ℕ)
    (old new : Reader) (text bl al before taken : Option (List ℕ)) (ending : Ending)
    → (ending ≡ Malformed → IfSome (input_of old bl) (HasNoEvent old.cut))
    → (ending ≡ SourceFailed → (input_of new al ≡ input_of old bl) × HasNoNewline new.pending)
    → (ending ≡ Done → ⊥) → (ending ≡ Usage → ⊥) → (ending ≡ SinkFailed → ⊥) → (ending ≡ Limit → ⊥)
    → SoFar b c w count old text bl before taken → EndsSo b c w count new text al before taken ending
none_came b c w count old new text bl al before taken Done bad failed nd nu nk nl h = absurd (nd refl)
none_came b c w count old new text bl al before taken Usage bad failed nd nu nk nl h = absurd (nu refl)
none_came b c w count old new text bl al before taken SinkFailed bad failed nd nu nk nl h = absurd (nk refl)
none_came b c w count old new text bl al before taken Malformed bad failed nd nu nk nl h = no_event_reached b c w count old text bl before taken (bad refl) h
none_came b c w count old new text bl al before taken Limit bad failed nd nu nk nl h = absurd (nl refl)
none_came b c w count old new text bl al before taken OutOfMemory bad failed nd nu nk nl h = inl (stopped_here b c w count old text bl before taken h)
none_came b c w count old new text bl al before taken SourceFailed bad failed nd nu nk nl h = (let f = failed refl in (
  record {
    events = h.events;
    lines = h.lines;
    carried = carried_from b c w count text (input_of old bl) (input_of new al) h.events h.lines (sym f.0) h.carried;
    written = h.written;
  },
  f.1,
))

-- an event did not happen
carried_still :
    {B C : Type 0} (b : BrickGhosts B) (c : CallerGhosts C) (w v : World B C) (count : ℕ)
    (text rest : Option (List ℕ)) (events : List Event) (lines : List Line)
    → IsAt b c v lines → Carried b c w count text rest events lines
    → Carried b c v count text rest events lines
carried_still b c w v count text rest events lines at h =
    let was = h.at.led.fit.summary.lines in
    let now = at.led.fit.summary.lines in
    let few = h.few in
    record {
      at = at;
      follows = h.follows;
      schedule = h.schedule;
      counted = h.counted;
      some = h.some;
      limit = h.limit;
      shorter = h.shorter;
      few = omega arith;
      limited = h.limited;
      prefix = h.prefix;
    }

comes_next :
    (events : List Event) (e : Event) → 0 < length events → IsScheduled e → IsAfterFirst e
    → MayCome events e
comes_next [] e some s a = absurd (omega arith)
comes_next (x ∷ xs) e some s a = (s, a)

-- the run was cut short while an event was carried out, or its lines were written
stopped_in :
    {B C : Type 0} (b : BrickGhosts B) (c : CallerGhosts C) (w v : World B C) (count : ℕ)
    (old new : Reader) (e : Event) (text bl al before taken told : Option (List ℕ))
    → CutsEvent old new bl al e → IsAfterFirst e → v.lines ≤ w.lines + 3
    → (h : SoFar b c w count old text bl before taken) → WroteInPart b c w v (count + 1) e h.lines taken told → Stopped b c v text before told
stopped_in b c w v count old new e text bl al before taken told cuts later grows h wrote_in_part = by wrote_in_part
  where
    by : WroteInPart b c w v (count + 1) e h.lines taken told → Stopped b c v text before told
    by (inl (at, same)) =
        stopped_here b c v count old text bl before told (record {
          events = h.events;
          lines = h.lines;
          carried = carried_still b c w v count text (input_of old bl) h.events h.lines at h.carried;
          cut = h.cut;
          written = same ∙ h.written;
        })
    by (inr (lines, (n, wrote))) = record {
      events = h.events ++ e ∷ [];
      lines = h.lines ++ lines;
      count = count + 1;
      input = input_of new al;
      carried = carried_more b c w v count old new text bl al h.events h.lines lines e h.cut cuts later grows wrote.advances wrote.unspent h.carried;
      written = (
        length (lines_text h.lines) + n,
        written_prefix before taken told (lines_text h.lines) (lines_text lines) n h.written wrote.written ∙ ap (λ xs. after_told before (take (length (lines_text h.lines) + n) xs)) (sym (lines_text-append h.lines lines)),
      );
    }

-- memory ran out in a remount
stopped_in_remount :
    {B C : Type 0} (b : BrickGhosts B) (c : CallerGhosts C) (w v : World B C) (count : ℕ)
    (old new : Reader) (e : Event) (text bl al before taken told : Option (List ℕ))
    → CutsEvent old new bl al e → IsAfterFirst e → (h : SoFar b c w count old text bl before taken)
    → told ≡ taken → IsInRemount b c v e h.lines → StoppedInRemount b c v text before told
stopped_in_remount b c w v count old new e text bl al before taken told cuts later h same in_remount =
    let n = h.carried.counted in
    let some = h.carried.some in
    record {
      was = w;
      events = h.events;
      lines = h.lines;
      count = count;
      weights = in_remount.weights;
      after = input_of new al;
      may = subst (MayCome h.events) in_remount.is (comes_next h.events e (omega arith) cuts.scheduled later);
      carried = carried_from b c w count text (input_of old bl) (before_told (schedule_text (Remount in_remount.weights) ++ 10 ∷ []) (input_of new al)) h.events h.lines
          (cuts.prefix ∙ ap (λ (o : Event). before_told (schedule_text o ++ 10 ∷ []) (input_of new al)) in_remount.is) h.carried;
      remounting = in_remount.remounting;
      written = same ∙ h.written;
    }

-- either of these
pub stops :
    {B C : Type 0} (b : BrickGhosts B) (c : CallerGhosts C) (w v : World B C) (count : ℕ)
    (old new : Reader) (e : Event) (text bl al before taken told : Option (List ℕ))
    (ending : Ending)
    → CutsEvent old new bl al e → IsAfterFirst e → v.lines ≤ w.lines + 3
    → ((past : List Line) → IsAt b c w past → WroteInPart b c w v (count + 1) e past taken told ⊎ ((ending ≡ OutOfMemory) × (told ≡ taken) × IsInRemount b c v e past))
    → SoFar b c w count old text bl before taken → Stopped b c v text before told ⊎ ((ending ≡ OutOfMemory) × StoppedInRemount b c v text before told)
stops b c w v count old new e text bl al before taken told ending cuts later grows failed h = elim (failed h.lines h.carried.at) [
  | inl wrote ↦ inl (stopped_in b c w v count old new e text bl al before taken told cuts later grows h wrote)
  | inr in_remount ↦ inr (in_remount.0, stopped_in_remount b c w v count old new e text bl al before taken told cuts later h in_remount.1 in_remount.2)
]

-- an error is the ending
pub cut_by :
    (e : Ending) (P Q R : Type 0)
    → P ⊎ ((◌≡◌ {A = Result (Unit {0}) Ending} (Err e) (Err OutOfMemory)) × Q × R)
    → P ⊎ ((e ≡ OutOfMemory) × Q × R)
cut_by e P Q R (inl p) = inl p
cut_by e P Q R (inr q) = inr ((let z : Err e ≡ Err OutOfMemory = q.0 in cc), q.1, q.2)

-- other endings have no cause of these
no_cause :
    (ending : Ending) (fault : Type 0) → IsEventCause ending fault → (ending ≡ Limit → ⊥)
    → (ending ≡ SinkFailed → ⊥) → (ending ≡ OutOfMemory → ⊥) → ⊥
no_cause ending fault (inl q) nl nk nm = nl q
no_cause ending fault (inr (inl q)) nl nk nm = nk q.0
no_cause ending fault (inr (inr q)) nl nk nm = nm q

pub stopped_ends :
    {B C : Type 0} (b : BrickGhosts B) (c : CallerGhosts C) (w : World B C) (count : ℕ) (r : Reader)
    (text rest before taken : Option (List ℕ)) (fault : Type 0) (ending : Ending)
    → IsEventCause ending fault
    → Stopped b c w text before taken
    ⊎ ((ending ≡ OutOfMemory) × StoppedInRemount b c w text before taken)
    → (ending ≡ Limit → ReachedLimit b c w count text before taken)
    → EndsSo b c w count r text rest before taken ending
stopped_ends b c w count r text rest before taken fault Limit cause h limit = limit refl
stopped_ends b c w count r text rest before taken fault SinkFailed cause (inl h) limit = h
stopped_ends b c w count r text rest before taken fault SinkFailed cause (inr h) limit = absurd (let z : SinkFailed ≡ OutOfMemory = h.0 in cc)
stopped_ends b c w count r text rest before taken fault OutOfMemory cause (inl h) limit = inl h
stopped_ends b c w count r text rest before taken fault OutOfMemory cause (inr h) limit = inr h.1
stopped_ends b c w count r text rest before taken fault Done cause h limit = absurd (no_cause Done fault cause (λ q. let z : Done ≡ Limit = q in cc) (λ q. let z : Done ≡ SinkFailed = q in cc) (λ q. let z : Done ≡ OutOfMemory = q in cc))
stopped_ends b c w count r text rest before taken fault Usage cause h limit = absurd (no_cause Usage fault cause (λ q. let z : Usage ≡ Limit = q in cc) (λ q. let z : Usage ≡ SinkFailed = q in cc) (λ q. let z : Usage ≡ OutOfMemory = q in cc))
stopped_ends b c w count r text rest before taken fault Malformed cause h limit = absurd (no_cause Malformed fault cause (λ q. let z : Malformed ≡ Limit = q in cc) (λ q. let z : Malformed ≡ SinkFailed = q in cc) (λ q. let z : Malformed ≡ OutOfMemory = q in cc))
stopped_ends b c w count r text rest before taken fault SourceFailed cause h limit = absurd (no_cause SourceFailed fault cause (λ q. let z : SourceFailed ≡ Limit = q in cc) (λ q. let z : SourceFailed ≡ SinkFailed = q in cc) (λ q. let z : SourceFailed ≡ OutOfMemory = q in cc))

-- a step came that is one too many
pub limit_reached :
    {B C : Type 0} (b : BrickGhosts B) (c : CallerGhosts C) (w v : World B C) (count : ℕ)
    (old new : Reader) (e : Event) (text bl al before taken told : Option (List ℕ))
    → CutsEvent old new bl al e → IsAfterFirst e → v.lines ≤ w.lines + 3
    → ((past : List Line) → IsAt b c w past → Spends b c v e past taken told)
    → SoFar b c w count old text bl before taken → ReachedLimit b c v count text before told
limit_reached b c w v count old new e text bl al before taken told cuts later grows spends h =
    let s = spends h.lines h.carried.at in
    let counted = cuts.counted in
    let within = cuts.within in
    let cut = h.cut in
    record {
      events = h.events;
      lines = h.lines;
      input = input_of old bl;
      carried = carried_still b c w v count text (input_of old bl) h.events h.lines s.at h.carried;
      past_limit = record {
        event = e;
        after = input_of new al;
        next = cuts.prefix;
        may = comes_next h.events e (let n = h.carried.counted in let some = h.carried.some in omega arith) cuts.scheduled later;
        spent = s.spent;
        within = omega arith;
      };
      written = s.written ∙ h.written;
    }

-- a fault of a part of a run is one of the run
pub fault_since : (a b c : ℕ) → a ≤ b → HasFault b c → HasFault a c
fault_since a b c le (inl lt) = inl (omega arith)
fault_since a b c le (inr top) = inr top

pub fault_before : (a b c : ℕ) → b ≤ c → HasFault a b → HasFault a c
fault_before a b c le (inl lt) = inl (omega arith)
fault_before a b c le (inr top) = inr (omega arith)

-- the event that came
pub came :
    (result : Result (Option Event) Ending) (next : Option Event) (e : Event) (P : Event → Type 0)
    → result ≡ Ok next → next ≡ Some e → IfOk result (λ o. IfSome o P) → P e
came result next e P is some h = subst (λ (r : Result (Option Event) Ending). IfOk r (λ o. IfSome o P)) (is ∙ ap Ok some) h
