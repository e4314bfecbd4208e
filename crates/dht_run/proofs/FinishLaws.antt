-- How a run ends, from how the loop over its events does.
use Rattle.std.proofs.Common.{◌≡◌, ◌+◌, ◌<◌, ℕ, List, [], ◌∷◌, ◌++◌, true, suc, refl, sym, ap, ◌∙◌, subst, inl, inr, ◌⊎◌, length, take, arith, append-nil}
use Rattle.std.specs.Prelude.{◌≢◌, Option, None, Some}
use Rattle.std.proofs.lemmas.List.{take_all}
use Rattle.dht_types.specs.declared.events.Event.{Event}
use Rattle.dht_types.specs.declared.lines.Line.{Line}
use Rattle.dht_brick.specs.Bricks.{BrickState}
use Rattle.dht_sched.specs.Transcript.{lines_text, dump_lines_text, malformed_text, limit_text}
use Rattle.dht_types.specs.History.{history_of}
use Rattle.dht_types.specs.Volume.{replay_info}
use Rattle.dht_world.specs.Bricks.{volume_of, AreReady, AreReadyInEither}
use Rattle.dht_world.specs.Places.{IsLed}
use Rattle.dht_brick.specs.declared.brick.Brick.{Ghosts as BrickGhosts}
use Rattle.dht_section.specs.declared.caller.Caller.{Ghosts as CallerGhosts}
use Rattle.dht_world.specs.declared.events.World.{World}
use Rattle.dht_run.specs.LineReader.{Reader, input_of}
use Rattle.dht_run.specs.Outside.{after_told, IsAtEnd}
use Rattle.dht_run.specs.Replay.{CarriedOut, Replays, IsDone, StopsAtLine, StopsAtLimit, IsCutShort, IsCutInRemount, MayFollow, EndsAs, dump_all, last_text}
use Rattle.dht_run.specs.Written.{TakesPrefix, IsCause}
use Rattle.dht_run.specs.SoFar.{Carried, Reached, ReachedBad, ReachedLimit, Stopped, StoppedInRemount, EndsSo}
use Rattle.dht_run.specs.declared.ending.Ending.{Ending}
use Rattle.dht_run.specs.declared.ending.Ending.TheVariants.{Done, Usage, Malformed, SourceFailed, SinkFailed, OutOfMemory, Limit}
use Rattle.dht_run.proofs.Told.{after_told-after_told}
use Rattle.dht_run.proofs.ReplayLaws.{transcript_of}

take_behind : (xs ys : List ℕ) (n : ℕ) → take (length xs + n) (xs ++ ys) ≡ xs ++ take n ys
take_behind [] ys n = ap (λ m. take m ys) (omega arith)
take_behind (x ∷ xs) ys n = (let e : length (x ∷ xs) + n ≡ suc (length xs + n) = omega arith in ap (λ m. take m (x ∷ (xs ++ ys))) e ∙ ap (λ zs. x ∷ zs) (take_behind xs ys n))

-- a text, and then a prefix of another
pub written_prefix :
    (before taken new : Option (List ℕ)) (xs ys : List ℕ) (n : ℕ) → taken ≡ after_told before xs
    → new ≡ after_told taken (take n ys) → new ≡ after_told before (take (length xs + n) (xs ++ ys))
written_prefix before taken new xs ys n first second = second ∙ (ap (λ t. after_told t (take n ys)) first ∙ (after_told-after_told before xs (take n ys) ∙ ap (after_told before) (sym (take_behind xs ys n))))

-- a text, and then another
pub written_all :
    (before taken new : Option (List ℕ)) (xs ys : List ℕ) → taken ≡ after_told before xs
    → new ≡ after_told taken ys → new ≡ after_told before (xs ++ ys)
written_all before taken new xs ys first second = second ∙ (ap (λ t. after_told t ys) first ∙ after_told-after_told before xs ys)

-- a running call sends another request
abbrev pub GoesOn : {C : Type 0} → CallerGhosts C → Type 0
GoesOn {C = C} c = (x : C) → c.is_busy x ≡ true → 0 < (c.stage x).variant

-- what was carried out, over the bricks of a world that is where these lines lead to
done_by :
    {B C : Type 0} (b : BrickGhosts B) (c : CallerGhosts C) → GoesOn c
    → (w v : World B C) (count : ℕ) (text rest : Option (List ℕ)) (events : List Event)
    (lines : List Line)
    → Carried b c w count text rest events lines → IsLed b c v lines
    → CarriedOut b.state v.bricks.items text rest events lines
done_by b c goes_on w v count text rest events lines h led = record {
  schedule = h.schedule;
  limit = h.limit;
  transcript = transcript_of b c goes_on v events lines led h.follows h.limited;
  prefix = h.prefix;
}

replays_of :
    {B C : Type 0} (b : BrickGhosts B) (c : CallerGhosts C) → GoesOn c
    → (w : World B C) (count : ℕ) (text rest : Option (List ℕ)) (events : List Event)
    (lines : List Line)
    → Carried b c w count text rest events lines
    → Replays b.state w.bricks.items text rest events lines
replays_of b c goes_on w count text rest events lines h = let fit = h.at.led.fit in record {
  done = done_by b c goes_on w w count text rest events lines h h.at.led;
  ready = subst (λ (ws : List ℕ). AreReady b.state ws (history_of lines).run (history_of lines).down w.bricks.items) (sym fit.same_weights) (subst (λ (run : ℕ). AreReady b.state w.weights run (history_of lines).down w.bricks.items) (sym fit.summary.run) h.at.ready);
  ends = h.at.ends;
}

-- where nothing is written behind the lines
pub cut_short :
    {B C : Type 0} (b : BrickGhosts B) (c : CallerGhosts C) → GoesOn c
    → (w : World B C) (text before taken : Option (List ℕ)) → Stopped b c w text before taken
    → IsCutShort b.state w.bricks.items text before taken
cut_short b c goes_on w text before taken h = record {
  events = h.events;
  lines = h.lines;
  rest = h.input;
  last = [];
  replays = replays_of b c goes_on w h.count text h.input h.events h.lines h.carried;
  follows = inl refl;
  written = (h.written.0, h.written.1 ∙ ap (λ xs. after_told before (take h.written.0 xs)) (sym (append-nil (lines_text h.lines))));
}

-- where memory ran out in a remount
cut_in_remount :
    {B C : Type 0} (b : BrickGhosts B) (c : CallerGhosts C) → GoesOn c
    → (w : World B C) (text before taken : Option (List ℕ))
    → StoppedInRemount b c w text before taken
    → IsCutInRemount b.state w.bricks.items text before taken
cut_in_remount b c goes_on w text before taken h =
    let s = history_of h.lines in
    let fit = h.remounting.led.fit in
    record {
      events = h.events;
      lines = h.lines;
      weights = h.weights;
      after = h.after;
      may = h.may;
      done = done_by b c goes_on h.was w h.count text _ h.events h.lines h.carried h.remounting.led;
      ready = subst (λ (ws : List ℕ). AreReadyInEither b.state (volume_of (length w.bricks.items) ws s.run) (replay_info h.weights (s.run + 1)) s.down w.bricks.items) (sym fit.same_weights)
          (subst (λ (run : ℕ). AreReadyInEither b.state (volume_of (length w.bricks.items) w.weights run) (replay_info h.weights (run + 1)) s.down w.bricks.items) (sym fit.summary.run) h.remounting.ready);
      written = h.written;
    }

-- where memory ran out, and nothing is written behind the lines
out_of_memory :
    {B C : Type 0} (b : BrickGhosts B) (c : CallerGhosts C) → GoesOn c
    → (w : World B C) (text before taken : Option (List ℕ))
    → Stopped b c w text before taken ⊎ StoppedInRemount b c w text before taken
    → IsCutShort b.state w.bricks.items text before taken
    ⊎ IsCutInRemount b.state w.bricks.items text before taken
out_of_memory b c goes_on w text before taken (inl h) = inl (cut_short b c goes_on w text before taken h)
out_of_memory b c goes_on w text before taken (inr h) = inr (cut_in_remount b c goes_on w text before taken h)

-- where what stands behind the lines was written in part
short :
    {B C : Type 0} (b : BrickGhosts B) (c : CallerGhosts C) → GoesOn c
    → (w : World B C) (count : ℕ) (text rest before taken new : Option (List ℕ))
    (events : List Event) (lines : List Line) (last : List ℕ)
    → Carried b c w count text rest events lines → taken ≡ after_told before (lines_text lines)
    → MayFollow b.state w.bricks.items events lines rest last → TakesPrefix taken last new
    → IsCutShort b.state w.bricks.items text before new
short b c goes_on w count text rest before taken new events lines last h written follows told = record {
  events = events;
  lines = lines;
  rest = rest;
  last = last;
  replays = replays_of b c goes_on w count text rest events lines h;
  follows = follows;
  written = (length (lines_text lines) + told.0, written_prefix before taken new (lines_text lines) last told.0 written told.1);
}

-- where the dump was written
pub ends_done :
    {B C : Type 0} (b : BrickGhosts B) (c : CallerGhosts C) → GoesOn c
    → (w : World B C) (count : ℕ) (text rest before taken new : Option (List ℕ))
    → Reached b c w count text rest before taken → IsAtEnd rest
    → new ≡ after_told taken (dump_lines_text (dump_all b.state w.bricks.items))
    → IsDone b.state w.bricks.items text rest before new
ends_done b c goes_on w count text rest before taken new h end told =
    let n = h.carried.counted in
    let some = h.carried.some in
    record {
      events = h.events;
      lines = h.lines;
      replays = replays_of b c goes_on w count text rest h.events h.lines h.carried;
      some = λ q. (let z : length h.events ≡ 0 = ap length q in omega arith);
      at_end = end;
      written = written_all before taken new (lines_text h.lines) (dump_lines_text (dump_all b.state w.bricks.items)) h.written told;
    }

-- where the number of an invalid line was written
pub ends_malformed :
    {B C : Type 0} (b : BrickGhosts B) (c : CallerGhosts C) → GoesOn c
    → (w : World B C) (count : ℕ) (text before taken new : Option (List ℕ))
    → ReachedBad b c w count text before taken → new ≡ after_told taken (malformed_text (count + 1))
    → StopsAtLine b.state w.bricks.items text before new
ends_malformed b c goes_on w count text before taken new h told = record {
  events = h.events;
  lines = h.lines;
  rest = h.input;
  replays = replays_of b c goes_on w count text h.input h.events h.lines h.carried;
  malformed = h.malformed;
  written = written_all before taken new (lines_text h.lines) (malformed_text (length h.events + 1)) h.written (told ∙ ap (λ n. after_told taken (malformed_text (n + 1))) h.carried.counted);
}

-- where it was written that the run has had all its steps
pub ends_limit :
    {B C : Type 0} (b : BrickGhosts B) (c : CallerGhosts C) → GoesOn c
    → (w : World B C) (count : ℕ) (text before taken new : Option (List ℕ))
    → ReachedLimit b c w count text before taken → new ≡ after_told taken limit_text
    → StopsAtLimit b.state w.bricks.items text before new
ends_limit b c goes_on w count text before taken new h told = record {
  events = h.events;
  lines = h.lines;
  rest = h.input;
  replays = replays_of b c goes_on w count text h.input h.events h.lines h.carried;
  past_limit = h.past_limit;
  written = written_all before taken new (lines_text h.lines) limit_text h.written told;
}

took_nothing : (x : Option (List ℕ)) → after_told x [] ≡ x
took_nothing None = refl
took_nothing (Some xs) = ap Some (append-nil xs)

-- a prefix of nothing
took_none : (taken new : Option (List ℕ)) → TakesPrefix taken [] new → new ≡ taken
took_none taken new told = told.1 ∙ (ap (after_told taken) (take_all told.0 [] (omega arith)) ∙ took_nothing taken)

-- some event was carried out
some_carried :
    {B C : Type 0} (b : BrickGhosts B) (c : CallerGhosts C) (w : World B C) (count : ℕ)
    (text rest : Option (List ℕ)) (events : List Event) (lines : List Line)
    → Carried b c w count text rest events lines → events ≢ []
some_carried b c w count text rest events lines h none =
    let n = h.counted in
    let some = h.some in
    let z : length events ≡ 0 = ap length none in
    omega arith

-- where all was written that stands behind the lines
pub ends_whole :
    {B C : Type 0} (b : BrickGhosts B) (c : CallerGhosts C) → GoesOn c
    → (w : World B C) (count : ℕ) (r : Reader) (text rest before taken new : Option (List ℕ))
    (ending : Ending)
    → EndsSo b c w count r text rest before taken ending
    → new ≡ after_told taken (last_text b.state w.bricks.items (count + 1) ending)
    → EndsAs b.state w.bricks.items text rest before new ending
ends_whole b c goes_on w count r text rest before taken new Usage h told = absurd h
ends_whole b c goes_on w count r text rest before taken new Done h told = ends_done b c goes_on w count text rest before taken new h.0 h.1 told
ends_whole b c goes_on w count r text rest before taken new Malformed h told = ends_malformed b c goes_on w count text before taken new h told
ends_whole b c goes_on w count r text rest before taken new Limit h told = ends_limit b c goes_on w count text before taken new h told
ends_whole b c goes_on w count r text rest before taken new SinkFailed h told = cut_short b c goes_on w text before new (subst (Stopped b c w text before) (sym (told ∙ took_nothing taken)) h)
ends_whole b c goes_on w count r text rest before taken new OutOfMemory h told = out_of_memory b c goes_on w text before new (subst (λ (o : Option (List ℕ)). Stopped b c w text before o ⊎ StoppedInRemount b c w text before o) (sym (told ∙ took_nothing taken)) h)
ends_whole b c goes_on w count r text rest before taken new SourceFailed h told = (let p = h.0 in record {
  events = p.events;
  lines = p.lines;
  pending = r.pending;
  replays = replays_of b c goes_on w count text (input_of r rest) p.events p.lines p.carried;
  no_line = h.1;
  written = (told ∙ took_nothing taken) ∙ p.written;
})

-- where a prefix of it was written
pub ends_in_part :
    {B C : Type 0} (b : BrickGhosts B) (c : CallerGhosts C) → GoesOn c
    → (w : World B C) (count : ℕ) (r : Reader) (text rest before taken new : Option (List ℕ))
    (ending : Ending)
    → EndsSo b c w count r text rest before taken ending → (ending ≡ OutOfMemory → ⊥)
    → TakesPrefix taken (last_text b.state w.bricks.items (count + 1) ending) new
    → IsCutShort b.state w.bricks.items text before new
ends_in_part b c goes_on w count r text rest before taken new Usage h not told = absurd h
ends_in_part b c goes_on w count r text rest before taken new Done h not told = (let p = h.0 in
    let some = some_carried b c w count text rest p.events p.lines p.carried in
    short b c goes_on w count text rest before taken new p.events p.lines (last_text b.state w.bricks.items (count + 1) Done) p.carried p.written (inr (inl (some, h.1, refl))) told)
ends_in_part b c goes_on w count r text rest before taken new Malformed h not told =
    short b c goes_on w count text h.input before taken new h.events h.lines (malformed_text (count + 1)) h.carried h.written (inr (inr (inl (h.malformed, ap (λ n. malformed_text (n + 1)) h.carried.counted)))) told
ends_in_part b c goes_on w count r text rest before taken new Limit h not told =
    short b c goes_on w count text h.input before taken new h.events h.lines limit_text h.carried h.written (inr (inr (inr (h.past_limit, refl)))) told
ends_in_part b c goes_on w count r text rest before taken new SinkFailed h not told = cut_short b c goes_on w text before new (subst (Stopped b c w text before) (sym (took_none taken new told)) h)
ends_in_part b c goes_on w count r text rest before taken new OutOfMemory h not told = absurd (not refl)
ends_in_part b c goes_on w count r text rest before taken new SourceFailed h not told = (let p = h.0 in
    short b c goes_on w count text (input_of r rest) before taken new p.events p.lines [] p.carried p.written (inl refl) told)

-- the sink or memory cut the run short
pub ends_short :
    {B : Type 0} (state : B → BrickState) (bricks : List B)
    (text rest before taken : Option (List ℕ)) (fault : Type 0) (ending : Ending)
    → IsCause ending fault → IsCutShort state bricks text before taken
    → EndsAs state bricks text rest before taken ending
ends_short state bricks text rest before taken fault SinkFailed cause h = h
ends_short state bricks text rest before taken fault OutOfMemory cause h = inl h
ends_short state bricks text rest before taken fault Done (inl q) h = absurd (let z : Done ≡ SinkFailed = q.0 in cc)
ends_short state bricks text rest before taken fault Done (inr q) h = absurd (let z : Done ≡ OutOfMemory = q in cc)
ends_short state bricks text rest before taken fault Usage (inl q) h = absurd (let z : Usage ≡ SinkFailed = q.0 in cc)
ends_short state bricks text rest before taken fault Usage (inr q) h = absurd (let z : Usage ≡ OutOfMemory = q in cc)
ends_short state bricks text rest before taken fault Malformed (inl q) h = absurd (let z : Malformed ≡ SinkFailed = q.0 in cc)
ends_short state bricks text rest before taken fault Malformed (inr q) h = absurd (let z : Malformed ≡ OutOfMemory = q in cc)
ends_short state bricks text rest before taken fault SourceFailed (inl q) h = absurd (let z : SourceFailed ≡ SinkFailed = q.0 in cc)
ends_short state bricks text rest before taken fault SourceFailed (inr q) h = absurd (let z : SourceFailed ≡ OutOfMemory = q in cc)
ends_short state bricks text rest before taken fault Limit (inl q) h = absurd (let z : Limit ≡ SinkFailed = q.0 in cc)
ends_short state bricks text rest before taken fault Limit (inr q) h = absurd (let z : Limit ≡ OutOfMemory = q in cc)
