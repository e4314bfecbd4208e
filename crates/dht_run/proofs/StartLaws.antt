-- How a run begins, and what it has done before the volume's line.
use Rattle.std.proofs.Common.{◌≡◌, ◌+◌, ℕ, List, [], ◌∷◌, ◌++◌, refl, sym, ap, ◌∙◌, subst, inl, inr, length, arith, append-nil, length-append}
use Rattle.std.specs.Prelude.{Option, Some, None, IfSome}
use Rattle.dht_types.specs.History.{history_of}
use Rattle.dht_brick.specs.Bricks.{BrickState}
use Rattle.dht_sched.specs.Transcript.{lines_text, malformed_text}
use Rattle.dht_world.specs.Bricks.{disk_of, journals_of, AreReady}
use Rattle.dht_world.specs.Places.{IsAt}
use Rattle.dht_world.proofs.EndLaws.{no_end_none}
use Rattle.dht_brick.specs.declared.brick.Brick.{Ghosts as BrickGhosts}
use Rattle.dht_section.specs.declared.caller.Caller.{Ghosts as CallerGhosts}
use Rattle.dht_world.specs.declared.events.World.{World}
use Rattle.dht_run.specs.LineReader.{Reader, input_of, HasNoNewline}
use Rattle.dht_run.specs.Outside.{before_told, after_told}
use Rattle.dht_run.specs.Replay.{Replays, StopsAtLine, StopsAtSource, IsCutShort, EndsAs, IsMalformed}
use Rattle.dht_run.specs.SoFar.{Carried, SoFar, Stopped}
use Rattle.dht_run.specs.declared.ending.Ending.{Ending}
use Rattle.dht_run.specs.declared.ending.Ending.TheVariants.{Done, Usage, Malformed, SourceFailed, SinkFailed, OutOfMemory, Limit}
use Rattle.dht_types.specs.declared.events.Event.TheVariants.{Volume as VolumeEvent}
use Rattle.dht_types.specs.declared.lines.Line.TheVariants.{Volume as VolumeLine}
use Rattle.dht_sched.specs.Schedule.{schedule_text}
use Rattle.dht_run.specs.NextEvent.{CutsVolume}
use Rattle.dht_run.specs.Written.{TakesPrefix}
use Rattle.dht_run.specs.Replay.{IsTranscript}

told_nothing : (x : Option (List ℕ)) → before_told [] x ≡ x
told_nothing None = refl
told_nothing (Some xs) = refl

took_nothing : (x : Option (List ℕ)) → x ≡ after_told x []
took_nothing None = refl
took_nothing (Some xs) = ap Some (sym (append-nil xs))

no_transcript :
    {B : Type 0} (state : B → BrickState)
    → IsTranscript [] [] (disk_of state []) (journals_of state [])
no_transcript state = record {
  legal = record { from = tt; whole = refl };
  follows = refl;
  logged = record { steps = λ b. refl; slots = λ b. refl; dirs = λ b. tt };
  noted = tt;
  stands = λ some. absurd (some refl);
  placed = λ e f first h. absurd cc;
  in_time = tt;
  answers = λ c r e alone. absurd cc;
  held = λ b key c m l. absurd (omega arith);
  limited = omega arith;
  counted = refl;
}

-- nothing of the text was carried out
nothing_replayed :
    {B : Type 0} (state : B → BrickState) (bricks : List B) (text rest : Option (List ℕ))
    → bricks ≡ [] → rest ≡ text → Replays state bricks text rest [] []
nothing_replayed {B = B} state bricks text rest none same = record {
  done = record {
    schedule = tt;
    limit = omega arith;
    transcript = subst (λ (bs : List B). IsTranscript [] [] (disk_of state bs) (journals_of state bs)) (sym none) (no_transcript state);
    prefix = sym same ∙ sym (told_nothing rest);
  };
  ready = subst (λ (bs : List B). AreReady state (history_of []).weights (history_of []).run (history_of []).down bs) (sym none) (λ b. tt);
  ends = no_end_none (disk_of state bricks);
}

-- memory ran out before the first line
pub nothing_done :
    {B : Type 0} (state : B → BrickState) (bricks : List B) (text before : Option (List ℕ))
    → bricks ≡ [] → IsCutShort state bricks text before before
nothing_done state bricks text before none = record {
  events = [];
  lines = [];
  rest = text;
  last = [];
  replays = nothing_replayed state bricks text text none refl;
  follows = inl refl;
  written = (0, took_nothing before);
}

bad_text :
    (old : Reader) (text : Option (List ℕ)) → old.pending ≡ []
    → IfSome (input_of old text) (IsMalformed []) → IfSome text (IsMalformed [])
bad_text old text held bad = subst (λ (o : Option (List ℕ)). IfSome o (IsMalformed [])) (ap (λ xs. before_told xs text) held ∙ told_nothing text) bad

-- the first line is invalid, or no volume's
pub first_malformed :
    {B : Type 0} (state : B → BrickState) (bricks : List B) (old : Reader)
    (text before taken : Option (List ℕ))
    → bricks ≡ [] → old.pending ≡ [] → IfSome (input_of old text) (IsMalformed [])
    → taken ≡ after_told before (malformed_text 1) → StopsAtLine state bricks text before taken
unfolding lines_text
first_malformed state bricks old text before taken none held bad told = record {
  events = [];
  lines = [];
  rest = text;
  replays = nothing_replayed state bricks text text none refl;
  malformed = bad_text old text held bad;
  written = told;
}

-- and its number was written in part
pub first_short :
    {B : Type 0} (state : B → BrickState) (bricks : List B) (old : Reader)
    (text before taken : Option (List ℕ))
    → bricks ≡ [] → old.pending ≡ [] → IfSome (input_of old text) (IsMalformed [])
    → TakesPrefix before (malformed_text 1) taken → IsCutShort state bricks text before taken
unfolding lines_text
first_short state bricks old text before taken none held bad told = record {
  events = [];
  lines = [];
  rest = text;
  last = malformed_text 1;
  replays = nothing_replayed state bricks text text none refl;
  follows = inr (inr (inl (bad_text old text held bad, refl)));
  written = told;
}

-- the source failed before the first line
first_failed :
    {B : Type 0} (state : B → BrickState) (bricks : List B) (old new : Reader)
    (text rest before : Option (List ℕ))
    → bricks ≡ [] → old.pending ≡ [] → input_of new rest ≡ input_of old text
    → HasNoNewline new.pending → StopsAtSource state bricks text rest before before
unfolding lines_text
first_failed state bricks old new text rest before none held same no_line = record {
  events = [];
  lines = [];
  pending = new.pending;
  replays = nothing_replayed state bricks text (before_told new.pending rest) none (same ∙ (ap (λ xs. before_told xs text) held ∙ told_nothing text));
  no_line = no_line;
  written = took_nothing before;
}

-- why the volume's line did not come
pub no_first :
    {B : Type 0} (state : B → BrickState) (bricks : List B) (old new : Reader)
    (text rest before : Option (List ℕ)) (ending : Ending)
    → bricks ≡ [] → old.pending ≡ []
    → (ending ≡ SourceFailed → (input_of new rest ≡ input_of old text) × HasNoNewline new.pending)
    → (ending ≡ Malformed → ⊥) → (ending ≡ Done → ⊥) → (ending ≡ Usage → ⊥) → (ending ≡ SinkFailed → ⊥) → (ending ≡ Limit → ⊥)
    → EndsAs state bricks text rest before before ending
no_first state bricks old new text rest before Done none held failed nm nd nu nk nl = absurd (nd refl)
no_first state bricks old new text rest before Usage none held failed nm nd nu nk nl = absurd (nu refl)
no_first state bricks old new text rest before SinkFailed none held failed nm nd nu nk nl = absurd (nk refl)
no_first state bricks old new text rest before Malformed none held failed nm nd nu nk nl = absurd (nm refl)
no_first state bricks old new text rest before Limit none held failed nm nd nu nk nl = absurd (nl refl)
no_first state bricks old new text rest before OutOfMemory none held failed nm nd nu nk nl = inl (nothing_done state bricks text before none)
no_first state bricks old new text rest before SourceFailed none held failed nm nd nu nk nl = (let f = failed refl in first_failed state bricks old new text rest before none held f.0 f.1)

-- the volume's line was carried out
first_carried :
    {B C : Type 0} (b : BrickGhosts B) (c : CallerGhosts C) (w : World B C) (new : Reader)
    (text rest : Option (List ℕ)) (weights : List ℕ)
    → CutsVolume new text rest weights → w.lines ≡ 1 → IsAt b c w (VolumeLine weights ∷ [])
    → Carried b c w 1 text (input_of new rest) (VolumeEvent weights ∷ []) (VolumeLine weights ∷ [])
first_carried b c w new text rest weights first one at =
    let cuts = first.cuts in
    let cut = first.at_start in
    let counted = cuts.counted in
    let within = cuts.within in
    let size : length (schedule_text (VolumeEvent weights) ++ 10 ∷ []) ≡ length (schedule_text (VolumeEvent weights)) + 1 = length-append (schedule_text (VolumeEvent weights)) (10 ∷ []) in
    record {
      at = at;
      follows = (VolumeLine weights ∷ [], [], refl, record { first = VolumeLine weights; more = []; all = refl; is_head = refl; is_under = refl }, refl);
      schedule = (cuts.scheduled, tt, tt);
      counted = refl;
      some = omega arith;
      limit = omega arith;
      shorter = omega arith;
      few = omega arith;
      limited = omega arith;
      prefix = sym (ap (λ xs. before_told xs text) first.none_held ∙ told_nothing text) ∙ cuts.prefix;
    }

pub so_far_first :
    {B C : Type 0} (b : BrickGhosts B) (c : CallerGhosts C) (w : World B C) (new : Reader)
    (text rest before taken : Option (List ℕ)) (weights : List ℕ)
    → CutsVolume new text rest weights → w.lines ≡ 1 → IsAt b c w (VolumeLine weights ∷ [])
    → taken ≡ after_told before (lines_text (VolumeLine weights ∷ []))
    → SoFar b c w 1 new text rest before taken
so_far_first b c w new text rest before taken weights first one at told =
    let counted = first.cuts.counted in
    let cut = first.at_start in
    record {
      events = VolumeEvent weights ∷ [];
      lines = VolumeLine weights ∷ [];
      carried = first_carried b c w new text rest weights first one at;
      cut = omega (arith, length-append (schedule_text (VolumeEvent weights)) (10 ∷ []));
      written = told;
    }

pub first_stopped :
    {B C : Type 0} (b : BrickGhosts B) (c : CallerGhosts C) (w : World B C) (new : Reader)
    (text rest before taken : Option (List ℕ)) (weights : List ℕ)
    → CutsVolume new text rest weights → w.lines ≡ 1 → IsAt b c w (VolumeLine weights ∷ [])
    → TakesPrefix before (lines_text (VolumeLine weights ∷ [])) taken
    → Stopped b c w text before taken
first_stopped b c w new text rest before taken weights first one at told = record {
  events = VolumeEvent weights ∷ [];
  lines = VolumeLine weights ∷ [];
  count = 1;
  input = input_of new rest;
  carried = first_carried b c w new text rest weights first one at;
  written = told;
}
