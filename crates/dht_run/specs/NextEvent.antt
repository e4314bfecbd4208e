-- What comes next in the text of a schedule.
use Rattle.std.specs.Prelude.{ℕ, ◌+◌, ◌≤◌, ◌≡◌, ◌≢◌, Option, List, [], ◌∷◌, ◌++◌, length}
use Rattle.dht_types.specs.declared.events.Event.{Event}
use Rattle.dht_types.specs.declared.events.Event.TheVariants.{Volume}
use Rattle.dht_sched.specs.Schedule.{schedule_text, IsScheduled}
use Rattle.dht_run.specs.LineReader.{Reader, input_of}
use Rattle.dht_run.specs.Outside.{before_told}
use Rattle.dht_run.specs.declared.line_reader.TheConstants.{INPUT_LIMIT}

-- the line of an event was cut off the input
pub record CutsEvent (old new : Reader) (variant_before left_after : Option (List ℕ)) (e : Event)
    : Type 0 where
  pub scheduled : IsScheduled e
  pub prefix :
      input_of old variant_before ≡ before_told (schedule_text e ++ 10 ∷ []) (input_of new left_after)
  pub counted : new.cut ≡ old.cut + length (schedule_text e) + 1
  pub within : new.cut ≤ INPUT_LIMIT
  -- its text is of no other event
  pub only : (o : Event) → IsScheduled o → schedule_text o ≡ schedule_text e → o ≡ e

-- a reader that was at the beginning of this text has cut off the line of a volume of these weights
pub record CutsVolume (new : Reader) (text left : Option (List ℕ)) (weights : List ℕ) : Type 0 where
  pub old : Reader
  pub at_start : old.cut ≡ 0
  pub none_held : old.pending ≡ []
  pub cuts : CutsEvent old new text left (Volume weights)

-- after so many bytes, the input goes on, and not with the line of an event
pub record HasNoEvent (cut : ℕ) (input : List ℕ) : Type 0 where
  pub goes_on : input ≢ []
  pub no_event :
      (e : Event) (more : List ℕ) → IsScheduled e → input ≡ schedule_text e ++ 10 ∷ more
      → cut + length (schedule_text e) + 1 ≤ INPUT_LIMIT → ⊥
