-- One event that was carried out, and whose lines were written.
use Rattle.std.proofs.Common.{◌≡◌, ◌∙◌, ◌++◌, ℕ, List, [], ap}
use Rattle.std.specs.Prelude.{Option}
use Rattle.dht_types.specs.History.{history_of}
use Rattle.dht_types.specs.declared.events.Event.{Event}
use Rattle.dht_types.specs.declared.lines.Line.{Line}
use Rattle.dht_sched.specs.Transcript.{lines_text}
use Rattle.dht_brick.specs.declared.brick.Brick.{Ghosts as BrickGhosts}
use Rattle.dht_section.specs.declared.caller.Caller.{Ghosts as CallerGhosts}
use Rattle.dht_world.specs.Following.{IsSpent}
use Rattle.dht_world.specs.Places.{Adds}
use Rattle.dht_world.specs.declared.events.World.{World}
use Rattle.dht_run.specs.Outside.{after_told}
use Rattle.dht_run.specs.SoFar.{Wrote}

-- all its lines were written
pub event_wrote :
    {B C : Type 0} (b : BrickGhosts B) (c : CallerGhosts C) (old new : World B C) (n : ℕ)
    (event : Event) (past before after : List Line) (taken told : Option (List ℕ))
    → before ≡ [] → Adds b c old new n event past before after → ¬ IsSpent (history_of past) event
    → told ≡ after_told taken (lines_text after)
    → (lines : List Line) × Wrote b c old new n event past lines taken told (lines_text lines)
event_wrote b c old new n event past before after taken told empty adds unspent written = (
  adds.0,
  record {
    advances = adds.2;
    unspent = unspent;
    written = written ∙ ap (λ (xs : List Line). after_told taken (lines_text xs)) (adds.1 ∙ ap (λ (xs : List Line). xs ++ adds.0) empty);
  },
)
