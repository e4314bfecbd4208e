-- How calls end, beside the errors of bricks.
use Rattle.std.specs.Prelude.{ℕ, Some}
use Rattle.dht_types.specs.declared.calls.Answer.TheVariants.{Done, Fault, Made}
use Rattle.dht_types.specs.declared.errors.Errno.{Errno}
use Rattle.dht_types.specs.declared.identifiers.Gfid.{Gfid}
use Rattle.dht_section.specs.declared.machine.Finish.{Finish}

-- it is done, or this file or directory was made, at the line
-- at which the tree changed; or it is refused, at this line
abbrev pub done_at : ℕ → Finish
done_at at = record { answer = Done; at = Some at }

abbrev pub made_at : Gfid → ℕ → Finish
made_at f at = record { answer = Made f; at = Some at }

abbrev pub refused_at : Errno → ℕ → Finish
refused_at e at = record { answer = Fault e; at = Some at }
