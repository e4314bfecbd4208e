-- How a call ends: what it answers, and what it has learned of a layout.
use Rattle.std.specs.Prelude.{ℕ, ◌≡◌, Option, Some, List}
use Rattle.dht_types.specs.declared.calls.Answer.TheVariants.{File, Fault}
use Rattle.dht_types.specs.declared.errors.Errno.TheVariants.{Estale}
use Rattle.dht_types.specs.declared.identifiers.Gfid.{Gfid}
use Rattle.dht_xattr.specs.declared.range.Range.{Range}
use Rattle.dht_brick.specs.declared.replies.Reply.{Reply}
use Rattle.dht_section.specs.Shapes.{either}
use Rattle.dht_section.specs.Stages.{Ending, MatchTurn, answered}
use Rattle.dht_section.specs.declared.ended.Ended.{Ended}
use Rattle.dht_section.specs.declared.machine.Finish.{Finish}
use Rattle.dht_section.specs.declared.machine.Turn.{Turn}

-- it has earned its answer, and claims nothing
abbrev pub ended : Ended → Ending
ended e = answered e.finish

-- the answer that the file is there, at this line
abbrev pub found_at : Gfid → ℕ → Finish
found_at f at = record { answer = File f; at = Some at }

-- the answer that its directory was gone, at this line
abbrev pub gone_at : ℕ → Finish
gone_at at = record { answer = Fault Estale; at = Some at }

-- a machine learns the layout that a reply teaches, and hands out the one that it has learned
abbrev pub Learns :
    {M : Type 0} → (M → Option (List (Option Range))) → (M → Reply → Option (List (Option Range)))
    → M → Reply → Turn M Ended → Type 0
Learns layout taught m r turn =
    MatchTurn turn (λ n. layout n ≡ either (taught m r) (layout m)) (λ d. d.layout ≡ layout m)
