-- Where a call that heals a directory is between its requests.
use Rattle.std.specs.Prelude.{ℕ, ◌≡◌, ◌<◌, ◌≤◌, Option, None, List, length}
use Rattle.dht_types.specs.Gfid.{home}
use Rattle.dht_types.specs.declared.calls.Call.TheVariants as call
use Rattle.dht_types.specs.declared.errors.Errno.{Errno}
use Rattle.dht_types.specs.declared.identifiers.Gfid.{Gfid}
use Rattle.dht_xattr.specs.declared.range.Range.{Range}
use Rattle.dht_brick.specs.declared.replies.Reply.{Reply}
use Rattle.dht_section.specs.Parts.{as_part}
use Rattle.dht_section.specs.Scene.{Scene}
use Rattle.dht_section.specs.Stages.{Ending, Stage, call_answered}
use Rattle.dht_section.specs.declared.ended.Ended.{Ended}
use Rattle.dht_section.specs.declared.machine.Turn.{Turn}
use Rattle.dht_section.specs.declared.machine.Turn.TheVariants.{Go, Done}
use Rattle.dht_heal.specs.Heal.{first_heal, first_room, heal_after, heal_dir, heal_fault, heal_stage}
use Rattle.dht_heal.specs.declared.call.HealCall.{HealCall}
use Rattle.dht_heal.specs.declared.heal.Heal.{Heal}
use Rattle.dht_heal.specs.declared.heal.HealEnd.{HealEnd}

-- the call is the heal of this directory
abbrev pub IsHeal : Gfid → Scene → Type 0
IsHeal d s = s.mine.call ≡ call.Heal d

abbrev pub call_stage : HealCall → Stage
call_stage m = as_part (heal_stage m.heal) 0 (λ s. IsHeal (heal_dir m.heal) s)

-- it may answer so, and what it healed is whole
abbrev pub call_ended : Ended → Ending
call_ended e = call_answered e.finish

-- the error of a brick that ended it
abbrev pub call_fault : HealCall → Option Errno
call_fault m = heal_fault m.heal

-- it learns no layout
abbrev pub call_layout : HealCall → Option (List (Option Range))
call_layout m = None

abbrev pub call_taught : HealCall → Reply → Option (List (Option Range))
call_taught m r = None

-- ---- its beginning

abbrev pub first_call : List ℕ → ℕ → Gfid → HealCall
first_call weights bricks d = record { heal = first_heal (first_room weights) bricks d }

-- the scene in which it begins
pub record MayCallHeal (weights : List ℕ) (bricks : ℕ) (d : Gfid) (s : Scene) : Type 0 where
  pub weighed : s.history.weights ≡ weights
  pub count : length s.history.weights ≡ bricks
  pub few : bricks ≤ 32
  pub home : home d < bricks
  pub call : IsHeal d s
  pub deeds : s.mine.deeds ≡ None

-- ---- how a reply takes it on

abbrev pub ended_by : HealEnd → Ended
ended_by e = record { finish = e.finish; layout = None }

abbrev pub call_went : Turn Heal HealEnd → Turn HealCall Ended
call_went (Go n) = Go (record { heal = n })
call_went (Done e) = Done (ended_by e)

abbrev pub call_after : HealCall → Reply → ℕ → Turn HealCall Ended
call_after m r at = call_went (heal_after m.heal r at)
