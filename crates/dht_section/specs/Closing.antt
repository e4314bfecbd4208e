-- What a closing asks, claims and knows.
use Rattle.std.specs.Prelude.{◌≡◌, ◌-◌, nat_lt, if◌then◌else◌, length}
use Rattle.dht_section.specs.declared.machine.Finish.{Finish}
use Rattle.dht_section.specs.declared.machine.Turn.{Turn}
use Rattle.dht_section.specs.declared.machine.Turn.TheVariants.{Go, Done}
use Rattle.dht_section.specs.Scene.{Scene, MayAnswer}
use Rattle.dht_section.specs.Stages.{Stage}
use Rattle.dht_section.specs.Section.{all_claimed, last_lock, unlocking_stage}
use Rattle.dht_section.specs.declared.closing.Closing.{Closing}
use Rattle.dht_section.specs.declared.section.Held.{Held}

-- it gives back the locks up to this one, and the answer is right already
abbrev pub closing_stage : Closing → Stage
closing_stage c = unlocking_stage c.scope c.place (MayAnswer c.finish)

-- the closing of a section that is held
abbrev pub closing_of : Held → Finish → Closing
closing_of h f = record { scope = h.scope; place = last_lock h.scope; finish = f }

-- it goes on with the next lock, or gives its answer
abbrev pub closing_after : Closing → Turn Closing Finish
closing_after c =
    if nat_lt 0 c.place
    then Go (record { scope = c.scope; place = c.place - 1; finish = c.finish })
    else Done c.finish

-- the closing begins where the section is held and the call may answer so
pub record Closes (h : Held) (f : Finish) (s : Scene) : Type 0 where
  pub claims : (closing_stage (closing_of h f)).claims ≡ all_claimed h.scope
  pub knows : (closing_stage (closing_of h f)).knows s
  pub variant : (closing_stage (closing_of h f)).variant ≡ length h.scope.keys
