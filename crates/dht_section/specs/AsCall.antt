-- Answers to another call than the one that runs: a
-- call may run another's program as its first part.
use Rattle.dht_types.specs.declared.calls.Call.{Call}
use Rattle.dht_types.specs.declared.identifiers.Gfid.{Gfid}
use Rattle.dht_section.specs.Scene.{Scene, MayAnswer}
use Rattle.dht_section.specs.declared.machine.Finish.{Finish}

-- the scene, if this were the call that runs
abbrev pub as_call : Call Gfid → Scene → Scene
as_call c s = record s { mine = record s.mine { call = c } }

-- this call could answer so now
abbrev pub MayAnswerAs : Call Gfid → Finish → Scene → Type 0
MayAnswerAs c f s = MayAnswer f (as_call c s)
