-- A client's first lookup after the volume was mounted: how soon it finds a file.
use Rattle.std.specs.Prelude.{◌+◌, ◌≤◌, ◌≡◌, true, length}
use Rattle.dht_types.specs.Gfid.{Entry}
use Rattle.dht_types.specs.History.{History, PendingCall, IsAlone}
use Rattle.dht_types.specs.declared.calls.Answer.TheVariants.{File}
use Rattle.dht_types.specs.declared.calls.Call.TheVariants.{Lookup}
use Rattle.dht_types.specs.declared.identifiers.Gfid.{Gfid}
use Rattle.dht_section.specs.Scene.{Scene}
use Rattle.dht_section.specs.Truth.{Placed}
use Rattle.dht_section.specs.declared.machine.Finish.{Finish}

-- the call is the lookup of this name, the first call of its client
-- since the volume was mounted, and the only one in its span so far
pub record IsFirstLookup (s : History) (r : PendingCall) (e : Entry) : Type 0 where
  pub looks_up : r.call ≡ Lookup e.0 e.1
  pub first : r.is_first ≡ true
  pub alone : IsAlone s r

-- where such a call answers a file, and the name is placed,
-- it took one step more than there are bricks at most
abbrev pub FindsSoon : Finish → Scene → Type 0
FindsSoon f s =
    (e : Entry) (g : Gfid) → IsFirstLookup s.history s.mine e → f.answer ≡ File g → Placed s.disk e
    → s.mine.steps ≤ length s.history.weights + 1
