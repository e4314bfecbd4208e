-- What one request of mine makes of the scene.
use Rattle.std.specs.Prelude.{ℕ, ◌+◌, ◌≤◌, ◌≡◌, ◌||◌, nat_eq, if◌then◌else◌, Bool, true, false, Option, Some, None, length}
use Rattle.dht_types.specs.Gfid.{home}
use Rattle.dht_types.specs.Tree.{Tree, applied}
use Rattle.dht_types.specs.Volume.{replay_names}
use Rattle.dht_types.specs.History.{PendingCall, Deeds, deeds_after, is_carried, is_down, is_failed}
use Rattle.dht_types.specs.declared.identifiers.Gfid.{Gfid}
use Rattle.dht_types.specs.declared.calls.TreeStep.{TreeStep}
use Rattle.dht_types.specs.declared.calls.TreeStep.TheVariants.{AddFile, AddDir, RemoveFile, RemoveDir}
use Rattle.dht_brick.specs.Contents.{Contents}
use Rattle.dht_brick.specs.Kinds.{reply_kind}
use Rattle.dht_brick.specs.Bricks.{ServesOrFails}
use Rattle.dht_brick.specs.Outcome.{Outcome}
use Rattle.dht_brick.specs.Rows.{row}
use Rattle.dht_brick.specs.declared.requests.NameRequest.{NameRequest}
use Rattle.dht_brick.specs.declared.requests.NameRequest.TheVariants.{Create, MakeDir, Unlink, DropDir}
use Rattle.dht_brick.specs.declared.requests.Request.{Request}
use Rattle.dht_brick.specs.declared.requests.Request.TheVariants.{OnNames, Unlock}
use Rattle.dht_brick.specs.declared.replies.Reply.{Reply}
use Rattle.dht_brick.specs.declared.replies.Reply.TheVariants.{Ok as Carried, Down}
use Rattle.dht_section.specs.Disk.{ChangesOneBrick}
use Rattle.dht_section.specs.Scene.{Scene}
use Rattle.dht_section.specs.declared.machine.Ask.{Ask}

-- this step, if a brick is the home of the directory
abbrev pub at_home : ℕ → Gfid → TreeStep → Option TreeStep
at_home b g step = if nat_eq b (home g) then Some step else None

-- the step of the tree that a request stands for where this brick carries it out
abbrev pub name_step : ℕ → NameRequest → Option TreeStep
name_step b (Create d n f) = Some (AddFile d n f)
name_step b (MakeDir d n g depth value) = at_home b g (AddDir d n g)
name_step b (Unlink d n f) = Some (RemoveFile d n)
name_step b (DropDir d n g) = at_home b g (RemoveDir d n)
name_step b q = None

abbrev pub request_step : ℕ → Request → Option TreeStep
request_step b (OnNames q) = name_step b q
request_step b q = None

-- and where it replied so
abbrev pub step_of : ℕ → Request → Reply → Option TreeStep
step_of b q (Carried given) = request_step b q
step_of b q r = None

-- the tree after a step, or after none
abbrev pub tree_by : Option TreeStep → Tree → Tree
tree_by None t = t
tree_by (Some step) t = applied step t

-- the call's tree lines with that of a step, at this line, or as they were
abbrev pub deeds_by : Scene → ℕ → Option TreeStep → Option Deeds
deeds_by s line None = s.mine.deeds
deeds_by s line (Some step) = Some (deeds_after s.history.tree line s.mine.call s.mine.deeds step)

-- what my request comes to: the bricks know a replay's volume
abbrev pub outcome_of : Scene → Ask → Outcome Contents
outcome_of s a =
    row (replay_names (length s.history.weights)) s.who s.mine.number a.request
    (s.disk.brick a.brick.0)

abbrev pub IsUnlock : Request → Type 0
IsUnlock (Unlock key) = Unit {0}
IsUnlock q = ⊥

-- what I see of a brick's reply: where the answer was cut, that the brick is down
abbrev pub seen_of : (cut : Bool) → Reply → Reply
seen_of true real = Down
seen_of false real = real

-- what my own call has been told and has done, after a reply
pub record CallAfter (x : PendingCall) (seen : Reply) (deeds : Option Deeds) (y : PendingCall)
    : Type 0 where
  pub number : y.number ≡ x.number
  pub call : y.call ≡ x.call
  pub since : y.since ≡ x.since
  pub alone : y.alone ≡ x.alone
  pub is_first : y.is_first ≡ x.is_first
  pub steps : y.steps ≤ x.steps + 1
  pub was_down : y.was_down ≡ (x.was_down || is_down (reply_kind seen))
  pub has_failed : y.has_failed ≡ (x.has_failed || is_failed (reply_kind seen))
  pub deeds_are : y.deeds ≡ deeds

-- one brick answered my request, by its row or not at
-- all, and I saw this reply; its lines were written
pub record Guarantee (s : Scene) (a : Ask) (r : Reply) (t : Scene) : Type 0 where
  pub real : Reply
  pub cut : Bool
  pub seen : r ≡ seen_of cut real
  pub new : Contents
  pub served : ServesOrFails (outcome_of s a) (s.disk.brick a.brick.0) real new
  pub disk : ChangesOneBrick s.disk a.brick.0 new t.disk
  -- an unlock is always carried out
  pub unlocked : IsUnlock a.request → (cut ≡ false) × (is_carried (reply_kind real) ≡ true)
  pub claims : t.claims ≡ s.claims
  pub who : t.who ≡ s.who
  pub mine :
      CallAfter s.mine r (deeds_by s t.history.size (step_of a.brick.0 a.request real)) t.mine
  pub tree : t.history.tree ≡ tree_by (step_of a.brick.0 a.request real) s.history.tree
  pub run : t.history.run ≡ s.history.run
  pub weights : t.history.weights ≡ s.history.weights
  -- no call is accepted meanwhile
  pub calls : t.history.calls ≡ s.history.calls
  pub later : s.history.size ≤ t.history.size
  pub past : (j : ℕ) → j ≤ s.history.size → t.history.past j ≡ s.history.past j
