-- What a reap asks and knows, and how a reply takes it on.
use Rattle.std.specs.Prelude.{ℕ, ◌<◌, ◌≡◌, ◌==◌, if◌then◌else◌, true, Option, Some, None, List, [], length}
use Rattle.dht_types.specs.Gfid.{anchor}
use Rattle.dht_types.specs.declared.errors.Errno.{Errno}
use Rattle.dht_types.specs.declared.identifiers.BrickNo.{BrickNo}
use Rattle.dht_types.specs.declared.identifiers.Gfid.{Gfid}
use Rattle.dht_brick.specs.declared.replies.Reply.{Reply}
use Rattle.dht_brick.specs.declared.replies.Reply.TheVariants.{Ok as Carried, Refused as Declined}
use Rattle.dht_brick.specs.declared.replies.Why.TheVariants.{Open}
use Rattle.dht_brick.specs.declared.requests.FileRequest.TheVariants.{Drop}
use Rattle.dht_brick.specs.declared.requests.Request.TheVariants.{Seal, OnFile}
use Rattle.dht_section.specs.Claims.{Lock, claims_locks}
use Rattle.dht_section.specs.Parts.{part_ending}
use Rattle.dht_section.specs.Rely.{IsNameless}
use Rattle.dht_section.specs.Replies.{fault_of}
use Rattle.dht_section.specs.Scene.{Scene}
use Rattle.dht_section.specs.Stages.{Stage, Ending}
use Rattle.dht_section.specs.Views.{view_of}
use Rattle.dht_section.specs.declared.machine.Turn.{Turn}
use Rattle.dht_section.specs.declared.machine.Turn.TheVariants.{Go, Done}
use Rattle.dht_section.specs.declared.reap.Orphan.{Orphan}
use Rattle.dht_section.specs.declared.reap.Reap.{Reap}
use Rattle.dht_section.specs.declared.reap.Reap.TheVariants.{Sealing, Dropping}

-- the brick on which the file is sealed
abbrev pub reap_brick : Orphan → ℕ
reap_brick x = if x.bricks == 0 then 0 else anchor x.file x.bricks

-- the file has no name and gets none, and its brick is there
pub record IsOrphan (x : Orphan) (s : Scene) : Type 0 where
  pub bricks : length s.history.weights ≡ x.bricks
  pub there : x.brick.0 < s.disk.count
  pub nameless : IsNameless s.disk s.history.tree x.file

-- nor can anyone open it
pub record IsShut (x : Orphan) (s : Scene) : Type 0 where
  pub orphan : IsOrphan x s
  pub sealed : (view_of s.disk x.file).sealed ≡ true

-- where it is between its requests, under the locks of the call that runs it
abbrev pub reap_stage : List Lock → Reap → Stage
reap_stage locks (Sealing x) = record {
  asks = record { brick = record { 0 = reap_brick x }; request = Seal x.file };
  claims = claims_locks locks;
  variant = 2;
  knows = λ s. IsOrphan x s;
}
reap_stage locks (Dropping x) = record {
  asks = record { brick = x.brick; request = OnFile (Drop x.file) };
  claims = claims_locks locks;
  variant = 1;
  knows = λ s. IsShut x s;
}

-- where a brick's error ended it, the call may answer that
abbrev pub reap_ending : List Lock → Option Errno → Ending
reap_ending locks fault = part_ending locks (λ s. Unit {0}) fault

-- under no locks
abbrev pub lone_reap : Reap → Stage
lone_reap m = reap_stage [] m

abbrev pub lone_ending : Option Errno → Ending
lone_ending fault = reap_ending [] fault

abbrev pub first_reap : ℕ → Gfid → BrickNo → Reap
first_reap bricks f b = Sealing (record { bricks = bricks; file = f; brick = b })

-- ---- how a reply takes it on

-- a file that is open stays
abbrev pub seal_answered : Orphan → Reply → Turn Reap (Option Errno)
seal_answered x (Carried given) = Go (Dropping x)
seal_answered x (Declined (Open n)) = Done None
seal_answered x r = Go (Sealing x)

-- a drop that was refused ends it too
abbrev pub drop_answered : Orphan → Reply → Turn Reap (Option Errno)
drop_answered x (Carried given) = Done None
drop_answered x (Declined why) = Done None
drop_answered x r = Go (Dropping x)

abbrev pub reap_answered : Reap → Reply → Turn Reap (Option Errno)
reap_answered (Sealing x) r = seal_answered x r
reap_answered (Dropping x) r = drop_answered x r

abbrev pub reap_unless : Option Errno → Turn Reap (Option Errno) → Turn Reap (Option Errno)
reap_unless None turn = turn
reap_unless (Some e) turn = Done (Some e)

abbrev pub reap_after : Reap → Reply → Turn Reap (Option Errno)
reap_after m r = reap_unless (fault_of r) (reap_answered m r)
