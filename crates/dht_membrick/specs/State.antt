-- The state of a brick in memory.
use Rattle.std.specs.Prelude.{◌≤◌, ◌≡◌, ◌≢◌, ◌↔◌, true, false}
use Rattle.dht_types.specs.Faults.{HasFault}
use Rattle.dht_types.specs.declared.identifiers.ClientNo.{ClientNo}
use Rattle.dht_types.specs.declared.identifiers.CallNo.{CallNo}
use Rattle.dht_brick.specs.Bricks.{BrickState, ServesOrFails}
use Rattle.dht_brick.specs.Contents.{Contents, store_of}
use Rattle.dht_brick.specs.Memory.{TakesNoMemory}
use Rattle.dht_brick.specs.Rows.{row}
use Rattle.dht_brick.specs.declared.replies.Reply.{Reply}
use Rattle.dht_brick.specs.declared.replies.Reply.TheVariants as reply
use Rattle.dht_brick.specs.declared.requests.Request.{Request}
use Rattle.dht_names.specs.Kept.{tables_in}
use Rattle.dht_files.specs.Records.{files_in}
use Rattle.dht_opens.specs.Opens.{opens_in}
use Rattle.dht_locks.specs.Held.{locks_in}
use Rattle.dht_membrick.specs.declared.brick.MemBrick.{MemBrick}

-- what it contains: what its tables tell
abbrev pub contents_in : MemBrick → Contents
contents_in m = record {
  store = store_of (tables_in m.tables) (files_in m.files);
  opens = opens_in m.opens;
  locks = locks_in m.locks;
}

-- it fails only where it is armed
unfoldable pub mem_state : MemBrick → BrickState
mem_state m = record {
  number = m.number.0;
  contents = contents_in m;
  volume = m.volume;
  is_up = m.is_up;
  is_armed = m.is_armed;
  faults = m.faults;
  is_faultless = true;
  journal = m.journal.each;
  spare = m.journal.spare;
}

-- a request that reached the brick was answered: it failed where the
-- brick was armed, and else its row was followed, or there was no memory
pub record Answered (client : ClientNo) (call : CallNo) (q : Request) (old : BrickState) (r : Reply)
    (new : BrickState) : Type 0 where
  pub row :
      ServesOrFails (row old.volume.names client call q old.contents) old.contents r new.contents
  pub reached : r ≢ reply.Down
  pub armed : (r ≡ reply.Failed) ↔ (old.is_armed ≡ true)
  pub failed : r ≡ reply.Failed → HasFault old.faults new.faults
  pub memory : TakesNoMemory q → r ≢ reply.NoMemory
  pub count : old.faults ≤ new.faults
  pub quiet : r ≢ reply.Failed → new.faults ≡ old.faults
  pub disarmed : new.is_armed ≡ false
  pub same :
      new ≡ record old { contents = new.contents; is_armed = new.is_armed; faults = new.faults }
