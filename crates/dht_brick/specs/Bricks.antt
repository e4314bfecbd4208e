-- A brick as a whole, and what its calls do.
use Rattle.std.specs.Prelude.{ℕ, ◌-◌, ◌≤◌, ◌≡◌, ◌≢◌, ◌↔◌, Bool, true, false, not, Option, Some, None, List, [], ◌∷◌, ◌++◌, Result, Ok, Err}
use Rattle.std.specs.Option.{option_map}
use Rattle.dht_types.specs.Faults.{HasFault}
use Rattle.dht_types.specs.Volume.{VolumeInfo}
use Rattle.dht_types.specs.declared.identifiers.ClientNo.{ClientNo}
use Rattle.dht_types.specs.declared.identifiers.CallNo.{CallNo}
use Rattle.dht_brick.specs.Contents.{Contents, newborn}
use Rattle.dht_brick.specs.Events.{poked}
use Rattle.dht_brick.specs.Memory.{NeverTakesMemory}
use Rattle.dht_brick.specs.Named.{entry_of}
use Rattle.dht_brick.specs.Outcome.{Outcome, Do, Refuse, Await}
use Rattle.dht_brick.specs.Rows.{row, with_store}
use Rattle.dht_brick.specs.declared.journal.JournalEntry.{JournalEntry}
use Rattle.dht_brick.specs.declared.pokes.PokeAt.{PokeAt}
use Rattle.dht_brick.specs.declared.pokes.PokeFault.{PokeFault}
use Rattle.dht_brick.specs.declared.pokes.PokeFault.TheVariants as fault
use Rattle.dht_brick.specs.declared.replies.Reply.{Reply}
use Rattle.dht_brick.specs.declared.replies.Reply.TheVariants as reply
use Rattle.dht_brick.specs.declared.requests.Request.{Request}
use Rattle.dht_brick.specs.declared.requests.Request.TheVariants.{Unlock}

pub record BrickState : Type 0 where
  pub number : ℕ
  pub contents : Contents
  pub volume : VolumeInfo  -- the volume that it knows
  pub is_up : Bool
  pub is_armed : Bool  -- the next request that it would serve is to fail
  pub faults : ℕ  -- how often it failed
  pub is_faultless : Bool  -- it fails only where it is armed
  pub journal : List JournalEntry  -- what it served, the oldest first
  pub spare : ℕ  -- how many entries the journal takes without memory

-- a brick that is down serves an unlock alone
abbrev pub is_unreachable : Bool → Request → Bool
is_unreachable is_up (Unlock key) = false
is_unreachable is_up q = not is_up

-- the reply is of this outcome, and the old became the new; or nothing was done
abbrev pub ServesOrFails : Outcome Contents → Contents → Reply → Contents → Type 0
ServesOrFails outcome old (reply.Ok given) new = outcome ≡ Do given new
ServesOrFails outcome old (reply.Refused why) new = (outcome ≡ Refuse why) × (new ≡ old)
ServesOrFails outcome old (reply.Wait holder) new = (outcome ≡ Await holder) × (new ≡ old)
ServesOrFails outcome old reply.Down new = new ≡ old
ServesOrFails outcome old reply.Failed new = new ≡ old
ServesOrFails outcome old reply.NoMemory new = new ≡ old

-- what is left of something, and what else becomes of it unless the reply is that the brick is down
abbrev pub unless_down : {A : Type 0} → Reply → A → A → A
unless_down reply.Down old new = old
unless_down r old new = new

-- a request of a call of a client was served
pub record ServesRequest (client : ClientNo) (call : CallNo) (q : Request) (old : BrickState)
    (r : Reply) (new : BrickState) : Type 0 where
  -- the reply is by the row, but for a brick that is down, that failed, or that was out of memory
  pub row :
      ServesOrFails (row old.volume.names client call q old.contents) old.contents r new.contents
  pub down : (r ≡ reply.Down) ↔ (is_unreachable old.is_up q ≡ true)
  pub failed : r ≡ reply.Failed → HasFault old.faults new.faults
  pub cause : r ≡ reply.Failed → old.is_faultless ≡ true → old.is_armed ≡ true
  pub armed : old.is_armed ≡ true → r ≢ reply.Down → r ≡ reply.Failed
  pub memory : NeverTakesMemory q → r ≢ reply.NoMemory
  pub count : old.faults ≤ new.faults
  pub quiet : old.is_faultless ≡ true → r ≢ reply.Failed → new.faults ≡ old.faults
  -- a request that was served has an entry in the journal
  pub journal :
      new.journal ≡ unless_down r old.journal (old.journal ++ entry_of client call q r ∷ [])
  pub spare : new.spare ≡ unless_down r old.spare (old.spare - 1)
  pub disarmed : new.is_armed ≡ unless_down r old.is_armed false
  pub same :
      new
      ≡ record old {
        contents = new.contents;
        is_armed = new.is_armed;
        faults = new.faults;
        journal = new.journal;
        spare = new.spare;
      }

-- a poke changes something so, or nothing
abbrev pub PokesTo : {A : Type 0} → Option A → A → Result (Unit {0}) PokeFault → A → Type 0
PokesTo to old (Ok done) new = to ≡ Some new
PokesTo to old (Err fault.Slot) new = (to ≡ None) × (new ≡ old)
PokesTo to old (Err fault.Failed) new = new ≡ old
PokesTo to old (Err fault.OutOfMemory) new = new ≡ old

-- a value was set from outside, or not
pub record Pokes (at : PokeAt) (value : List ℕ) (old : BrickState)
    (result : Result (Unit {0}) PokeFault) (new : BrickState) : Type 0 where
  pub to :
      PokesTo (option_map (with_store old.contents) (poked at value old.contents.store)) old.contents
      result new.contents
  pub failed : result ≡ Err fault.Failed → HasFault old.faults new.faults
  pub cause : old.is_faultless ≡ true → result ≢ Err fault.Failed
  pub count : old.faults ≤ new.faults
  pub quiet : old.is_faultless ≡ true → new.faults ≡ old.faults
  pub same : new ≡ record old { contents = new.contents; faults = new.faults }

-- a new brick, whose root has this attribute
pub record IsNewborn (b : ℕ) (v : VolumeInfo) (value : Option (List ℕ)) (s : BrickState)
    : Type 0 where
  pub number : s.number ≡ b
  pub volume : s.volume ≡ v
  pub contents : s.contents ≡ newborn value
  pub up : s.is_up ≡ true
  pub unarmed : s.is_armed ≡ false
  pub journal : s.journal ≡ []
