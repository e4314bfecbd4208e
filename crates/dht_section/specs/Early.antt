-- What holds beside the invariant only as long as no call does more than look
-- for names, make files and directories, and take their names away. A request
-- that does more deletes the fact that it makes false, and nothing else changes.
use Rattle.std.specs.Prelude.{ℕ, ◌<◌, ◌≤◌, ◌≡◌, ◌⊎◌, false, Some, List}
use Rattle.std.specs.FinMap.{contains_key}
use Rattle.dht_types.specs.Gfid.{Entry, run_of}
use Rattle.dht_types.specs.History.{History}
use Rattle.dht_types.specs.declared.identifiers.Gfid.{Gfid}
use Rattle.dht_types.specs.declared.stored.Slot.{Slot}
use Rattle.dht_types.specs.declared.stored.Record.{Record}
use Rattle.dht_types.specs.declared.stored.Record.TheVariants.{Live}
use Rattle.dht_brick.specs.Contents.{bare}
use Rattle.dht_brick.specs.declared.opens.Registration.{Registration}
use Rattle.dht_section.specs.Disk.{Disk, name_at, slot_at, file_at, holder_of}
use Rattle.dht_section.specs.Invariant.{Used}
use Rattle.dht_section.specs.Planned.{AllPlanned}
use Rattle.dht_section.specs.Truth.{plain, folder}
use Rattle.dht_section.specs.Views.{core}

-- a slot has no part but perhaps a linkto, or is a
-- directory's name, or a file's where nothing is under way
abbrev pub IsPlain : Slot → Type 0
IsPlain p = (core p ≡ bare) ⊎ ((f : Gfid) × (p ≡ plain f)) ⊎ ((g : Gfid) × (p ≡ folder g))

-- the record of a file that was never moved
abbrev pub IsUnmoved : Record → Type 0
IsUnmoved r = (bytes : List ℕ) × (r ≡ Live 0 bytes)

pub record Early (d : Disk) (s : History) : Type 0 where
  -- until a link or a rename is made
  pub plain : (e : Entry) (b : ℕ) → b < d.count → IsPlain (slot_at d b e)
  -- until a file is moved
  pub unmoved : (f : Gfid) (b : ℕ) (r : Record)
      → b < d.count → file_at d b f ≡ Some r → IsUnmoved r
  -- until a file is opened
  pub unopened : (b : ℕ) (r : Registration)
      → b < d.count → contains_key (d.brick b).opens.registered r ≡ false
  -- until layouts change otherwise: in the first run
  -- all ranges are planned, and a name is on its holder
  pub planned : (g : Gfid) → s.run ≡ 1 → AllPlanned d s.weights g
  pub held : (e : Entry) (b : ℕ) (f : Gfid)
      → s.run ≡ 1 → b < d.count → name_at d b e ≡ Some f → holder_of d e ≡ Some b
  -- and so it needs no linkto
  pub unlinked : (e : Entry) (b : ℕ)
      → s.run ≡ 1 → b < d.count → slot_at d b e ≡ core (slot_at d b e)
  -- until bricks of other runs are loaded: nothing is of a later run
  pub earlier : (g : Gfid) → Used d s.tree g → run_of g ≤ s.run
