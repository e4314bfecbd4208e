-- What a sweep asks and knows, and how a reply takes it on.
use Rattle.std.specs.Prelude.{ℕ, zero, suc, ◌+◌, ◌-◌, ◌<◌, ◌≡◌, nat_lt, Bool, true, false, if◌then◌else◌, Option, Some, None, List, [], length}
use Rattle.dht_types.specs.Gfid.{Entry}
use Rattle.dht_types.specs.History.{is_carried}
use Rattle.dht_types.specs.declared.errors.Errno.{Errno}
use Rattle.dht_types.specs.declared.identifiers.BrickNo.{BrickNo}
use Rattle.dht_brick.specs.Kinds.{reply_kind}
use Rattle.dht_brick.specs.Parts.{is_linkto}
use Rattle.dht_brick.specs.declared.replies.Reply.{Reply}
use Rattle.dht_brick.specs.declared.requests.NameRequest.TheVariants.{DropLinkto}
use Rattle.dht_brick.specs.declared.requests.Request.TheVariants.{OnNames}
use Rattle.dht_section.specs.Claims.{Lock, claims_locks}
use Rattle.dht_section.specs.Disk.{Disk, slot_at}
use Rattle.dht_section.specs.Location.{entry_at, scope_at}
use Rattle.dht_section.specs.Looks.{linkto_at, has_linkto}
use Rattle.dht_section.specs.Parts.{part_ending}
use Rattle.dht_section.specs.Replies.{fault_of}
use Rattle.dht_section.specs.Scene.{Scene, HoldsName, NameStands}
use Rattle.dht_section.specs.Section.{IsFresh, AllHeld, Reads, found_shape, held_layout, held_looked}
use Rattle.dht_section.specs.Stages.{Stage, Ending}
use Rattle.dht_section.specs.Want.{IsOrdered}
use Rattle.dht_section.specs.declared.location.Location.{Location}
use Rattle.dht_section.specs.declared.looks.Linkto.{Linkto}
use Rattle.dht_section.specs.declared.looks.Place.{Place}
use Rattle.dht_section.specs.declared.machine.Ask.{Ask}
use Rattle.dht_section.specs.declared.machine.Turn.{Turn}
use Rattle.dht_section.specs.declared.machine.Turn.TheVariants.{Go, Done}
use Rattle.dht_section.specs.declared.section.Held.{Held}
use Rattle.dht_section.specs.declared.sweep.Sweep.{Sweep}

-- ---- what it knows

-- a brick has a linkto at a name
abbrev pub linkto_there : Disk → ℕ → Entry → Bool
linkto_there d b e = is_linkto (slot_at d b e).main

-- a brick has its linkto still: one was seen there,
-- and those of the bricks below a limit were dropped
abbrev pub is_left : List Linkto → ℕ → ℕ → Bool
is_left linktos limit b = if nat_lt b limit then false else has_linkto (linkto_at linktos b)

-- a name that is locked stands so, and the linktos from a limit on are left of those that were seen
pub record IsLeft (l : Location) (found : Option Place) (linktos : List Linkto) (limit : ℕ)
    (s : Scene) : Type 0 where
  pub bricks : s.disk.count ≡ l.bricks
  pub holds : HoldsName s (entry_at l)
  pub stands : NameStands s (entry_at l) (found_shape found)
  pub left : (b : ℕ)
      → b < l.bricks → linkto_there s.disk b (entry_at l) ≡ is_left linktos limit b

-- so it is from this brick on, and one was seen there
pub record Sweeps (found : Option Place) (x : Sweep) (s : Scene) : Type 0 where
  pub name : IsLeft x.location found x.linktos x.brick.0 s
  pub there : x.brick.0 < x.location.bricks
  pub seen : has_linkto (linkto_at x.linktos x.brick.0) ≡ true

-- a name that is locked stands so, and no brick has a linkto there
pub record IsSwept (l : Location) (found : Option Place) (s : Scene) : Type 0 where
  pub bricks : s.disk.count ≡ l.bricks
  pub holds : HoldsName s (entry_at l)
  pub stands : NameStands s (entry_at l) (found_shape found)
  pub none : (b : ℕ) → b < s.disk.count → linkto_there s.disk b (entry_at l) ≡ false

-- what a section that is held knows beside linktos, and how its name stands: a sweep leaves it true
pub record IsKept (l : Location) (h : Held) (s : Scene) : Type 0 where
  pub order : IsOrdered h.scope
  pub fresh : IsFresh h.scope s
  pub scope : h.scope ≡ scope_at l
  pub holds : AllHeld h.scope (length h.scope.keys) s
  pub read : Reads l.directory (held_looked h (entry_at l)).sight s
  pub whole : length (held_layout h (entry_at l)) ≡ h.scope.bricks

-- ---- where it is

-- the request that a brick drops its linkto at a name
abbrev pub drop_ask : Location → BrickNo → Ask
drop_ask l b = record { brick = b; request = OnNames (DropLinkto l.directory l.name) }

-- where it is between its requests, under the locks
-- of the call that runs it, of a name that stands so
abbrev pub sweep_stage : List Lock → Option Place → Sweep → Stage
sweep_stage locks found x = record {
  asks = drop_ask x.location x.brick;
  claims = claims_locks locks;
  variant = x.location.bricks - x.brick.0;
  knows = λ s. Sweeps found x s;
}

-- under no locks
abbrev pub lone_sweep : Sweep → Stage
lone_sweep x = sweep_stage [] None x

abbrev pub lone_swept : Option Errno → Ending
lone_swept fault = part_ending [] (λ s. Unit {0}) fault

-- ---- its beginning

-- the first of so many bricks, from this one on, of which a linkto was seen
unfoldable pub first_from : List Linkto → ℕ → ℕ → Option BrickNo
first_from linktos b zero = None
first_from linktos b (suc more) =
    if has_linkto (linkto_at linktos b)
    then Some (record { 0 = b })
    else first_from linktos (suc b) more

abbrev pub next_linkto : ℕ → List Linkto → ℕ → Option BrickNo
next_linkto bricks linktos from = first_from linktos from (bricks - from)

abbrev pub sweep_at : Location → List Linkto → Option BrickNo → Option Sweep
sweep_at l linktos None = None
sweep_at l linktos (Some b) = Some (record { location = l; linktos = linktos; brick = b })

-- the sweep of a name whose section is held, if a linkto was seen there
abbrev pub seen_linktos : Location → Held → List Linkto
seen_linktos l h = (held_looked h (entry_at l)).sight.linktos

abbrev pub first_sweep : Location → Held → Option Sweep
first_sweep l h = sweep_at l (seen_linktos l h) (next_linkto l.bricks (seen_linktos l h) 0)

-- ---- how a reply takes it on

abbrev pub sweep_next : Sweep → Option BrickNo
sweep_next x = next_linkto x.location.bricks x.linktos (x.brick.0 + 1)

abbrev pub swept_to : Sweep → Option BrickNo → Turn Sweep (Option Errno)
swept_to x None = Done None
swept_to x (Some b) = Go (record { location = x.location; linktos = x.linktos; brick = b })

abbrev pub sweep_unless : Option Errno → Sweep → Reply → Turn Sweep (Option Errno)
sweep_unless (Some e) x r = Done (Some e)
sweep_unless None x r = if is_carried (reply_kind r) then swept_to x (sweep_next x) else Go x

abbrev pub sweep_after : Sweep → Reply → Turn Sweep (Option Errno)
sweep_after x r = sweep_unless (fault_of r) x r
