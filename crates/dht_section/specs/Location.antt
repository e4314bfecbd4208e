-- The name of a call, and the section of it.
use Rattle.std.specs.Prelude.{ℕ, ◌≡◌, List}
use Rattle.dht_types.specs.Gfid.{Entry}
use Rattle.dht_types.specs.declared.identifiers.Gfid.{Gfid}
use Rattle.dht_types.specs.declared.locks.Mode.TheVariants.{Shared}
use Rattle.dht_section.specs.Scene.{Scene}
use Rattle.dht_section.specs.Section.{IsHeld, begun, prepared_for, scope_of_name}
use Rattle.dht_section.specs.Want.{Scoped}
use Rattle.dht_section.specs.declared.location.Location.{Location}
use Rattle.dht_section.specs.declared.section.Held.{Held}
use Rattle.dht_section.specs.declared.section.Prepared.{Prepared}
use Rattle.dht_section.specs.declared.section.Section.{Section}

-- a name in a directory, of a volume of so many bricks
abbrev pub located : ℕ → Gfid → List ℕ → Location
located bricks d n = record { directory = d; name = n; bricks = bricks }

-- the name in its directory
abbrev pub entry_at : Location → Entry
entry_at l = (l.directory, l.name)

-- what its section locks and looks at
abbrev pub scope_at : Location → Scoped
scope_at l = scope_of_name l.bricks l.directory Shared l.name

-- the section, before it begins, and before its first request
abbrev pub prepared_at : Location → Prepared
prepared_at l = prepared_for l.bricks l.directory Shared l.name

abbrev pub section_at : Location → Section
section_at l = begun (prepared_at l)

-- the section is held, and is that of the name
pub record IsHeldAt (l : Location) (h : Held) (s : Scene) : Type 0 where
  pub held : IsHeld h s
  pub scope : h.scope ≡ scope_at l
