-- The section of a name that is a directory's: that directory's lock is
-- taken alone, beside the lock of the directory in which the name stands.
use Rattle.std.specs.Prelude.{ℕ, ◌≡◌, nat_lt, if◌then◌else◌, List, [], ◌∷◌, length}
use Rattle.dht_types.specs.declared.identifiers.Gfid.{Gfid}
use Rattle.dht_types.specs.declared.locks.Key.TheVariants.{Dir, Entry as Name}
use Rattle.dht_types.specs.declared.locks.Mode.TheVariants.{Shared, Exclusive}
use Rattle.dht_section.specs.Looks.{not_looked, with_at}
use Rattle.dht_section.specs.Want.{Scoped, name_at}
use Rattle.dht_section.specs.declared.section.Prepared.{Prepared}

-- of two directories the one whose lock comes first, and the other
abbrev pub lower : Gfid → Gfid → Gfid
lower d g = if nat_lt g.0 d.0 then g else d

abbrev pub upper : Gfid → Gfid → Gfid
upper d g = if nat_lt g.0 d.0 then d else g

-- what is locked and looked at for a name of directory d that is directory g
abbrev pub pair_scope : ℕ → Gfid → Gfid → List ℕ → Scoped
pair_scope bricks d g n = record {
  bricks = bricks;
  dirs = (d, Shared) ∷ (g, Exclusive) ∷ [];
  keys = Dir (lower d g) ∷ Dir (upper d g) ∷ Name d n ∷ [];
  names = (d, n) ∷ [];
}

-- its section, before it begins, where the name's directory is not known: that in which it stands
-- takes its place
abbrev pub pair_room : ℕ → Gfid → List ℕ → Prepared
pair_room bricks d n = record { scope = pair_scope bricks d d n; looks = not_looked ∷ [] }

-- with the directory g in its place, in the locks' order
abbrev pub aimed_scope : Scoped → Gfid → Scoped
aimed_scope w g = record {
  bricks = w.bricks;
  dirs = with_at w.dirs 1 (g, Exclusive);
  keys =
      with_at (with_at w.keys 0 (Dir (lower (name_at w 0).0 g))) 1 (Dir (upper (name_at w 0).0 g));
  names = w.names;
}

abbrev pub aimed_pair : Prepared → Gfid → Prepared
aimed_pair p g = record { scope = aimed_scope p.scope g; looks = p.looks }

-- the memory is that of the section of this name, whatever directory it was aimed at
abbrev pub IsPairRoom : ℕ → Gfid → List ℕ → Prepared → Type 0
IsPairRoom bricks d n p =
    ((g : Gfid) × (p.scope ≡ pair_scope bricks d g n)) × (length p.looks ≡ 1)
