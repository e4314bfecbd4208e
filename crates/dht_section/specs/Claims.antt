-- What a client's program claims of the scene, for the invariant to speak
-- of: the locks that it asked for, and up to where it has copied a file.
use Rattle.std.specs.Prelude.{ℕ, ◌<◌, ◌≤◌, ◌≡◌, ◌⊎◌, ◌&&◌, true, nat_eq, if◌then◌else◌, Option, Some, None, List, [], ◌∷◌}
use Rattle.std.specs.Ordering.{nat_cmp, ordering_then, is_lt}
use Rattle.std.specs.Cmp.Lexicographic.{slice_cmp}
use Rattle.std.specs.declared.cmp.Ordering.{Ordering}
use Rattle.dht_types.specs.Gfid.{same_gfid}
use Rattle.dht_types.specs.declared.identifiers.Gfid.{Gfid}
use Rattle.dht_types.specs.declared.locks.Key.{Key}
use Rattle.dht_types.specs.declared.locks.Key.TheVariants.{Rebalance, Dir, Entry as Name, Content}
use Rattle.dht_types.specs.declared.locks.Mode.{Mode}

-- a lock, and the brick on which it stands
pub record Lock : Type 0 where
  pub brick : ℕ
  pub key : Key

-- a copy that is being made: the file, the brick on which
-- its copy stands, and the place up to which they agree
pub record Copy : Type 0 where
  pub file : Gfid
  pub dest : ℕ
  pub place : ℕ

pub record Claim : Type 0 where
  pub locks : List Lock  -- the last that was asked for first
  pub copy : Option Copy

-- most programs claim no copy; a client that is idle or dead claims nothing
abbrev pub no_claim : Claim
no_claim = record { locks = []; copy = None }

abbrev pub claims_locks : List Lock → Claim
claims_locks locks = record { locks = locks; copy = None }

-- the lock is one of these
abbrev pub Listed : List Lock → ℕ → Key → Type 0
Listed [] b key = ⊥
Listed (l ∷ ls) b key = ((l.brick ≡ b) × (l.key ≡ key)) ⊎ Listed ls b key

-- up to where a program that copies this has copied a file to a brick
abbrev pub place_in : Option Copy → Gfid → ℕ → ℕ
place_in None f dest = 0
place_in (Some c) f dest = if same_gfid c.file f && nat_eq c.dest dest then c.place else 0

-- and up to where each client's program has
abbrev pub places_of : (ℕ → Claim) → Gfid → ℕ → ℕ → ℕ
places_of claims f dest client = place_in (claims client).copy f dest

-- what a program may claim next, where it holds these
-- locks: at least those; and of a copy no more than before
pub record MayClaim (count : ℕ) (holds : ℕ → Key → Option Mode) (old new : Claim) : Type 0 where
  pub locks :
      (b : ℕ) (key : Key) (m : Mode) → b < count → holds b key ≡ Some m → Listed new.locks b key
  pub copy : (f : Gfid) (dest : ℕ) → place_in new.copy f dest ≤ place_in old.copy f dest

-- the rank of a lock: by kind, then by gfid, then by name
abbrev pub kind_rank : Key → ℕ
kind_rank Rebalance = 0
kind_rank (Dir g) = 1
kind_rank (Name g n) = 2
kind_rank (Content f) = 3

abbrev pub gfid_rank : Key → ℕ
gfid_rank Rebalance = 0
gfid_rank (Dir g) = g.0
gfid_rank (Name g n) = g.0
gfid_rank (Content f) = f.0

abbrev pub name_rank : Key → List ℕ
name_rank (Name g n) = n
name_rank key = []

abbrev pub rank_cmp : Key → Key → Ordering
rank_cmp a b =
    ordering_then (nat_cmp (kind_rank a) (kind_rank b))
    (ordering_then (nat_cmp (gfid_rank a) (gfid_rank b))
    (slice_cmp nat_cmp (name_rank a) (name_rank b)))

-- a key is above each lock of a list
abbrev pub IsAbove : Key → List Lock → Type 0
IsAbove key [] = Unit {0}
IsAbove key (l ∷ ls) = (is_lt (rank_cmp l.key key) ≡ true) × IsAbove key ls

-- the lock that is asked for next is claimed already, the last of all, and is above the others
pub record AsksFirst (c : Claim) (b : ℕ) (key : Key) : Type 0 where
  pub before : List Lock
  pub first : c.locks ≡ record { brick = b; key = key } ∷ before
  pub above : IsAbove key before
