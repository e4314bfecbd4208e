-- What a section is wanted for, and what it then locks and looks at.
use Rattle.std.specs.Prelude.{ℕ, zero, suc, ◌<◌, ◌≡◌, ◌&&◌, ◌==◌, Bool, true, false, if◌then◌else◌, List, [], ◌∷◌, ◌++◌, length, map, slice_index_or, Contains, Option, bytes_eq, position}
use Rattle.std.specs.List.{list_any}
use Rattle.std.specs.List.Sorted.{IsStrictlySortedBy}
use Rattle.std.specs.Ordering.{nat_cmp, ordering_then, is_lt}
use Rattle.std.specs.Cmp.Lexicographic.{slice_cmp}
use Rattle.std.specs.declared.cmp.Ordering.{Ordering}
use Rattle.dht_types.specs.Gfid.{Entry, root, anchor, same_gfid}
use Rattle.dht_types.specs.declared.identifiers.Gfid.{Gfid}
use Rattle.dht_types.specs.declared.locks.Key.{Key}
use Rattle.dht_types.specs.declared.locks.Key.TheVariants.{Rebalance, Dir, Entry as Name}
use Rattle.dht_types.specs.declared.locks.Mode.{Mode}
use Rattle.dht_types.specs.declared.locks.Mode.TheVariants.{Shared, Exclusive}
use Rattle.dht_section.specs.Claims.{rank_cmp}
use Rattle.dht_section.specs.Claims.{Lock as ALock}

-- directories, each with the mode of its lock, and names in them
pub record Wanted : Type 0 where
  pub dirs : List (Gfid × Mode)
  pub names : List Entry

-- what is locked and looked at, in order and each once, of a volume of so many bricks; the
-- directories are as they were wanted
pub record Scoped : Type 0 where
  pub bricks : ℕ
  pub dirs : List (Gfid × Mode)
  pub keys : List Key
  pub names : List Entry

abbrev pub dir_key : Gfid × Mode → Key
dir_key d = Dir d.0

abbrev pub name_key : Entry → Key
name_key e = Name e.0 e.1

-- the keys of the locks, as they were wanted
abbrev pub keys_of : List (Gfid × Mode) → List Entry → List Key
keys_of dirs names = map dir_key dirs ++ map name_key names

-- by the directories' gfids, and then by the names' bytes
abbrev pub entry_cmp : Entry → Entry → Ordering
entry_cmp a b = ordering_then (nat_cmp a.0.0 b.0.0) (slice_cmp nat_cmp a.1 b.1)

-- a list is in order, each element once, and has the same elements
pub record IsSorting {A : Type 0} (cmp : A → A → Ordering) (old new : List A) : Type 0 where
  pub sorted : IsStrictlySortedBy cmp new
  pub kept : (x : A) → Contains old x → Contains new x
  pub none_added : (x : A) → Contains new x → Contains old x

-- what is locked and looked at for what was wanted
pub record IsScope (bricks : ℕ) (want : Wanted) (w : Scoped) : Type 0 where
  pub count : w.bricks ≡ bricks
  pub modes : w.dirs ≡ want.dirs
  pub locks : IsSorting rank_cmp (keys_of want.dirs want.names) w.keys
  pub looks : IsSorting entry_cmp want.names w.names

-- ---- what stands at a place

abbrev pub key_at : Scoped → ℕ → Key
key_at w i = slice_index_or w.keys i Rebalance

abbrev pub name_at : Scoped → ℕ → Entry
name_at w n = slice_index_or w.names n (record { 0 = 0 }, [])

-- the place of a name, if it is one of the names
abbrev pub is_name : Entry → Entry → Bool
is_name e x = same_gfid x.0 e.0 && bytes_eq x.1 e.1

abbrev pub place_of : Scoped → Entry → Option ℕ
place_of w e = position (is_name e) w.names

-- the mode of a lock: a directory that is wanted in both modes is locked alone, and so is each name
abbrev pub is_exclusive : Mode → Bool
is_exclusive Exclusive = true
is_exclusive Shared = false

abbrev pub is_alone : Gfid → Gfid × Mode → Bool
is_alone g d = same_gfid d.0 g && is_exclusive d.1

abbrev pub dir_mode : List (Gfid × Mode) → Gfid → Mode
dir_mode dirs g = if list_any (is_alone g) dirs then Exclusive else Shared

abbrev pub mode_of : Scoped → Key → Mode
mode_of w (Dir g) = dir_mode w.dirs g
mode_of w key = Exclusive

-- the directory of a lock, and the brick on which the lock stands
abbrev pub dir_of : Key → Gfid
dir_of (Dir g) = g
dir_of (Name g n) = g
dir_of key = root

abbrev pub lock_brick : Scoped → Key → ℕ
lock_brick w key = if w.bricks == 0 then 0 else anchor (dir_of key) w.bricks

-- the lock at a place, and those below it, the last first
abbrev pub lock_in : Scoped → ℕ → ALock
lock_in w i = record { brick = lock_brick w (key_at w i); key = key_at w i }

unfoldable pub claimed : Scoped → ℕ → List ALock
claimed w zero = []
claimed w (suc i) = lock_in w i ∷ claimed w i

-- ---- what is known of it

-- the lock is a directory's or a name's
abbrev pub IsGuard : Key → Type 0
IsGuard (Dir g) = Unit {0}
IsGuard (Name g n) = Unit {0}
IsGuard key = ⊥

-- some lock is one of these keys
abbrev pub HasKey : Scoped → Key → Type 0
HasKey w key = (i : ℕ) × (i < length w.keys) × (key_at w i ≡ key)

-- there is a lock, each is above those before it, and each name has its own and its directory's
pub record IsOrdered (w : Scoped) : Type 0 where
  pub some : 0 < length w.keys
  pub kinds : (i : ℕ) → i < length w.keys → IsGuard (key_at w i)
  pub above :
      (i j : ℕ) → i < j → j < length w.keys → is_lt (rank_cmp (key_at w i) (key_at w j)) ≡ true
  pub named : (n : ℕ) → n < length w.names → HasKey w (name_key (name_at w n))
  pub housed : (n : ℕ) → n < length w.names → HasKey w (Dir (name_at w n).0)

-- something is wanted, and the directory of each name
pub record IsWhole (want : Wanted) : Type 0 where
  pub some : 0 < length want.dirs
  pub housed : (e : Entry) → Contains want.names e → Contains (map dir_key want.dirs) (Dir e.0)

-- what is locked and looked at for one name: its directory, in this mode, and then the name
pub record IsOfOne (bricks : ℕ) (g : Gfid) (mode : Mode) (n : List ℕ) (w : Scoped) : Type 0 where
  pub count : w.bricks ≡ bricks
  pub modes : w.dirs ≡ (g, mode) ∷ []
  pub locks : w.keys ≡ Dir g ∷ Name g n ∷ []
  pub looks : w.names ≡ (g, n) ∷ []
