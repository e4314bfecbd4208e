-- The bricks of a world: what they contain, their journals, and that they are ready.
use Rattle.std.specs.Prelude.{ℕ, suc, ◌-◌, ◌≡◌, ◌≢◌, ◌<◌, ◌≤◌, ◌↔◌, ◌⊎◌, Bool, true, false, not, if◌then◌else◌, Option, Some, None, List, [], ◌∷◌, ◌++◌, map, option_map, length, slice_get, nat_eq}
use Rattle.std.specs.FinMap.{empty}
use Rattle.dht_types.specs.Gfid.{Entry, root}
use Rattle.dht_types.specs.History.{History, Act, Owed, IsDue, is_change, is_dir_change, slot_of, with_line}
use Rattle.dht_types.specs.Volume.{VolumeInfo, replay_info, replay_names}
use Rattle.dht_types.specs.declared.lines.Line.{Line}
use Rattle.dht_types.specs.declared.lines.Line.TheVariants.{Tree}
use Rattle.dht_xattr.specs.Plan.{planned_value}
use Rattle.dht_brick.specs.Bricks.{BrickState, IsNewborn, ServesOrFails, is_unreachable, unless_down}
use Rattle.dht_brick.specs.Contents.{Contents, newborn, no_opens, no_locks}
use Rattle.dht_brick.specs.Events.{freed, remounted}
use Rattle.dht_brick.specs.Named.{entry_of}
use Rattle.dht_brick.specs.Memory.{NeverTakesMemory}
use Rattle.dht_brick.specs.Rows.{row}
use Rattle.dht_brick.specs.declared.journal.JournalEntry.{JournalEntry}
use Rattle.dht_brick.specs.declared.replies.Reply.{Reply}
use Rattle.dht_brick.specs.declared.replies.Reply.TheVariants.{Down, Failed, NoMemory}
use Rattle.dht_section.specs.declared.machine.Ask.{Ask}
use Rattle.dht_types.specs.Put.{put}
use Rattle.dht_types.specs.declared.identifiers.ClientNo.{ClientNo}
use Rattle.dht_types.specs.declared.identifiers.CallNo.{CallNo}
use Rattle.dht_section.specs.Disk.{Disk, ChangesOneBrick}

-- where there is no brick there is nothing
abbrev pub nothing : Contents
nothing = record {
  store = record { dirs = empty; slots = empty; files = empty };
  opens = no_opens;
  locks = no_locks;
}

abbrev pub contents_at : {B : Type 0} → (B → BrickState) → Option B → Contents
contents_at state None = nothing
contents_at state (Some b) = (state b).contents

abbrev pub journal_at : {B : Type 0} → (B → BrickState) → Option B → List JournalEntry
journal_at state None = []
journal_at state (Some b) = (state b).journal

-- the bricks, by what each contains
abbrev pub disk_of : {B : Type 0} → (B → BrickState) → List B → Disk
disk_of state bricks = record {
  count = length bricks;
  brick = λ i. contents_at state (slice_get bricks i);
}

-- and by what each served
abbrev pub journals_of : {B : Type 0} → (B → BrickState) → List B → ℕ → List JournalEntry
journals_of state bricks i = journal_at state (slice_get bricks i)

-- a brick of a replay over this volume: it has this number,
-- it is up or not, it never fails, and it knows the volume
pub record IsReady (v : VolumeInfo) (is_up : Bool) (b : ℕ) (s : BrickState) : Type 0 where
  pub number : s.number ≡ b
  pub up : s.is_up ≡ is_up
  pub unarmed : s.is_armed ≡ false
  pub faultless : s.is_faultless ≡ true
  pub volume : s.volume ≡ v

abbrev pub ReadyAt : {B : Type 0} → (B → BrickState) → VolumeInfo → Bool → ℕ → Option B → Type 0
ReadyAt state v is_up b None = Unit {0}
ReadyAt state v is_up b (Some brick) = IsReady v is_up b (state brick)

-- the volume of so many bricks of a replay, of these weights in this run
abbrev pub volume_of : ℕ → List ℕ → ℕ → VolumeInfo
volume_of count ws run = record { names = replay_names count; weights = ws; run = run }

-- each brick is ready: its number is its place, it is up unless it is one of those
-- that are down, and it knows the volume of these bricks, of these weights in this run
abbrev pub AreReady :
    {B : Type 0} → (B → BrickState) → List ℕ → ℕ → (down : ℕ → Bool) → List B → Type 0
AreReady state ws run down bricks =
    (b : ℕ) → ReadyAt state (volume_of (length bricks) ws run) (not (down b)) b (slice_get bricks b)

-- no brick is down
abbrev pub none_down : ℕ → Bool
none_down b = false

-- an entry, as a step line tells it
abbrev pub act_of : JournalEntry → Act
act_of e = record { client = e.client; call = e.call; request = e.request; reply = e.reply }

-- the slots of the requests that changed the tree
abbrev pub changed_slots : List JournalEntry → List Entry
changed_slots [] = []
changed_slots (e ∷ es) =
    if is_change e.request e.reply then (e.gfid, e.name) ∷ changed_slots es else changed_slots es

-- and of those that made or dropped a copy of a directory
abbrev pub copied_slots : List JournalEntry → List Entry
copied_slots [] = []
copied_slots (e ∷ es) =
    if is_dir_change e.request e.reply then (e.gfid, e.name) ∷ copied_slots es else copied_slots es

-- the first list is the second without some of its elements
abbrev pub IsSublist : {A : Type 0} → List A → List A → Type 0
IsSublist [] ys = Unit {0}
IsSublist (x ∷ xs) [] = ⊥
IsSublist (x ∷ xs) (y ∷ ys) = ((x ≡ y) × IsSublist xs ys) ⊎ IsSublist (x ∷ xs) ys

-- each brick's journal is, in order, its step lines, and the tree lines under them are of
-- its entries' slots: of each that changed a file's name, and of some that made or
-- dropped a copy of a directory, which is a step of the tree only at the directory's home
pub record Logged (journals : ℕ → List JournalEntry) (s : History) : Type 0 where
  pub steps : (b : ℕ) → map act_of (journals b) ≡ s.acts b
  pub slots : (b : ℕ) → changed_slots (journals b) ≡ s.changes b
  pub dirs : (b : ℕ) → IsSublist (s.dir_changes b) (copied_slots (journals b))

-- the entry of what a brick has served last by then
abbrev pub last_entry : (ℕ → List JournalEntry) → History → ℕ → Option JournalEntry
last_entry journals s b = slice_get (journals b) (length (s.acts b) - 1)

-- a tree line is of the slot that the entry of the request above it names
abbrev pub IsNoted : (ℕ → List JournalEntry) → History → Line → Type 0
IsNoted journals s (Tree k step) = (w : Owed)
    → IsDue s.owed s.allowed w
    → option_map (λ e. (e.gfid, e.name)) (last_entry journals s w.brick) ≡ Some (slot_of step)
IsNoted journals s line = Unit {0}

abbrev pub AreNoted : (ℕ → List JournalEntry) → History → List Line → Type 0
AreNoted journals s [] = Unit {0}
AreNoted journals s (line ∷ lines) =
    IsNoted journals s line × AreNoted journals (with_line s line) lines

-- a new brick of this number, in a volume of these weights: it has the
-- root's record alone, with the range that is planned for the brick
abbrev pub new_brick : List ℕ → ℕ → Contents
new_brick ws b = newborn (planned_value ws root b)

-- the bricks of a volume of these weights are new, and have served nothing
pub record AreNewborn (ws : List ℕ) (d : Disk) (js : ℕ → List JournalEntry) : Type 0 where
  pub contents : (b : ℕ) → b < d.count → d.brick b ≡ new_brick ws b
  pub elsewhere : (b : ℕ) → d.count ≤ b → d.brick b ≡ nothing
  pub journals : (b : ℕ) → js b ≡ []

-- a brick from which a client's locks and registrations were taken away
abbrev pub without_client : ℕ → BrickState → BrickState
without_client c s = record s { contents = freed c s.contents }

-- a new brick of a replay over this volume: it has this number, its root has this attribute, and
-- it fails only where it is armed
pub record IsNew (v : VolumeInfo) (value : Option (List ℕ)) (b : ℕ) (s : BrickState) : Type 0 where
  pub newborn : IsNewborn b v value s
  pub faultless : s.is_faultless ≡ true

-- the bricks are new, the first of them has this number, and
-- the root of each has the attribute that is meant for it
abbrev pub AreNew : {B : Type 0} → (B → BrickState) → VolumeInfo
    → (value : ℕ → Option (List ℕ)) → ℕ → List B → Type 0
AreNew state v value n [] = Unit {0}
AreNew state v value n (b ∷ bricks) =
    IsNew v (value n) n (state b) × AreNew state v value (suc n) bricks

-- no range is meant for a brick
abbrev pub no_range : ℕ → Option (List ℕ)
no_range b = None

-- the bricks that come to so many where these weights are mounted in this run: each has the root's
-- record alone, without a range
pub record AreFresh {B : Type 0} (state : B → BrickState)
    (count : ℕ) (ws : List ℕ) (run : ℕ) (fresh : List B) : Type 0 where
  pub many : length fresh ≡ length ws - count
  pub new : AreNew state (replay_info ws run) no_range count fresh

-- a brick that was mounted anew, and knows this volume
abbrev pub remounted_in : VolumeInfo → BrickState → BrickState
remounted_in v s = record s { contents = remounted s.contents; volume = v }

-- each of these became so, or stayed as it was
abbrev pub SomeBecame : {A : Type 0} → (A → A) → (old new : List A) → Type 0
SomeBecame f [] [] = Unit {0}
SomeBecame f (x ∷ xs) (y ∷ ys) = ((y ≡ x) ⊎ (y ≡ f x)) × SomeBecame f xs ys
SomeBecame f xs ys = ⊥

-- each brick is ready, in one volume or the other
abbrev pub AreReadyInEither : {B : Type 0} → (B → BrickState) → (v w : VolumeInfo)
    → (down : ℕ → Bool) → List B → Type 0
AreReadyInEither state v w down bricks = (b : ℕ)
    → ReadyAt state v (not (down b)) b (slice_get bricks b)
    ⊎ ReadyAt state w (not (down b)) b (slice_get bricks b)

-- one brick answered a request: that it is down, exactly where it is
-- and the request is no unlock; else by its row, or memory ran out. It
-- noted what it answered, unless it is down. The others did not change
pub record ServedAt {B : Type 0} (state : B → BrickState) (down : ℕ → Bool) (c : ClientNo)
    (k : CallNo) (a : Ask) (old : List B) (r : Reply) (new : List B) : Type 0 where
  pub after : Contents
  pub served :
      ServesOrFails
      (row (replay_names (length old)) c k a.request ((disk_of state old).brick a.brick.0))
      ((disk_of state old).brick a.brick.0) r after
  pub is_down : (r ≡ Down) ↔ (is_unreachable (not (down a.brick.0)) a.request ≡ true)
  pub sound : r ≢ Failed
  pub memory : NeverTakesMemory a.request → r ≢ NoMemory
  pub changes : ChangesOneBrick (disk_of state old) a.brick.0 after (disk_of state new)
  pub noted :
      journals_of state new
      ≡ put nat_eq (journals_of state old) a.brick.0
      (unless_down r (journals_of state old a.brick.0)
      (journals_of state old a.brick.0 ++ entry_of c k a.request r ∷ []))
