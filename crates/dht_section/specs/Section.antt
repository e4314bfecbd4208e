-- What a section asks, claims and knows, and how it ends.
use Rattle.std.specs.Prelude.{ℕ, suc, ◌+◌, ◌-◌, ◌<◌, ◌≤◌, ◌≡◌, ◌≢◌, ◌⊎◌, ◌&&◌, nat_eq, nat_lt, Bool, true, false, if◌then◌else◌, is_some, Option, Some, None, List, length, Contains, replicate, ◌∷◌, [], ◌==◌, slice_index_or}
use Rattle.dht_types.specs.Gfid.{Entry, root, home, anchor}
use Rattle.dht_types.specs.History.{is_carried}
use Rattle.dht_types.specs.Tree.{Node, IsFile, IsDir, Descent}
use Rattle.dht_types.specs.declared.errors.Errno.{Errno}
use Rattle.dht_types.specs.declared.identifiers.BrickNo.{BrickNo}
use Rattle.dht_types.specs.declared.identifiers.Gfid.{Gfid}
use Rattle.dht_types.specs.declared.locks.Key.{Key}
use Rattle.dht_types.specs.declared.locks.Key.TheVariants.{Dir as DirKey, Entry as Name}
use Rattle.dht_types.specs.declared.locks.Mode.{Mode}
use Rattle.dht_hash.specs.DaviesMeyer.{dm}
use Rattle.dht_xattr.specs.Layout.{holder}
use Rattle.dht_xattr.specs.declared.range.Range.{Range}
use Rattle.dht_brick.specs.Kinds.{reply_kind}
use Rattle.dht_brick.specs.Looks.{shape_of}
use Rattle.dht_brick.specs.declared.requests.NameRequest.TheVariants.{Look}
use Rattle.dht_brick.specs.declared.requests.Request.TheVariants.{Lock, Unlock, OnNames}
use Rattle.dht_brick.specs.declared.replies.Reply.{Reply}
use Rattle.dht_section.specs.declared.machine.Ask.{Ask}
use Rattle.dht_section.specs.declared.machine.Turn.{Turn}
use Rattle.dht_section.specs.declared.machine.Turn.TheVariants.{Go, Done}
use Rattle.dht_section.specs.Claims.{Claim, no_claim, claims_locks}
use Rattle.dht_section.specs.Disk.{lock_at, slot_at, file_at, dir_at, range_at}
use Rattle.dht_section.specs.Looks.{sight_with, no_sight, mark_at, linkto_in, linkto_at, not_looked, looked_at, with_looked, is_nodir, looks_left}
use Rattle.dht_section.specs.Replies.{fault_of, is_shown}
use Rattle.dht_section.specs.Planned.{bounds, AllPlanned}
use Rattle.dht_section.specs.Scene.{Scene, NameStands, MayAnswer, fault_finish}
use Rattle.dht_section.specs.Shapes.{NameShape, Bare, Folder, Plain}
use Rattle.dht_section.specs.Stages.{Stage, Ending, MatchTurn}
use Rattle.dht_section.specs.Views.{links_to}
use Rattle.dht_section.specs.Want.{Wanted, Scoped, IsOrdered, IsScope, key_at, name_at, place_of, mode_of, dir_of, lock_brick, claimed}
use Rattle.dht_section.specs.declared.looks.Looked.{Looked}
use Rattle.dht_section.specs.declared.looks.Place.{Place}
use Rattle.dht_section.specs.declared.looks.Sight.{Sight}
use Rattle.dht_section.specs.declared.looks.What.{What}
use Rattle.dht_section.specs.declared.looks.What.TheVariants.{Absent, Dir, File}
use Rattle.dht_section.specs.declared.section.Held.{Held}
use Rattle.dht_section.specs.declared.section.Opened.{Opened}
use Rattle.dht_section.specs.declared.section.Opened.TheVariants.{Held as Holding, Gone as IsGone, Stopped as IsStopped}
use Rattle.dht_section.specs.declared.section.Prepared.{Prepared}
use Rattle.dht_section.specs.declared.section.Section.{Section}
use Rattle.dht_section.specs.declared.section.Section.TheVariants.{Locking, Looking, Unlocking}
use Rattle.dht_section.specs.declared.section.Unheld.{Unheld}
use Rattle.dht_section.specs.declared.section.Unheld.TheVariants.{Gone, Stopped}

-- ---- what it asks

abbrev pub lock_ask : Scoped → ℕ → Ask
lock_ask w i = record {
  brick = record { 0 = lock_brick w (key_at w i) };
  request = Lock (key_at w i) (mode_of w (key_at w i));
}

abbrev pub look_ask : Scoped → ℕ → BrickNo → Ask
look_ask w n b = record { brick = b; request = OnNames (Look (name_at w n).0 (name_at w n).1) }

abbrev pub unlock_ask : Scoped → ℕ → Ask
unlock_ask w i = record {
  brick = record { 0 = lock_brick w (key_at w i) };
  request = Unlock (key_at w i);
}

-- the place of the last lock
abbrev pub last_lock : Scoped → ℕ
last_lock w = length w.keys - 1

-- what is claimed where all locks are held
abbrev pub all_claimed : Scoped → Claim
all_claimed w = claims_locks (claimed w (suc (last_lock w)))

-- ---- what it knows

-- the volume has so many bricks, and the home of the directory of each name is one of them
pub record HasScope (w : Scoped) (s : Scene) : Type 0 where
  pub bricks : length s.history.weights ≡ w.bricks
  pub homes : (n : ℕ) → n < length w.names → home (name_at w n).0 < w.bricks

-- and the call has done no step
pub record IsFresh (w : Scoped) (s : Scene) : Type 0 where
  pub scope : HasScope w s
  pub deeds : s.mine.deeds ≡ None

-- the scene in which a section of what is wanted begins
pub record MayBegin (bricks : ℕ) (want : Wanted) (s : Scene) : Type 0 where
  pub count : length s.history.weights ≡ bricks
  pub homes : (e : Entry) → Contains want.names e → home e.0 < bricks
  pub deeds : s.mine.deeds ≡ None

-- the locks below a place are held, each in its mode
abbrev pub HoldsKey : Scoped → Key → Scene → Type 0
HoldsKey w key s = lock_at s.disk (dir_of key) key s.who ≡ Some (mode_of w key)

abbrev pub AllHeld : Scoped → ℕ → Scene → Type 0
AllHeld w i s = (j : ℕ) → j < i → HoldsKey w (key_at w j) s

-- how a name stands that is this file's, or nobody's
abbrev pub found_shape : Option Place → NameShape
found_shape None = Bare
found_shape (Some p) = Plain p.brick.0 p.file

-- how a name stands that was seen to be this: a directory has copies on some bricks
abbrev pub StandsSeen : Entry → What → Scene → Type 0
StandsSeen e Absent s = NameStands s e Bare
StandsSeen e (Dir g) s = (on : ℕ → Bool) × NameStands s e (Folder g on)
StandsSeen e (File f b links) s = NameStands s e (Plain b.0 f)

-- what the tree has at it
abbrev pub node_seen : What → Option Node
node_seen Absent = None
node_seen (Dir g) = Some (IsDir g)
node_seen (File f b links) = Some (IsFile f)

-- what the bricks below a limit show of a name that is this: a file's brick shows it, a directory's
-- home, and perhaps other bricks
abbrev pub ShownBelow : ℕ → What → What → Type 0
ShownBelow limit Absent shown = shown ≡ Absent
ShownBelow limit (Dir g) shown = (shown ≡ Dir g) ⊎ ((shown ≡ Absent) × (limit ≤ home g))
ShownBelow limit (File f b links) shown =
    ((b.0 < limit) × (shown ≡ File f b links)) ⊎ ((limit ≤ b.0) × (shown ≡ Absent))

-- this stands at the name, and that is what the bricks below the limit showed of it
pub record Saw (e : Entry) (limit : ℕ) (shown : What) (s : Scene) : Type 0 where
  pub full : What
  pub stands : StandsSeen e full s
  pub shows : ShownBelow limit full shown

-- a brick has a copy of the directory, with the range that was read, but for its commit word
pub record HasCopy (g : Gfid) (read : Option Range) (b : ℕ) (s : Scene) : Type 0 where
  pub there : is_some (dir_at s.disk b g) ≡ true
  pub same : bounds read ≡ bounds (range_at s.disk g b)

-- a brick, not the home, had no copy of a directory, not the root, so no range
-- was read: it has none still, or all ranges of the directory are planned
pub record HadNoCopy (g : Gfid) (read : Option Range) (b : ℕ) (s : Scene) : Type 0 where
  pub below : g ≢ root
  pub away : b ≢ home g
  pub nothing : read ≡ None
  pub still : (dir_at s.disk b g ≡ None) ⊎ AllPlanned s.disk s.history.weights g

-- what was read on a brick, by the mark that says whether it had a copy
abbrev pub ReadAt : Gfid → Bool → Option Range → ℕ → Scene → Type 0
ReadAt g true read b s = HasCopy g read b s
ReadAt g false read b s = HadNoCopy g read b s

-- so was the directory read on each of the first bricks
abbrev pub Reads : Gfid → Sight → Scene → Type 0
Reads g x s = (b : ℕ)
    → b < length x.layout → ReadAt g (mark_at x.copies b) (slice_index_or x.layout b None) b s

-- at this line the tree had this at the name, and the call was running
pub record SawAt (e : Entry) (x : Looked) (s : Scene) : Type 0 where
  pub after : s.mine.since ≤ x.at
  pub before : x.at ≤ s.history.size
  pub directory : (s.history.past x.at).dirs e.0 ≡ true
  pub node : (s.history.past x.at).names e ≡ node_seen x.sight.what
  -- its directory was as deep as it is
  pub descent : Descent
  pub was : (s.history.past x.at).descents e.0 ≡ Some descent
  pub is : s.history.tree.descents e.0 ≡ Some descent

-- a brick's linkto at the name leads where it was seen to lead, or there is none
pub record BrickShown (e : Entry) (x : Sight) (b : ℕ) (s : Scene) : Type 0 where
  pub there : b < s.disk.count
  pub linkto : linkto_at x.linktos b
      ≡ linkto_in (length s.history.weights) (slot_at s.disk b e).main

-- the file that was seen is at the name on its brick, and was moved so often
pub record FileShown (e : Entry) (b : ℕ) (f : Gfid) (hop : ℕ) (s : Scene) : Type 0 where
  pub there : b < s.disk.count
  pub link : links_to f (slot_at s.disk b e) ≡ true
  pub moved : hop ≡ (shape_of (file_at s.disk b f)).hop

abbrev pub WhatShown : Entry → What → ℕ → Scene → Type 0
WhatShown e (File f b links) hop s = FileShown e b.0 f hop s
WhatShown e what hop s = Unit {0}

-- there is a place for each brick
abbrev pub HasRoom : Sight → Type 0
HasRoom x = (length x.linktos ≡ 32) × (length x.copies ≡ 32)

-- so was each of the bricks below a limit
pub record Shown (e : Entry) (x : Sight) (limit : ℕ) (s : Scene) : Type 0 where
  pub room : HasRoom x
  pub bricks : (b : ℕ) → b < limit → BrickShown e x b s
  pub file : WhatShown e x.what x.hop s

-- unless the name is a directory's: bricks may get copies of that
abbrev pub ShownOf : What → Entry → Sight → ℕ → Scene → Type 0
ShownOf (Dir g) e x limit s = HasRoom x
ShownOf what e x limit s = Shown e x limit s

-- the name stands as it was seen, and did at the last look's line; and the directory as it was read
pub record IsLooked (bricks : ℕ) (e : Entry) (x : Looked) (s : Scene) : Type 0 where
  pub stands : StandsSeen e x.sight.what s
  pub read : Reads e.0 x.sight s
  pub whole : length x.sight.layout ≡ bricks
  pub shown : ShownOf x.sight.what e x.sight bricks s
  pub saw : SawAt e x s

-- so do all names below a place
abbrev pub AllLooked : Scoped → ℕ → List Looked → Scene → Type 0
AllLooked w n looks s = (j : ℕ) → j < n → IsLooked w.bricks (name_at w j) (looked_at looks j) s

-- the locks below this one are held
pub record LockingKnows (w : Scoped) (i : ℕ) (looks : List Looked) (s : Scene) : Type 0 where
  pub order : IsOrdered w
  pub fresh : IsFresh w s
  pub within : i < length w.keys
  pub room : length looks ≡ length w.names
  pub holds : AllHeld w i s

-- all are, and the names below this one were looked at, and this one on the bricks below this brick
pub record LookingKnows (w : Scoped) (looks : List Looked) (n : ℕ) (b : BrickNo) (x : Sight)
    (s : Scene) : Type 0 where
  pub order : IsOrdered w
  pub fresh : IsFresh w s
  pub name : n < length w.names
  pub within : b.0 < w.bricks
  pub room : length looks ≡ length w.names
  pub holds : AllHeld w (length w.keys) s
  pub saw : Saw (name_at w n) b.0 x.what s
  pub read : Reads (name_at w n).0 x s
  pub whole : length x.layout ≡ b.0
  pub shown : ShownOf saw.full (name_at w n) x b.0 s
  pub looked : AllLooked w n looks s

-- the locks above this one were given back, and this is earned
pub record UnlockingKnows (w : Scoped) (i : ℕ) (right : Scene → Type 0) (s : Scene) : Type 0 where
  pub order : IsOrdered w
  pub scope : HasScope w s
  pub within : i < length w.keys
  pub earned : right s

-- all locks are held, and all names were looked at
pub record IsHeld (h : Held) (s : Scene) : Type 0 where
  pub order : IsOrdered h.scope
  pub fresh : IsFresh h.scope s
  pub room : length h.looks ≡ length h.scope.names
  pub holds : AllHeld h.scope (length h.scope.keys) s
  pub looked : AllLooked h.scope (length h.scope.names) h.looks s

-- at this line the tree had no such directory, and the call was running, which has done no step
pub record WasGone (g : Gfid) (at : ℕ) (s : Scene) : Type 0 where
  pub deeds : s.mine.deeds ≡ None
  pub after : s.mine.since ≤ at
  pub before : at ≤ s.history.size
  pub gone : (s.history.past at).dirs g ≡ false

-- the directory is that of one of the names
abbrev pub IsOfName : Scoped → Gfid → Type 0
IsOfName w g = (n : ℕ) × (n < length w.names) × ((name_at w n).0 ≡ g)

abbrev pub unheld_earned : Scoped → Unheld → Scene → Type 0
unheld_earned w (Gone g at) s = IsOfName w g × WasGone g at s
unheld_earned w (Stopped e) s = MayAnswer (fault_finish e) s

-- a section that was prepared, before its first request
abbrev pub begun : Prepared → Section
begun p = Locking p.scope 0 p.looks

-- the section of what is wanted, before its first request
abbrev pub IsFirst : ℕ → Wanted → Section → Type 0
IsFirst bricks want (Locking w i looks) =
    IsScope bricks want w × (i ≡ 0) × (looks ≡ replicate (length w.names) not_looked)
IsFirst bricks want m = ⊥

-- the section of one name, whose directory is locked in this mode
abbrev pub scope_of_name : ℕ → Gfid → Mode → List ℕ → Scoped
scope_of_name bricks g mode n = record {
  bricks = bricks;
  dirs = (g, mode) ∷ [];
  keys = DirKey g ∷ Name g n ∷ [];
  names = (g, n) ∷ [];
}

abbrev pub prepared_for : ℕ → Gfid → Mode → List ℕ → Prepared
prepared_for bricks g mode n = record {
  scope = scope_of_name bricks g mode n;
  looks = not_looked ∷ [];
}

abbrev pub first_section : ℕ → Gfid → Mode → List ℕ → Section
first_section bricks g mode n = begun (prepared_for bricks g mode n)

-- it asks for the directory's lock first, and sends so many requests at most
pub record StartsWith (bricks : ℕ) (g : Gfid) (mode : Mode) (x : Stage) : Type 0 where
  pub brick : x.asks.brick.0 ≡ (if bricks == 0 then 0 else anchor g bricks)
  pub request : x.asks.request ≡ Lock (DirKey g) mode
  pub claims : x.claims ≡ claims_locks (record { brick = x.asks.brick.0; key = DirKey g } ∷ [])
  pub variant : x.variant ≡ bricks + 4

-- ---- where it is between its requests

-- it gives back the locks up to this one, the last first
abbrev pub unlocking_stage : Scoped → ℕ → (Scene → Type 0) → Stage
unlocking_stage w i earned = record {
  asks = unlock_ask w i;
  claims = claims_locks (claimed w (suc i));
  variant = suc i;
  knows = λ s. UnlockingKnows w i earned s;
}

abbrev pub section_stage : Section → Stage
section_stage (Locking w i looks) = record {
  asks = lock_ask w i;
  claims = claims_locks (claimed w (suc i));
  variant = length w.keys - i + looks_left w.bricks (length w.names) + suc (last_lock w);
  knows = λ s. LockingKnows w i looks s;
}
section_stage (Looking w looks n b x) = record {
  asks = look_ask w n b;
  claims = all_claimed w;
  variant = looks_left w.bricks (length w.names - n) - b.0 + suc (last_lock w);
  knows = λ s. LookingKnows w looks n b x s;
}
section_stage (Unlocking w i x) = unlocking_stage w i (unheld_earned w x)

-- what is claimed and true when it ends: a section that is not held has given back its locks
abbrev pub opened_ending : Opened → Ending
opened_ending (Holding h) = record { claims = all_claimed h.scope; earned = λ s. IsHeld h s }
opened_ending (IsGone g at) = record { claims = no_claim; earned = λ s. WasGone g at s }
opened_ending (IsStopped e) = record {
  claims = no_claim;
  earned = λ s. MayAnswer (fault_finish e) s;
}

-- ---- how a reply takes it on

abbrev pub opened_as : Unheld → Opened
opened_as (Gone g at) = IsGone g at
opened_as (Stopped e) = IsStopped e

-- all locks are held: the names are looked at, if there are some
abbrev pub all_locked : Scoped → List Looked → Turn Section Opened
all_locked w looks =
    if nat_lt 0 (length w.names)
    then Go (Looking w looks 0 (record { 0 = 0 }) no_sight)
    else Done (Holding (record { scope = w; looks = looks }))

abbrev pub locked : Scoped → ℕ → List Looked → Turn Section Opened
locked w i looks =
    if nat_lt 1 (length w.keys - i) then Go (Locking w (i + 1) looks) else all_locked w looks

abbrev pub stopped : Scoped → ℕ → Errno → Turn Section Opened
stopped w i e = Go (Unlocking w i (Stopped e))

abbrev pub lock_answered : Scoped → ℕ → List Looked → Reply → Turn Section Opened
lock_answered w i looks r =
    if is_carried (reply_kind r) then locked w i looks else Go (Locking w i looks)

abbrev pub unless_fault : Option Errno → Scoped → ℕ → Turn Section Opened → Turn Section Opened
unless_fault None w i turn = turn
unless_fault (Some e) w i turn = stopped w i e

-- a name was looked at on all bricks
abbrev pub name_looked : Scoped → List Looked → ℕ → Turn Section Opened
name_looked w looks n =
    if nat_lt 1 (length w.names - n)
    then Go (Looking w looks (n + 1) (record { 0 = 0 }) no_sight)
    else Done (Holding (record { scope = w; looks = looks }))

abbrev pub looked : Scoped → List Looked → ℕ → BrickNo → Sight → ℕ → Turn Section Opened
looked w looks n b x at =
    if nat_lt 1 (w.bricks - b.0)
    then Go (Looking w looks n (record { 0 = b.0 + 1 }) x)
    else name_looked w (with_looked looks n (record { sight = x; at = at })) n

-- the home of the directory has no record of it
abbrev pub shows_gone : Gfid → BrickNo → Reply → Bool
shows_gone g b r = is_nodir r && nat_eq b.0 (home g)

abbrev pub look_answered :
    Scoped → List Looked → ℕ → BrickNo → Sight → Reply → ℕ → Turn Section Opened
look_answered w looks n b x r at =
    if shows_gone (name_at w n).0 b r
    then Go (Unlocking w (last_lock w) (Gone (name_at w n).0 at))
    else (
    if is_shown r
    then looked w looks n b (sight_with w.bricks x b r) at
    else Go (Looking w looks n b x))

abbrev pub unlocked : Scoped → ℕ → Unheld → Turn Section Opened
unlocked w i x = if nat_lt 0 i then Go (Unlocking w (i - 1) x) else Done (opened_as x)

abbrev pub section_after : Section → Reply → ℕ → Turn Section Opened
section_after (Locking w i looks) r at = unless_fault (fault_of r) w i (lock_answered w i looks r)
section_after (Looking w looks n b x) r at =
    unless_fault (fault_of r) w (last_lock w) (look_answered w looks n b x r at)
section_after (Unlocking w i x) r at = unlocked w i x

-- what it locks and looks at
abbrev pub section_scope : Section → Scoped
section_scope (Locking w i looks) = w
section_scope (Looking w looks n b x) = w
section_scope (Unlocking w i x) = w

abbrev pub IsOfScope : Scoped → Opened → Type 0
IsOfScope w (Holding h) = h.scope ≡ w
IsOfScope w out = Unit {0}

-- that stays the same
abbrev pub KeepsScope : Section → Turn Section Opened → Type 0
KeepsScope m turn =
    MatchTurn turn (λ n. section_scope n ≡ section_scope m) (λ d. IsOfScope (section_scope m) d)

-- a directory that was gone is that of one of the names
abbrev pub GoneOfName : Scoped → Opened → Type 0
GoneOfName w (IsGone g at) = IsOfName w g
GoneOfName w out = Unit {0}

abbrev pub NamesGone : Section → Turn Section Opened → Type 0
NamesGone m turn = MatchTurn turn (λ n. Unit {0}) (λ d. GoneOfName (section_scope m) d)

-- the error by which it was stopped, and that of the reply to its request; an unlock is always
-- carried out
abbrev pub unheld_fault : Unheld → Option Errno
unheld_fault (Gone g at) = None
unheld_fault (Stopped e) = Some e

abbrev pub section_fault : Section → Option Errno
section_fault (Unlocking w i x) = unheld_fault x
section_fault m = None

abbrev pub fault_now : Section → Reply → Option Errno
fault_now (Unlocking w i x) r = unheld_fault x
fault_now m r = fault_of r

abbrev pub opened_fault : Opened → Option Errno
opened_fault (IsStopped e) = Some e
opened_fault out = None

-- it is stopped exactly where a request was not served, by the error of the reply
abbrev pub NotesFault : Section → Reply → Turn Section Opened → Type 0
NotesFault m r turn =
    MatchTurn turn (λ n. section_fault n ≡ fault_now m r) (λ d. opened_fault d ≡ fault_now m r)

-- ---- what is held

-- what was seen of a name
abbrev pub looked_of : Option ℕ → List Looked → Looked
looked_of (Some n) looks = looked_at looks n
looked_of None looks = not_looked

abbrev pub held_looked : Held → Entry → Looked
held_looked h e = looked_of (place_of h.scope e) h.looks

-- the layout of its directory
abbrev pub held_layout : Held → Entry → List (Option Range)
held_layout h e = (held_looked h e).sight.layout

-- the brick that holds a name, by the layout that was read
abbrev pub held_holder : Held → Entry → Option ℕ
held_holder h e = holder (held_layout h e) (dm e.1)

-- the name is one of those that were wanted
abbrev pub IsWanted : Held → Entry → Type 0
IsWanted h e = Contains h.scope.names e

-- ---- what it teaches of a layout, and what is left

-- the layout of the directory of a name, where a turn ends with the section held
abbrev pub turn_layout : Entry → Turn Section Opened → Option (List (Option Range))
turn_layout e (Done (Holding h)) = Some (held_layout h e)
turn_layout e turn = None

-- the layout that a reply teaches: by it the section is held, at whatever line
abbrev pub section_taught : Entry → Section → Reply → Option (List (Option Range))
section_taught e m r = turn_layout e (section_after m r 0)

-- before it is held, a section has more requests left than there are locks
abbrev pub Outlasts : Section → Opened → Type 0
Outlasts m (Holding h) = suc (last_lock h.scope) < (section_stage m).variant
Outlasts m out = Unit {0}

abbrev pub LeavesUnlocks : Section → Turn Section Opened → Type 0
LeavesUnlocks m turn = MatchTurn turn (λ n. Unit {0}) (λ d. Outlasts m d)
