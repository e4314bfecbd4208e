-- What a request changes at most, what it names by
-- that, and what each clause of the invariant reads.
use Rattle.std.specs.Prelude.{ℕ, Bool, true, ◌≡◌, ◌≢◌, ◌⊎◌, ◌||◌, Option, Some, None, List, is_some}
use Rattle.std.specs.FinMap.{get}
use Rattle.std.specs.Option.{option_map}
use Rattle.dht_types.specs.Gfid.{Entry, root}
use Rattle.dht_types.specs.Tree.{Tree, IsDir}
use Rattle.dht_types.specs.declared.identifiers.Gfid.{Gfid}
use Rattle.dht_types.specs.declared.identifiers.CallNo.{CallNo}
use Rattle.dht_types.specs.declared.identifiers.ClientNo.{ClientNo}
use Rattle.dht_types.specs.declared.locks.Key.{Key}
use Rattle.dht_types.specs.declared.names.EntryKey.{EntryKey}
use Rattle.dht_types.specs.declared.stored.DirRecord.{DirRecord}
use Rattle.dht_types.specs.declared.stored.Slot.{Slot}
use Rattle.dht_brick.specs.Contents.{Contents, Store, bare, dir, file, slot}
use Rattle.dht_brick.specs.Locality.{Places, ChangesOnly, nowhere, name_places, file_places}
use Rattle.dht_brick.specs.Named.{file_of}
use Rattle.dht_brick.specs.OpenRows.{registration}
use Rattle.dht_brick.specs.Outcome.{Do}
use Rattle.dht_brick.specs.Parts.{is_copy, is_dir}
use Rattle.dht_brick.specs.Rows.{row}
use Rattle.dht_brick.specs.declared.opens.Registration.{Registration}
use Rattle.dht_brick.specs.declared.replies.Given.{Given}
use Rattle.dht_brick.specs.declared.requests.NameRequest.{NameRequest}
use Rattle.dht_brick.specs.declared.requests.NameRequest.TheVariants.{MakeDir, DropDir}
use Rattle.dht_brick.specs.declared.requests.Request.{Request}
use Rattle.dht_brick.specs.declared.requests.Request.TheVariants.{Lock, Unlock, Register, Unregister, Seal, OnNames, OnFile}
use Rattle.dht_section.specs.Claims.{Claim, Listed, places_of}
use Rattle.dht_section.specs.Disk.{Disk, ChangesOneBrick, slot_at, dir_at, holders}
use Rattle.dht_section.specs.Dirs.{DirInvariant}
use Rattle.dht_section.specs.Files.{FileInvariant}
use Rattle.dht_section.specs.Locks.{LockInvariant}
use Rattle.dht_section.specs.Names.{NameInvariant}
use Rattle.dht_section.specs.Views.{DirView, core, cores_of, links_to, view_of, dir_view}

-- ---- what a request changes

-- a client's hold of a lock, a registration or a seal, or none of them
pub data Hold : Type 0 where
  NoHold : Hold
  ALock : Key → ℕ → Hold
  ARegistration : Registration → Hold
  ASeal : Gfid → Hold

-- what a request changes at most: a slot, the record of a directory and that of
-- a file, and one hold. turned is the directory of which a copy comes or goes
pub record Reach : Type 0 where
  pub stored : Places
  pub turned : Option Gfid
  pub hold : Hold

abbrev pub stored_by : Request → Store → Places
stored_by (OnNames q) s = name_places q
stored_by (OnFile q) s = file_places q (file s (file_of q))
stored_by q s = nowhere

abbrev pub name_turns : NameRequest → Option Gfid
name_turns (MakeDir d n g depth value) = Some g
name_turns (DropDir d n g) = Some g
name_turns q = None

abbrev pub turned_by : Request → Option Gfid
turned_by (OnNames q) = name_turns q
turned_by q = None

abbrev pub hold_of : ClientNo → CallNo → Request → Hold
hold_of client call (Lock key mode) = ALock key client.0
hold_of client call (Unlock key) = ALock key client.0
hold_of client call (Register f) = ARegistration (registration f client call)
hold_of client call (Unregister f opened) = ARegistration (registration f client opened)
hold_of client call (Seal f) = ASeal f
hold_of client call q = NoHold

abbrev pub reach : ClientNo → CallNo → Request → Store → Reach
reach client call q s =
    record { stored = stored_by q s; turned = turned_by q; hold = hold_of client call q }

-- how deep a directory is, where there is a record of it
abbrev pub depth_in : Store → Gfid → Option ℕ
depth_in s g = option_map (λ (r : DirRecord). r.depth) (dir s g)

-- a slot stays, in a directory that stays; or it was a linkto or bare, and went with its directory
pub data SlotStays (old new : Store) (e : Entry) : Type 0 where
  Same : slot new e ≡ slot old e
      → (is_some (dir old e.0) ≡ true → is_some (dir new e.0) ≡ true) → SlotStays old new e
  Went : core (slot old e) ≡ bare → slot new e ≡ bare → SlotStays old new e

-- the contents of a brick are as they were, but for that
pub record ChangesWithin (p : Reach) (old new : Contents) : Type 0 where
  pub store : ChangesOnly p.stored old.store new.store
  pub slots : (e : Entry) → p.stored.slot ≢ Some e → SlotStays old.store new.store e
  pub depths : (g : Gfid) → p.turned ≢ Some g → depth_in new.store g ≡ depth_in old.store g
  pub locks : (key : Key) (c : ℕ) → p.hold ≢ ALock key c → new.locks key c ≡ old.locks key c
  pub registrations : (r : Registration)
      → p.hold ≢ ARegistration r → get new.opens.registered r ≡ get old.opens.registered r
  pub seals : (f : Gfid) → p.hold ≢ ASeal f → get new.opens.sealed f ≡ get old.opens.sealed f

-- a brick carried out a request of a client's call
pub record CarriesOut (client : ClientNo) (call : CallNo) (b : ℕ) (q : Request) (d e : Disk)
    : Type 0 where
  pub bricks : List (List ℕ)
  pub given : Given
  pub new : Contents
  pub done : row bricks client call q (d.brick b) ≡ Do given new
  pub disk : ChangesOneBrick d b new e

-- ---- what a request names, where it was carried out on brick b and took d to e

-- the name is the file's, is readied for it, or has its copy
abbrev pub is_of : Gfid → Slot → Bool
is_of f p = links_to f p || is_copy f p.standby

-- a file whose record, registration or seal it changes, or whose name the slot is, before or after
pub data NamesFile (p : Reach) (b : ℕ) (d e : Disk) (f : Gfid) : Type 0 where
  ByFileRecord : p.stored.file ≡ Some f → NamesFile p b d e f
  ByFileName : (x : Entry) → p.stored.slot ≡ Some x
      → (is_of f (slot_at d b x) ≡ true) ⊎ (is_of f (slot_at e b x) ≡ true) → NamesFile p b d e f
  ByRegistration : (r : Registration) → p.hold ≡ ARegistration r → r.file ≡ f → NamesFile p b d e f
  BySeal : p.hold ≡ ASeal f → NamesFile p b d e f

-- a directory whose record it changes, or whose name the slot is, before or
-- after, or whose copy there is in a directory of which a copy comes or goes
pub data NamesDir (p : Reach) (b : ℕ) (d e : Disk) (g : Gfid) : Type 0 where
  ByDirRecord : p.stored.dir ≡ Some g → NamesDir p b d e g
  ByDirName : (x : Entry) → p.stored.slot ≡ Some x
      → (is_dir g (slot_at d b x).main ≡ true) ⊎ (is_dir g (slot_at e b x).main ≡ true)
      → NamesDir p b d e g
  ByParent : (r : DirRecord) (k : EntryKey) → dir_at d b g ≡ Some r → r.place ≡ Some k
      → p.turned ≡ Some k.dir → NamesDir p b d e g

-- or which the tree has at the slot's name
pub record IsNode (p : Reach) (t : Tree) (g : Gfid) : Type 0 where
  pub entry : Entry
  pub slot : p.stored.slot ≡ Some entry
  pub node : t.names entry ≡ Some (IsDir g)

-- the lock of a key on a brick, if it is the one that it asks for or gives back
pub record NamesLock (p : Reach) (b i : ℕ) (key : Key) : Type 0 where
  pub there : i ≡ b
  pub client : ℕ
  pub hold : p.hold ≡ ALock key client

-- ---- what the clauses read

-- of a directory: its copies, its names, and how deep the directories are in which its copies are
pub record SameDir (v w : DirView) : Type 0 where
  pub copies : w.copies ≡ v.copies
  pub mains : w.mains ≡ v.mains
  pub above : (b : ℕ) (r : DirRecord) (k : EntryKey)
      → v.copies b ≡ Some r → r.place ≡ Some k → w.depths b k.dir ≡ v.depths b k.dir

-- on all bricks each thing that is not named shows what it showed
pub record ShowsTheSame (p : Reach) (b : ℕ) (d e : Disk) : Type 0 where
  pub count : e.count ≡ d.count
  pub names : (x : Entry) → p.stored.slot ≢ Some x → cores_of e x ≡ cores_of d x
  pub slots : (x : Entry) (i : ℕ)
      → p.stored.slot ≢ Some x → SlotStays (d.brick i).store (e.brick i).store x
  pub files : (f : Gfid) → (NamesFile p b d e f → ⊥) → view_of e f ≡ view_of d f
  pub dirs : (g : Gfid) → (NamesDir p b d e g → ⊥) → SameDir (dir_view d g) (dir_view e g)
  pub locks : (i : ℕ) (key : Key) → (NamesLock p b i key → ⊥) → holders e i key ≡ holders d i key
  pub roots : (i : ℕ) → p.turned ≢ Some root → is_some (dir_at e i root) ≡ is_some (dir_at d i root)

-- ---- the clauses, each of one thing

abbrev pub NameClause : Disk → Tree → Entry → Type 0
NameClause d t x = NameInvariant d.count (cores_of d x) (t.names x)

abbrev pub FileClause : Disk → Tree → ℕ → (ℕ → Claim) → Gfid → Type 0
FileClause d t top claims f =
    FileInvariant d.count top (places_of claims f) (view_of d f) (t.bytes f)

abbrev pub DirClause : Disk → Tree → Gfid → Type 0
DirClause d t g = DirInvariant d.count g (dir_view d g) (t.dirs g) (t.descents g)

abbrev pub LockClause : Disk → (ℕ → Claim) → ℕ → Key → Type 0
LockClause d claims b key = LockInvariant b key (holders d b key) claims

abbrev pub HousedClause : Disk → Entry → ℕ → Type 0
HousedClause d x b = slot_at d b x ≢ bare → is_some (dir_at d b x.0) ≡ true

abbrev pub RootClause : Disk → ℕ → Type 0
RootClause d b = is_some (dir_at d b root) ≡ true

-- where what a clause reads is as it was, the clause stands; hops may have grown
pub record ClausesStand (d e : Disk) (t u : Tree) (low top : ℕ) (p q : ℕ → Claim) : Type 0 where
  pub names : (x : Entry)
      → cores_of e x ≡ cores_of d x → u.names x ≡ t.names x → NameClause d t x → NameClause e u x
  pub files : (f : Gfid)
      → view_of e f ≡ view_of d f → u.bytes f ≡ t.bytes f → places_of q f ≡ places_of p f
      → FileClause d t low p f → FileClause e u top q f
  pub dirs : (g : Gfid)
      → SameDir (dir_view d g) (dir_view e g) → u.dirs g ≡ t.dirs g → u.descents g ≡ t.descents g
      → DirClause d t g → DirClause e u g
  pub locks : (b : ℕ) (key : Key)
      → holders e b key ≡ holders d b key
      → ((c : ℕ) → Listed (p c).locks b key → Listed (q c).locks b key)
      → LockClause d p b key → LockClause e q b key
  pub housed : (x : Entry) (b : ℕ)
      → SlotStays (d.brick b).store (e.brick b).store x → HousedClause d x b → HousedClause e x b
  pub roots : (b : ℕ)
      → is_some (dir_at e b root) ≡ is_some (dir_at d b root) → RootClause d b → RootClause e b

-- each clause on a thing that is not named stands as before
pub record OthersStand (p : Reach) (b : ℕ) (d e : Disk) (t u : Tree) (low top : ℕ)
    (claims : ℕ → Claim) : Type 0 where
  pub names : (x : Entry) → p.stored.slot ≢ Some x → NameClause d t x → NameClause e u x
  pub files : (f : Gfid)
      → (NamesFile p b d e f → ⊥) → FileClause d t low claims f → FileClause e u top claims f
  pub dirs : (g : Gfid)
      → (NamesDir p b d e g → ⊥) → (IsNode p t g → ⊥) → DirClause d t g → DirClause e u g
  pub locks : (i : ℕ) (key : Key)
      → (NamesLock p b i key → ⊥) → LockClause d claims i key → LockClause e claims i key
  pub housed :
      (x : Entry) (i : ℕ) → p.stored.slot ≢ Some x → HousedClause d x i → HousedClause e x i
  pub roots : (i : ℕ) → p.turned ≢ Some root → RootClause d i → RootClause e i
