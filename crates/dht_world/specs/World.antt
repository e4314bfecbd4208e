-- What holds of a world between events.
use Rattle.std.specs.Prelude.{ℕ, ◌+◌, ◌≡◌, ◌≤◌, ◌<◌, true, false, is_some, Option, Some, List, [], ◌∷◌, ◌++◌, length, slice_get}
use Rattle.dht_types.specs.Gfid.{Entry}
use Rattle.dht_types.specs.History.{History, PendingCall, IsAlone, Legal, history_of, start}
use Rattle.dht_types.specs.declared.calls.Answer.{Answer}
use Rattle.dht_types.specs.declared.calls.Answer.TheVariants.{Done, File}
use Rattle.dht_types.specs.declared.calls.Call.TheVariants.{Heal, Lookup}
use Rattle.dht_types.specs.declared.events.Event.{Event}
use Rattle.dht_types.specs.declared.events.Event.TheVariants.{Volume, Remount}
use Rattle.dht_types.specs.declared.identifiers.CallNo.{CallNo}
use Rattle.dht_types.specs.declared.identifiers.ClientNo.{ClientNo}
use Rattle.dht_types.specs.declared.identifiers.Gfid.{Gfid}
use Rattle.dht_types.specs.declared.lines.Line.{Line}
use Rattle.dht_types.specs.declared.lines.Line.TheVariants.{Answered}
use Rattle.dht_types.specs.declared.locks.Key.{Key}
use Rattle.dht_types.specs.declared.locks.Mode.{Mode}
use Rattle.dht_brick.specs.declared.journal.JournalEntry.{JournalEntry}
use Rattle.dht_section.specs.declared.caller.Caller.{Ghosts as CallerGhosts}
use Rattle.dht_section.specs.Disk.{Disk, holders}
use Rattle.dht_section.specs.Early.{Early}
use Rattle.dht_section.specs.Healed.{IsHealed}
use Rattle.dht_section.specs.Invariant.{Invariant}
use Rattle.dht_section.specs.Truth.{Placed}
use Rattle.dht_world.specs.Answers.{answered_in}
use Rattle.dht_world.specs.Bricks.{Logged, AreNoted}
use Rattle.dht_world.specs.Clients.{claims_of, ClientFits}
use Rattle.dht_world.specs.Following.{InTimeFrom}
use Rattle.dht_world.specs.declared.places.Place.{Place}

-- the events of a schedule after its first line, but for those that bring bricks
abbrev pub CanHappen : Event → Type 0
CanHappen (Volume w) = ⊥
CanHappen (Remount w) = ⊥
CanHappen e = Unit {0}

-- what a world keeps of its lines
pub record Summary : Type 0 where
  pub run : ℕ  -- the volume's run number
  pub calls : ℕ  -- how many calls were accepted
  pub lines : ℕ  -- how many lines were written
  pub requests : ℕ  -- how many of these are step or wait lines
  pub answers : List (Option Gfid)  -- what each call answered, the first call first

-- it is what the history tells
pub record IsSummary (n : Summary) (s : History) : Type 0 where
  pub run : s.run ≡ n.run
  pub calls : s.calls ≡ n.calls
  pub lines : s.size ≡ n.lines
  pub requests : s.requests ≡ n.requests
  pub answers : s.answered ≡ answered_in n.answers
  pub places : length n.answers ≡ n.calls
  pub fewer : n.calls ≤ n.lines
  pub less : n.requests ≤ n.lines

-- what holds of bricks, journals, clients and summary where the lines tell this history; what is no
-- brick is not down
pub record Fit {C : Type 0} (g : CallerGhosts C) (d : Disk) (js : ℕ → List JournalEntry)
    (places : List (Place C)) (ws : List ℕ) (n : Summary) (s : History) : Type 0 where
  pub kept : Invariant d s (claims_of g places)
  pub early : Early d s
  pub logged : Logged js s
  pub same_weights : s.weights ≡ ws
  pub up_above : (b : ℕ) → length ws ≤ b → s.down b ≡ false
  pub summary : IsSummary n s
  pub many : length places ≡ 64
  pub each : (c : ℕ) → ClientFits g d s (claims_of g places) c (slice_get places c)

-- the world is where these lines lead to
pub record At {C : Type 0} (g : CallerGhosts C) (d : Disk) (js : ℕ → List JournalEntry)
    (places : List (Place C)) (ws : List ℕ) (n : Summary) (past : List Line) : Type 0 where
  pub legal : Legal past
  pub in_time : InTimeFrom start past
  pub noted : AreNoted js start past
  pub fit : Fit g d js places ws n (history_of past)

-- the last of the lines is this answer of this call, which was the only one in its span
pub record EndsAlone (lines : List Line) (r : PendingCall) (a : Answer) : Type 0 where
  pub before : List Line
  pub number : CallNo
  pub client : ClientNo
  pub point : Option ℕ
  pub all : lines ≡ before ++ Answered number client point a ∷ []
  pub runs : (history_of before).pending client.0 ≡ Some r
  pub alone : IsAlone (history_of before) r

-- where it is the answer ok of a heal, the directory
-- is whole on these bricks, and so is each above it
abbrev pub HealsWhole : Disk → List Line → Type 0
HealsWhole d lines =
    (g : Gfid) (r : PendingCall) → EndsAlone lines r Done → r.call ≡ Heal g
    → IsHealed d (history_of lines).tree g

-- where it is a file, and the answer of a lookup that was its client's
-- first call since the volume was mounted, and the name is placed on
-- these bricks, the call took one step more than there are bricks at most
abbrev pub FindsFirst : Disk → List Line → Type 0
FindsFirst d lines =
    (e : Entry) (f : Gfid) (r : PendingCall) → EndsAlone lines r (File f) → r.call ≡ Lookup e.0 e.1
    → r.is_first ≡ true → Placed d e → r.steps ≤ length (history_of lines).weights + 1

-- what the last of the lines tells of a call that was alone holds of these bricks
pub record EndsWell (d : Disk) (lines : List Line) : Type 0 where
  pub healed : HealsWhole d lines
  pub found : FindsFirst d lines

-- each lock is held by a client that has a pending call
abbrev pub HoldersCall : Disk → History → Type 0
HoldersCall d s =
    (b : ℕ) (key : Key) (c : ℕ) (m : Mode) → b < d.count → holders d b key c ≡ Some m
    → is_some (s.pending c) ≡ true
