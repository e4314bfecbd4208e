-- What is proved of the invariant.
use Rattle.std.specs.Prelude.{ℕ, ◌<◌, ◌≤◌, ◌≡◌, ◌⊎◌, nat_eq, Some, None, List, length}
use Rattle.dht_types.specs.Gfid.{Entry}
use Rattle.dht_types.specs.Put.{put}
use Rattle.dht_types.specs.Tree.{Tree, IsFile, applied}
use Rattle.dht_types.specs.Volume.{HasWeight}
use Rattle.dht_types.specs.History.{History, IsOwn, start, with_line}
use Rattle.dht_types.specs.declared.calls.TreeStep.TheVariants.{AddFile}
use Rattle.dht_types.specs.declared.identifiers.BrickNo.{BrickNo}
use Rattle.dht_types.specs.declared.identifiers.CallNo.{CallNo}
use Rattle.dht_types.specs.declared.identifiers.ClientNo.{ClientNo}
use Rattle.dht_types.specs.declared.identifiers.Gfid.{Gfid}
use Rattle.dht_types.specs.declared.lines.Line.{Line}
use Rattle.dht_types.specs.declared.lines.Line.TheVariants.{Volume, Remounted, Died}
use Rattle.dht_brick.specs.Contents.{Contents}
use Rattle.dht_brick.specs.Outcome.{Do}
use Rattle.dht_brick.specs.Rows.{row}
use Rattle.dht_brick.specs.declared.replies.Given.{Given}
use Rattle.dht_brick.specs.declared.replies.Reply.{Reply}
use Rattle.dht_brick.specs.declared.requests.FileRequest.TheVariants.{Drop}
use Rattle.dht_brick.specs.declared.requests.NameRequest.{NameRequest}
use Rattle.dht_brick.specs.declared.requests.NameRequest.TheVariants.{SetLayout, MakeDir, DropDir, MakeLinkto, DropLinkto, Unlink}
use Rattle.dht_brick.specs.declared.requests.Request.{Request}
use Rattle.dht_brick.specs.declared.requests.Request.TheVariants.{Seal, OnNames, OnFile}
use Rattle.dht_section.specs.Claims.{Claim, MayClaim, no_claim}
use Rattle.dht_section.specs.Disk.{Disk, holders}
use Rattle.dht_section.specs.Early.{Early}
use Rattle.dht_section.specs.Invariant.{Invariant, Things, Used, most_hops}
use Rattle.dht_section.specs.Moves.{Guarantee, request_step, tree_by}
use Rattle.dht_section.specs.Permits.{Permitted, MayName}
use Rattle.dht_section.specs.Scene.{Scene, Sound, NameStands}
use Rattle.dht_section.specs.Shapes.{NameShape}
use Rattle.dht_section.specs.Truth.{Stands, Placed}
use Rattle.dht_section.specs.declared.machine.Ask.{Ask}
use Rattle.dht_invariant.specs.Locality.{ChangesWithin, CarriesOut, ShowsTheSame, ClausesStand, OthersStand, reach}
use Rattle.dht_invariant.specs.Makes.{Makes, IsNew}
use Rattle.dht_invariant.specs.New.{AreNew}
use Rattle.dht_invariant.specs.Remount.{Remounts, RemountsInPart}
use Rattle.dht_invariant.specs.Touches.{Touches}
use Rattle.dht_invariant.specs.Transition.{Transition, OnlyMine, IsQuiet, FreesClient}

-- a create that is carried out keeps the invariant of each thing
abbrev pub CreateKeeps : Type 0
CreateKeeps =
    (d e : Disk) (t : Tree) (b : ℕ) (x : Entry) (f : Gfid) (top : ℕ) (p : ℕ → Claim)
    → Makes d e b x f → IsNew d t x f → Things d t top p → Things e (applied (AddFile x.0 x.1 f) t) top p

-- a permitted request, however it was answered
abbrev pub RequestsAreTransitions : Type 0
RequestsAreTransitions =
    (s t : Scene) (a : Ask) (r : Reply)
    → Guarantee s a r t → Sound s → Permitted s a → OnlyMine s t
    → Transition s.who.0 s.disk s.history s.claims t.disk t.history t.claims

-- a client claims something else
abbrev pub ClaimsAreTransitions : Type 0
ClaimsAreTransitions =
    (c : ℕ) (d : Disk) (s : History) (p : ℕ → Claim) (new : Claim)
    → Invariant d s p → Early d s → MayClaim d.count (λ b key. holders d b key c) (p c) new
    → Transition c d s p d s (put nat_eq p c new)

-- a line comes that tells nothing of the tree
abbrev pub LinesAreTransitions : Type 0
LinesAreTransitions =
    (c : ℕ) (d : Disk) (s : History) (p : ℕ → Claim) (x : Line)
    → Invariant d s p → Early d s → IsQuiet c s x → Transition c d s p d (with_line s x) p

-- a client dies
abbrev pub DeathsAreTransitions : Type 0
DeathsAreTransitions =
    (c : ClientNo) (d e : Disk) (s : History) (p : ℕ → Claim)
    → Invariant d s p → Early d s → FreesClient c.0 d e
    → Transition c.0 d s p e (with_line s (Died c)) (put nat_eq p c.0 no_claim)

-- one after the other is one
abbrev pub TransitionsCompose : Type 0
TransitionsCompose =
    (c : ℕ) (d e f : Disk) (s t u : History) (p q r : ℕ → Claim)
    → Invariant d s p → Transition c d s p e t q → Transition c e t q f u r → Transition c d s p f u r

-- all of these
pub record TransitionLaws : Type 0 where
  pub request : RequestsAreTransitions
  pub claim : ClaimsAreTransitions
  pub line : LinesAreTransitions
  pub death : DeathsAreTransitions
  pub compose : TransitionsCompose

-- a request that makes or drops a linkto
abbrev pub IsOfLinkto : NameRequest → Type 0
IsOfLinkto (MakeLinkto d n value) = Unit {0}
IsOfLinkto (DropLinkto d n) = Unit {0}
IsOfLinkto q = ⊥

-- what holds is kept, no gfid comes into use, and nothing is touched but what may be
pub record Preserves (s t : Scene) : Type 0 where
  pub things : Things t.disk t.history.tree (most_hops t.history) t.claims
  pub early : Early t.disk t.history
  pub used : (g : Gfid) → Used t.disk t.history.tree g → Used s.disk s.history.tree g
  pub touches : Touches s t.disk t.history.tree

-- such a request, however it was answered: no name stands otherwise, and the tree is as it was
pub record LinktoLeaves (s t : Scene) : Type 0 where
  pub kept : Preserves s t
  pub tree : t.history.tree ≡ s.history.tree
  pub shapes : (x : Entry) (h : NameShape) → NameStands s x h → NameStands t x h

abbrev pub LinktosKeep : Type 0
LinktosKeep =
    (s t : Scene) (b : BrickNo) (q : NameRequest) (r : Reply)
    → IsOfLinkto q → b.0 < s.disk.count → MayName s b.0 q
    → Guarantee s (record { brick = b; request = OnNames q }) r t → Sound s
    → LinktoLeaves s t

-- a request that takes a file's name away, seals a file, or drops its record
abbrev pub IsRemoval : Request → Type 0
IsRemoval (OnNames (Unlink d n f)) = Unit {0}
IsRemoval (OnFile (Drop f)) = Unit {0}
IsRemoval (Seal f) = Unit {0}
IsRemoval q = ⊥

-- such a request, however it was answered
abbrev pub RemovalsKeep : Type 0
RemovalsKeep =
    (s t : Scene) (a : Ask) (r : Reply)
    → IsRemoval a.request → Permitted s a → Guarantee s a r t → Sound s → Preserves s t

-- a request that sets a layout, or that makes or drops a copy of a directory
abbrev pub IsOfDir : Request → Type 0
IsOfDir (OnNames (SetLayout d value)) = Unit {0}
IsOfDir (OnNames (MakeDir d n g depth value)) = Unit {0}
IsOfDir (OnNames (DropDir d n g)) = Unit {0}
IsOfDir q = ⊥

-- the gfid is one of the call's own, and the call has done a step by now
pub record IsMine (s t : Scene) (g : Gfid) : Type 0 where
  pub own : IsOwn s.history.run s.who s.mine.number g
  pub did : t.mine.deeds ≡ None → ⊥

-- what holds is kept, a gfid that comes into use is the
-- call's own, and nothing is touched but what may be
pub record Carries (s t : Scene) : Type 0 where
  pub things : Things t.disk t.history.tree (most_hops t.history) t.claims
  pub early : Early t.disk t.history
  pub used : (g : Gfid)
      → Used t.disk t.history.tree g → Used s.disk s.history.tree g ⊎ IsMine s t g
  pub touches : Touches s t.disk t.history.tree

-- such a request, however it was answered
abbrev pub DirectoriesKeep : Type 0
DirectoriesKeep =
    (s t : Scene) (a : Ask) (r : Reply)
    → IsOfDir a.request → Guarantee s a r t → Sound s → Permitted s a → OnlyMine s t → Carries s t

-- nobody claims anything
abbrev pub no_claims : ℕ → Claim
no_claims c = no_claim

-- new bricks meet the invariant, and what holds beside it for now, at the volume line
abbrev pub NewBricksMeet : Type 0
NewBricksMeet =
    (ws : List ℕ) (d : Disk)
    → AreNew ws d → HasWeight ws → d.count ≡ length ws → 0 < d.count → d.count ≤ 32
    → Invariant d (with_line start (Volume ws)) no_claims × Early d (with_line start (Volume ws))

-- a remount keeps the invariant, and what holds beside it for now: locks, registrations, seals and
-- pointers go, the bricks that come are bare, and nothing is of the run that begins
abbrev pub RemountsKeep : Type 0
RemountsKeep =
    (ws : List ℕ) (d e : Disk) (s : History) (p : ℕ → Claim)
    → Invariant d s p → Early d s → HasWeight ws → length ws ≤ 32 → 0 < s.run → Remounts ws d e
    → Invariant e (with_line s (Remounted ws)) p × Early e (with_line s (Remounted ws))

-- and so does one that was broken off, and of which no line tells
abbrev pub RemountsInPartKeep : Type 0
RemountsInPartKeep =
    (d e : Disk) (s : History) (p : ℕ → Claim)
    → Invariant d s p → Early d s → RemountsInPart d e → Invariant e s p × Early e s

-- where the invariant holds, the bricks stand for the tree
abbrev pub BricksStand : Type 0
BricksStand = (d : Disk) (s : History) (p : ℕ → Claim) → Invariant d s p → Early d s → Stands d s.tree

-- and in the first run each name of the tree is placed
abbrev pub NamesArePlaced : Type 0
NamesArePlaced =
    (d : Disk) (s : History) (p : ℕ → Claim) (e : Entry) (f : Gfid)
    → Invariant d s p → Early d s → s.run ≡ 1 → s.tree.names e ≡ Some (IsFile f) → Placed d e

-- ---- locality

-- a brick that carries out a request changes at most one slot, one directory record, one
-- file record, and one lock, registration or seal; but the linktos of a directory go with it
abbrev pub RowsAreLocal : Type 0
RowsAreLocal =
    (bricks : List (List ℕ)) (client : ClientNo) (call : CallNo) (q : Request) (c new : Contents) (given : Given)
    → row bricks client call q c ≡ Do given new → ChangesWithin (reach client call q c.store) c new

-- what all bricks show of a thing that the request does not name is as it was
abbrev pub RequestsAreLocal : Type 0
RequestsAreLocal =
    (client : ClientNo) (call : CallNo) (b : ℕ) (q : Request) (d e : Disk)
    → CarriesOut client call b q d e → ShowsTheSame (reach client call q (d.brick b).store) b d e

-- each clause is of one thing, and reads no more than what is shown of it
abbrev pub ClausesAreLocal : Type 0
ClausesAreLocal =
    (d e : Disk) (t u : Tree) (low top : ℕ) (p q : ℕ → Claim)
    → e.count ≡ d.count → low ≤ top → ClausesStand d e t u low top p q

-- so a request that was carried out leaves each clause on a thing that it does not name
abbrev pub RequestsLeaveOthers : Type 0
RequestsLeaveOthers =
    (client : ClientNo) (call : CallNo) (b : ℕ) (q : Request) (d e : Disk)
    (t : Tree) (low top : ℕ) (claims : ℕ → Claim)
    → CarriesOut client call b q d e → low ≤ top
    → OthersStand (reach client call q (d.brick b).store) b d e t (tree_by (request_step b q) t) low top claims

-- and so does one that was answered otherwise
abbrev pub AnswersLeaveOthers : Type 0
AnswersLeaveOthers =
    (s t : Scene) (a : Ask) (r : Reply)
    → Guarantee s a r t
    → OthersStand (reach s.who s.mine.number a.request (s.disk.brick a.brick.0).store) a.brick.0
    s.disk t.disk s.history.tree t.history.tree (most_hops s.history) (most_hops t.history) s.claims
