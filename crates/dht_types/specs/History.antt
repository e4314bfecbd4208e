-- What the lines of a transcript tell, and when a transcript is
-- legal. Nothing here speaks of bricks' contents or of programs.
use Rattle.std.specs.Prelude.{ℕ, ◌+◌, ◌^◌, ◌<◌, ◌≤◌, ◌≡◌, ◌||◌, ◌&&◌, ◌⊎◌, if◌then◌else◌, nat_eq, Bool, true, false, not, Option, Some, None, MatchOption, List, [], ◌∷◌, ◌++◌, length}
use Rattle.dht_types.specs.Put.{put}
use Rattle.dht_types.specs.Calls.{refusal_at_once}
use Rattle.dht_types.specs.Gfid.{Entry, root, home, made}
use Rattle.dht_types.specs.Tree.{Tree, IsDir, IsTree, first_tree, applied, Fits, Said, Do, says, answer_of}
use Rattle.dht_types.specs.declared.identifiers.Gfid.{Gfid}
use Rattle.dht_types.specs.declared.identifiers.CallNo.{CallNo}
use Rattle.dht_types.specs.declared.identifiers.ClientNo.{ClientNo}
use Rattle.dht_types.specs.declared.errors.Errno.{Errno}
use Rattle.dht_types.specs.declared.errors.Errno.TheVariants.{Enoent, Enomem, Eexist, Einval, Enametoolong, Enotdir, Eisdir, Enotempty, Estale, Enotconn, Eio}
use Rattle.dht_types.specs.declared.calls.Call.{Call}
use Rattle.dht_types.specs.declared.calls.Answer.{Answer}
use Rattle.dht_types.specs.declared.calls.Answer.TheVariants.{File, Dir, Made, Done, Fault}
use Rattle.dht_types.specs.declared.calls.TreeStep.{TreeStep}
use Rattle.dht_types.specs.declared.calls.TreeStep.TheVariants.{AddFile, AddDir, RemoveFile, RemoveDir}
use Rattle.dht_types.specs.declared.lines.RequestKind.{RequestKind}
use Rattle.dht_types.specs.declared.lines.RequestKind.TheVariants.{Lock, Create, Unlink, MakeDir, DropDir}
use Rattle.dht_types.specs.declared.lines.ReplyKind.{ReplyKind}
use Rattle.dht_types.specs.declared.lines.ReplyKind.TheVariants.{Ok as Carried, Wait, Down, Failed, NoMemory}
use Rattle.dht_types.specs.declared.lines.Line.{Line}
use Rattle.dht_types.specs.declared.lines.Line.TheVariants.{Volume, Remounted, Called, Stepped, Waited, Tree as Changed, Answered, WentDown, CameUp, Died, Refused}

-- a tree line of a call
pub record Deed : Type 0 where
  pub line : ℕ
  pub step : TreeStep

-- the tree lines of a call, in order, and what the tree before the first of them said to the call
pub record Deeds : Type 0 where
  pub said : Said
  pub first : Deed
  pub more : List Deed

-- a call that has begun and not ended
pub record PendingCall : Type 0 where
  pub number : CallNo
  pub call : Call Gfid
  pub since : ℕ  -- its call line
  pub alone : Bool  -- no other call was running when it began
  pub is_first : Bool  -- its client had not called since the volume was mounted
  pub steps : ℕ  -- how many step lines it has
  pub was_down : Bool  -- one of them says that its brick was down
  pub has_failed : Bool  -- one of them says that its brick failed
  pub deeds : Option Deeds

-- what a step or wait line tells of its brick
pub record Act : Type 0 where
  pub client : ClientNo
  pub call : CallNo
  pub request : RequestKind
  pub reply : ReplyKind

-- the tree line that must come next, or may: that of this
-- call, for a request of this kind that this brick carried out
pub record Owed : Type 0 where
  pub call : CallNo
  pub client : ClientNo
  pub brick : ℕ
  pub request : RequestKind

-- what the lines so far tell
pub record History : Type 0 where
  pub size : ℕ  -- how many lines
  pub run : ℕ  -- the volume's run number
  pub weights : List ℕ  -- its bricks' weights
  pub calls : ℕ  -- how many calls were accepted
  pub tree : Tree  -- the tree now
  pub past : ℕ → Tree  -- the tree after that many lines
  pub pending : ℕ → Option PendingCall  -- each client's call
  pub callers : List ℕ  -- the clients that have one
  pub called : ℕ → Bool  -- which clients have called since the volume was mounted
  pub answered : ℕ → Option Gfid  -- the file or directory that each call answered, by its number
  pub dead : ℕ → Bool  -- which clients have died
  pub down : ℕ → Bool  -- which bricks are down
  pub clean : Bool  -- no line tells of a brick that was down or out of memory, or of a death
  pub requests : ℕ  -- how many step and wait lines
  pub acts : ℕ → List Act  -- what each brick served, by its step and wait lines
  pub changes : ℕ → List Entry  -- the slots of the tree lines under them that add or remove a file
  pub dir_changes : ℕ → List Entry  -- and of those that add or remove a directory
  pub owed : Option Owed  -- the tree line that must come next
  -- the tree line that may come next: a copy of a directory is no step of the tree but at its home
  pub allowed : Option Owed

-- the gfid that a step makes; for one that makes none it is the root's, which no answer names
abbrev pub made_in : TreeStep → Gfid
made_in (AddFile d n f) = f
made_in (AddDir d n g) = g
made_in (RemoveFile d n) = root
made_in (RemoveDir d n) = root

-- the slot that a step changes
abbrev pub slot_of : TreeStep → Entry
slot_of (AddFile d n f) = (d, n)
slot_of (AddDir d n g) = (d, n)
slot_of (RemoveFile d n) = (d, n)
slot_of (RemoveDir d n) = (d, n)

-- the tree lines with one more, on this tree and at this line
abbrev pub deeds_after : Tree → ℕ → Call Gfid → Option Deeds → TreeStep → Deeds
deeds_after t line call None step = record {
  said = says t call (made_in step);
  first = record { line = line; step = step };
  more = [];
}
deeds_after t line call (Some d) step = record {
  said = d.said;
  first = d.first;
  more = d.more ++ record { line = line; step = step } ∷ [];
}

-- a request was carried out
abbrev pub is_carried : ReplyKind → Bool
is_carried Carried = true
is_carried r = false

-- the requests that change the tree, where they are carried out
abbrev pub is_change : RequestKind → ReplyKind → Bool
is_change Create r = is_carried r
is_change Unlink r = is_carried r
is_change q r = false

-- the requests that change it where they are carried out
-- by the home of the directory that they make or drop
abbrev pub is_dir_change : RequestKind → ReplyKind → Bool
is_dir_change MakeDir r = is_carried r
is_dir_change DropDir r = is_carried r
is_dir_change q r = false

abbrev pub owed_if : Bool → Owed → Option Owed
owed_if true o = Some o
owed_if false o = None

-- the tree line that is owed after a line
abbrev pub owed_after : Line → Option Owed
owed_after (Stepped k c b q r) =
    owed_if (is_change q r) (record { call = k; client = c; brick = b.0; request = q })
owed_after line = None

-- and the one that may come
abbrev pub allowed_after : Line → Option Owed
allowed_after (Stepped k c b q r) =
    owed_if (is_dir_change q r) (record { call = k; client = c; brick = b.0; request = q })
allowed_after line = None

-- the brick was down
abbrev pub is_down : ReplyKind → Bool
is_down Down = true
is_down r = false

-- the brick failed
abbrev pub is_failed : ReplyKind → Bool
is_failed Failed = true
is_failed r = false

-- the brick did as it should: it was up and had memory
abbrev pub is_sound : ReplyKind → Bool
is_sound Down = false
is_sound Failed = false
is_sound NoMemory = false
is_sound r = true

-- the answer tells of memory that ran out
abbrev pub is_enomem : Answer → Bool
is_enomem (Fault Enomem) = true
is_enomem a = false

-- no client is listed
abbrev pub is_empty : List ℕ → Bool
is_empty [] = true
is_empty (x ∷ xs) = false

-- a call that was accepted at this line, while these clients had one, and
-- of a client that had called since the volume was mounted, or had not
abbrev pub accepted : Bool → List ℕ → ℕ → CallNo → Call Gfid → PendingCall
accepted called callers line k call = record {
  number = k;
  call = call;
  since = line;
  alone = is_empty callers;
  is_first = not called;
  steps = 0;
  was_down = false;
  has_failed = false;
  deeds = None;
}

-- a pending call with one more step line of this reply,
-- or with the tree line of this step at this line
abbrev pub stepped : ReplyKind → Option PendingCall → Option PendingCall
stepped q None = None
stepped q (Some r) =
    Some
    (record r {
      steps = r.steps + 1;
      was_down = r.was_down || is_down q;
      has_failed = r.has_failed || is_failed q;
    })

abbrev pub did : Tree → ℕ → TreeStep → Option PendingCall → Option PendingCall
did t line step None = None
did t line step (Some r) = Some (record r { deeds = Some (deeds_after t line r.call r.deeds step) })

-- the history with a step of the tree, which is that
-- of the request whose tree line was owed, or allowed
abbrev pub with_step : History → TreeStep → (owed allowed : Option Owed) → History
with_step s step None None = record s { tree = applied step s.tree }
with_step s step None (Some o) = record s {
  tree = applied step s.tree;
  pending = put nat_eq s.pending o.client.0 (did s.tree (s.size + 1) step (s.pending o.client.0));
  dir_changes = put nat_eq s.dir_changes o.brick (s.dir_changes o.brick ++ slot_of step ∷ []);
}
with_step s step (Some o) allowed = record s {
  tree = applied step s.tree;
  pending = put nat_eq s.pending o.client.0 (did s.tree (s.size + 1) step (s.pending o.client.0));
  changes = put nat_eq s.changes o.brick (s.changes o.brick ++ slot_of step ∷ []);
}

-- the clients without this one
abbrev pub without : ℕ → List ℕ → List ℕ
without c [] = []
without c (x ∷ xs) = if nat_eq x c then without c xs else x ∷ without c xs

-- what a brick served, with one act more; a brick that is down serves nothing
abbrev pub acts_after : List Act → Act → List Act
acts_after acts x = if is_down x.reply then acts else acts ++ x ∷ []

-- the file or directory that an answer names
abbrev pub gfid_in : Answer → Option Gfid
gfid_in (File f) = Some f
gfid_in (Dir g) = Some g
gfid_in (Made f) = Some f
gfid_in Done = None
gfid_in (Fault e) = None

-- what each kind of line changes
abbrev pub tells : History → Line → History
tells s (Volume w) = record s { weights = w }
-- the next run begins, in which every client is alive and has not called
tells s (Remounted w) = record s {
  weights = w;
  run = s.run + 1;
  called = λ c. false;
  dead = λ c. false;
}
tells s (Called k c call) = record s {
  calls = s.calls + 1;
  pending = put nat_eq s.pending c.0 (Some (accepted (s.called c.0) s.callers (s.size + 1) k call));
  callers = c.0 ∷ s.callers;
  called = put nat_eq s.called c.0 true;
}
tells s (Stepped k c b q r) = record s {
  pending = put nat_eq s.pending c.0 (stepped r (s.pending c.0));
  clean = s.clean && is_sound r;
  requests = s.requests + 1;
  acts =
      put nat_eq s.acts b.0
      (acts_after (s.acts b.0) (record { client = c; call = k; request = q; reply = r }));
}
tells s (Waited k c b h) = record s {
  requests = s.requests + 1;
  acts =
      put nat_eq s.acts b.0
      (acts_after (s.acts b.0) (record { client = c; call = k; request = Lock; reply = Wait }));
}
tells s (Changed k step) = with_step s step s.owed s.allowed
tells s (Answered k c j a) = record s {
  pending = put nat_eq s.pending c.0 None;
  callers = without c.0 s.callers;
  answered = put nat_eq s.answered k.0 (gfid_in a);
  clean = s.clean && not (is_enomem a);
}
tells s (WentDown b) = record s { down = put nat_eq s.down b.0 true; clean = false }
tells s (CameUp b) = record s { down = put nat_eq s.down b.0 false }
tells s (Died c) = record s {
  pending = put nat_eq s.pending c.0 None;
  callers = without c.0 s.callers;
  dead = put nat_eq s.dead c.0 true;
  clean = false;
}
tells s (Refused n cause) = s

-- the history with one more line: what the line changes;
-- and every line is counted, and leaves its tree behind
abbrev pub with_line : History → Line → History
with_line s line = record (tells s line) {
  size = s.size + 1;
  past = put nat_eq s.past (s.size + 1) (tells s line).tree;
  owed = owed_after line;
  allowed = allowed_after line;
}

-- before the first line: a volume's first run has number 1
abbrev pub start : History
start = record {
  size = 0;
  run = 1;
  weights = [];
  calls = 0;
  tree = first_tree;
  past = λ j. first_tree;
  pending = λ c. None;
  callers = [];
  called = λ c. false;
  answered = λ k. None;
  dead = λ c. false;
  down = λ b. false;
  clean = true;
  requests = 0;
  acts = λ b. [];
  changes = λ b. [];
  dir_changes = λ b. [];
  owed = None;
  allowed = None;
}

abbrev pub with_lines : History → List Line → History
with_lines s [] = s
with_lines s (line ∷ lines) = with_lines (with_line s line) lines

abbrev pub history_of : List Line → History
history_of lines = with_lines start lines

-- client c is in its k-th call
pub record IsIn (s : History) (c : ClientNo) (k : CallNo) (r : PendingCall) : Type 0 where
  pub runs : s.pending c.0 ≡ Some r
  pub number : r.number ≡ k

-- the steps of tree lines
abbrev pub steps_of : List Deed → List TreeStep
steps_of [] = []
steps_of (d ∷ ds) = d.step ∷ steps_of ds

abbrev pub all_steps : Deeds → List TreeStep
all_steps d = d.first.step ∷ steps_of d.more

-- the step is the next that the call is to do: the first
-- that the tree says now, or the one after those that it did
abbrev pub IsNext : Tree → Call Gfid → Option Deeds → TreeStep → Type 0
IsNext t call None step =
    (rest : List TreeStep) × ((a : Answer) × (says t call (made_in step) ≡ Do (step ∷ rest) a))
IsNext t call (Some d) step =
    (rest : List TreeStep) × ((a : Answer) × (d.said ≡ Do (all_steps d ++ step ∷ rest) a))

-- the gfid that a step makes is of this run, client and call, with some home
abbrev pub IsOwn : ℕ → ClientNo → CallNo → Gfid → Type 0
IsOwn run c k g = (home : ℕ) × (home < 2 ^ 16) × (g ≡ made run c k home)

-- what a step makes is this call's own
abbrev pub MakesOwn : ℕ → ClientNo → CallNo → TreeStep → Type 0
MakesOwn run c k (AddFile d n f) = IsOwn run c k f
MakesOwn run c k (AddDir d n g) = IsOwn run c k g
MakesOwn run c k (RemoveFile d n) = Unit {0}
MakesOwn run c k (RemoveDir d n) = Unit {0}

-- the step is of the kind that a request stands for
abbrev pub IsOf : RequestKind → TreeStep → Type 0
IsOf Create (AddFile d n f) = Unit {0}
IsOf Unlink (RemoveFile d n) = Unit {0}
IsOf MakeDir (AddDir d n g) = Unit {0}
IsOf DropDir (RemoveDir d n) = Unit {0}
IsOf q step = ⊥

-- a directory is made and removed where its home brick has its copy made and dropped
abbrev pub IsAtHome : Tree → ℕ → TreeStep → Type 0
IsAtHome t b (AddFile d n f) = Unit {0}
IsAtHome t b (AddDir d n g) = b ≡ home g
IsAtHome t b (RemoveFile d n) = Unit {0}
IsAtHome t b (RemoveDir d n) = (g : Gfid) → t.names (d, n) ≡ Some (IsDir g) → b ≡ home g

-- the tree line that stands next may be that of this request
abbrev pub IsDue : (owed allowed : Option Owed) → Owed → Type 0
IsDue (Some o) allowed w = o ≡ w
IsDue None allowed w = allowed ≡ Some w

-- this is what the tree says to the call at point j, where it says to do nothing;
-- or the answer to the very steps that the call did, the first of them at line j
abbrev pub Tells : History → Call Gfid → Option Deeds → ℕ → Answer → Type 0
Tells s call None j a = (g : Gfid) → answer_of (says (s.past j) call g) ≡ Some a
Tells s call (Some d) j a = (d.first.line ≡ j) × (d.said ≡ Do (all_steps d) a)

-- the answer has a point within the call at which the tree says so
pub record HasPoint (s : History) (r : PendingCall) (at : Option ℕ) (a : Answer) : Type 0 where
  pub point : ℕ
  pub printed : at ≡ Some point
  pub after : r.since ≤ point
  pub before : point ≤ s.size
  pub tells : Tells s r.call r.deeds point a

-- the call was the only one in its span so far
pub record IsAlone (s : History) (r : PendingCall) : Type 0 where
  pub first : r.alone ≡ true
  pub last : r.number.0 ≡ s.calls

-- and no line tells of a fault
pub record IsUndisturbed (s : History) (r : PendingCall) : Type 0 where
  pub first : r.alone ≡ true
  pub last : r.number.0 ≡ s.calls
  pub clean : s.clean ≡ true

-- a refusal at once is that of what the call names, and has no point
pub record IsAtOnce (r : PendingCall) (at : Option ℕ) (e : Errno) : Type 0 where
  pub refused : refusal_at_once r.call ≡ Some e
  pub unprinted : at ≡ None

-- memory that ran out is free and has no point; the call has then done the first of its
-- steps, or some, or none. So has a call that ended because a brick was down, or failed
abbrev pub FaultHolds : History → PendingCall → Option ℕ → Errno → Type 0
FaultHolds s r at Enomem = at ≡ None
FaultHolds s r at Enoent = HasPoint s r at (Fault Enoent)
FaultHolds s r at Eexist = HasPoint s r at (Fault Eexist)
FaultHolds s r at Enotdir = HasPoint s r at (Fault Enotdir)
FaultHolds s r at Eisdir = HasPoint s r at (Fault Eisdir)
FaultHolds s r at Enotempty = HasPoint s r at (Fault Enotempty)
FaultHolds s r at Estale = HasPoint s r at (Fault Estale)
FaultHolds s r at Enotconn = (at ≡ None) × (r.was_down ≡ true)
FaultHolds s r at Eio = (at ≡ None) × (r.has_failed ≡ true)
FaultHolds s r at Einval = IsAtOnce r at Einval
FaultHolds s r at Enametoolong =
    IsAtOnce r at Enametoolong ⊎ HasPoint s r at (Fault Enametoolong)

abbrev pub Answers : History → PendingCall → Option ℕ → Answer → Type 0
Answers s r at (File f) = HasPoint s r at (File f)
Answers s r at (Dir g) = HasPoint s r at (Dir g)
Answers s r at (Made f) = HasPoint s r at (Made f)
Answers s r at Done = HasPoint s r at Done
Answers s r at (Fault e) = FaultHolds s r at e

-- a call that is to be refused at once answers so
abbrev pub HeedsRefusal : PendingCall → Answer → Type 0
HeedsRefusal r a = MatchOption (refusal_at_once r.call) (Unit {0}) (λ e. a ≡ Fault e)

-- the line may come next
abbrev pub Follows : History → Line → Type 0
-- the volume line is the first
Follows s (Volume w) = s.size ≡ 0
-- a remount comes while no call is pending, and takes no brick away
Follows s (Remounted w) =
    (s.owed ≡ None) × ((c : ℕ) → s.pending c ≡ None) × (length s.weights ≤ length w)
-- no line comes between a request and its tree line; calls
-- are numbered, and a client that is busy calls nothing
Follows s (Called k c call) = (s.owed ≡ None) × (k.0 ≡ s.calls + 1) × (s.pending c.0 ≡ None)
-- a call that is to be refused at once takes no step
Follows s (Stepped k c b q r) =
    (s.owed ≡ None) × ((o : PendingCall) × IsIn s c k o × (refusal_at_once o.call ≡ None))
Follows s (Waited k c b h) =
    (s.owed ≡ None) × ((o : PendingCall) × IsIn s c k o × (refusal_at_once o.call ≡ None))
-- a tree line stands directly under the line of its request; its step is
-- the next of the call's steps, can be done, and makes a gfid of this call
Follows s (Changed k step) =
    (w : Owed) × IsDue s.owed s.allowed w × (w.call ≡ k) × IsOf w.request step
    × IsAtHome s.tree w.brick step
    × ((o : PendingCall) × IsIn s w.client k o × IsNext s.tree o.call o.deeds step
    × Fits step s.tree × MakesOwn s.run w.client k step)
-- an answer is what the tree says, or the refusal at once
Follows s (Answered k c at a) =
    (s.owed ≡ None) × ((o : PendingCall) × IsIn s c k o × Answers s o at a × HeedsRefusal o a)
Follows s (WentDown b) = s.owed ≡ None
Follows s (CameUp b) = s.owed ≡ None
-- a client dies once
Follows s (Died c) = (s.owed ≡ None) × (s.dead c.0 ≡ false)
Follows s (Refused n cause) = s.owed ≡ None

abbrev pub LegalFrom : History → List Line → Type 0
LegalFrom s [] = Unit {0}
LegalFrom s (line ∷ lines) = Follows s line × LegalFrom (with_line s line) lines

-- each line may come after the lines before it, and no tree line is owed in the end
pub record Legal (lines : List Line) : Type 0 where
  pub from : LegalFrom start lines
  pub whole : (history_of lines).owed ≡ None

-- the tree after each line is one
pub record AreTrees (s : History) : Type 0 where
  pub now : IsTree s.tree
  pub past : (j : ℕ) → IsTree (s.past j)
