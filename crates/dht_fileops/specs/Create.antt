-- Where a create is between its requests, and how a reply takes it on.
use Rattle.std.specs.Prelude.{ℕ, suc, ◌+◌, ◌*◌, ◌<◌, ◌^◌, ◌≡◌, ◌==◌, if◌then◌else◌, Option, Some, None, List, [], ◌∷◌, length}
use Rattle.dht_types.specs.Cost.{heal_cost}
use Rattle.dht_types.specs.Gfid.{anchor, home, made}
use Rattle.dht_types.specs.History.{is_carried}
use Rattle.dht_types.specs.declared.calls.Call.TheVariants.{Create as Called}
use Rattle.dht_types.specs.declared.errors.Errno.{Errno}
use Rattle.dht_types.specs.declared.errors.Errno.TheVariants.{Eexist}
use Rattle.dht_types.specs.declared.identifiers.Gfid.{Gfid}
use Rattle.dht_types.specs.declared.locks.Key.TheVariants.{Dir as DirKey}
use Rattle.dht_types.specs.declared.locks.Mode.TheVariants.{Shared}
use Rattle.dht_xattr.specs.declared.range.Range.{Range}
use Rattle.dht_brick.specs.Kinds.{reply_kind}
use Rattle.dht_brick.specs.declared.replies.Reply.{Reply}
use Rattle.dht_brick.specs.declared.requests.NameRequest.TheVariants.{Create as Make}
use Rattle.dht_brick.specs.declared.requests.Request.TheVariants.{Lock as ALock, OnNames}
use Rattle.dht_section.specs.Claims.{Lock, claims_locks}
use Rattle.dht_section.specs.Closing.{closing_after, closing_of, closing_stage}
use Rattle.dht_section.specs.Ended.{gone_at}
use Rattle.dht_section.specs.Faults.{brick_fault, part_fault}
use Rattle.dht_section.specs.Location.{entry_at, located, scope_at, section_at}
use Rattle.dht_section.specs.Origin.{ComesFrom, origin_gfid}
use Rattle.dht_section.specs.Parts.{as_part}
use Rattle.dht_section.specs.Replies.{fault_of}
use Rattle.dht_section.specs.Scene.{Scene, fault_finish}
use Rattle.dht_section.specs.Section.{all_claimed, begun, held_holder, held_layout, held_looked, last_lock, section_after, section_fault, section_scope, section_stage, section_taught}
use Rattle.dht_section.specs.Stages.{Stage}
use Rattle.dht_section.specs.Sweep.{IsKept, IsSwept, first_sweep, sweep_after, sweep_stage}
use Rattle.dht_section.specs.declared.closing.Closing.{Closing}
use Rattle.dht_section.specs.declared.ended.Ended.{Ended}
use Rattle.dht_section.specs.declared.location.Location.{Location}
use Rattle.dht_section.specs.declared.looks.What.{What}
use Rattle.dht_section.specs.declared.looks.What.TheVariants.{Absent}
use Rattle.dht_section.specs.declared.machine.Finish.{Finish}
use Rattle.dht_section.specs.declared.machine.Turn.{Turn}
use Rattle.dht_section.specs.declared.machine.Turn.TheVariants.{Go, Done}
use Rattle.dht_section.specs.declared.origin.Origin.{Origin}
use Rattle.dht_section.specs.declared.section.Held.{Held}
use Rattle.dht_section.specs.declared.section.Opened.{Opened}
use Rattle.dht_section.specs.declared.section.Opened.TheVariants.{Held as Holding, Gone as IsGone, Stopped as IsStopped}
use Rattle.dht_section.specs.declared.section.Section.{Section}
use Rattle.dht_section.specs.declared.sweep.Sweep.{Sweep}
use Rattle.dht_heal.specs.Heal.{IsRoom}
use Rattle.dht_heal.specs.Restart.{SeesAnew, first_restart, ready_holder, restart_after, restart_fault, restart_scope, restart_stage}
use Rattle.dht_heal.specs.declared.restart.Restart.{Restart}
use Rattle.dht_heal.specs.declared.restart.Restarted.{Restarted}
use Rattle.dht_heal.specs.declared.restart.Restarted.TheVariants.{Ready, Stopped}
use Rattle.dht_heal.specs.declared.room.HealRoom.{HealRoom}
use Rattle.dht_section.specs.Finish.{made_at, refused_at}
use Rattle.dht_fileops.specs.declared.create.Create.{Create}
use Rattle.dht_fileops.specs.declared.create.Create.TheVariants.{Securing, Restarting, Sweeping, Creating, Ending}
use Rattle.dht_fileops.specs.declared.create.NewFile.{NewFile}
use Rattle.dht_fileops.specs.declared.create.Target.{Target}

-- ---- what it knows

-- the file that the call of this origin makes, with this brick as its home
abbrev pub new_file : Origin → ℕ → NewFile
new_file o b = record { file = origin_gfid o b; holder = record { 0 = b } }

-- the scene's call is the create of this name, and of this origin
pub record ComesOf (x : Target) (s : Scene) : Type 0 where
  pub call : s.mine.call ≡ Called x.location.directory x.location.name
  pub origin_is : ComesFrom x.origin s

-- the call is of this name, and the file is its own, with the brick to which it goes as its home
pub record Makes (x : NewFile) (l : Location) (s : Scene) : Type 0 where
  pub call : s.mine.call ≡ Called l.directory l.name
  pub there : x.holder.0 < s.disk.count
  pub file : x.file ≡ made s.history.run s.who s.mine.number x.holder.0
  pub small : s.mine.number.0 < 2 ^ 64

-- the section is that of the name, and the call is of this origin
pub record Secures (x : Target) (learned : Option (List (Option Range))) (room : HealRoom)
    (m : Section) (s : Scene) : Type 0 where
  pub comes : ComesOf x s
  pub scope : section_scope m ≡ scope_at x.location
  pub memory : IsRoom room s
  pub whole : SeesAnew learned x.location.directory m s

-- so is the section that is to begin anew
pub record Renews (x : Target) (m : Restart) (s : Scene) : Type 0 where
  pub comes : ComesOf x s
  pub scope : restart_scope m ≡ scope_at x.location

-- both locks are held, and the file goes to the name's holder
pub record MayMake (x : NewFile) (l : Location) (h : Held) (s : Scene) : Type 0 where
  pub makes : Makes x l s
  pub kept : IsKept l h s
  pub holder : held_holder h (entry_at l) ≡ Some x.holder.0

-- the sweep is that of the name
pub record Clears (m : Sweep) (x : NewFile) (l : Location) (h : Held) (s : Scene) : Type 0 where
  pub name : m.location ≡ l
  pub may : MayMake x l h s

-- no brick has the name, or a linkto of it
pub record IsFree (x : NewFile) (l : Location) (h : Held) (s : Scene) : Type 0 where
  pub may : MayMake x l h s
  pub swept : IsSwept l None s

-- the locks that it holds meanwhile
abbrev pub held_locks : Held → List Lock
held_locks h = (all_claimed h.scope).locks

-- how many requests may follow a section: a drop on each brick, and the create; before a heal, the
-- heal, and another section
abbrev pub after_section : Option (List (Option Range)) → ℕ → ℕ
after_section None bricks = heal_cost bricks + (2 * bricks + 6)
after_section (Some layout) bricks = bricks + 1

-- where it is between its requests
abbrev pub create_stage : Create → Stage
create_stage (Securing x learned room m) =
    as_part (section_stage m) (after_section learned x.location.bricks)
    (λ s. Secures x learned room m s)
create_stage (Restarting x layout m) =
    as_part (restart_stage m) (2 * x.location.bricks + 6) (λ s. Renews x m s)
create_stage (Sweeping m x l h) =
    as_part (sweep_stage (held_locks h) None m) (suc (last_lock h.scope) + 1)
    (λ s. Clears m x l h s)
create_stage (Creating x l h) = record {
  asks = record { brick = x.holder; request = OnNames (Make l.directory l.name x.file) };
  claims = all_claimed h.scope;
  variant = suc (last_lock h.scope) + 1;
  knows = λ s. IsFree x l h s;
}
create_stage (Ending c learned) = closing_stage c

-- the error of a brick that ended it
abbrev pub create_fault : Create → Option Errno
create_fault (Securing x learned room m) = part_fault (section_fault m)
create_fault (Restarting x layout m) = restart_fault m
create_fault (Sweeping m x l h) = None
create_fault (Creating x l h) = None
create_fault (Ending c learned) = brick_fault c.finish.answer

-- the layout that it has learned
abbrev pub create_layout : Create → Option (List (Option Range))
create_layout (Securing x learned room m) = learned
create_layout (Restarting x layout m) = Some layout
create_layout (Sweeping m x l h) = Some (held_layout h (entry_at l))
create_layout (Creating x l h) = Some (held_layout h (entry_at l))
create_layout (Ending c learned) = learned

-- and that a reply teaches it: by this reply every brick has shown its range
abbrev pub create_taught : Create → Reply → Option (List (Option Range))
create_taught (Securing x learned room m) r = section_taught (entry_at x.location) m r
create_taught m r = None

-- ---- its beginning

abbrev pub target_of : ℕ → Gfid → List ℕ → Origin → Target
target_of bricks d n o = record { origin = o; location = located bricks d n }

abbrev pub first_create : ℕ → Gfid → List ℕ → Origin → HealRoom → Create
first_create bricks d n o room =
    Securing (target_of bricks d n o) None room (section_at (located bricks d n))

-- the scene in which it begins
pub record MayCreate (bricks : ℕ) (d : Gfid) (n : List ℕ) (o : Origin) (room : HealRoom) (s : Scene)
    : Type 0 where
  pub count : length s.history.weights ≡ bricks
  pub home : home d < bricks
  pub comes : ComesOf (target_of bricks d n o) s
  pub memory : IsRoom room s
  pub deeds : s.mine.deeds ≡ None

-- it asks for the directory's lock first, and sends so many requests at most
pub record StartsCreate (bricks : ℕ) (d : Gfid) (x : Stage) : Type 0 where
  pub brick : x.asks.brick.0 ≡ (if bricks == 0 then 0 else anchor d bricks)
  pub request : x.asks.request ≡ ALock (DirKey d) Shared
  pub claims : x.claims ≡ claims_locks (record { brick = x.asks.brick.0; key = DirKey d } ∷ [])
  pub variant : x.variant ≡ heal_cost bricks + (3 * bricks + 10)

-- ---- how a reply takes it on

-- its locks are given back, and it answers so
abbrev pub closed : Location → Held → Finish → Create
closed l h f = Ending (closing_of h f) (Some (held_layout h (entry_at l)))

-- the linktos of the name are dropped, if there are some
abbrev pub clearing : Option Sweep → NewFile → Location → Held → Create
clearing None x l h = Creating x l h
clearing (Some m) x l h = Sweeping m x l h

abbrev pub create_placed : Target → Held → ℕ → Create
create_placed x h b = clearing (first_sweep x.location h) (new_file x.origin b) x.location h

-- the directory is healed
abbrev pub renewing : Target → HealRoom → Held → Create
renewing x room h =
    Restarting x (held_layout h (entry_at x.location)) (first_restart h room)

-- no brick has the name: its file goes to its holder, if there is one
abbrev pub create_at : Option ℕ → Target → HealRoom → Held → Create
create_at (Some b) x room h = create_placed x h b
create_at None x room h = renewing x room h

abbrev pub create_absent : Target → HealRoom → Held → Create
create_absent x room h = create_at (ready_holder x.location h) x room h

-- a name that is there is refused at its last look
abbrev pub create_by : What → Target → HealRoom → Held → Create
create_by Absent x room h = create_absent x room h
create_by what x room h =
    closed x.location h (refused_at Eexist (held_looked h (entry_at x.location)).at)

abbrev pub create_held : Target → HealRoom → Held → Create
create_held x room h = create_by (held_looked h (entry_at x.location)).sight.what x room h

-- a section that is not held has given back its locks
abbrev pub create_opened : Target → Option (List (Option Range)) → HealRoom → Opened
    → Turn Create Ended
create_opened x learned room (Holding h) = Go (create_held x room h)
create_opened x learned room (IsGone g at) =
    Done (record { finish = gone_at at; layout = learned })
create_opened x learned room (IsStopped e) =
    Done (record { finish = fault_finish e; layout = learned })

abbrev pub create_secured : Target → Option (List (Option Range)) → HealRoom
    → Turn Section Opened → Turn Create Ended
create_secured x learned room (Go m) = Go (Securing x learned room m)
create_secured x learned room (Done out) = create_opened x learned room out

-- the section begins anew, or a brick's error ended the heal
abbrev pub create_ready : Target → List (Option Range) → Restarted → Turn Create Ended
create_ready x layout (Ready p room) = Go (Securing x (Some layout) room (begun p))
create_ready x layout (Stopped e) =
    Done (record { finish = fault_finish e; layout = Some layout })

abbrev pub create_restarted : Target → List (Option Range) → Turn Restart Restarted
    → Turn Create Ended
create_restarted x layout (Go m) = Go (Restarting x layout m)
create_restarted x layout (Done d) = create_ready x layout d

-- a brick's error that ended the sweep is the answer
abbrev pub create_swept : NewFile → Location → Held → Option Errno → Create
create_swept x l h None = Creating x l h
create_swept x l h (Some e) = closed l h (fault_finish e)

abbrev pub create_cleared : NewFile → Location → Held
    → Turn Sweep (Option Errno) → Turn Create Ended
create_cleared x l h (Go m) = Go (Sweeping m x l h)
create_cleared x l h (Done fault) = Go (create_swept x l h fault)

-- the file was made at this line
abbrev pub create_unless : Option Errno → NewFile → Location → Held → Reply → ℕ → Create
create_unless (Some e) x l h r at = closed l h (fault_finish e)
create_unless None x l h r at =
    if is_carried (reply_kind r) then closed l h (made_at x.file at) else Creating x l h

abbrev pub create_answered : NewFile → Location → Held → Reply → ℕ → Create
create_answered x l h r at = create_unless (fault_of r) x l h r at

abbrev pub create_closed : Option (List (Option Range)) → Turn Closing Finish → Turn Create Ended
create_closed learned (Go c) = Go (Ending c learned)
create_closed learned (Done f) = Done (record { finish = f; layout = learned })

abbrev pub create_after : Create → Reply → ℕ → Turn Create Ended
create_after (Securing x learned room m) r at =
    create_secured x learned room (section_after m r at)
create_after (Restarting x layout m) r at = create_restarted x layout (restart_after m r at)
create_after (Sweeping m x l h) r at = create_cleared x l h (sweep_after m r)
create_after (Creating x l h) r at = Go (create_answered x l h r at)
create_after (Ending c learned) r at = create_closed learned (closing_after c)
