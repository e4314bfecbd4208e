-- Where a mkdir is between its requests, and how a reply takes it on.
use Rattle.std.specs.Prelude.{ℕ, zero, suc, ◌+◌, ◌*◌, ◌-◌, ◌<◌, ◌≡◌, ◌≢◌, ◌==◌, ◌&&◌, nat_eq, nat_lt, not, Bool, true, if◌then◌else◌, is_some, Option, Some, None, List, [], ◌∷◌, length, slice_index_or}
use Rattle.dht_types.specs.Cost.{heal_cost}
use Rattle.dht_types.specs.Gfid.{Entry, anchor, home, root, same_gfid}
use Rattle.dht_types.specs.History.{is_carried}
use Rattle.dht_types.specs.Tree.{Descent, deepest}
use Rattle.dht_types.specs.declared.calls.Call.TheVariants.{Mkdir as Called}
use Rattle.dht_types.specs.declared.errors.Errno.{Errno}
use Rattle.dht_types.specs.declared.errors.Errno.TheVariants.{Eexist, Enametoolong}
use Rattle.dht_types.specs.declared.identifiers.BrickNo.{BrickNo}
use Rattle.dht_types.specs.declared.identifiers.Gfid.{Gfid}
use Rattle.dht_types.specs.declared.locks.Key.TheVariants.{Dir as DirKey}
use Rattle.dht_types.specs.declared.locks.Mode.TheVariants.{Shared}
use Rattle.dht_xattr.specs.Plan.{planned, value_of}
use Rattle.dht_xattr.specs.declared.range.Range.{Range}
use Rattle.dht_brick.specs.Kinds.{reply_kind}
use Rattle.dht_brick.specs.declared.replies.Given.TheVariants.{Dirinfo as AnInfo}
use Rattle.dht_brick.specs.declared.replies.Reply.{Reply}
use Rattle.dht_brick.specs.declared.replies.Reply.TheVariants.{Ok as Carried}
use Rattle.dht_brick.specs.declared.requests.NameRequest.TheVariants.{Dirinfo, MakeDir}
use Rattle.dht_brick.specs.declared.requests.Request.TheVariants.{Lock as ALock, OnNames}
use Rattle.dht_section.specs.Claims.{Lock, claims_locks}
use Rattle.dht_section.specs.Closing.{closing_after, closing_of, closing_stage}
use Rattle.dht_section.specs.Disk.{dir_at}
use Rattle.dht_section.specs.Ended.{gone_at}
use Rattle.dht_section.specs.Faults.{brick_fault, part_fault}
use Rattle.dht_section.specs.Finish.{made_at, refused_at}
use Rattle.dht_section.specs.Location.{IsHeldAt, entry_at, located, scope_at, section_at}
use Rattle.dht_section.specs.Looks.{mark_at}
use Rattle.dht_section.specs.Origin.{ComesFrom, origin_gfid}
use Rattle.dht_section.specs.Parts.{as_part}
use Rattle.dht_section.specs.Planned.{AllPlanned}
use Rattle.dht_section.specs.Replies.{fault_of}
use Rattle.dht_section.specs.Scene.{Scene, MayAnswer, NameStands, fault_finish}
use Rattle.dht_section.specs.Section.{AllHeld, HasScope, all_claimed, begun, held_holder, held_layout, held_looked, last_lock, section_after, section_fault, section_scope, section_stage, section_taught}
use Rattle.dht_section.specs.Shapes.{Folder}
use Rattle.dht_section.specs.Stages.{Stage}
use Rattle.dht_section.specs.Sweep.{IsKept, IsSwept, first_sweep, sweep_after, sweep_stage}
use Rattle.dht_section.specs.Want.{IsOrdered}
use Rattle.dht_section.specs.declared.closing.Closing.{Closing}
use Rattle.dht_section.specs.declared.ended.Ended.{Ended}
use Rattle.dht_section.specs.declared.location.Location.{Location}
use Rattle.dht_section.specs.declared.looks.What.{What}
use Rattle.dht_section.specs.declared.looks.What.TheVariants.{Absent}
use Rattle.dht_section.specs.declared.machine.Ask.{Ask}
use Rattle.dht_section.specs.declared.machine.Finish.{Finish}
use Rattle.dht_section.specs.declared.machine.Turn.{Turn}
use Rattle.dht_section.specs.declared.machine.Turn.TheVariants.{Go, Done}
use Rattle.dht_section.specs.declared.origin.Origin.{Origin}
use Rattle.dht_section.specs.declared.section.Held.{Held}
use Rattle.dht_section.specs.declared.section.Opened.{Opened}
use Rattle.dht_section.specs.declared.section.Opened.TheVariants.{Held as Holding, Gone as IsGone, Stopped as IsStopped}
use Rattle.dht_section.specs.declared.section.Section.{Section}
use Rattle.dht_section.specs.declared.sweep.Sweep.{Sweep}
use Rattle.dht_heal.specs.Heal.{IsRoom, plan_by}
use Rattle.dht_heal.specs.HealOne.{has_copy}
use Rattle.dht_heal.specs.Restart.{EndsAnew, SeesAnew, first_restart, ready_holder, restart_after, restart_fault, restart_scope, restart_stage}
use Rattle.dht_heal.specs.declared.restart.Restart.{Restart}
use Rattle.dht_heal.specs.declared.restart.Restarted.{Restarted}
use Rattle.dht_heal.specs.declared.restart.Restarted.TheVariants.{Ready, Stopped}
use Rattle.dht_heal.specs.declared.room.HealRoom.{HealRoom}
use Rattle.dht_dirops.specs.declared.mkdir.Mkdir.{Mkdir}
use Rattle.dht_dirops.specs.declared.mkdir.Mkdir.TheVariants.{Securing, Measuring, Restarting, Sweeping, Making, Copying, Ending}
use Rattle.dht_dirops.specs.declared.mkdir.NewDir.{NewDir}
use Rattle.dht_dirops.specs.declared.mkdir.Round.{Round}
use Rattle.dht_dirops.specs.declared.mkdir.Target.{Target}

-- ---- what it knows

-- the directory above, and the name in it
abbrev pub above_of : Target → Gfid
above_of x = x.location.directory

abbrev pub entry_of : Target → Entry
entry_of x = entry_at x.location

-- what was seen of the name, and the layout of its directory
abbrev pub copies_of : Target → Held → List Bool
copies_of x h = (held_looked h (entry_of x)).sight.copies

abbrev pub layout_of : Target → Held → List (Option Range)
layout_of x h = held_layout h (entry_of x)

-- the scene's call is the mkdir of this name, and of this origin
pub record ComesOf (x : Target) (s : Scene) : Type 0 where
  pub call : s.mine.call ≡ Called x.location.directory x.location.name
  pub origin_is : ComesFrom x.origin s

-- the section is that of the name, and the call is of this origin; and there is memory for a heal
pub record Secures (x : Round) (m : Section) (s : Scene) : Type 0 where
  pub comes : ComesOf x.target s
  pub scope : section_scope m ≡ scope_at x.target.location
  pub memory : IsRoom x.room s
  pub whole : SeesAnew x.learned (above_of x.target) m s

-- the section is held
pub record Measures (x : Round) (h : Held) (s : Scene) : Type 0 where
  pub comes : ComesOf x.target s
  pub held : IsHeldAt x.target.location h s
  pub memory : IsRoom x.room s
  pub whole : EndsAnew x.learned (above_of x.target) (Holding h) s

-- the section is to begin anew
pub record Renews (x : Target) (m : Restart) (s : Scene) : Type 0 where
  pub comes : ComesOf x s
  pub scope : restart_scope m ≡ scope_at x.location

-- a directory is this deep
pub record IsDeep (g : Gfid) (deep : ℕ) (s : Scene) : Type 0 where
  pub descent : Descent
  pub is : s.history.tree.descents g ≡ Some descent
  pub depth : descent.depth ≡ deep

-- both locks are held, and the directory goes to the name's holder first, as deep as it will stand
pub record MayMake (x : NewDir) (h : Held) (s : Scene) : Type 0 where
  pub comes : ComesOf x.target s
  pub there : x.home.0 < s.disk.count
  pub made_is : x.made ≡ origin_gfid x.target.origin x.home.0
  pub plan_is : x.plan ≡ planned s.history.weights x.made
  pub above : ℕ
  pub depth_is : x.depth ≡ above + 1
  pub shallow : above < deepest
  pub deep : IsDeep (above_of x.target) above s
  pub kept : IsKept x.target.location h s
  pub holder : held_holder h (entry_of x.target) ≡ Some x.home.0

-- the sweep is that of the name
pub record Clears (m : Sweep) (x : NewDir) (h : Held) (s : Scene) : Type 0 where
  pub name : m.location ≡ x.target.location
  pub may : MayMake x h s

-- no brick has the name, or a linkto of it
pub record IsFree (x : NewDir) (h : Held) (s : Scene) : Type 0 where
  pub may : MayMake x h s
  pub swept : IsSwept x.target.location None s

-- each brick that showed its copy of the directory above has one
abbrev pub HasParents : Target → Held → Scene → Type 0
HasParents x h s = (b : ℕ)
    → b < s.disk.count → mark_at (copies_of x h) b ≡ true
    → is_some (dir_at s.disk b (above_of x)) ≡ true

-- the directory stands at the name
abbrev pub StandsMade : NewDir → Scene → Type 0
StandsMade x s = (on : ℕ → Bool) × NameStands s (entry_of x.target) (Folder x.made on)

-- both locks are held, and the directory was made, on this line: its ranges are the planned ones
pub record IsMade (x : NewDir) (h : Held) (line : ℕ) (s : Scene) : Type 0 where
  pub order : IsOrdered h.scope
  pub scope : h.scope ≡ scope_at x.target.location
  pub bricks : HasScope h.scope s
  pub holds : AllHeld h.scope (length h.scope.keys) s
  pub parents : HasParents x.target h s
  pub plan_is : x.plan ≡ planned s.history.weights x.made
  pub home_is : home x.made ≡ x.home.0
  pub stands : StandsMade x s
  pub descent : s.history.tree.descents x.made
      ≡ Some (record { depth = x.depth; place = Some (entry_of x.target) })
  pub ranges : AllPlanned s.disk s.history.weights x.made
  pub earned : MayAnswer (made_at x.made line) s

-- and this brick showed its copy of the directory above, and is not the home
pub record Copies (x : NewDir) (h : Held) (b : BrickNo) (line : ℕ) (s : Scene) : Type 0 where
  pub made : IsMade x h line s
  pub there : b.0 < s.disk.count
  pub away : b.0 ≢ x.home.0
  pub copied : mark_at (copies_of x.target h) b.0 ≡ true

-- ---- where it is between its requests

-- the locks that it holds meanwhile
abbrev pub held_locks : Held → List Lock
held_locks h = (all_claimed h.scope).locks

-- how many requests give them back
abbrev pub unlocks : Held → ℕ
unlocks h = suc (last_lock h.scope)

-- how many requests may follow a section: one for the depth, a drop on each brick, and a copy on
-- each; before a heal, the heal, and another section
abbrev pub after_section : Option (List (Option Range)) → ℕ → ℕ
after_section None bricks = heal_cost bricks + (3 * bricks + 10)
after_section (Some layout) bricks = bricks + bricks + 2

-- a brick makes the directory, with the range that is planned for the brick
abbrev pub mkdir_ask : NewDir → BrickNo → Ask
mkdir_ask x b = record {
  brick = b;
  request = OnNames (MakeDir (above_of x.target) x.target.location.name x.made x.depth
      (value_of (slice_index_or x.plan b.0 None)));
}

-- a brick shows what it has of a directory
abbrev pub info_ask : Gfid → ℕ → Ask
info_ask g b = record { brick = record { 0 = b }; request = OnNames (Dirinfo g) }

-- where it is between its requests
abbrev pub mkdir_stage : Mkdir → Stage
mkdir_stage (Securing x m) =
    as_part (section_stage m) (after_section x.learned x.target.location.bricks)
    (λ s. Secures x m s)
mkdir_stage (Measuring x h) = record {
  asks = info_ask (above_of x.target) (home (above_of x.target));
  claims = all_claimed h.scope;
  variant = unlocks h + after_section x.learned x.target.location.bricks;
  knows = λ s. Measures x h s;
}
mkdir_stage (Restarting x layout m) =
    as_part (restart_stage m) (3 * x.location.bricks + 7) (λ s. Renews x m s)
mkdir_stage (Sweeping m x h) =
    as_part (sweep_stage (held_locks h) None m) (unlocks h + x.target.location.bricks + 1)
    (λ s. Clears m x h s)
mkdir_stage (Making x h) = record {
  asks = mkdir_ask x x.home;
  claims = all_claimed h.scope;
  variant = unlocks h + x.target.location.bricks + 1;
  knows = λ s. IsFree x h s;
}
mkdir_stage (Copying x h b line) = record {
  asks = mkdir_ask x b;
  claims = all_claimed h.scope;
  variant = unlocks h + (x.target.location.bricks - b.0);
  knows = λ s. Copies x h b line s;
}
mkdir_stage (Ending c learned) = closing_stage c

-- the error of a brick that ended it
abbrev pub mkdir_fault : Mkdir → Option Errno
mkdir_fault (Securing x m) = part_fault (section_fault m)
mkdir_fault (Measuring x h) = None
mkdir_fault (Restarting x layout m) = restart_fault m
mkdir_fault (Sweeping m x h) = None
mkdir_fault (Making x h) = None
mkdir_fault (Copying x h b line) = None
mkdir_fault (Ending c learned) = brick_fault c.finish.answer

-- the layout that it has learned: that of the last section that was held
abbrev pub mkdir_layout : Mkdir → Option (List (Option Range))
mkdir_layout (Securing x m) = x.learned
mkdir_layout (Measuring x h) = Some (layout_of x.target h)
mkdir_layout (Restarting x layout m) = Some layout
mkdir_layout (Sweeping m x h) = Some (layout_of x.target h)
mkdir_layout (Making x h) = Some (layout_of x.target h)
mkdir_layout (Copying x h b line) = Some (layout_of x.target h)
mkdir_layout (Ending c learned) = learned

-- the layout that a reply teaches it
abbrev pub mkdir_taught : Mkdir → Reply → Option (List (Option Range))
mkdir_taught (Securing x m) r = section_taught (entry_of x.target) m r
mkdir_taught m r = None

-- ---- its beginning

abbrev pub first_round : ℕ → Gfid → List ℕ → Origin → HealRoom → Round
first_round bricks d n o room = record {
  target = record { origin = o; location = located bricks d n };
  learned = None;
  room = room;
}

abbrev pub first_mkdir : ℕ → Gfid → List ℕ → Origin → HealRoom → Mkdir
first_mkdir bricks d n o room =
    Securing (first_round bricks d n o room) (section_at (located bricks d n))

-- the scene in which it begins
pub record MayMkdir (bricks : ℕ) (d : Gfid) (n : List ℕ) (o : Origin) (room : HealRoom) (s : Scene)
    : Type 0 where
  pub count : length s.history.weights ≡ bricks
  pub home : home d < bricks
  pub call : s.mine.call ≡ Called d n
  pub origin_is : ComesFrom o s
  pub deeds : s.mine.deeds ≡ None
  pub memory : IsRoom room s

-- it asks for the directory's lock first, and sends so many requests at most
pub record StartsMkdir (bricks : ℕ) (d : Gfid) (x : Stage) : Type 0 where
  pub brick : x.asks.brick.0 ≡ (if bricks == 0 then 0 else anchor d bricks)
  pub request : x.asks.request ≡ ALock (DirKey d) Shared
  pub claims : x.claims ≡ claims_locks (record { brick = x.asks.brick.0; key = DirKey d } ∷ [])
  pub variant : x.variant ≡ 4 * bricks + 14 + heal_cost bricks

-- ---- how a reply takes it on

-- its locks are given back, and it answers so
abbrev pub closed : Location → Held → Finish → Mkdir
closed l h f = Ending (closing_of h f) (Some (held_layout h (entry_at l)))

-- the brick is one of those that make a copy: it showed its copy of the directory above, and is not
-- the home
abbrev pub is_to_copy : List Bool → (home b : ℕ) → Bool
is_to_copy copies home b = mark_at copies b && not (nat_eq b home)

-- the first of so many bricks, from this one on
unfoldable pub first_copy : List Bool → (home b more : ℕ) → Option BrickNo
first_copy copies home b zero = None
first_copy copies home b (suc more) =
    if is_to_copy copies home b
    then Some (record { 0 = b })
    else first_copy copies home (suc b) more

abbrev pub next_copy : NewDir → Held → ℕ → Option BrickNo
next_copy x h from =
    first_copy (copies_of x.target h) x.home.0 from (x.target.location.bricks - from)

abbrev pub copying : Option BrickNo → NewDir → Held → ℕ → Mkdir
copying None x h line = closed x.target.location h (made_at x.made line)
copying (Some b) x h line = Copying x h b line

abbrev pub copied_from : NewDir → Held → ℕ → ℕ → Mkdir
copied_from x h from line = copying (next_copy x h from) x h line

-- the directory that it makes, with this brick as its home
abbrev pub new_dir : Target → HealRoom → ℕ → ℕ → NewDir
new_dir x room depth b = record {
  target = x;
  made = origin_gfid x.origin b;
  depth = depth;
  home = record { 0 = b };
  plan = plan_by room.weights (origin_gfid x.origin b);
}

-- the name's linktos are dropped, if there are some
abbrev pub clearing : Option Sweep → NewDir → Held → Mkdir
clearing None x h = Making x h
clearing (Some m) x h = Sweeping m x h

abbrev pub placed_at : Target → HealRoom → Held → ℕ → ℕ → Mkdir
placed_at x room h depth b = clearing (first_sweep x.location h) (new_dir x room depth b) h

-- no brick has the name: without a brick that can hold it, the directory above is healed
abbrev pub mkdir_ready : Option ℕ → Target → HealRoom → Held → ℕ → Mkdir
mkdir_ready None x room h depth = Restarting x (layout_of x h) (first_restart h room)
mkdir_ready (Some b) x room h depth = placed_at x room h depth b

abbrev pub mkdir_absent : Target → HealRoom → Held → ℕ → Mkdir
mkdir_absent x room h depth = mkdir_ready (ready_holder x.location h) x room h depth

-- a name that is there is refused at its last look
abbrev pub refused : Errno → Target → Held → Mkdir
refused e x h = closed x.location h (refused_at e (held_looked h (entry_of x)).at)

abbrev pub mkdir_by : What → Target → HealRoom → Held → ℕ → Mkdir
mkdir_by Absent x room h depth = mkdir_absent x room h depth
mkdir_by what x room h depth = refused Eexist x h

-- so is one that would be too deep
abbrev pub mkdir_measured : Target → HealRoom → Held → ℕ → Mkdir
mkdir_measured x room h above =
    if nat_lt above deepest
    then mkdir_by (held_looked h (entry_of x)).sight.what x room h (above + 1)
    else refused Enametoolong x h

-- only of the root it is known how deep it is
abbrev pub mkdir_held : Round → Held → Mkdir
mkdir_held x h =
    if same_gfid (above_of x.target) root
    then mkdir_measured x.target x.room h 0
    else Measuring x h

-- a section that is not held has given back its locks
abbrev pub mkdir_opened : Round → Opened → Turn Mkdir Ended
mkdir_opened x (Holding h) = Go (mkdir_held x h)
mkdir_opened x (IsGone g at) = Done (record { finish = gone_at at; layout = x.learned })
mkdir_opened x (IsStopped e) = Done (record { finish = fault_finish e; layout = x.learned })

abbrev pub mkdir_secured : Round → Turn Section Opened → Turn Mkdir Ended
mkdir_secured x (Go m) = Go (Securing x m)
mkdir_secured x (Done out) = mkdir_opened x out

-- how deep a directory is whose record a reply shows
abbrev pub depth_shown : Reply → Option ℕ
depth_shown (Carried (AnInfo info)) = Some info.depth
depth_shown r = None

abbrev pub shown_by : Option ℕ → Round → Held → Mkdir
shown_by None x h = Measuring x h
shown_by (Some above) x h = mkdir_measured x.target x.room h above

-- a brick's error ends it
abbrev pub unless_fault : Option Errno → Location → Held → Mkdir → Mkdir
unless_fault None l h m = m
unless_fault (Some e) l h m = closed l h (fault_finish e)

abbrev pub mkdir_shown : Round → Held → Reply → Mkdir
mkdir_shown x h r = unless_fault (fault_of r) x.target.location h (shown_by (depth_shown r) x h)

-- a directory that was healed leads on, and so does one that was gone
abbrev pub mkdir_restarted :
    Target → List (Option Range) → Turn Restart Restarted → Turn Mkdir Ended
mkdir_restarted x layout (Go m) = Go (Restarting x layout m)
mkdir_restarted x layout (Done (Ready p room)) =
    Go (Securing (record { target = x; learned = Some layout; room = room }) (begun p))
mkdir_restarted x layout (Done (Stopped e)) =
    Done (record { finish = fault_finish e; layout = Some layout })

abbrev pub mkdir_swept : NewDir → Held → Option Errno → Mkdir
mkdir_swept x h fault = unless_fault fault x.target.location h (Making x h)

abbrev pub mkdir_cleared : NewDir → Held → Turn Sweep (Option Errno) → Turn Mkdir Ended
mkdir_cleared x h (Go m) = Go (Sweeping m x h)
mkdir_cleared x h (Done fault) = Go (mkdir_swept x h fault)

abbrev pub made_by : Bool → NewDir → Held → ℕ → Mkdir
made_by done x h at = if done then copied_from x h 0 at else Making x h

abbrev pub mkdir_made : NewDir → Held → Reply → ℕ → Mkdir
mkdir_made x h r at =
    unless_fault (fault_of r) x.target.location h (made_by (is_carried (reply_kind r)) x h at)

abbrev pub copied_by : Bool → NewDir → Held → BrickNo → ℕ → Mkdir
copied_by done x h b line = if done then copied_from x h (b.0 + 1) line else Copying x h b line

abbrev pub mkdir_copied : NewDir → Held → BrickNo → ℕ → Reply → Mkdir
mkdir_copied x h b line r =
    unless_fault (fault_of r) x.target.location h
    (copied_by (has_copy r && nat_lt b.0 x.target.location.bricks) x h b line)

abbrev pub mkdir_closed : Option (List (Option Range)) → Turn Closing Finish → Turn Mkdir Ended
mkdir_closed learned (Go c) = Go (Ending c learned)
mkdir_closed learned (Done f) = Done (record { finish = f; layout = learned })

abbrev pub mkdir_after : Mkdir → Reply → ℕ → Turn Mkdir Ended
mkdir_after (Securing x m) r at = mkdir_secured x (section_after m r at)
mkdir_after (Measuring x h) r at = Go (mkdir_shown x h r)
mkdir_after (Restarting x layout m) r at = mkdir_restarted x layout (restart_after m r at)
mkdir_after (Sweeping m x h) r at = mkdir_cleared x h (sweep_after m r)
mkdir_after (Making x h) r at = Go (mkdir_made x h r at)
mkdir_after (Copying x h b line) r at = Go (mkdir_copied x h b line r)
mkdir_after (Ending c learned) r at = mkdir_closed learned (closing_after c)
