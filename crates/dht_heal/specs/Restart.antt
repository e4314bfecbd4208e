-- Where a restart is between its requests, and how a reply takes it on.
use Rattle.std.specs.Prelude.{ℕ, ◌+◌, ◌<◌, ◌≡◌, if◌then◌else◌, Option, Some, None, List, length}
use Rattle.dht_types.specs.Cost.{heal_cost}
use Rattle.dht_types.specs.declared.errors.Errno.{Errno}
use Rattle.dht_types.specs.declared.identifiers.Gfid.{Gfid}
use Rattle.dht_xattr.specs.declared.range.Range.{Range}
use Rattle.dht_brick.specs.declared.replies.Reply.{Reply}
use Rattle.dht_section.specs.Claims.{no_claim}
use Rattle.dht_section.specs.Faults.{fault_for, part_fault}
use Rattle.dht_section.specs.Location.{entry_at}
use Rattle.dht_section.specs.Looks.{mark_at}
use Rattle.dht_section.specs.Parts.{as_part}
use Rattle.dht_section.specs.Release.{CanBegin, release_after, release_of, release_stage}
use Rattle.dht_section.specs.Scene.{Scene, MayAnswer, fault_finish}
use Rattle.dht_section.specs.Section.{HasScope, all_claimed, begun, held_holder, held_looked}
use Rattle.dht_section.specs.Shapes.{either}
use Rattle.dht_section.specs.Stages.{Ending, MatchTurn, Stage}
use Rattle.dht_section.specs.Want.{IsOrdered, Scoped, name_at}
use Rattle.dht_section.specs.Whole.{EndsWhole, SeesWhole}
use Rattle.dht_section.specs.declared.location.Location.{Location}
use Rattle.dht_section.specs.declared.machine.Turn.{Turn}
use Rattle.dht_section.specs.declared.machine.Turn.TheVariants.{Go, Done}
use Rattle.dht_section.specs.declared.release.Release.{Release}
use Rattle.dht_section.specs.declared.section.Held.{Held}
use Rattle.dht_section.specs.declared.section.Opened.{Opened}
use Rattle.dht_section.specs.declared.section.Prepared.{Prepared}
use Rattle.dht_section.specs.declared.section.Section.{Section}
use Rattle.dht_heal.specs.Heal.{IsRoom, end_fault, first_heal, heal_after, heal_dir, heal_fault, heal_stage}
use Rattle.dht_heal.specs.declared.heal.Heal.{Heal}
use Rattle.dht_heal.specs.declared.heal.HealEnd.{HealEnd}
use Rattle.dht_heal.specs.declared.restart.Restart.{Restart}
use Rattle.dht_heal.specs.declared.restart.Restart.TheVariants.{Releasing, Healing}
use Rattle.dht_heal.specs.declared.restart.Restarted.{Restarted}
use Rattle.dht_heal.specs.declared.restart.Restarted.TheVariants.{Ready, Stopped}
use Rattle.dht_heal.specs.declared.room.HealRoom.{HealRoom}

-- ---- when a section begins anew

-- the brick that holds a name by the layout that was read, if it showed its copy of the directory
abbrev pub if_copied : Location → Held → Option ℕ → Option ℕ
if_copied l h None = None
if_copied l h (Some b) =
    if mark_at (held_looked h (entry_at l)).sight.copies b then Some b else None

abbrev pub ready_holder : Location → Held → Option ℕ
ready_holder l h = if_copied l h (held_holder h (entry_at l))

-- ---- a section that began after a heal

-- if the call was alone, it finds the directory whole, or gone; the layout is the one that was read
-- before the heal, if there was one
abbrev pub SeesAnew : Option (List (Option Range)) → Gfid → Section → Scene → Type 0
SeesAnew None g m s = Unit {0}
SeesAnew (Some layout) g m s = SeesWhole g m s

-- so it is where the section has ended
abbrev pub EndsAnew : Option (List (Option Range)) → Gfid → Opened → Scene → Type 0
EndsAnew None g out s = Unit {0}
EndsAnew (Some layout) g out s = EndsWhole g out s

-- ---- what it knows

-- the directory that is healed: that of the section's first name
abbrev pub first_dir : Scoped → Gfid
first_dir w = (name_at w 0).0

-- the locks are given back, and the memory of a heal is there
pub record Releases (m : Release) (room : HealRoom) (s : Scene) : Type 0 where
  pub memory : IsRoom room s
  pub named : 0 < length m.scope.names

-- the section may begin anew, once its directory is healed
pub record Awaits (m : Heal) (p : Prepared) (s : Scene) : Type 0 where
  pub order : IsOrdered p.scope
  pub scope : HasScope p.scope s
  pub room : length p.looks ≡ length p.scope.names
  pub heals : heal_dir m ≡ first_dir p.scope

-- where it is between its requests
abbrev pub restart_stage : Restart → Stage
restart_stage (Releasing m room) =
    as_part (release_stage m) (heal_cost m.scope.bricks) (λ s. Releases m room s)
restart_stage (Healing m p) = as_part (heal_stage m) 0 (λ s. Awaits m p s)

-- what the section locks and looks at
abbrev pub restart_scope : Restart → Scoped
restart_scope (Releasing m room) = m.scope
restart_scope (Healing m p) = p.scope

-- ---- how it ends

-- the section may begin anew: if the call was alone, its directory is whole, or gone
pub record IsReady (p : Prepared) (room : HealRoom) (s : Scene) : Type 0 where
  pub begins : CanBegin p s
  pub whole : SeesWhole (first_dir p.scope) (begun p) s
  pub memory : IsRoom room s

abbrev pub restarted_ending : Restarted → Ending
restarted_ending (Ready p room) = record { claims = no_claim; earned = λ s. IsReady p room s }
restarted_ending (Stopped e) = record {
  claims = no_claim;
  earned = λ s. MayAnswer (fault_finish e) s;
}

-- what is locked and looked at stays the same
abbrev pub IsOfScope : Scoped → Restarted → Type 0
IsOfScope w (Ready p room) = p.scope ≡ w
IsOfScope w (Stopped e) = Unit {0}

abbrev pub KeepsScope : Restart → Turn Restart Restarted → Type 0
KeepsScope m turn =
    MatchTurn turn (λ n. restart_scope n ≡ restart_scope m) (λ d. IsOfScope (restart_scope m) d)

-- ---- its beginning

abbrev pub first_restart : Held → HealRoom → Restart
first_restart h room = Releasing (release_of h) room

-- it begins where the section is held, and sends so many requests at most
pub record Restarts (h : Held) (room : HealRoom) (s : Scene) : Type 0 where
  pub claims : (restart_stage (first_restart h room)).claims ≡ all_claimed h.scope
  pub knows : (restart_stage (first_restart h room)).knows s
  pub variant : (restart_stage (first_restart h room)).variant
      ≡ length h.scope.keys + heal_cost h.scope.bricks

-- ---- how a reply takes it on

-- no lock is held any more: the directory is healed
abbrev pub heal_first : HealRoom → Prepared → Restart
heal_first room p = Healing (first_heal room p.scope.bricks (first_dir p.scope)) p

abbrev pub restart_released : HealRoom → Turn Release Prepared → Turn Restart Restarted
restart_released room (Go n) = Go (Releasing n room)
restart_released room (Done p) = Go (heal_first room p)

-- a directory that was healed leads on, and so does one that was gone
abbrev pub restarted_by : Option Errno → Prepared → HealRoom → Restarted
restarted_by None p room = Ready p room
restarted_by (Some e) p room = Stopped e

abbrev pub restart_ended : Prepared → HealEnd → Restarted
restart_ended p e = restarted_by (end_fault e) p e.room

abbrev pub restart_healed : Prepared → Turn Heal HealEnd → Turn Restart Restarted
restart_healed p (Go n) = Go (Healing n p)
restart_healed p (Done e) = Done (restart_ended p e)

abbrev pub restart_after : Restart → Reply → ℕ → Turn Restart Restarted
restart_after (Releasing m room) r at = restart_released room (release_after m)
restart_after (Healing m p) r at = restart_healed p (heal_after m r at)

-- ---- the error that it notes

abbrev pub restart_fault : Restart → Option Errno
restart_fault (Releasing m room) = None
restart_fault (Healing m p) = heal_fault m

abbrev pub restarted_fault : Restarted → Option Errno
restarted_fault (Ready p room) = None
restarted_fault (Stopped e) = part_fault (Some e)

abbrev pub NotesFault : Restart → Reply → Turn Restart Restarted → Type 0
NotesFault m r turn =
    MatchTurn turn
    (λ n. restart_fault n ≡ either (restart_fault m) (fault_for (restart_stage m).asks.request r))
    (λ d. restarted_fault d
    ≡ either (restart_fault m) (fault_for (restart_stage m).asks.request r))
