-- Where an unlink is between its requests, and how a reply takes it on.
use Rattle.std.specs.Prelude.{ℕ, suc, ◌+◌, ◌<◌, ◌≡◌, ◌==◌, nat_eq, Bool, false, if◌then◌else◌, Option, Some, None, MatchOption, List, [], ◌∷◌, length}
use Rattle.dht_types.specs.Gfid.{home, anchor}
use Rattle.dht_types.specs.History.{is_carried}
use Rattle.dht_types.specs.declared.calls.Call.TheVariants.{Unlink as Called}
use Rattle.dht_types.specs.declared.errors.Errno.{Errno}
use Rattle.dht_types.specs.declared.errors.Errno.TheVariants.{Enoent, Eisdir}
use Rattle.dht_types.specs.declared.identifiers.Gfid.{Gfid}
use Rattle.dht_types.specs.declared.locks.Key.TheVariants.{Dir as DirKey}
use Rattle.dht_types.specs.declared.locks.Mode.TheVariants.{Shared}
use Rattle.dht_xattr.specs.declared.range.Range.{Range}
use Rattle.dht_brick.specs.Kinds.{reply_kind}
use Rattle.dht_brick.specs.declared.replies.Given.TheVariants.{Links}
use Rattle.dht_brick.specs.declared.replies.Reply.{Reply}
use Rattle.dht_brick.specs.declared.replies.Reply.TheVariants.{Ok as Carried}
use Rattle.dht_brick.specs.declared.requests.NameRequest.TheVariants.{Unlink as Remove}
use Rattle.dht_brick.specs.declared.requests.Request.TheVariants.{Lock as ALock, OnNames}
use Rattle.dht_section.specs.Claims.{Lock, claims_locks}
use Rattle.dht_section.specs.Closing.{closing_after, closing_of, closing_stage}
use Rattle.dht_section.specs.Ended.{gone_at}
use Rattle.dht_section.specs.Faults.{brick_fault, part_fault}
use Rattle.dht_section.specs.Location.{IsHeldAt, entry_at, located, scope_at, section_at}
use Rattle.dht_section.specs.Looks.{file_in}
use Rattle.dht_section.specs.Parts.{as_part}
use Rattle.dht_section.specs.Reap.{IsOrphan, reap_after, reap_stage}
use Rattle.dht_section.specs.Replies.{fault_of}
use Rattle.dht_section.specs.Scene.{Scene, fault_finish}
use Rattle.dht_section.specs.Section.{all_claimed, held_layout, held_looked, last_lock, section_after, section_fault, section_scope, section_stage, section_taught}
use Rattle.dht_section.specs.Stages.{Stage}
use Rattle.dht_section.specs.Sweep.{first_sweep, sweep_after, sweep_stage}
use Rattle.dht_section.specs.declared.closing.Closing.{Closing}
use Rattle.dht_section.specs.declared.ended.Ended.{Ended}
use Rattle.dht_section.specs.declared.location.Location.{Location}
use Rattle.dht_section.specs.declared.looks.Place.{Place}
use Rattle.dht_section.specs.declared.looks.What.{What}
use Rattle.dht_section.specs.declared.looks.What.TheVariants.{Absent, Dir, File}
use Rattle.dht_section.specs.declared.machine.Finish.{Finish}
use Rattle.dht_section.specs.declared.machine.Turn.{Turn}
use Rattle.dht_section.specs.declared.machine.Turn.TheVariants.{Go, Done}
use Rattle.dht_section.specs.declared.reap.Orphan.{Orphan}
use Rattle.dht_section.specs.declared.reap.Reap.{Reap}
use Rattle.dht_section.specs.declared.reap.Reap.TheVariants.{Sealing}
use Rattle.dht_section.specs.declared.section.Held.{Held}
use Rattle.dht_section.specs.declared.section.Opened.{Opened}
use Rattle.dht_section.specs.declared.section.Opened.TheVariants.{Held as Holding, Gone as IsGone, Stopped as IsStopped}
use Rattle.dht_section.specs.declared.section.Section.{Section}
use Rattle.dht_section.specs.declared.sweep.Sweep.{Sweep}
use Rattle.dht_section.specs.Finish.{done_at, refused_at}
use Rattle.dht_fileops.specs.declared.unlink.Removed.{Removed}
use Rattle.dht_fileops.specs.declared.unlink.Unlink.{Unlink}
use Rattle.dht_fileops.specs.declared.unlink.Unlink.TheVariants.{Securing, Unlinking, Sweeping, Reaping, Ending}

-- ---- what it knows

-- the call is the unlink of this name
abbrev pub IsUnlink : Location → Scene → Type 0
IsUnlink l s = s.mine.call ≡ Called l.directory l.name

-- and the section is the name's
pub record Secures (l : Location) (m : Section) (s : Scene) : Type 0 where
  pub call : IsUnlink l s
  pub scope : section_scope m ≡ scope_at l

-- both locks are held, and the name is this file on this brick
pub record IsLinked (p : Place) (l : Location) (h : Held) (s : Scene) : Type 0 where
  pub call : IsUnlink l s
  pub held : IsHeldAt l h s
  pub there : file_in (held_looked h (entry_at l)).sight.what ≡ Some p

-- how it ends, if no brick's error ends it
abbrev pub removed_closing : Removed → Closing
removed_closing x = closing_of x.held (done_at x.at)

-- the file has no name, where that was its last
abbrev pub WasLast : Option Orphan → Scene → Type 0
WasLast orphan s = MatchOption orphan (Unit {0}) (λ x. IsOrphan x s)

-- the name is gone
pub record Removes (x : Removed) (s : Scene) : Type 0 where
  pub closing : (closing_stage (removed_closing x)).knows s
  pub orphan : WasLast x.orphan s

-- the locks that it holds meanwhile
abbrev pub removed_locks : Removed → List Lock
removed_locks x = (all_claimed x.held.scope).locks

-- where it is between its requests
abbrev pub unlink_stage : Unlink → Stage
unlink_stage (Securing l m) = as_part (section_stage m) (l.bricks + 3) (λ s. Secures l m s)
unlink_stage (Unlinking p l h) = record {
  asks = record { brick = p.brick; request = OnNames (Remove l.directory l.name p.file) };
  claims = all_claimed h.scope;
  variant = suc (last_lock h.scope) + (l.bricks + 3);
  knows = λ s. IsLinked p l h s;
}
unlink_stage (Sweeping m x) =
    as_part (sweep_stage (removed_locks x) None m) (suc (last_lock x.held.scope) + 2)
    (λ s. Removes x s)
unlink_stage (Reaping m x) =
    as_part (reap_stage (removed_locks x) m) (suc (last_lock x.held.scope))
    (λ s. (closing_stage (removed_closing x)).knows s)
unlink_stage (Ending c learned) = closing_stage c

-- the error of a brick that ended it
abbrev pub unlink_fault : Unlink → Option Errno
unlink_fault (Securing l m) = part_fault (section_fault m)
unlink_fault (Unlinking p l h) = None
unlink_fault (Sweeping m x) = None
unlink_fault (Reaping m x) = None
unlink_fault (Ending c learned) = brick_fault c.finish.answer

-- the layout that it has learned
abbrev pub unlink_layout : Unlink → Option (List (Option Range))
unlink_layout (Securing l m) = None
unlink_layout (Unlinking p l h) = Some (held_layout h (entry_at l))
unlink_layout (Sweeping m x) = Some x.layout
unlink_layout (Reaping m x) = Some x.layout
unlink_layout (Ending c learned) = learned

-- and that a reply teaches it: by this reply every brick has shown its range
abbrev pub unlink_taught : Unlink → Reply → Option (List (Option Range))
unlink_taught (Securing l m) r = section_taught (entry_at l) m r
unlink_taught m r = None

-- ---- its beginning

abbrev pub first_unlink : ℕ → Gfid → List ℕ → Unlink
first_unlink bricks d n = Securing (located bricks d n) (section_at (located bricks d n))

-- the scene in which it begins
pub record MayUnlink (bricks : ℕ) (d : Gfid) (n : List ℕ) (s : Scene) : Type 0 where
  pub count : length s.history.weights ≡ bricks
  pub home : home d < bricks
  pub call : s.mine.call ≡ Called d n
  pub deeds : s.mine.deeds ≡ None

-- it asks for the directory's lock first, and sends so many requests at most
pub record StartsUnlink (bricks : ℕ) (d : Gfid) (x : Stage) : Type 0 where
  pub brick : x.asks.brick.0 ≡ (if bricks == 0 then 0 else anchor d bricks)
  pub request : x.asks.request ≡ ALock (DirKey d) Shared
  pub claims : x.claims ≡ claims_locks (record { brick = x.asks.brick.0; key = DirKey d } ∷ [])
  pub variant : x.variant ≡ bricks + bricks + 7

-- ---- how a reply takes it on

-- its locks are given back, and it answers so
abbrev pub closed : Location → Held → Finish → Unlink
closed l h f = Ending (closing_of h f) (Some (held_layout h (entry_at l)))

-- a name that is none, or a directory's, is refused at its last look
abbrev pub unlink_by : What → Location → Held → Unlink
unlink_by Absent l h = closed l h (refused_at Enoent (held_looked h (entry_at l)).at)
unlink_by (Dir g) l h = closed l h (refused_at Eisdir (held_looked h (entry_at l)).at)
unlink_by (File f b links) l h = Unlinking (record { brick = b; file = f }) l h

abbrev pub unlink_held : Location → Held → Unlink
unlink_held l h = unlink_by (held_looked h (entry_at l)).sight.what l h

-- a section that is not held has given back its locks
abbrev pub unlink_opened : Location → Opened → Turn Unlink Ended
unlink_opened l (Holding h) = Go (unlink_held l h)
unlink_opened l (IsGone g at) = Done (record { finish = gone_at at; layout = None })
unlink_opened l (IsStopped e) = Done (record { finish = fault_finish e; layout = None })

abbrev pub unlink_secured : Location → Turn Section Opened → Turn Unlink Ended
unlink_secured l (Go m) = Go (Securing l m)
unlink_secured l (Done out) = unlink_opened l out

-- no link of the file is left on its brick
abbrev pub is_last : Reply → Bool
is_last (Carried (Links left)) = nat_eq left 0
is_last r = false

-- the file, where its name was the last
abbrev pub orphan_of : Place → ℕ → Reply → Option Orphan
orphan_of p bricks r =
    if is_last r then Some (record { bricks = bricks; file = p.file; brick = p.brick }) else None

abbrev pub removed : Place → Location → Held → Reply → ℕ → Removed
removed p l h r at = record {
  held = h;
  layout = held_layout h (entry_at l);
  at = at;
  orphan = orphan_of p l.bricks r;
}

-- a brick's error that ended the sweep or the reap is the answer
abbrev pub removed_finish : Removed → Option Errno → Finish
removed_finish x None = done_at x.at
removed_finish x (Some e) = fault_finish e

abbrev pub removed_closed : Removed → Option Errno → Unlink
removed_closed x fault = Ending (closing_of x.held (removed_finish x fault)) (Some x.layout)

-- no linkto of the name is left
abbrev pub swept_by : Option Orphan → Removed → Unlink
swept_by None x = removed_closed x None
swept_by (Some orphan) x = Reaping (Sealing orphan) x

abbrev pub swept : Removed → Unlink
swept x = swept_by x.orphan x

-- the name was taken away at this line
abbrev pub sweeping : Option Sweep → Removed → Unlink
sweeping None x = swept x
sweeping (Some m) x = Sweeping m x

abbrev pub unlinked : Place → Location → Held → Reply → ℕ → Unlink
unlinked p l h r at = sweeping (first_sweep l h) (removed p l h r at)

abbrev pub unlink_unless : Option Errno → Place → Location → Held → Reply → ℕ → Unlink
unlink_unless (Some e) p l h r at = closed l h (fault_finish e)
unlink_unless None p l h r at =
    if is_carried (reply_kind r) then unlinked p l h r at else Unlinking p l h

abbrev pub unlink_answered : Place → Location → Held → Reply → ℕ → Unlink
unlink_answered p l h r at = unlink_unless (fault_of r) p l h r at

abbrev pub unlink_swept : Removed → Turn Sweep (Option Errno) → Turn Unlink Ended
unlink_swept x (Go m) = Go (Sweeping m x)
unlink_swept x (Done None) = Go (swept x)
unlink_swept x (Done (Some e)) = Go (removed_closed x (Some e))

abbrev pub unlink_reaped : Removed → Turn Reap (Option Errno) → Turn Unlink Ended
unlink_reaped x (Go m) = Go (Reaping m x)
unlink_reaped x (Done fault) = Go (removed_closed x fault)

abbrev pub unlink_closed : Option (List (Option Range)) → Turn Closing Finish → Turn Unlink Ended
unlink_closed learned (Go c) = Go (Ending c learned)
unlink_closed learned (Done f) = Done (record { finish = f; layout = learned })

abbrev pub unlink_after : Unlink → Reply → ℕ → Turn Unlink Ended
unlink_after (Securing l m) r at = unlink_secured l (section_after m r at)
unlink_after (Unlinking p l h) r at = Go (unlink_answered p l h r at)
unlink_after (Sweeping m x) r at = unlink_swept x (sweep_after m r)
unlink_after (Reaping m x) r at = unlink_reaped x (reap_after m r)
unlink_after (Ending c learned) r at = unlink_closed learned (closing_after c)
