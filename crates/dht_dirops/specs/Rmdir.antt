-- Where an rmdir is between its requests, and how a reply takes it on.
use Rattle.std.specs.Prelude.{ℕ, suc, ◌+◌, ◌-◌, ◌*◌, ◌<◌, ◌≡◌, ◌≢◌, ◌⊎◌, ◌&&◌, not, nat_eq, nat_le, nat_lt, Bool, true, false, if◌then◌else◌, Option, Some, None, List, length}
use Rattle.dht_types.specs.Gfid.{home, same_gfid}
use Rattle.dht_types.specs.History.{is_carried}
use Rattle.dht_types.specs.Tree.{IsDir}
use Rattle.dht_types.specs.declared.calls.Answer.{Answer}
use Rattle.dht_types.specs.declared.calls.Answer.TheVariants as answer
use Rattle.dht_types.specs.declared.calls.Call.TheVariants.{Rmdir as Called}
use Rattle.dht_types.specs.declared.errors.Errno.{Errno}
use Rattle.dht_types.specs.declared.errors.Errno.TheVariants.{Enotdir, Enotempty}
use Rattle.dht_types.specs.declared.identifiers.BrickNo.{BrickNo}
use Rattle.dht_types.specs.declared.identifiers.Gfid.{Gfid}
use Rattle.dht_xattr.specs.declared.range.Range.{Range}
use Rattle.dht_brick.specs.Kinds.{reply_kind}
use Rattle.dht_brick.specs.declared.replies.Given.TheVariants as given
use Rattle.dht_brick.specs.declared.replies.Reply.{Reply}
use Rattle.dht_brick.specs.declared.replies.Reply.TheVariants.{Ok as Carried, Refused as Declined}
use Rattle.dht_brick.specs.declared.replies.Why.TheVariants.{Nodir, Slot}
use Rattle.dht_brick.specs.declared.requests.NameRequest.TheVariants.{Dirinfo, DropDir}
use Rattle.dht_brick.specs.declared.requests.Request.TheVariants.{OnNames}
use Rattle.dht_section.specs.Closing.{closing_after, closing_of, closing_stage}
use Rattle.dht_section.specs.Ended.{gone_at}
use Rattle.dht_section.specs.Faults.{brick_fault, part_fault}
use Rattle.dht_section.specs.Finish.{done_at, refused_at}
use Rattle.dht_section.specs.Location.{entry_at, located}
use Rattle.dht_section.specs.Pairs.{IsPairRoom, aimed_pair, pair_room, pair_scope}
use Rattle.dht_section.specs.Parts.{as_part}
use Rattle.dht_section.specs.Release.{release_after, release_of, release_stage}
use Rattle.dht_section.specs.Replies.{fault_of, is_shown}
use Rattle.dht_section.specs.Scene.{Scene, IfAlone, NameStands, fault_finish}
use Rattle.dht_section.specs.Section.{AllHeld, IsFresh, Saw, all_claimed, begun, held_layout, held_looked, last_lock, section_after, section_fault, section_scope, section_stage, section_taught}
use Rattle.dht_section.specs.Shapes.{Bare, Folder}
use Rattle.dht_section.specs.Stages.{Stage}
use Rattle.dht_section.specs.Want.{Scoped}
use Rattle.dht_section.specs.declared.closing.Closing.{Closing}
use Rattle.dht_section.specs.declared.ended.Ended.{Ended}
use Rattle.dht_section.specs.declared.location.Location.{Location}
use Rattle.dht_section.specs.declared.looks.What.{What}
use Rattle.dht_section.specs.declared.looks.What.TheVariants.{Absent, Dir}
use Rattle.dht_section.specs.declared.machine.Ask.{Ask}
use Rattle.dht_section.specs.declared.machine.Finish.{Finish}
use Rattle.dht_section.specs.declared.machine.Turn.{Turn}
use Rattle.dht_section.specs.declared.machine.Turn.TheVariants.{Go, Done}
use Rattle.dht_section.specs.declared.release.Release.{Release}
use Rattle.dht_section.specs.declared.section.Held.{Held}
use Rattle.dht_section.specs.declared.section.Opened.{Opened}
use Rattle.dht_section.specs.declared.section.Opened.TheVariants.{Held as Holding, Gone as IsGone, Stopped as IsStopped}
use Rattle.dht_section.specs.declared.section.Prepared.{Prepared}
use Rattle.dht_section.specs.declared.section.Section.{Section}
use Rattle.dht_resolve.specs.Lookup.{IsRoom, first_lookup, lookup_again, lookup_fault, lookup_layout, lookup_stage, lookup_taught}
use Rattle.dht_resolve.specs.LookupName.{lookup_location}
use Rattle.dht_resolve.specs.Turns.{lookup_after}
use Rattle.dht_resolve.specs.declared.lookup.Answered.{Answered}
use Rattle.dht_resolve.specs.declared.lookup.Lookup.{Lookup}
use Rattle.dht_resolve.specs.declared.lookup.Resolved.{Resolved}
use Rattle.dht_dirops.specs.declared.rmdir.Removal.{Removal}
use Rattle.dht_dirops.specs.declared.rmdir.Rmdir.{Rmdir}
use Rattle.dht_dirops.specs.declared.rmdir.Rmdir.TheVariants.{Resolving, Securing, Inspecting, Dropping, Releasing, Ending}

-- ---- what it knows

-- the call is the rmdir of this name
abbrev pub IsRmdir : Location → Scene → Type 0
IsRmdir l s = s.mine.call ≡ Called l.directory l.name

-- the name that is looked for is the call's, and there is memory for its section
pub record Resolves (l : Location) (p : Prepared) (s : Scene) : Type 0 where
  pub call : IsRmdir l s
  pub memory : IsPairRoom l.bricks l.directory l.name p

-- the call is the rmdir of this name, and the directory
-- that is to go is not that in which it stands
pub record Removes (x : Removal) (s : Scene) : Type 0 where
  pub call : IsRmdir x.location s
  pub apart : x.directory ≢ x.location.directory

-- what its section locks and looks at
abbrev pub removal_scope : Removal → Scoped
removal_scope x = pair_scope x.location.bricks x.location.directory x.directory x.location.name

-- the name is that directory's
abbrev pub IsNamed : Removal → Scene → Type 0
IsNamed x s = s.history.tree.names (entry_at x.location) ≡ Some (IsDir x.directory)

-- the section is that of the two directories, and there is memory for another
-- lookup; and the name is the directory's still, if the call was alone
pub record Secures (x : Removal) (m : Section) (room : Prepared) (s : Scene) : Type 0 where
  pub removes : Removes x s
  pub scope : section_scope m ≡ removal_scope x
  pub memory : IsRoom x.location room s
  pub named : IfAlone (IsNamed x) s

-- all locks are held, and the name stands as the directory,
-- with copies on these bricks; the call has done no step
pub record Holds (x : Removal) (h : Held) (s : Scene) : Type 0 where
  pub removes : Removes x s
  pub scope : h.scope ≡ removal_scope x
  pub fresh : IsFresh h.scope s
  pub holds : AllHeld h.scope (length h.scope.keys) s
  pub on : ℕ → Bool
  pub stands : NameStands s (entry_at x.location) (Folder x.directory on)

-- the bricks below a limit showed no name in the directory
abbrev pub ShowNothing : Gfid → ℕ → Scene → Type 0
ShowNothing g limit s = (n : List ℕ) → Saw (g, n) limit Absent s

pub record Inspects (x : Removal) (h : Held) (b : BrickNo) (s : Scene) : Type 0 where
  pub held : Holds x h s
  pub within : b.0 < x.location.bricks
  pub shown : ShowNothing x.directory b.0 s

-- nothing stands in the directory
abbrev pub IsBare : Gfid → Scene → Type 0
IsBare g s = (n : List ℕ) → NameStands s (g, n) Bare

-- no brick before this one has a copy of the directory, but for its home, which comes last
abbrev pub IsDropped : Gfid → BrickNo → (ℕ → Bool) → Type 0
IsDropped g b on = (i : ℕ) → i ≢ home g → (i < b.0) ⊎ (b.0 ≡ home g) → on i ≡ false

pub record Drops (x : Removal) (h : Held) (b : BrickNo) (s : Scene) : Type 0 where
  pub held : Holds x h s
  pub within : b.0 < x.location.bricks
  pub empty : IsBare x.directory s
  pub dropped : IsDropped x.directory b held.on

-- another call changed the name: this one was not alone
pub record Reopens (l : Location) (m : Release) (room : Prepared) (s : Scene) : Type 0 where
  pub call : IsRmdir l s
  pub scope : (g : Gfid) × (m.scope ≡ pair_scope l.bricks l.directory g l.name)
  pub memory : IsRoom l room s
  pub disturbed : IfAlone (λ u. ⊥) s

-- ---- where it is between its requests

abbrev pub inspect_ask : Removal → BrickNo → Ask
inspect_ask x b = record { brick = b; request = OnNames (Dirinfo x.directory) }

abbrev pub drop_ask : Removal → BrickNo → Ask
drop_ask x b = record {
  brick = b;
  request = OnNames (DropDir x.location.directory x.location.name x.directory);
}

-- how many bricks are asked to drop their copies before the home is, from this one on
abbrev pub drops_left : Removal → BrickNo → ℕ
drops_left x b = if nat_eq b.0 (home x.directory) then 0 else x.location.bricks - b.0

-- where it is between its requests
abbrev pub rmdir_stage : Rmdir → Stage
rmdir_stage (Resolving m p) =
    as_part (lookup_stage m) (3 * (lookup_location m).bricks + 8)
    (λ s. Resolves (lookup_location m) p s)
rmdir_stage (Securing x m room learned) =
    as_part (section_stage m) (x.location.bricks + x.location.bricks + 2)
    (λ s. Secures x m room s)
rmdir_stage (Inspecting x h b) = record {
  asks = inspect_ask x b;
  claims = all_claimed h.scope;
  variant = suc (last_lock h.scope) + 2 + x.location.bricks + (x.location.bricks - b.0);
  knows = λ s. Inspects x h b s;
}
rmdir_stage (Dropping x h b) = record {
  asks = drop_ask x b;
  claims = all_claimed h.scope;
  variant = suc (last_lock h.scope) + 1 + drops_left x b;
  knows = λ s. Drops x h b s;
}
rmdir_stage (Releasing l m room layout) =
    as_part (release_stage m) 0 (λ s. Reopens l m room s)
rmdir_stage (Ending c learned) = closing_stage c

-- the error of a brick that ended it
abbrev pub rmdir_fault : Rmdir → Option Errno
rmdir_fault (Resolving m p) = lookup_fault m
rmdir_fault (Securing x m room learned) = part_fault (section_fault m)
rmdir_fault (Inspecting x h b) = None
rmdir_fault (Dropping x h b) = None
rmdir_fault (Releasing l m room layout) = None
rmdir_fault (Ending c learned) = brick_fault c.finish.answer

-- the layout that it has learned
abbrev pub rmdir_layout : Rmdir → Option (List (Option Range))
rmdir_layout (Resolving m p) = lookup_layout m
rmdir_layout (Securing x m room learned) = learned
rmdir_layout (Inspecting x h b) = Some (held_layout h (entry_at x.location))
rmdir_layout (Dropping x h b) = Some (held_layout h (entry_at x.location))
rmdir_layout (Releasing l m room layout) = Some layout
rmdir_layout (Ending c learned) = learned

-- and that a reply teaches it: by this reply every brick has shown its range
abbrev pub rmdir_taught : Rmdir → Reply → Option (List (Option Range))
rmdir_taught (Resolving m p) r = lookup_taught m r
rmdir_taught (Securing x m room learned) r = section_taught (entry_at x.location) m r
rmdir_taught m r = None

-- ---- its beginning

-- by a client that knows this layout, or none
abbrev pub first_rmdir : ℕ → Gfid → List ℕ → Option (List (Option Range)) → Rmdir
first_rmdir bricks d n layout =
    Resolving (first_lookup (located bricks d n) layout) (pair_room bricks d n)

-- the scene in which it begins
pub record MayRmdir (bricks : ℕ) (d : Gfid) (n : List ℕ) (s : Scene) : Type 0 where
  pub count : length s.history.weights ≡ bricks
  pub home : home d < bricks
  pub call : s.mine.call ≡ Called d n
  pub deeds : s.mine.deeds ≡ None

-- ---- how a reply takes it on

-- the lookup ended so, or the call's answer is another one, at the same line
abbrev pub answers_as : Answer → Answered → Turn Rmdir Ended
answers_as a x = Done (record {
  finish = record { answer = a; at = x.finish.at };
  layout = x.layout;
})

-- a name that is a directory's is secured, with that directory
abbrev pub resolved_as : Answer → Option Prepared → Answered → Prepared → Turn Rmdir Ended
resolved_as (answer.Dir g) (Some room) x p = Go (Securing
    (record { location = x.location; directory = g }) (begun (aimed_pair p g)) room x.layout)
resolved_as (answer.File f) room x p = answers_as (answer.Fault Enotdir) x
resolved_as a room x p = answers_as a x

abbrev pub rmdir_resolved : Turn Lookup Resolved → Prepared → Turn Rmdir Ended
rmdir_resolved (Go m) p = Go (Resolving m p)
rmdir_resolved (Done d) p = resolved_as d.answered.finish.answer d.room d.answered p

-- the name is this directory's
abbrev pub is_that : Gfid → What → Bool
is_that g (Dir found) = same_gfid found g
is_that g what = false

-- the locks are given back, and it answers so
abbrev pub closed : Removal → Held → Finish → Rmdir
closed x h f = Ending (closing_of h f) (Some (held_layout h (entry_at x.location)))

-- a name that is not the directory's any more is looked up once more
abbrev pub removal_held : Removal → Held → Prepared → Rmdir
removal_held x h room =
    if is_that x.directory (held_looked h (entry_at x.location)).sight.what
    then Inspecting x h (record { 0 = 0 })
    else Releasing x.location (release_of h) room (held_layout h (entry_at x.location))

-- a section that is not held has given back its locks
abbrev pub rmdir_opened :
    Removal → Prepared → Option (List (Option Range)) → Opened → Turn Rmdir Ended
rmdir_opened x room learned (Holding h) = Go (removal_held x h room)
rmdir_opened x room learned (IsGone g at) = Done (record { finish = gone_at at; layout = learned })
rmdir_opened x room learned (IsStopped e) =
    Done (record { finish = fault_finish e; layout = learned })

abbrev pub rmdir_secured :
    Removal → Prepared → Option (List (Option Range)) → Turn Section Opened → Turn Rmdir Ended
rmdir_secured x room learned (Go m) = Go (Securing x m room learned)
rmdir_secured x room learned (Done out) = rmdir_opened x room learned out

-- a brick shows that a name stands in the directory
abbrev pub shows_name : Reply → Bool
shows_name (Carried (given.Dirinfo info)) = info.is_occupied
shows_name r = false

-- the first brick from one on that is not the directory's home; after the last one its home
abbrev pub drop_from : ℕ → ℕ → ℕ → ℕ
drop_from bricks last b =
    if nat_lt b bricks && not (nat_eq b last)
    then b
    else (if nat_lt 1 (bricks - b) then b + 1 else last)

abbrev pub drop_at : Removal → ℕ → BrickNo
drop_at x b = record { 0 = drop_from x.location.bricks (home x.directory) b }

-- all bricks below this one, and this one, showed no name in the directory
abbrev pub inspected : Removal → Held → BrickNo → Rmdir
inspected x h b =
    if nat_le (x.location.bricks - b.0) 1
    then Dropping x h (drop_at x 0)
    else Inspecting x h (record { 0 = b.0 + 1 })

abbrev pub inspect_told : Removal → Held → BrickNo → Reply → ℕ → Rmdir
inspect_told x h b r at =
    if shows_name r
    then closed x h (refused_at Enotempty at)
    else (if is_shown r then inspected x h b else Inspecting x h b)

abbrev pub inspect_unless : Option Errno → Removal → Held → BrickNo → Reply → ℕ → Rmdir
inspect_unless (Some e) x h b r at = closed x h (fault_finish e)
inspect_unless None x h b r at = inspect_told x h b r at

-- a brick that is not the home has no copy of the directory any more
abbrev pub is_dropped : Reply → Bool
is_dropped (Carried given) = true
is_dropped (Declined Nodir) = true
is_dropped (Declined (Slot shown)) = true
is_dropped r = false

-- the brick after this one
abbrev pub drop_next : Removal → BrickNo → BrickNo
drop_next x b =
    if nat_le (x.location.bricks - b.0) 1
    then record { 0 = home x.directory }
    else drop_at x (b.0 + 1)

abbrev pub home_told : Removal → Held → BrickNo → Reply → ℕ → Rmdir
home_told x h b r at =
    if is_carried (reply_kind r) then closed x h (done_at at) else Dropping x h b

abbrev pub drop_told : Removal → Held → BrickNo → Reply → ℕ → Rmdir
drop_told x h b r at =
    if nat_eq b.0 (home x.directory)
    then home_told x h b r at
    else (if is_dropped r then Dropping x h (drop_next x b) else Dropping x h b)

abbrev pub drop_unless : Option Errno → Removal → Held → BrickNo → Reply → ℕ → Rmdir
drop_unless (Some e) x h b r at = closed x h (fault_finish e)
drop_unless None x h b r at = drop_told x h b r at

-- the locks were given back, and the name is looked up once more, by the layout that was read
abbrev pub rmdir_released :
    Location → Prepared → List (Option Range) → Turn Release Prepared → Turn Rmdir Ended
rmdir_released l room layout (Go m) = Go (Releasing l m room layout)
rmdir_released l room layout (Done p) = Go (Resolving (lookup_again room l (Some layout)) p)

abbrev pub rmdir_closed : Option (List (Option Range)) → Turn Closing Finish → Turn Rmdir Ended
rmdir_closed learned (Go c) = Go (Ending c learned)
rmdir_closed learned (Done f) = Done (record { finish = f; layout = learned })

abbrev pub rmdir_after : Rmdir → Reply → ℕ → Turn Rmdir Ended
rmdir_after (Resolving m p) r at = rmdir_resolved (lookup_after m r at) p
rmdir_after (Securing x m room learned) r at = rmdir_secured x room learned (section_after m r at)
rmdir_after (Inspecting x h b) r at = Go (inspect_unless (fault_of r) x h b r at)
rmdir_after (Dropping x h b) r at = Go (drop_unless (fault_of r) x h b r at)
rmdir_after (Releasing l m room layout) r at = rmdir_released l room layout (release_after m)
rmdir_after (Ending c learned) r at = rmdir_closed learned (closing_after c)
