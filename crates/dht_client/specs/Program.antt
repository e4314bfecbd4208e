-- Where a program is: where its call is, and which call that is. These
-- do not unfold by themselves, so that no proof above looks into a call.
use Rattle.std.specs.Prelude.{ℕ, ◌≡◌, Bool, true, false, Option, List}
use Rattle.dht_types.specs.declared.calls.Call.TheVariants as call
use Rattle.dht_types.specs.declared.errors.Errno.{Errno}
use Rattle.dht_types.specs.declared.identifiers.Gfid.{Gfid}
use Rattle.dht_brick.specs.declared.replies.Reply.{Reply}
use Rattle.dht_xattr.specs.declared.range.Range.{Range}
use Rattle.dht_section.specs.FirstLookup.{FindsSoon}
use Rattle.dht_section.specs.Parts.{as_part}
use Rattle.dht_section.specs.Scene.{Scene}
use Rattle.dht_section.specs.Stages.{Ending, MatchTurn, Served, Stage, call_answered}
use Rattle.dht_section.specs.declared.ended.Ended.{Ended}
use Rattle.dht_section.specs.declared.location.Location.{Location}
use Rattle.dht_section.specs.declared.machine.Turn.{Turn}
use Rattle.dht_resolve.specs.FirstWay.{OnWay}
use Rattle.dht_resolve.specs.Lookup.{lookup_stage, lookup_fault, lookup_layout, lookup_taught}
use Rattle.dht_resolve.specs.LookupName.{lookup_location}
use Rattle.dht_fileops.specs.Create.{create_stage, create_fault, create_layout, create_taught}
use Rattle.dht_fileops.specs.Unlink.{unlink_stage, unlink_fault, unlink_layout, unlink_taught}
use Rattle.dht_heal.specs.HealCall.{call_stage, call_fault, call_layout, call_taught}
use Rattle.dht_dirops.specs.Rmdir.{rmdir_stage, rmdir_fault, rmdir_layout, rmdir_taught}
use Rattle.dht_dirops.specs.Mkdir.{mkdir_stage, mkdir_fault, mkdir_layout, mkdir_taught}
use Rattle.dht_client.specs.declared.program.Program.{Program}
use Rattle.dht_client.specs.declared.program.Program.TheVariants.{LookingUp, Creating, Making, Unlinking, Removing, Healing}

-- the call is the lookup of this name
abbrev pub IsLookup : Location → Scene → Type 0
IsLookup l s = s.mine.call ≡ call.Lookup l.directory l.name

-- the call is no heal
abbrev pub IsNoHeal : Scene → Type 0
IsNoHeal s = (d : Gfid) → s.mine.call ≡ call.Heal d → ⊥

-- the call is no lookup
abbrev pub IsNoLookup : Scene → Type 0
IsNoLookup s = (d : Gfid) (n : List ℕ) → s.mine.call ≡ call.Lookup d n → ⊥

-- a call that is no heal, whose program is at this stage
abbrev pub without_heal : Stage → Stage
without_heal x = as_part x 0 IsNoHeal

-- the lookup of a name, whose program is at this stage
abbrev pub of_lookup : Location → Stage → Stage
of_lookup l x = as_part x 0 (λ s. IsLookup l s)

unfoldable pub program_stage : Program → Stage
program_stage (LookingUp m) = of_lookup (lookup_location m) (lookup_stage m)
program_stage (Creating m) = without_heal (create_stage m)
program_stage (Making m) = without_heal (mkdir_stage m)
program_stage (Unlinking m) = without_heal (unlink_stage m)
program_stage (Removing m) = without_heal (rmdir_stage m)
program_stage (Healing m) = call_stage m

-- it may answer so, and if it is a heal, what it healed is whole
abbrev pub program_ended : Ended → Ending
program_ended e = call_answered e.finish

-- it is a lookup
unfoldable pub is_lookup : Program → Bool
is_lookup (LookingUp m) = true
is_lookup m = false

-- the error of a brick that ended the call
unfoldable pub program_fault : Program → Option Errno
program_fault (LookingUp m) = lookup_fault m
program_fault (Creating m) = create_fault m
program_fault (Making m) = mkdir_fault m
program_fault (Unlinking m) = unlink_fault m
program_fault (Removing m) = rmdir_fault m
program_fault (Healing m) = call_fault m

-- the layout that it has learned
unfoldable pub program_layout : Program → Option (List (Option Range))
program_layout (LookingUp m) = lookup_layout m
program_layout (Creating m) = create_layout m
program_layout (Making m) = mkdir_layout m
program_layout (Unlinking m) = unlink_layout m
program_layout (Removing m) = rmdir_layout m
program_layout (Healing m) = call_layout m

-- and that a reply teaches it: by this reply every brick has shown its range
unfoldable pub program_taught : Program → Reply → Option (List (Option Range))
program_taught (LookingUp m) r = lookup_taught m r
program_taught (Creating m) r = create_taught m r
program_taught (Making m) r = mkdir_taught m r
program_taught (Unlinking m) r = unlink_taught m r
program_taught (Removing m) r = rmdir_taught m r
program_taught (Healing m) r = call_taught m r

-- where it is on the way of a first lookup, if it is a lookup
unfoldable pub program_way : Program → Scene → Type 0
program_way (LookingUp m) s = OnWay m s
program_way m s = IsNoLookup s

-- a client's call with this program
abbrev pub on_way : Program → Stage
on_way p = as_part (program_stage p) 0 (λ s. program_way p s)

-- it stays on its way, and in the end it has found a
-- file that is placed in time, if it was a first lookup
abbrev pub KeepsWay : Program → Reply → ℕ → Turn Program Ended → Type 0
KeepsWay p r at turn =
    (s t : Scene) → Served (program_stage p) r at s t → program_way p s
    → MatchTurn turn (λ n. program_way n t) (λ d. FindsSoon d.finish t)
