-- The laws of a program: those of its call.
use Rattle.std.proofs.Common.{◌≡◌, ◌<◌, ◌∙◌, ℕ, List, sym, arith}
use Rattle.std.specs.Prelude.{Option, Some, None}
use Rattle.dht_xattr.specs.declared.range.Range.{Range}
use Rattle.dht_section.specs.Closing.{closing_stage}
use Rattle.dht_section.specs.PartLaws.{part_permitted, part_stable}
use Rattle.dht_section.specs.Rely.{Rely}
use Rattle.dht_section.specs.Scene.{Scene}
use Rattle.dht_section.specs.Stages.{Stage, MaySend, IsStable}
use Rattle.dht_section.specs.declared.closing.Closing.{Closing}
use Rattle.dht_section.specs.declared.location.Location.{Location}
use Rattle.dht_resolve.specs.FirstWayLaws.{way_stable}
use Rattle.dht_resolve.specs.Lookup.{lookup_stage}
use Rattle.dht_resolve.specs.LookupLaws.{lookup_permitted, lookup_stable}
use Rattle.dht_resolve.specs.LookupName.{lookup_location}
use Rattle.dht_heal.proofs.HealOneParts.{one_goes_on}
use Rattle.dht_heal.specs.Heal.{heal_stage}
use Rattle.dht_heal.specs.HealCallLaws.{call_permitted, call_stable}
use Rattle.dht_heal.specs.declared.heal.Heal.{Heal}
use Rattle.dht_heal.specs.declared.heal.Heal.TheVariants as heal
use Rattle.dht_fileops.specs.Create.{create_stage}
use Rattle.dht_fileops.specs.CreateLaws.{create_permitted, create_stable}
use Rattle.dht_fileops.specs.Unlink.{unlink_stage}
use Rattle.dht_fileops.specs.UnlinkLaws.{unlink_permitted, unlink_stable}
use Rattle.dht_fileops.specs.declared.create.Create.{Create}
use Rattle.dht_fileops.specs.declared.create.Create.TheVariants as create
use Rattle.dht_fileops.specs.declared.unlink.Unlink.{Unlink}
use Rattle.dht_fileops.specs.declared.unlink.Unlink.TheVariants as unlink
use Rattle.dht_dirops.proofs.LookupPart.{goes_on as lookup_goes_on}
use Rattle.dht_dirops.specs.Mkdir.{after_section, mkdir_stage}
use Rattle.dht_dirops.specs.MkdirLaws.{mkdir_permitted, mkdir_stable}
use Rattle.dht_dirops.specs.declared.mkdir.Mkdir.{Mkdir}
use Rattle.dht_dirops.specs.declared.mkdir.Mkdir.TheVariants as mkdir
use Rattle.dht_dirops.specs.Rmdir.{rmdir_stage}
use Rattle.dht_dirops.specs.RmdirLaws.{rmdir_permitted, rmdir_stable}
use Rattle.dht_dirops.specs.declared.rmdir.Rmdir.{Rmdir}
use Rattle.dht_dirops.specs.declared.rmdir.Rmdir.TheVariants as rmdir
use Rattle.dht_client.specs.declared.program.Program.{Program}
use Rattle.dht_client.specs.declared.program.Program.TheVariants.{LookingUp, Creating, Making, Unlinking, Removing, Healing}
use Rattle.dht_client.specs.Program.{IsLookup, IsNoHeal, IsNoLookup, program_stage, program_way, without_heal}

-- ---- which call it is stays so

still_lookup : (l : Location) (s t : Scene) → IsLookup l s → Rely s t → IsLookup l t
still_lookup l s t h o = o.mine.call ∙ h

still_no_heal : (s t : Scene) → IsNoHeal s → Rely s t → IsNoHeal t
still_no_heal s t h o = λ d e. h d (sym o.mine.call ∙ e)

still_no_lookup : (s t : Scene) → IsNoLookup s → Rely s t → IsNoLookup t
still_no_lookup s t h o = λ d n e. h d n (sym o.mine.call ∙ e)

beside_permitted : (x : Stage) → MaySend x → MaySend (without_heal x)
beside_permitted x may = part_permitted x 0 IsNoHeal may

beside_stable : (x : Stage) → IsStable x → IsStable (without_heal x)
beside_stable x stable = part_stable x 0 IsNoHeal stable still_no_heal

pub program_permitted : (m : Program) → MaySend (program_stage m)
unfolding program_stage
program_permitted (LookingUp m) s sound h = part_permitted (lookup_stage m) 0 (λ s. IsLookup (lookup_location m) s) (lookup_permitted m) s sound h
program_permitted (Creating m) s sound h = beside_permitted (create_stage m) (create_permitted m) s sound h
program_permitted (Making m) s sound h = beside_permitted (mkdir_stage m) (mkdir_permitted m) s sound h
program_permitted (Unlinking m) s sound h = beside_permitted (unlink_stage m) (unlink_permitted m) s sound h
program_permitted (Removing m) s sound h = beside_permitted (rmdir_stage m) (rmdir_permitted m) s sound h
program_permitted (Healing m) s sound h = call_permitted m s sound h

pub program_stable : (m : Program) → IsStable (program_stage m)
unfolding program_stage
program_stable (LookingUp m) s t h o = part_stable (lookup_stage m) 0 (λ s. IsLookup (lookup_location m) s) (lookup_stable m) (still_lookup (lookup_location m)) s t h o
program_stable (Creating m) s t h o = beside_stable (create_stage m) (create_stable m) s t h o
program_stable (Making m) s t h o = beside_stable (mkdir_stage m) (mkdir_stable m) s t h o
program_stable (Unlinking m) s t h o = beside_stable (unlink_stage m) (unlink_stable m) s t h o
program_stable (Removing m) s t h o = beside_stable (rmdir_stage m) (rmdir_stable m) s t h o
program_stable (Healing m) s t h o = call_stable m s t h o

-- what others may do leaves its way
pub program_way_stable :
    (m : Program) (s t : Scene) → program_way m s → Rely s t → t.mine.steps ≡ s.mine.steps
    → program_way m t
unfolding program_way
program_way_stable (LookingUp m) s t h o steps = way_stable m s t h o steps
program_way_stable (Creating m) s t h o steps = still_no_lookup s t h o
program_way_stable (Making m) s t h o steps = still_no_lookup s t h o
program_way_stable (Unlinking m) s t h o steps = still_no_lookup s t h o
program_way_stable (Removing m) s t h o steps = still_no_lookup s t h o
program_way_stable (Healing m) s t h o steps = still_no_lookup s t h o

-- ---- it sends another request

closing_goes_on : (c : Closing) → 0 < (closing_stage c).variant
closing_goes_on c = omega arith

heal_goes_on : (m : Heal) → 0 < (heal_stage m).variant
heal_goes_on (heal.Climbing c) = omega arith
heal_goes_on (heal.Healing m c) = let some = one_goes_on m in omega arith

create_goes_on : (m : Create) → 0 < (create_stage m).variant
create_goes_on (create.Securing x None room m) = omega arith
create_goes_on (create.Securing x (Some layout) room m) = omega arith
create_goes_on (create.Restarting x layout m) = omega arith
create_goes_on (create.Sweeping m x l h) = omega arith
create_goes_on (create.Creating x l h) = omega arith
create_goes_on (create.Ending c learned) = closing_goes_on c

more_follow :
    (learned : Option (List (Option Range))) (bricks : ℕ) → 0 < after_section learned bricks
more_follow None bricks = omega arith
more_follow (Some layout) bricks = omega arith

mkdir_goes_on : (m : Mkdir) → 0 < (mkdir_stage m).variant
mkdir_goes_on (mkdir.Securing x m) = let some = more_follow x.learned x.target.location.bricks in omega arith
mkdir_goes_on (mkdir.Measuring x h) = omega arith
mkdir_goes_on (mkdir.Restarting x layout m) = omega arith
mkdir_goes_on (mkdir.Sweeping m x h) = omega arith
mkdir_goes_on (mkdir.Making x h) = omega arith
mkdir_goes_on (mkdir.Copying x h b line) = omega arith
mkdir_goes_on (mkdir.Ending c learned) = closing_goes_on c

unlink_goes_on : (m : Unlink) → 0 < (unlink_stage m).variant
unlink_goes_on (unlink.Securing l m) = omega arith
unlink_goes_on (unlink.Unlinking p l h) = omega arith
unlink_goes_on (unlink.Sweeping m x) = omega arith
unlink_goes_on (unlink.Reaping m x) = omega arith
unlink_goes_on (unlink.Ending c learned) = closing_goes_on c

rmdir_goes_on : (m : Rmdir) → 0 < (rmdir_stage m).variant
rmdir_goes_on (rmdir.Resolving m p) = omega arith
rmdir_goes_on (rmdir.Securing x m room learned) = omega arith
rmdir_goes_on (rmdir.Inspecting x h b) = omega arith
rmdir_goes_on (rmdir.Dropping x h b) = omega arith
rmdir_goes_on (rmdir.Releasing l m room layout) = omega arith
rmdir_goes_on (rmdir.Ending c learned) = closing_goes_on c

part_more : (x : Stage) → 0 < x.variant → 0 < (without_heal x).variant
part_more x h = omega arith

pub program_goes_on : (m : Program) → 0 < (program_stage m).variant
unfolding program_stage
program_goes_on (LookingUp m) = part_more (lookup_stage m) (lookup_goes_on m)
program_goes_on (Creating m) = part_more (create_stage m) (create_goes_on m)
program_goes_on (Making m) = part_more (mkdir_stage m) (mkdir_goes_on m)
program_goes_on (Unlinking m) = part_more (unlink_stage m) (unlink_goes_on m)
program_goes_on (Removing m) = part_more (rmdir_stage m) (rmdir_goes_on m)
program_goes_on (Healing m) = part_more (heal_stage m.heal) (heal_goes_on m.heal)
