use Rattle.std.proofs.Common.{refl, ap, subst, sym, ◌∙◌}
use Rattle.dht_section.proofs.PartSteps.{goes_as, ends_as}
use Rattle.dht_client.proofs.ProgramSteps.{at_create, at_heal, at_lookup, at_mkdir, at_rmdir, at_unlink, create_is_none, ends_without_heal, goes_without_heal, heal_is_none, lookup_ends, lookup_finds_soon, lookup_goes, lookup_keeps_way, mkdir_is_none, other_finds_soon, other_keeps_way, rmdir_is_none, unlink_is_none}
use Rattle.dht_fileops.specs.Create.{create_stage}
use Rattle.dht_fileops.specs.Unlink.{unlink_stage}
use Rattle.dht_heal.specs.HealCall.{call_stage}
use Rattle.dht_dirops.specs.Mkdir.{mkdir_stage}
use Rattle.dht_dirops.specs.Rmdir.{rmdir_stage}
use Rattle.dht_section.specs.Stages.{Stage}
use Rattle.dht_section.specs.declared.ended.Ended.{Ended}
use Rattle.dht_section.specs.declared.machine.Turn.{Turn}
use Rattle.dht_resolve.specs.Found.{ShowsDir, ShowsFile}
use Rattle.dht_resolve.specs.LookupName.{KeepsLocation}
use Rattle.dht_resolve.specs.declared.lookup.Lookup.{Lookup}
use Rattle.dht_resolve.specs.declared.lookup.Resolved.{Resolved}
use Rattle.dht_resolve.proofs.NameSteps.{keeps_location}
use Rattle.dht_client.specs.Program.{program_ended, program_stage}
use Rattle.dht_client.specs.declared.program.Program.TheVariants.{LookingUp, Creating, Making, Unlinking, Removing, Healing}
use Rattle.dht_client.proofs.program.ProgramMachine.take.Goals as goal

pub returns-in-Go-clause-moves : goal.returns-in-Go-clause-moves
returns-in-Go-clause-moves c = λ s t. lookup_goes c.args.self (LookingUp c.in-Go.call) c.in-LookingUp.call c.in-Go.call c.args.reply c.args.at s t c.in-LookingUp.is refl (subst (λ (x : Turn Lookup Resolved). KeepsLocation c.in-LookingUp.call x) (sym c.in-Go.ensures.after) (keeps_location c.in-LookingUp.call c.args.reply c.args.at)) (c.in-Go.ensures.moves s t)

pub returns-in-Done-clause-moves : goal.returns-in-Done-clause-moves
returns-in-Done-clause-moves c = λ s t. lookup_ends c.args.self c.in-LookingUp.call c.in-Done.end c.as_ended.result c.args.reply c.args.at s t c.in-LookingUp.is c.as_ended.ensures (subst (λ (x : Turn Lookup Resolved). KeepsLocation c.in-LookingUp.call x) (sym c.in-Done.ensures.after) (keeps_location c.in-LookingUp.call c.args.reply c.args.at)) (c.in-Done.ensures.moves s t)

pub returns-in-Go-clause-found : goal.returns-in-Go-clause-found
returns-in-Go-clause-found c = λ v f h. c.in-Go.ensures.found f (subst (λ (x : Stage). ShowsFile x c.args.reply f) (at_lookup c.args.self c.in-LookingUp.call c.in-LookingUp.is) h)

pub returns-in-Done-clause-found : goal.returns-in-Done-clause-found
returns-in-Done-clause-found c = λ v f h. ap (λ (x : Ended). x.finish) c.as_ended.ensures ∙ c.in-Done.ensures.found f (subst (λ (x : Stage). ShowsFile x c.args.reply f) (at_lookup c.args.self c.in-LookingUp.call c.in-LookingUp.is) h)

pub returns-in-Go-clause-folder : goal.returns-in-Go-clause-folder
returns-in-Go-clause-folder c = λ v g h. c.in-Go.ensures.folder g (subst (λ (x : Stage). ShowsDir x c.args.reply g) (at_lookup c.args.self c.in-LookingUp.call c.in-LookingUp.is) h)

pub returns-in-Done-clause-folder : goal.returns-in-Done-clause-folder
returns-in-Done-clause-folder c = λ v g h. ap (λ (x : Ended). x.finish) c.as_ended.ensures ∙ c.in-Done.ensures.folder g (subst (λ (x : Stage). ShowsDir x c.args.reply g) (at_lookup c.args.self c.in-LookingUp.call c.in-LookingUp.is) h)

pub returns-in-Go-take-clause-moves : goal.returns-in-Go-take-clause-moves
returns-in-Go-take-clause-moves c = λ s t. goes_without_heal c.args.self (Creating c.in-Go-take.call) (create_stage c.in-Creating.call) (create_stage c.in-Go-take.call) c.args.reply c.args.at s t (at_create c.args.self c.in-Creating.call c.in-Creating.is) (at_create (Creating c.in-Go-take.call) c.in-Go-take.call refl) (c.in-Go-take.ensures.moves s t)

pub returns-in-Done-take-clause-moves : goal.returns-in-Done-take-clause-moves
returns-in-Done-take-clause-moves c = λ s t. ends_without_heal c.args.self (create_stage c.in-Creating.call) c.in-Done-take.end c.args.reply c.args.at s t (at_create c.args.self c.in-Creating.call c.in-Creating.is) (c.in-Done-take.ensures.moves s t)

pub returns-in-Go-take-2-clause-moves : goal.returns-in-Go-take-2-clause-moves
returns-in-Go-take-2-clause-moves c = λ s t. goes_without_heal c.args.self (Making c.in-Go-take-2.call) (mkdir_stage c.in-Making.call) (mkdir_stage c.in-Go-take-2.call) c.args.reply c.args.at s t (at_mkdir c.args.self c.in-Making.call c.in-Making.is) (at_mkdir (Making c.in-Go-take-2.call) c.in-Go-take-2.call refl) (c.in-Go-take-2.ensures.moves s t)

pub returns-in-Done-take-2-clause-moves : goal.returns-in-Done-take-2-clause-moves
returns-in-Done-take-2-clause-moves c = λ s t. ends_without_heal c.args.self (mkdir_stage c.in-Making.call) c.in-Done-take-2.end c.args.reply c.args.at s t (at_mkdir c.args.self c.in-Making.call c.in-Making.is) (c.in-Done-take-2.ensures.moves s t)

pub returns-in-Go-take-3-clause-moves : goal.returns-in-Go-take-3-clause-moves
returns-in-Go-take-3-clause-moves c = λ s t. goes_without_heal c.args.self (Unlinking c.in-Go-take-3.call) (unlink_stage c.in-Unlinking.call) (unlink_stage c.in-Go-take-3.call) c.args.reply c.args.at s t (at_unlink c.args.self c.in-Unlinking.call c.in-Unlinking.is) (at_unlink (Unlinking c.in-Go-take-3.call) c.in-Go-take-3.call refl) (c.in-Go-take-3.ensures.moves s t)

pub returns-in-Done-take-3-clause-moves : goal.returns-in-Done-take-3-clause-moves
returns-in-Done-take-3-clause-moves c = λ s t. ends_without_heal c.args.self (unlink_stage c.in-Unlinking.call) c.in-Done-take-3.end c.args.reply c.args.at s t (at_unlink c.args.self c.in-Unlinking.call c.in-Unlinking.is) (c.in-Done-take-3.ensures.moves s t)

pub returns-in-Go-take-4-clause-moves : goal.returns-in-Go-take-4-clause-moves
returns-in-Go-take-4-clause-moves c = λ s t. goes_without_heal c.args.self (Removing c.in-Go-take-4.call) (rmdir_stage c.in-Removing.call) (rmdir_stage c.in-Go-take-4.call) c.args.reply c.args.at s t (at_rmdir c.args.self c.in-Removing.call c.in-Removing.is) (at_rmdir (Removing c.in-Go-take-4.call) c.in-Go-take-4.call refl) (c.in-Go-take-4.ensures.moves s t)

pub returns-in-Done-take-4-clause-moves : goal.returns-in-Done-take-4-clause-moves
returns-in-Done-take-4-clause-moves c = λ s t. ends_without_heal c.args.self (rmdir_stage c.in-Removing.call) c.in-Done-take-4.end c.args.reply c.args.at s t (at_rmdir c.args.self c.in-Removing.call c.in-Removing.is) (c.in-Done-take-4.ensures.moves s t)

pub returns-in-Go-take-5-clause-moves : goal.returns-in-Go-take-5-clause-moves
returns-in-Go-take-5-clause-moves c = λ s t. goes_as (program_stage c.args.self) (call_stage c.in-Healing.call) (program_stage (Healing c.in-Go-take-5.call)) (call_stage c.in-Go-take-5.call) c.args.reply c.args.at s t (at_heal c.args.self c.in-Healing.call c.in-Healing.is) (at_heal (Healing c.in-Go-take-5.call) c.in-Go-take-5.call refl) (c.in-Go-take-5.ensures.moves s t)

pub returns-in-Done-take-5-clause-moves : goal.returns-in-Done-take-5-clause-moves
returns-in-Done-take-5-clause-moves c = λ s t. ends_as (program_stage c.args.self) (call_stage c.in-Healing.call) (program_ended c.in-Done-take-5.end) c.args.reply c.args.at s t (at_heal c.args.self c.in-Healing.call c.in-Healing.is) (c.in-Done-take-5.ensures.moves s t)

-- ---- the way of a first lookup

pub returns-in-Go-clause-way : goal.returns-in-Go-clause-way
returns-in-Go-clause-way c = λ s t. lookup_keeps_way c.args.self c.in-LookingUp.call c.in-Go.call c.args.reply c.args.at s t c.in-LookingUp.is c.in-Go.ensures.after

pub returns-in-Done-clause-way : goal.returns-in-Done-clause-way
returns-in-Done-clause-way c = λ s t. lookup_finds_soon c.args.self c.in-LookingUp.call c.in-Done.end c.as_ended.result c.args.reply c.args.at s t c.in-LookingUp.is c.as_ended.ensures (subst (λ (x : Turn Lookup Resolved). KeepsLocation c.in-LookingUp.call x) (sym c.in-Done.ensures.after) (keeps_location c.in-LookingUp.call c.args.reply c.args.at)) c.in-Done.ensures.after

pub returns-in-Go-take-clause-way : goal.returns-in-Go-take-clause-way
returns-in-Go-take-clause-way c = λ s t. other_keeps_way c.args.self (Creating c.in-Go-take.call) c.args.reply c.args.at s t (create_is_none c.args.self c.in-Creating.call c.in-Creating.is) (create_is_none (Creating c.in-Go-take.call) c.in-Go-take.call refl)

pub returns-in-Done-take-clause-way : goal.returns-in-Done-take-clause-way
returns-in-Done-take-clause-way c = λ s t. other_finds_soon c.args.self c.in-Done-take.end c.args.reply c.args.at s t (create_is_none c.args.self c.in-Creating.call c.in-Creating.is)

pub returns-in-Go-take-2-clause-way : goal.returns-in-Go-take-2-clause-way
returns-in-Go-take-2-clause-way c = λ s t. other_keeps_way c.args.self (Making c.in-Go-take-2.call) c.args.reply c.args.at s t (mkdir_is_none c.args.self c.in-Making.call c.in-Making.is) (mkdir_is_none (Making c.in-Go-take-2.call) c.in-Go-take-2.call refl)

pub returns-in-Done-take-2-clause-way : goal.returns-in-Done-take-2-clause-way
returns-in-Done-take-2-clause-way c = λ s t. other_finds_soon c.args.self c.in-Done-take-2.end c.args.reply c.args.at s t (mkdir_is_none c.args.self c.in-Making.call c.in-Making.is)

pub returns-in-Go-take-3-clause-way : goal.returns-in-Go-take-3-clause-way
returns-in-Go-take-3-clause-way c = λ s t. other_keeps_way c.args.self (Unlinking c.in-Go-take-3.call) c.args.reply c.args.at s t (unlink_is_none c.args.self c.in-Unlinking.call c.in-Unlinking.is) (unlink_is_none (Unlinking c.in-Go-take-3.call) c.in-Go-take-3.call refl)

pub returns-in-Done-take-3-clause-way : goal.returns-in-Done-take-3-clause-way
returns-in-Done-take-3-clause-way c = λ s t. other_finds_soon c.args.self c.in-Done-take-3.end c.args.reply c.args.at s t (unlink_is_none c.args.self c.in-Unlinking.call c.in-Unlinking.is)

pub returns-in-Go-take-4-clause-way : goal.returns-in-Go-take-4-clause-way
returns-in-Go-take-4-clause-way c = λ s t. other_keeps_way c.args.self (Removing c.in-Go-take-4.call) c.args.reply c.args.at s t (rmdir_is_none c.args.self c.in-Removing.call c.in-Removing.is) (rmdir_is_none (Removing c.in-Go-take-4.call) c.in-Go-take-4.call refl)

pub returns-in-Done-take-4-clause-way : goal.returns-in-Done-take-4-clause-way
returns-in-Done-take-4-clause-way c = λ s t. other_finds_soon c.args.self c.in-Done-take-4.end c.args.reply c.args.at s t (rmdir_is_none c.args.self c.in-Removing.call c.in-Removing.is)

pub returns-in-Go-take-5-clause-way : goal.returns-in-Go-take-5-clause-way
returns-in-Go-take-5-clause-way c = λ s t. other_keeps_way c.args.self (Healing c.in-Go-take-5.call) c.args.reply c.args.at s t (heal_is_none c.args.self c.in-Healing.call c.in-Healing.is) (heal_is_none (Healing c.in-Go-take-5.call) c.in-Go-take-5.call refl)

pub returns-in-Done-take-5-clause-way : goal.returns-in-Done-take-5-clause-way
returns-in-Done-take-5-clause-way c = λ s t. other_finds_soon c.args.self c.in-Done-take-5.end c.args.reply c.args.at s t (heal_is_none c.args.self c.in-Healing.call c.in-Healing.is)
