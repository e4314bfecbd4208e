use Rattle.std.proofs.Common.{refl, ap, ◌∙◌}
use Rattle.std.specs.Prelude.{Some}
use Rattle.dht_types.specs.Gfid.{root}
use Rattle.dht_types.specs.declared.saved.Saved.{Saved}
use Rattle.dht_brick.specs.Saving.{dir_restored, dir_in}
use Rattle.dht_files.specs.Records.{files_in}
use Rattle.dht_names.specs.Kept.{tables_in}
use Rattle.dht_opens.specs.Opens.{opens_in}
use Rattle.dht_locks.specs.Held.{locks_in}
use Rattle.dht_membrick.specs.State.{mem_state}
use Rattle.dht_membrick.proofs.NewLaws.{new_contents, root_saved}
use Rattle.dht_membrick.proofs.brick.MemBrick.new.Goals as goal

pub returns-clause-newborn : goal.returns-clause-newborn
unfolding mem_state
returns-clause-newborn c = record {
  number = refl;
  volume = c.in_ok-copied.ensures;
  contents =
      new_contents (tables_in c.restore.new.self) (files_in c.new-2.result) (opens_in c.new-3.result) (locks_in c.new-4.result) c.args.volume.now.names c.in_ok-value.value _
      (c.in_ok-restore.ensures.ok
      ∙ (ap (λ (s : Saved). dir_restored root (dir_in s) (tables_in c.in_ok-tables.tables)) c.root_record.ensures.is
      ∙ ap (dir_restored root (Some (root_saved c.in_ok-value.value))) c.in_ok-tables.ensures))
      c.new-2.ensures c.new-3.ensures c.new-4.ensures c.in_ok-value.ensures.value;
  up = refl;
  unarmed = refl;
  journal = c.new-5.ensures;
}
