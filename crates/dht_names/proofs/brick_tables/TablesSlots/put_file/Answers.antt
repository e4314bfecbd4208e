use Rattle.dht_brick.specs.Contents.{entry_at, slot_in}
use Rattle.dht_names.specs.Kept.{slots_in}
use Rattle.dht_names.proofs.TableCounts.{copy_is_to_be}
use Rattle.dht_names.proofs.brick_tables.TablesSlots.put_file.Goals as goal

pub settle-requires : goal.settle-requires
settle-requires c = copy_is_to_be c.args.file (slot_in (slots_in c.args.self.now.slots) (entry_at c.args.key.now)).standby c.requires.copy
