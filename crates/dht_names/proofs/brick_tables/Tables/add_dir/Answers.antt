use Rattle.std.proofs.Common.{◌∙◌, ap}
use Rattle.std.specs.Prelude.{is_some}
use Rattle.std.specs.FinMap.{get}
use Rattle.dht_brick.specs.Contents.{Dirs}
use Rattle.dht_names.specs.Kept.{dirs_in}
use Rattle.dht_names.proofs.DirLemmas.{there-put}
use Rattle.dht_names.proofs.brick_tables.Tables.add_dir.Goals as goal

pub put_back-requires : goal.put_back-requires
put_back-requires c = ap (λ (m : Dirs). is_some (get m c.args.made)) c.in_ok-old.ensures.ok ∙ there-put (dirs_in c.args.self.now.dirs) c.args.made _
