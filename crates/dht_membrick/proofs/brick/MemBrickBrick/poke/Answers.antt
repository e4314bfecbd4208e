use Rattle.std.proofs.Common.{refl, arith}
use Rattle.dht_files.specs.Records.{files_in}
use Rattle.dht_names.specs.Kept.{tables_in}
use Rattle.dht_brick.specs.Contents.{store_of}
use Rattle.dht_membrick.specs.State.{mem_state, contents_in}
use Rattle.dht_membrick.proofs.NewLaws.{poked_whole}
use Rattle.dht_membrick.proofs.brick.MemBrickBrick.poke.Goals as goal

pub returns : goal.returns
unfolding mem_state
returns c = record {
  to = poked_whole (contents_in c.args.self.now) _ (store_of (tables_in c.poke.new.self) (files_in c.args.self.now.files)) c.poke.result (c.poke.ensures.poked (files_in c.args.self.now.files));
  failed = λ e. absurd (c.poke.ensures.cause e);
  cause = λ _. c.poke.ensures.cause;
  count = omega arith;
  quiet = λ _. refl;
  same = refl;
}
