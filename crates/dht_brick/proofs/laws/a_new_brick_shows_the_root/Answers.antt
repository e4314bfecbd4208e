use Rattle.dht_brick.proofs.SavingLaws.{a_new_brick_shows_the_root}
use Rattle.dht_brick.proofs.laws.a_new_brick_shows_the_root.Goals as goal

pub returns : goal.returns
returns c = a_new_brick_shows_the_root
