use Rattle.dht_brick.proofs.WithinLaws.{rows_stay_within, replies_are_within, newborn_is_within, freed_stays_within, remounted_stays_within, poked_stays_within, grown_stays_within}
use Rattle.dht_brick.proofs.laws.only_bricks_of_the_volume_are_named.Goals as goal

pub returns-clause-rows : goal.returns-clause-rows
returns-clause-rows c = rows_stay_within

pub returns-clause-replies : goal.returns-clause-replies
returns-clause-replies c = replies_are_within

pub returns-clause-newborn : goal.returns-clause-newborn
returns-clause-newborn c = newborn_is_within

pub returns-clause-freed : goal.returns-clause-freed
returns-clause-freed c = freed_stays_within

pub returns-clause-remounted : goal.returns-clause-remounted
returns-clause-remounted c = remounted_stays_within

pub returns-clause-poked : goal.returns-clause-poked
returns-clause-poked c = poked_stays_within

pub returns-clause-grown : goal.returns-clause-grown
returns-clause-grown c = grown_stays_within
