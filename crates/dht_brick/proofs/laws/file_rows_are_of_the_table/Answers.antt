use Rattle.dht_brick.proofs.TableLaws.{leaves_as_the_table, obeys_the_table}
use Rattle.dht_brick.proofs.laws.file_rows_are_of_the_table.Goals as goal

pub returns-clause-leaves : goal.returns-clause-leaves
returns-clause-leaves c = leaves_as_the_table

pub returns-clause-obeys : goal.returns-clause-obeys
returns-clause-obeys c = obeys_the_table
