use Rattle.dht_brick.proofs.RowLaws.{served_by_row, row_serves}
use Rattle.dht_brick.proofs.laws.served_is_by_row.Goals as goal

pub returns-clause-served : goal.returns-clause-served
returns-clause-served c = served_by_row

pub returns-clause-row : goal.returns-clause-row
returns-clause-row c = row_serves
