use Rattle.dht_brick.specs.Codes.{tables_code, files_code, opens_code}
use Rattle.dht_brick.proofs.laws.contents_have_codes.Goals as goal

pub returns-clause-tables : goal.returns-clause-tables
returns-clause-tables c = tables_code

pub returns-clause-files : goal.returns-clause-files
returns-clause-files c = files_code

pub returns-clause-opens : goal.returns-clause-opens
returns-clause-opens c = opens_code
