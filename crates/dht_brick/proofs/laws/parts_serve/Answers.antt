use Rattle.dht_brick.proofs.RowLaws.{names_serve, files_serve, register_serves, unregister_serves, seal_serves, lock_serves, unlock_serves}
use Rattle.dht_brick.proofs.laws.parts_serve.Goals as goal

pub returns-clause-names : goal.returns-clause-names
returns-clause-names c = names_serve

pub returns-clause-files : goal.returns-clause-files
returns-clause-files c = files_serve

pub returns-clause-register : goal.returns-clause-register
returns-clause-register c = register_serves

pub returns-clause-unregister : goal.returns-clause-unregister
returns-clause-unregister c = unregister_serves

pub returns-clause-seal : goal.returns-clause-seal
returns-clause-seal c = seal_serves

pub returns-clause-lock : goal.returns-clause-lock
returns-clause-lock c = lock_serves

pub returns-clause-unlock : goal.returns-clause-unlock
returns-clause-unlock c = unlock_serves
