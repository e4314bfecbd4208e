use Rattle.std.proofs.Common.{sym, ◌∙◌}
use Rattle.dht_types.proofs.NameLemmas.{refused-IsName}
use Rattle.dht_types.proofs.names.Name.check.Goals as goal

pub returns-then-is_invalid-clause-name : goal.returns-then-is_invalid-clause-name
returns-then-is_invalid-clause-name c = refused-IsName c.args.bytes.now (sym c.is_invalid.ensures ∙ c.if-is_invalid.true)
