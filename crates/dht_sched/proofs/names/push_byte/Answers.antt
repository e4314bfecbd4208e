use Rattle.std.proofs.Common.{rules, sym, ◌∙◌}
use Rattle.dht_sched.proofs.NameLemmas.{spelled_plain, spelled_escaped}
use Rattle.dht_sched.proofs.names.push_byte.Goals as goal

pub returns-then-is_plain : goal.returns-then-is_plain
returns-then-is_plain c = rw (spelled_plain c.args.byte (sym c.is_plain.ensures ∙ c.if-is_plain.true)) (search rules)

pub returns : goal.returns
returns c = rw (spelled_escaped c.args.byte (sym c.is_plain.ensures ∙ c.if-is_plain.false)) (search rules)
