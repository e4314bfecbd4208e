use Rattle.std.proofs.Common.{sym, ◌∙◌}
use Rattle.dht_types.proofs.TextLemmas.{bytes_differ}
use Rattle.dht_sched.proofs.NameLemmas.{empty, not_empty, no_name, name_read}
use Rattle.dht_sched.proofs.names.read_name.Goals as goal

pub returns-then-is_empty : goal.returns-then-is_empty
returns-then-is_empty c = λ n h. no_name c.args.word.now (empty c.args.word.now _ c.is_empty.ensures c.if-is_empty.true) n

pub returns : goal.returns
returns c =
    let other = bytes_differ c.args.word.now c.as_slice.result.now (sym c.eq.ensures ∙ c.if-eq.false) in
    name_read c.args.word.now c.read_bytes.result (λ same. other (same ∙ sym c.as_slice.ensures)) (not_empty c.args.word.now _ c.is_empty.ensures c.if-is_empty.false) c.read_bytes.ensures
