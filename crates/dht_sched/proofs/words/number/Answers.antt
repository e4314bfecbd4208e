use Rattle.std.proofs.Common.{sym, ◌∙◌, arith}
use Rattle.dht_sched.proofs.NumberLemmas.{at_none, at_some, IsUtf8-decimal, not_parsed, only_parsed, number_read}
use Rattle.dht_sched.proofs.words.number.Goals as goal

pub returns-in_err-ok : goal.returns-in_err-ok
returns-in_err-ok c =
    let bad = at_none _ _ c.from_utf8.result c.from_utf8.ensures.cases c.in_err-ok.ensures.value in
    rw c.from_residual.ensures (λ n lt same. bad.1.0 (rw same at (IsUtf8-decimal n lt)))

pub returns-in_err-number : goal.returns-in_err-number
returns-in_err-number c =
    let text = at_some _ _ c.from_utf8.result c.in_ok-ok.field-0 c.from_utf8.ensures.cases c.in_ok-ok.ensures.value in
    rw c.from_residual-in_err-number.ensures (λ n lt same. not_parsed _ c.parse.result c.parse.ensures.value.0 c.in_err-number.ensures.value n lt (same ∙ sym text.0))

pub returns : goal.returns
returns c =
    let text = at_some _ _ c.from_utf8.result c.in_ok-ok.field-0 c.from_utf8.ensures.cases c.in_ok-ok.ensures.value in
    let number = c.in_ok-number.number in
    rw c.then_some.ensures (number_read c.args.word.now c.as_bytes.result.now number c.eq.result c.eq.ensures (c.as_bytes.ensures.value ∙ c.format.ensures.text) (omega arith) (λ n lt same. only_parsed _ c.parse.result number c.parse.ensures.value.0 c.in_ok-number.ensures.value n lt (same ∙ sym text.0)))
