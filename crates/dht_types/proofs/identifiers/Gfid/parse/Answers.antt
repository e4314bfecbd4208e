use Rattle.std.proofs.Common.{ℕ, List, ◌∙◌, ap, sym, is_ok}
use Rattle.dht_types.specs.Text.{gfid_text}
use Rattle.dht_types.proofs.TextLemmas.{refused-is_none, number_of_text, bytes_differ}
use Rattle.dht_types.proofs.identifiers.Gfid.parse.Goals as goal

pub returns-in_default-clause-none : goal.returns-in_default-clause-none
returns-in_default-clause-none c = λ g fits same.
    refused-is_none c.try_parse_ascii.result c.args.text.now c.try_parse_ascii.ensures.ok (ap is_ok c.in_default.is) g same

pub returns-else-eq-clause-none : goal.returns-else-eq-clause-none
returns-else-eq-clause-none c = λ g fits same.
    let number = number_of_text g c.args.text.now c.in-Ok.uuid c.as_u128.result fits same c.in-Ok.ensures.bytes c.as_u128.ensures in
    let text_of : ℕ → List ℕ = λ n. gfid_text (record { 0 = n }) in
    bytes_differ c.as_slice.result.now c.args.text.now (sym c.eq.ensures ∙ c.if-eq.false) (c.as_slice.ensures ∙ c.text.ensures ∙ ap text_of number ∙ sym same)
