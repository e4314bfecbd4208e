use Rattle.std.proofs.Common.{◌∷◌, [], get_or, take, sym, ap, ◌∙◌, arith}
use Rattle.dht_sched.proofs.NameLemmas.{empty_begins, only_escaped, long_enough, plain_prefix, escaped_prefix}
use Rattle.dht_sched.proofs.names.first_byte.Goals as goal
use Rattle.dht_sched.proofs.names.first_byte.Goals.{then-first-ne37-via-then-first-ne37, then-first-ne37-via-else-first-ne37+then-rest-lt2}

pub returns-in_err-first-clause-none : goal.returns-in_err-first-clause-none
returns-in_err-first-clause-none c = rw c.from_residual.ensures (λ b rest small e. empty_begins c.args.text.now b rest (let none = c.in_err-first.ensures.cases in omega arith) e)

pub returns-then-is_plain-clause-found : goal.returns-then-is_plain-clause-found
returns-then-is_plain-clause-found c = plain_prefix c.args.text.now c.in_ok-first.rest.now c.in_ok-first.first.now c.in_ok-first.ensures.cases.0 (sym c.is_plain.ensures ∙ c.if-is_plain.true)

pub returns-then-first-ne37-clause-none : goal.returns-then-first-ne37-clause-none
returns-then-first-ne37-clause-none c = λ b rest small e.
    let first = c.in_ok-first.first.now in
    let more = c.in_ok-first.rest.now in
    let escape = only_escaped c.args.text.now more first b rest c.in_ok-first.ensures.cases.0 (sym c.is_plain.ensures ∙ c.if-is_plain.false) e in
    let long = long_enough first b more rest escape in
    elim c.then-first-ne37.branch [
      | then-first-ne37-via-then-first-ne37 w ↦ w.if-first-ne37.true escape.percent
      | then-first-ne37-via-else-first-ne37+then-rest-lt2 w ↦ omega arith
    ]

pub returns-in_err-escaped-clause-none : goal.returns-in_err-escaped-clause-none
returns-in_err-escaped-clause-none c =
    rw c.from_residual-in_err-escaped.ensures
    (λ b rest small e.
    let more = c.in_ok-first.rest.now in
    let escape = only_escaped c.args.text.now more c.in_ok-first.first.now b rest c.in_ok-first.ensures.cases.0 (sym c.is_plain.ensures ∙ c.if-is_plain.false) e in
    let digits = c.split_at.ensures.front ∙ ap (λ m. take 2 m) escape.digits in
    c.in_err-escaped.ensures b (small, escape.bare) (sym (ap (λ ds. get_or ds 0 0 ∷ get_or ds 1 0 ∷ []) digits)))

pub returns-clause-found : goal.returns-clause-found
returns-clause-found c =
    let byte = c.in_ok-escaped.ensures in
    let digits = rw c.split_at.ensures.front at byte.1 in
    rw c.split_at.ensures.back (escaped_prefix c.args.text.now c.in_ok-first.rest.now c.in_ok-first.first.now c.in_ok-escaped.field-0 c.in_ok-first.ensures.cases.0 c.if-first-ne37.false (omega arith) byte.0.1 digits)
