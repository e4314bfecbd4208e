use Rattle.std.proofs.Common.{◌++◌, [], sym, ap, ◌∙◌, arith}
use Rattle.std.proofs.lemmas.List.{append-nil}
use Rattle.std.proofs.lemmas.Result.{err_from_is_err_and}
use Rattle.dht_sched.specs.Printing.{field_words}
use Rattle.dht_sched.proofs.PrintLemmas.{part_behind, line_done}
use Rattle.dht_sched.proofs.fields.push_fields.Goals as goal

pub returns-in_err-push_field : goal.returns-in_err-push_field
returns-in_err-push_field c =
    let p = err_from_is_err_and c.from_residual-in_err-push_field.result c.from_residual-in_err-push_field.ensures.1 in
    rw p.1 (part_behind _ _ _ _ c.in_ok-extend_from_slice.ensures.items (part_behind _ _ _ _ c.loop-field.invariant c.in_err-push_field.ensures))

pub returns-in_err-push : goal.returns-in_err-push
returns-in_err-push c =
    let p = err_from_is_err_and c.from_residual-in_err-push.result c.from_residual-in_err-push.ensures.1 in
    rw p.1 (part_behind _ _ _ _ c.in_ok-extend_from_slice.ensures.items (part_behind _ _ _ _ c.loop-field.invariant ([], c.in_err-push.ensures.items ∙ sym (append-nil _))))

pub returns : goal.returns
returns c =
    let begun = c.in_ok-extend_from_slice.ensures.items ∙ ap (λ word. c.args.out.now.items ++ word) c.as_bytes.ensures.value in
    line_done field_words _ _ _ _ _ c.args.fields.now c.loop-field.field-index (omega arith) begun c.loop-field.invariant c.in_ok-push.ensures.items
