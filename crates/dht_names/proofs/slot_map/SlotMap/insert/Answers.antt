use Rattle.std.proofs.Common.{◌∙◌, ap, refl}
use Rattle.std.specs.Option.{option_map}
use Rattle.dht_brick.specs.Contents.{entry_cmp, entry_at}
use Rattle.dht_brick.proofs.ResultLemmas.{on_err}
use Rattle.dht_names.specs.Slots.{map_in, slot_of}
use Rattle.dht_names.proofs.SlotLemmas.{slots_from, get-shown, insert-shown, entry_total, entry_exact}
use Rattle.dht_names.proofs.slot_map.SlotMap.insert.Goals as goal

pub returns-in_err-insert-clause-err : goal.returns-in_err-insert-clause-err
unfolding map_in
returns-in_err-insert-clause-err c = on_err c.from_residual.result (ap slots_from c.in_err-insert.ensures.err)

pub returns-in_err-insert-clause-absent : goal.returns-in_err-insert-clause-absent
unfolding map_in
returns-in_err-insert-clause-absent c =
    on_err c.from_residual.result (get-shown entry_cmp entry_at slot_of entry_total c.args.self.now.kept.entries c.args.key ∙ ap (option_map slot_of) c.in_err-insert.ensures.absent)

pub returns-clause-ok : goal.returns-clause-ok
unfolding map_in
returns-clause-ok c =
    insert-shown entry_cmp entry_at slot_of entry_total entry_exact (λ l. record { dir = l.0; name = l.1 }) (λ l. refl) c.args.self.now.kept.entries c.insert.new.self.entries c.args.key c.args.slot c.in_ok-insert.ensures.updates.0
