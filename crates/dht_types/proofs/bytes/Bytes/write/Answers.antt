use Rattle.std.proofs.Common.{◌≡◌, ◌+◌, ◌-◌, ◌++◌, ℕ, List, length, replicate, take, drop, sym, ap, ◌∙◌}
use Rattle.dht_types.proofs.ContentLemmas.{written_over, written_back}
use Rattle.dht_types.proofs.bytes.Bytes.write.Goals as goal

pub returns-clause-ok : goal.returns-clause-ok
returns-clause-ok c =
    let end : c.in-Some.end ≡ c.args.offset + length c.args.piece.now = c.in-Some.ensures.1 in
    let kept : c.self.inside.each.items ≡ c.args.self.now = c.self.view_is in
    let size : length c.overwrite.new.bytes ≡ c.grow.new.bytes.len = c.overwrite.auto.bytes ∙ c.deref_mut.ensures.len in
    let items : length c.grow.new.bytes.items ≡ c.grow.new.bytes.len = sym c.grow.new.bytes.ok.0 in
    let grown : c.deref_mut.result.now ≡ c.args.self.now ++ replicate (c.args.offset + length c.args.piece.now - length c.args.self.now) 0 =
    c.deref_mut.ensures.value ∙ c.in_ok-grow.ensures.ok
    ∙ ap (λ (old : List ℕ). old ++ replicate (c.in-Some.end - length old) 0) kept
    ∙ ap (λ n. c.args.self.now ++ replicate (n - length c.args.self.now) 0) end in
    written_back c.grow.new.bytes.len c.overwrite.new.bytes c.grow.new.bytes.items size items
    ∙ c.overwrite.ensures
    ∙ ap (λ (g : List ℕ). take c.args.offset g ++ c.args.piece.now ++ drop (c.args.offset + length c.args.piece.now) g) grown
    ∙ written_over c.args.self.now c.args.piece.now c.args.offset
