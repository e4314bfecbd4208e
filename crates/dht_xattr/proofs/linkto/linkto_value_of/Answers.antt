use Rattle.std.proofs.Common.{ℕ, ◌++◌, List, [], ◌∷◌, codes, ap, sym, ◌∙◌}
use Rattle.dht_xattr.proofs.LinktoLaws.{replay_value, no_replay_value}
use Rattle.dht_xattr.proofs.linkto.linkto_value_of.Goals as goal

pub returns-then-brick-bricks : goal.returns-then-brick-bricks
returns-then-brick-bricks c = c.new.ensures ∙ sym (no_replay_value c.args.bricks c.args.brick.0 c.if-brick-bricks.true)

pub returns : goal.returns
returns c =
    c.with-2.ensures
    ∙ (ap (λ (xs : List ℕ). xs ++ 0 ∷ []) (c.with.ensures ∙ (ap (λ (xs : List ℕ). xs ++ c.as_bytes.result.now) c.new-2.ensures ∙ ap (λ (xs : List ℕ). codes "brick-" ++ xs) (c.as_bytes.ensures.value ∙ c.format-number.ensures.text)))
    ∙ sym (replay_value c.args.bricks c.args.brick.0 c.if-brick-bricks.false))
