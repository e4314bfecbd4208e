use Rattle.std.proofs.Common.{ℕ, List, sym, ap, ◌∙◌}
use Rattle.std.specs.Str.{bytes_eq}
use Rattle.dht_types.specs.Volume.{replay_name}
use Rattle.dht_xattr.proofs.LinktoLaws.{replay_linked, replay_unlinked, fails_more}
use Rattle.dht_xattr.proofs.linkto.linkto_brick_of.Goals as goal

pub returns-then-is_replay_name : goal.returns-then-is_replay_name
returns-then-is_replay_name c =
    let name = c.without_zero-name.ensures in
    sym (replay_linked c.args.bricks c.loop-brick.brick c.args.value.now c.loop-brick-test.true
    (ap (λ (n : List ℕ). bytes_eq (replay_name c.loop-brick.brick) n) (sym name) ∙ (sym c.is_replay_name.ensures ∙ c.if-is_replay_name.true))
    (λ k l. ap (λ (n : List ℕ). bytes_eq (replay_name k) n) (sym name) ∙ c.loop-brick.invariant k l))

pub loop-brick-preserved : goal.loop-brick-preserved
loop-brick-preserved c = fails_more c.without_zero-name.result.now c.loop-brick.brick c.loop-brick.invariant (sym c.is_replay_name.ensures ∙ c.if-is_replay_name.false)

pub returns : goal.returns
returns c =
    let name = c.without_zero-name.ensures in
    sym (replay_unlinked c.args.bricks c.loop-brick.brick c.args.value.now c.loop-brick-test.false
    (λ k l. ap (λ (n : List ℕ). bytes_eq (replay_name k) n) (sym name) ∙ c.loop-brick.invariant k l))
