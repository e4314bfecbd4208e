use Rattle.std.proofs.Common.{ℕ, List, ap, ◌∙◌}
use Rattle.std.specs.Prelude.{position}
use Rattle.std.specs.Str.{bytes_eq}
use Rattle.dht_xattr.proofs.LinktoLaws.{number_of_name}
use Rattle.dht_xattr.proofs.linkto.linkto_brick.Goals as goal

pub returns-clause-brick : goal.returns-clause-brick
returns-clause-brick c =
    number_of_name c.args.volume.now c.without_zero.result.now c.number.result c.bricks.ensures.valid c.number.ensures.some c.number.ensures.none
    ∙ ap (λ (name : List ℕ). position (λ other. bytes_eq other name) c.args.volume.now.names) c.without_zero.ensures
