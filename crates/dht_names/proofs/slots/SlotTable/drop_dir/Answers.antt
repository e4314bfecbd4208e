use Rattle.std.proofs.Common.{◌<◌, ◌∙◌, ap, sym, subst}
use Rattle.std.specs.FinMap.{len}
use Rattle.dht_brick.specs.Contents.{Slots, entry_at}
use Rattle.dht_brick.specs.Parts.{slots_outside}
use Rattle.dht_names.specs.Kept.{slots_in}
use Rattle.dht_names.proofs.RangeLemmas.{fewer, outside_less}
use Rattle.dht_names.proofs.slots.SlotTable.drop_dir.Goals as goal

pub loop-key-smaller : goal.loop-key-smaller
loop-key-smaller c =
    let m = slots_in c.loop-key.self in
    subst (λ (x : Slots). len x < len m) (sym c.remove.ensures) (fewer m (entry_at c.in-Some.key) c.in-Some.ensures.there)

pub loop-key-preserved : goal.loop-key-preserved
loop-key-preserved c =
    ap (λ (x : Slots). slots_outside x c.args.dir) c.remove.ensures
    ∙ outside_less (slots_in c.loop-key.self) c.args.dir (entry_at c.in-Some.key) c.in-Some.ensures.in_dir ∙ c.loop-key.invariant

pub returns : goal.returns
returns c = sym c.in_default.ensures.none ∙ c.loop-key.invariant
