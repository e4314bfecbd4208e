use Rattle.std.proofs.Common.{refl, true, false, ap, sym, ◌∙◌, ℕ, List, length, arith}
use Rattle.std.proofs.lemmas.Bool.{le-ltb, lt-ltb}
use Rattle.dht_types.specs.History.{history_of}
use Rattle.dht_world.specs.Bricks.{disk_of, journals_of}
use Rattle.dht_world.specs.Places.{summary_of}
use Rattle.dht_world.proofs.RemountLaws.{cause_is}
use Rattle.dht_world.proofs.events.World.remount_cause.Goals as goal

pub returns-then-is_called : goal.returns-then-is_called
returns-then-is_called g c = λ past at.
    let w = c.args.self.now in
    cause_is g.C.Caller (disk_of g.B.Brick.state w.bricks.items) (journals_of g.B.Brick.state w.bricks.items) w.clients.items w.weights c.args.weights.now (summary_of w) (history_of past) true _ at.led.fit (sym c.if-is_called.true ∙ c.is_called.ensures) refl

pub returns-then-as_slice : goal.returns-then-as_slice
returns-then-as_slice g c = λ past at.
    let w = c.args.self.now in
    cause_is g.C.Caller (disk_of g.B.Brick.state w.bricks.items) (journals_of g.B.Brick.state w.bricks.items) w.clients.items w.weights c.args.weights.now (summary_of w) (history_of past) false true at.led.fit (sym c.if-is_called.false ∙ c.is_called.ensures) (sym (lt-ltb (length c.args.weights.now) (length w.weights) (let one = ap (λ (xs : List ℕ). length xs) c.as_slice.ensures in let other = ap (λ (xs : List ℕ). length xs) c.as_slice-2.ensures in let below = c.if-as_slice.true in omega arith)))

pub returns : goal.returns
returns g c = λ past at.
    let w = c.args.self.now in
    cause_is g.C.Caller (disk_of g.B.Brick.state w.bricks.items) (journals_of g.B.Brick.state w.bricks.items) w.clients.items w.weights c.args.weights.now (summary_of w) (history_of past) false false at.led.fit (sym c.if-is_called.false ∙ c.is_called.ensures) (sym (le-ltb (length c.args.weights.now) (length w.weights) (let one = ap (λ (xs : List ℕ). length xs) c.as_slice.ensures in let other = ap (λ (xs : List ℕ). length xs) c.as_slice-2.ensures in let above = c.if-as_slice.false in omega arith)))
