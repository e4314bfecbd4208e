use Rattle.std.proofs.Common.{◌≡◌, ◌+◌, ℕ, List, [], ◌∷◌, ◌++◌, refl, sym, ap, subst, ◌∙◌, length, arith}
use Rattle.std.specs.Prelude.{map, vec_len}
use Rattle.std.proofs.lemmas.List.{map-append}
use Rattle.dht_types.specs.History.{history_of}
use Rattle.dht_types.specs.Volume.{VolumeInfo, replay_info}
use Rattle.dht_types.proofs.VolumeLemmas.{length-replay_names}
use Rattle.dht_types.specs.declared.events.Event.TheVariants as event
use Rattle.dht_types.specs.declared.lines.Line.{Line}
use Rattle.dht_types.specs.declared.lines.Line.TheVariants.{Remounted}
use Rattle.dht_brick.specs.Bricks.{BrickState}
use Rattle.dht_brick.proofs.ResultLemmas.{on_err}
use Rattle.dht_world.specs.Bricks.{disk_of, journals_of, remounted_in, AreFresh, AreReady, SomeBecame}
use Rattle.dht_world.specs.Places.{IsAt, summary_of}
use Rattle.dht_world.specs.World.{At}
use Rattle.dht_world.proofs.BlockLaws.{block_alone}
use Rattle.dht_world.proofs.BrickLaws.{none_became}
use Rattle.dht_world.proofs.EndLaws.{no_end}
use Rattle.dht_world.proofs.PlaceLaws.{adds_one}
use Rattle.dht_world.proofs.RemountLaws.{more, remounting, remounted_at, remounted_ready}
use Rattle.dht_world.proofs.events.World.mount.Goals as goal

pub returns-in_err-told-clause-stays : goal.returns-in_err-told-clause-stays
returns-in_err-told-clause-stays g c = on_err c.from_residual.result (record {
  bricks = none_became (remounted_in (replay_info c.args.weights.now (c.args.self.now.run + 1))) (map g.B.Brick.state c.args.self.now.bricks.items);
  clients = refl;
  weights = refl;
  run = refl;
  calls = refl;
  requests = refl;
  answers = refl;
  lines = refl;
})

pub remount_bricks-requires-clause-grown : goal.remount_bricks-requires-clause-grown
remount_bricks-requires-clause-grown g c =
    let was = c.requires.accepted in
    let w = c.args.self.now in
    let fewer = more g.B.Brick g.C.Caller w was.past c.args.weights.now was.at (was.accepted was.past was.at) in
    let names : length c.in_ok-told.volume.names ≡ length c.args.weights.now = ap (λ (v : VolumeInfo). length v.names) c.in_ok-told.ensures.volume ∙ length-replay_names (length c.args.weights.now) in
    omega (arith, w.bricks.ok.0)

pub returns-in_err-remount_bricks-clause-err : goal.returns-in_err-remount_bricks-clause-err
returns-in_err-remount_bricks-clause-err g c = on_err c.from_residual-in_err-remount_bricks.result (λ past at.
    let w = c.args.self.now in
    let some = subst (λ (v : VolumeInfo). SomeBecame (remounted_in v) (map g.B.Brick.state w.bricks.items) (map g.B.Brick.state c.remount_bricks.new.bricks.items)) c.in_ok-told.ensures.volume c.remount_bricks.ensures.some in
    remounting g.B.Brick g.C.Caller w past c.args.weights.now at (c.requires.accepted.accepted past at) _ some refl refl refl)

pub returns-in_err-append-clause-err : goal.returns-in_err-append-clause-err
returns-in_err-append-clause-err g c = on_err c.from_residual-in_err-append.result (λ past at.
    let w = c.args.self.now in
    let some = subst (λ (v : VolumeInfo). SomeBecame (remounted_in v) (map g.B.Brick.state w.bricks.items) (map g.B.Brick.state c.remount_bricks.new.bricks.items)) c.in_ok-told.ensures.volume c.remount_bricks.ensures.some in
    remounting g.B.Brick g.C.Caller w past c.args.weights.now at (c.requires.accepted.accepted past at) _
    (subst (λ (bricks : List g.row.B.Denot). SomeBecame (remounted_in (replay_info c.args.weights.now (w.run + 1))) (map g.B.Brick.state w.bricks.items) (map g.B.Brick.state bricks)) (sym c.in_err-append.ensures.items) some)
    refl refl refl)

pub returns-clause-comes : goal.returns-clause-comes
returns-clause-comes g c = λ n past at.
    let w = c.args.self.now in
    let ws = c.args.weights.now in
    let accepted = c.requires.accepted.accepted past at in
    let told : Remounted c.in_ok-told.told ≡ Remounted ws = ap (λ (xs : List ℕ). Remounted xs) c.in_ok-told.ensures.first in
    let ys = c.remount_bricks.new.bricks.items in
    let fresh = c.args.fresh.items in
    let mounted = subst (λ (v : VolumeInfo). map g.B.Brick.state ys ≡ map (remounted_in v) (map g.B.Brick.state w.bricks.items)) c.in_ok-told.ensures.volume c.in_ok-remount_bricks.ensures.ok in
    let new = subst (λ (m : ℕ). AreFresh g.B.Brick.state m ws (w.run + 1) fresh) (let z : vec_len w.bricks ≡ length w.bricks.items = omega (arith, w.bricks.ok.0) in z) c.requires.fresh in
    let many : length c.begin_anew.new.clients.items ≡ 64 = omega (arith, c.begin_anew.ensures.many, c.begin_anew.new.clients.ok.0) in
    adds_one g.B.Brick g.C.Caller w _ n (event.Remount ws) past c.args.out.now.items c.push_line.new.out.items (Remounted ws) (c.push_line.ensures.items ∙ ap (λ (x : Line). c.args.out.now.items ++ x ∷ []) told)
    (subst (λ (xs : List ℕ). IsAt g.B.Brick g.C.Caller (record { bricks = c.append.new.self; clients = c.begin_anew.new.clients; weights = xs; run = w.run + 1; calls = w.calls; lines = w.lines + 1; requests = w.requests; answers = w.answers }) (past ++ Remounted ws ∷ [])) (sym c.in_ok-told.ensures.second) (record {
      led = subst (λ (bricks : List g.row.B.Denot). At g.C.Caller (disk_of g.B.Brick.state bricks) (journals_of g.B.Brick.state bricks) c.begin_anew.new.clients.items ws (record (summary_of w) { run = w.run + 1; lines = w.lines + 1 }) (past ++ Remounted ws ∷ [])) (sym c.in_ok-append.ensures.items)
          (remounted_at g.B.Brick g.C.Caller w past ws at accepted ys fresh mounted new c.begin_anew.new.clients.items c.requires.volume many c.begin_anew.ensures.new);
      ready = subst (λ (bricks : List g.row.B.Denot). AreReady g.B.Brick.state ws (w.run + 1) (history_of (past ++ Remounted ws ∷ [])).down bricks) (sym c.in_ok-append.ensures.items)
          (remounted_ready g.B.Brick g.C.Caller w past ws at accepted ys fresh mounted new);
      ends = no_end _ past (Remounted ws) refl;
    }))
    (block_alone (history_of past) n (event.Remount ws) (Remounted ws) accepted refl refl)
    accepted

pub returns-clause-mounts : goal.returns-clause-mounts
returns-clause-mounts g c =
    let w = c.args.self.now in
    let mounted = subst (λ (v : VolumeInfo). map g.B.Brick.state c.remount_bricks.new.bricks.items ≡ map (remounted_in v) (map g.B.Brick.state w.bricks.items)) c.in_ok-told.ensures.volume c.in_ok-remount_bricks.ensures.ok in
    ap (map g.B.Brick.state) c.in_ok-append.ensures.items ∙ (map-append g.B.Brick.state c.remount_bricks.new.bricks.items c.args.fresh.items ∙ ap (λ (states : List BrickState). states ++ map g.B.Brick.state c.args.fresh.items) mounted)
