-- What holds of the gfids of a call's own.
use Rattle.std.proofs.Common.{◌≡◌, ◌≢◌, ◌<◌, ◌^◌, ◌∙◌, ℕ, Bool, true, false, refl, ap, arith, subst, sym}
use Rattle.std.specs.Prelude.{None, ◌==◌, ◌%◌, if◌then◌else◌}
use Rattle.std.proofs.lemmas.Bool.Decides.{nat_tests}
use Rattle.dht_types.specs.Gfid.{root, home, made}
use Rattle.dht_types.specs.History.{IsOwn}
use Rattle.dht_types.specs.declared.identifiers.CallNo.{CallNo}
use Rattle.dht_types.specs.declared.identifiers.ClientNo.{ClientNo}
use Rattle.dht_types.specs.declared.identifiers.Gfid.{Gfid}
use Rattle.dht_brick.specs.declared.replies.Reply.{Reply}
use Rattle.dht_section.specs.Invariant.{ByDir}
use Rattle.dht_section.specs.Moves.{Guarantee}
use Rattle.dht_section.specs.Origin.{ComesFrom, origin_gfid}
use Rattle.dht_section.specs.Permits.{IsUnused}
use Rattle.dht_section.specs.Rely.{Rely}
use Rattle.dht_section.specs.Scene.{Scene, Sound}
use Rattle.dht_section.specs.declared.machine.Ask.{Ask}
use Rattle.dht_section.specs.declared.origin.Origin.{Origin}

-- the call stays that of its origin, whatever others do, and after a request of its own
pub comes_from_stable : (o : Origin) (s t : Scene) → ComesFrom o s → Rely s t → ComesFrom o t
comes_from_stable o s t h x = record {
  run = h.run ∙ sym x.run;
  client = h.client ∙ sym x.who;
  number = h.number ∙ sym x.mine.number;
  small = h.small;
}

pub comes_from_moved :
    (o : Origin) (s t : Scene) (a : Ask) (r : Reply) → ComesFrom o s → Guarantee s a r t
    → ComesFrom o t
comes_from_moved o s t a r h m = record {
  run = h.run ∙ sym m.run;
  client = h.client ∙ sym m.who;
  number = h.number ∙ sym m.mine.number;
  small = h.small;
}

-- its gfid is the call's own
pub origin_own :
    (o : Origin) (b : ℕ) (s : Scene) → b < 65536 → ComesFrom o s
    → IsOwn s.history.run s.who s.mine.number (origin_gfid o b)
origin_own o b s l h = (
  b,
  l,
  ap (λ (n : ℕ). made n o.client o.call b) h.run
      ∙ (ap (λ (c : ClientNo). made s.history.run c o.call b) h.client
      ∙ ap (λ (k : CallNo). made s.history.run s.who k b) h.number),
)

-- and of nothing yet, while the call has done no step
pub origin_unused :
    (o : Origin) (b : ℕ) (s : Scene) → Sound s → b < s.disk.count → s.mine.deeds ≡ None
    → ComesFrom o s → IsUnused s (origin_gfid o b)
origin_unused o b s sound l deeds h = sound.kept.fresh s.who s.mine (origin_gfid o b) (subst (λ (k : CallNo). k.0 < 2 ^ 64) h.number h.small) sound.runs deeds (origin_own o b s (let few = sound.kept.few in omega arith) h)

-- its home is this brick
home_by : (g : Gfid) (b : ℕ) → g ≢ root → g.0 % 65536 ≡ b → home g ≡ b
home_by g b other e = by (g.0 == 1) refl
  where
    by : (v : Bool) → (g.0 == 1) ≡ v → home g ≡ b
    by true k = absurd (other (λ i. record { 0 = (let q : g.0 ≡ 1 = grind (arith, nat_tests, k) in q) i }))
    by false k = ap (λ (v : Bool). if v then 0 else g.0 % 65536) k ∙ e

pub origin_home :
    (o : Origin) (b : ℕ) (s : Scene) → Sound s → b < s.disk.count → s.mine.deeds ≡ None
    → ComesFrom o s → home (origin_gfid o b) ≡ b
origin_home o b s sound l deeds h = home_by (origin_gfid o b) b not_root (low b (let few = sound.kept.few in omega arith))
  where
    not_root : origin_gfid o b ≢ root
    not_root e = origin_unused o b s sound l deeds h (ByDir (ap s.history.tree.dirs e ∙ sound.kept.tree.rooted.0))

    low : (x : ℕ) → x < 65536 → (origin_gfid o x).0 % 65536 ≡ x
    low x k = omega arith
