-- The laws of a reap as a machine, under whichever locks it runs.
use Rattle.std.proofs.Common.{◌≡◌, ◌<◌, ℕ, List, [], ◌∙◌, ap, arith}
use Rattle.std.specs.Prelude.{length}
use Rattle.std.proofs.lemmas.Bool.Decides.{nat_tests}
use Rattle.dht_types.specs.Gfid.{anchor}
use Rattle.dht_types.specs.declared.identifiers.Gfid.{Gfid}
use Rattle.dht_section.specs.Claims.{Lock}
use Rattle.dht_section.specs.Reap.{IsOrphan, reap_brick, reap_stage, lone_reap}
use Rattle.dht_section.specs.Rely.{Rely}
use Rattle.dht_section.specs.Scene.{Scene, Sound}
use Rattle.dht_section.specs.Stages.{MaySend, IsStable}
use Rattle.dht_section.specs.declared.reap.Orphan.{Orphan}
use Rattle.dht_section.specs.declared.reap.Reap.{Reap}
use Rattle.dht_section.specs.declared.reap.Reap.TheVariants.{Sealing, Dropping}

brick_at : (x : Orphan) (n : ℕ) → 0 < n → n ≡ x.bricks → reap_brick x ≡ anchor x.file n
brick_at x n h e = grind (arith, nat_tests, ap (anchor x.file) e)

-- it seals at the file's anchor
pub reap_brick_is :
    (x : Orphan) (s : Scene) → Sound s → IsOrphan x s → reap_brick x ≡ anchor x.file s.disk.count
reap_brick_is x s sound h = brick_at x s.disk.count sound.kept.some_brick (sound.kept.counted ∙ h.bricks)

anchor_within : (g : Gfid) (n : ℕ) → 0 < n → anchor g n < n
anchor_within g n h = omega arith

reap_brick_within : (x : Orphan) (s : Scene) → Sound s → IsOrphan x s → reap_brick x < s.disk.count
reap_brick_within x s sound h =
    let e = reap_brick_is x s sound h in
    let w = anchor_within x.file s.disk.count sound.kept.some_brick in
    omega arith

pub reap_permitted : (locks : List Lock) (m : Reap) → MaySend (reap_stage locks m)
reap_permitted locks (Sealing x) s sound h = record {
  there = reap_brick_within x s sound h.knows;
  may = (reap_brick_is x s sound h.knows, h.knows.nameless);
}
reap_permitted locks (Dropping x) s sound h = record {
  there = h.knows.orphan.there;
  may = (tt, (h.knows.sealed, h.knows.orphan.nameless));
}

pub orphan_stable : (x : Orphan) (s t : Scene) → IsOrphan x s → Rely s t → IsOrphan x t
orphan_stable x s t h o = record {
  bricks = ap length o.weights ∙ h.bricks;
  there = let l = h.there in let c = o.count in omega arith;
  nameless = o.nameless x.file h.nameless;
}

pub reap_stable : (locks : List Lock) (m : Reap) → IsStable (reap_stage locks m)
reap_stable locks (Sealing x) s t h o = orphan_stable x s t h o
reap_stable locks (Dropping x) s t h o = record { orphan = orphan_stable x s t h.orphan o; sealed = o.sealed x.file h.sealed }

pub lone_permitted : (m : Reap) → MaySend (lone_reap m)
lone_permitted m = reap_permitted [] m

pub lone_stable : (m : Reap) → IsStable (lone_reap m)
lone_stable m = reap_stable [] m
