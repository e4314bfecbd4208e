-- The laws of a heal as a machine.
use Rattle.std.proofs.Common.{◌≡◌, ◌<◌, ◌≤◌, ◌*◌, ℕ, Bool, sym, ap, ◌∙◌, arith}
use Rattle.std.specs.Prelude.{zero, suc, Option, Some, None, List, length}
use Rattle.dht_types.specs.Gfid.{home}
use Rattle.dht_types.specs.Tree.{Tree}
use Rattle.dht_types.specs.declared.identifiers.Gfid.{Gfid}
use Rattle.dht_brick.specs.Contents.{Store, dir}
use Rattle.dht_section.specs.PartLaws.{part_permitted, part_stable}
use Rattle.dht_section.specs.Rely.{Rely}
use Rattle.dht_section.specs.Scene.{Scene, Sound}
use Rattle.dht_section.specs.Stages.{MaySend, IsStable}
use Rattle.dht_section.specs.HealedLaws.{whole_kept}
use Rattle.dht_heal.specs.Heal.{GoneBelow, Heals, IsPath, IsRoom, IsStep, WasDir, heal_stage, one_cost, path_at}
use Rattle.dht_heal.specs.HealOne.{heal_one_stage}
use Rattle.dht_heal.specs.HealOneLaws.{heal_one_permitted, heal_one_stable}
use Rattle.dht_heal.specs.declared.heal.Climb.{Climb}
use Rattle.dht_heal.specs.declared.heal.Heal.{Heal}
use Rattle.dht_heal.specs.declared.heal.Heal.TheVariants.{Climbing, Healing}
use Rattle.dht_heal.specs.declared.heal_one.HealOne.{HealOne}
use Rattle.dht_heal.specs.declared.room.HealRoom.{HealRoom}

-- ---- what it may ask

-- the homes of the directories of a path are bricks of the volume
pub path_home :
    (c : Climb) (s : Scene) (i : ℕ) → Sound s → IsPath c s → i ≤ c.place
    → home (path_at c.room.path i) < s.disk.count
path_home c s zero sound h l =
    let counted = sound.kept.counted in
    let count = h.count in
    let home = h.home in
    omega arith
path_home c s (suc i) sound h l = (h.steps i (omega arith)).home

pub heal_permitted : (m : Heal) → MaySend (heal_stage m)
heal_permitted (Climbing c) s sound h = record { there = path_home c s c.place sound h.knows.path (omega arith); may = (tt, tt) }
heal_permitted (Healing m c) s sound h = part_permitted (heal_one_stage m) (c.place * one_cost c.bricks) (λ s. Heals m c s) (heal_one_permitted m) s sound h

-- ---- what others leave

pub room_stable : (r : HealRoom) (s t : Scene) → IsRoom r s → Rely s t → IsRoom r t
room_stable r s t h o = record { path = h.path; weights = h.weights ∙ sym o.weights }

step_stable :
    (path : List Gfid) (i : ℕ) (s t : Scene) → IsStep path i s → Rely s t → IsStep path i t
step_stable path i s t h o = record {
  name = h.name;
  above = h.above;
  stands = o.made (path_at path i) _ h.stands;
  parent = o.made (path_at path (suc i)) h.above h.parent;
  shallow = h.shallow;
  home = let w = h.home in let c = o.count in omega arith;
}

path_stable : (c : Climb) (s t : Scene) → IsPath c s → Rely s t → IsPath c t
path_stable c s t h o = record {
  room = room_stable c.room s t h.room o;
  count = ap length o.weights ∙ h.count;
  home = h.home;
  deeds = o.mine.deeds ∙ h.deeds;
  steps = λ i l. step_stable c.room.path i s t (h.steps i l) o;
}

was_stable :
    (d : Gfid) (there : Bool) (at : ℕ) (s t : Scene) → WasDir d there at s → Rely s t
    → WasDir d there at t
was_stable d there at s t h o = record {
  after = let a = h.after in let e = o.mine.since in omega arith;
  before = let b = h.before in let l = o.later in omega arith;
  was = ap (λ (p : Tree). p.dirs d) (o.past at h.before) ∙ h.was;
}

below_stable :
    (gone : Option ℕ) (d : Gfid) (s t : Scene) → GoneBelow gone d s → Rely s t → GoneBelow gone d t
below_stable None d s t h o = tt
below_stable (Some at) d s t h o = was_stable d _ at s t h o

heals_stable : (m : HealOne) (c : Climb) (s t : Scene) → Heals m c s → Rely s t → Heals m c t
heals_stable m c s t h o = record {
  top = h.top;
  within = h.within;
  ends = h.ends;
  path = path_stable (record c { place = h.top }) s t h.path o;
  whole = λ alone. let still = o.still alone in λ j l k. whole_kept s.disk t.disk (path_at c.room.path j) o.count
      (λ b. ap (λ (x : Store). dir x (path_at c.room.path j)) (still.stores b)) (h.whole still.before j l k);
  heals = h.heals;
  gone = below_stable _ (path_at c.room.path 0) s t h.gone o;
}

pub heal_stable : (m : Heal) → IsStable (heal_stage m)
heal_stable (Climbing c) s t h o = record { path = path_stable c s t h.path o; below = h.below }
heal_stable (Healing m c) s t h o = part_stable (heal_one_stage m) (c.place * one_cost c.bricks) (λ s. Heals m c s) (heal_one_stable m) (heals_stable m c) s t h o
