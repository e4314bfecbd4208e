-- The laws of a sweep as a machine, under whichever locks it runs.
use Rattle.std.proofs.Common.{◌≡◌, ◌<◌, ℕ, List, [], refl, sym, ◌∙◌, ap, subst, arith, inl}
use Rattle.std.specs.Prelude.{Option, None, is_some, length}
use Rattle.dht_types.specs.Gfid.{Entry}
use Rattle.dht_types.specs.declared.locks.Key.TheVariants.{Dir, Entry as Name}
use Rattle.dht_types.specs.declared.stored.Slot.{Slot}
use Rattle.dht_brick.specs.Parts.{is_linkto}
use Rattle.dht_section.specs.Claims.{Lock}
use Rattle.dht_section.specs.Location.{entry_at, scope_at}
use Rattle.dht_section.specs.Rely.{Rely}
use Rattle.dht_section.specs.Scene.{Scene, HoldsName}
use Rattle.dht_section.specs.Section.{AllHeld, found_shape, held_looked}
use Rattle.dht_section.specs.SectionLaws.{fresh_stable, held_stable, holds_name, lock_stable, reads_stable, same_core, stands_stable}
use Rattle.dht_section.specs.Stages.{MaySend, IsStable}
use Rattle.dht_section.specs.Sweep.{IsKept, IsLeft, IsSwept, linkto_there, lone_sweep, sweep_stage}
use Rattle.dht_section.specs.Want.{IsOrdered, Scoped, name_at}
use Rattle.dht_section.specs.declared.location.Location.{Location}
use Rattle.dht_section.specs.declared.looks.Linkto.{Linkto}
use Rattle.dht_section.specs.declared.looks.Place.{Place}
use Rattle.dht_section.specs.declared.section.Held.{Held}
use Rattle.dht_section.specs.declared.sweep.Sweep.{Sweep}

-- ---- what it may ask

-- a linkto is none of a name's shape, so the shape stays
pub sweep_permitted :
    (locks : List Lock) (found : Option Place) (x : Sweep) → MaySend (sweep_stage locks found x)
sweep_permitted locks found x s sound h = record {
  there = let l = h.knows.there in let c = h.knows.name.bricks in omega arith;
  may = (
    tt,
    record {
      holds = h.knows.name.holds;
      from = found_shape found;
      to = found_shape found;
      stands = h.knows.name.stands;
      takes = refl;
      wants = tt;
      also = tt;
    },
  );
}

-- ---- what others leave

pub holds_stable : (e : Entry) (s t : Scene) → HoldsName s e → Rely s t → HoldsName t e
holds_stable e s t h o = record {
  name = lock_stable s t e.0 (Name e.0 e.1) o ∙ h.name;
  dir = ap is_some (lock_stable s t e.0 (Dir e.0) o) ∙ h.dir;
}

-- linktos of a name that is locked stay
linkto_stable :
    (l : Location) (found : Option Place) (b : ℕ) (s t : Scene) → b < s.disk.count
    → HoldsName s (entry_at l)
    → Rattle.dht_section.specs.Scene.NameStands s (entry_at l) (found_shape found) → Rely s t
    → linkto_there t.disk b (entry_at l) ≡ linkto_there s.disk b (entry_at l)
linkto_stable l found b s t there holds stands o = ap (λ (p : Slot). is_linkto p.main) (o.slots (entry_at l) b (inl holds) (same_core (entry_at l) (found_shape found) s t b o.count there stands (stands_stable (entry_at l) found s t holds stands o)))

pub left_stable :
    (l : Location) (found : Option Place) (linktos : List Linkto) (limit : ℕ) (s t : Scene)
    → IsLeft l found linktos limit s → Rely s t → IsLeft l found linktos limit t
left_stable l found linktos limit s t h o =
    let c = h.bricks in
    record {
      bricks = o.count ∙ h.bricks;
      holds = holds_stable (entry_at l) s t h.holds o;
      stands = stands_stable (entry_at l) found s t h.holds h.stands o;
      left = λ b k. linkto_stable l found b s t (omega arith) h.holds h.stands o ∙ h.left b k;
    }

pub sweep_stable :
    (locks : List Lock) (found : Option Place) (x : Sweep) → IsStable (sweep_stage locks found x)
sweep_stable locks found x s t h o = record { name = left_stable x.location found x.linktos x.brick.0 s t h.name o; there = h.there; seen = h.seen }

pub swept_stable :
    (l : Location) (found : Option Place) (s t : Scene) → IsSwept l found s → Rely s t
    → IsSwept l found t
swept_stable l found s t h o =
    let c = o.count in
    record {
      bricks = o.count ∙ h.bricks;
      holds = holds_stable (entry_at l) s t h.holds o;
      stands = stands_stable (entry_at l) found s t h.holds h.stands o;
      none = λ b k. linkto_stable l found b s t (omega arith) h.holds h.stands o ∙ h.none b (omega arith);
    }

-- a section of the name that holds its locks holds the name
pub holds_location :
    (l : Location) (w : Scoped) (s : Scene) → w ≡ scope_at l → IsOrdered w
    → AllHeld w (length w.keys) s → HoldsName s (entry_at l)
holds_location l w s e order holds =
    let one : 0 < length w.names = subst (λ (v : Scoped). 0 < length v.names) (sym e) (omega arith) in
    subst (λ (x : Entry). HoldsName s x) (ap (λ (v : Scoped). name_at v 0) e) (holds_name w 0 s order one holds)

pub kept_stable : (l : Location) (h : Held) (s t : Scene) → IsKept l h s → Rely s t → IsKept l h t
kept_stable l h s t k o = record {
  order = k.order;
  fresh = fresh_stable h.scope s t k.fresh o;
  scope = k.scope;
  holds = held_stable h.scope (length h.scope.keys) s t k.holds o;
  read = reads_stable l.directory (held_looked h (entry_at l)).sight s t (holds_location l h.scope s k.scope k.order k.holds).dir k.read o;
  whole = k.whole;
}

-- ---- under no locks

pub lone_permitted : (x : Sweep) → MaySend (lone_sweep x)
lone_permitted x = sweep_permitted [] None x

pub lone_stable : (x : Sweep) → IsStable (lone_sweep x)
lone_stable x = sweep_stable [] None x
