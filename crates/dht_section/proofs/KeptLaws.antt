-- What a held section of one name shows of linktos, and what it still knows when they were dropped.
use Rattle.std.proofs.Common.{◌≡◌, ◌<◌, ℕ, Bool, true, false, sym, ◌∙◌, ap, arith, List}
use Rattle.std.specs.Prelude.{Some, is_some, nat_lt, if◌then◌else◌}
use Rattle.std.proofs.lemmas.Bool.Decides.{nat_tests}
use Rattle.dht_section.proofs.HeldLaws.{linkto_is, stands_found}
use Rattle.dht_section.proofs.LayoutLaws.{holder_housed, read_holder}
use Rattle.dht_section.proofs.LocationLaws.{home_there, looked_is, name_held, wanted}
use Rattle.dht_section.proofs.SectionLooks.{read_whole}
use Rattle.dht_section.specs.Disk.{dir_at, holder_of}
use Rattle.dht_section.specs.Location.{IsHeldAt, entry_at}
use Rattle.dht_section.specs.Looks.{IsNoDir, file_in, has_linkto, linkto_at}
use Rattle.dht_section.specs.Scene.{Scene, Sound}
use Rattle.dht_section.specs.Section.{held_holder, held_looked}
use Rattle.dht_section.specs.SectionLaws.{bricks_are}
use Rattle.dht_section.specs.Sweep.{IsKept, IsLeft, is_left, linkto_there, seen_linktos}
use Rattle.dht_section.specs.Want.{Scoped}
use Rattle.dht_section.specs.declared.location.Location.{Location}
use Rattle.dht_section.specs.declared.looks.Linkto.{Linkto}
use Rattle.dht_section.specs.declared.section.Held.{Held}

-- ---- the linktos that were seen

location_bricks : (l : Location) (h : Held) (s : Scene) → IsHeldAt l h s → h.scope.bricks ≡ l.bricks
location_bricks l h s k = ap (λ (w : Scoped). w.bricks) k.scope

pub count_is :
    (l : Location) (h : Held) (s : Scene) → Sound s → IsHeldAt l h s → s.disk.count ≡ l.bricks
count_is l h s sound k = bricks_are h.scope s sound k.held.fresh.scope ∙ location_bricks l h s k

-- a brick has a linkto where one was seen
pub linkto_seen :
    (l : Location) (h : Held) (b : ℕ) (s : Scene) → IsHeldAt l h s
    → IsNoDir (held_looked h (entry_at l)).sight.what → b < l.bricks
    → linkto_there s.disk b (entry_at l) ≡ has_linkto (linkto_at (seen_linktos l h) b)
linkto_seen l h b s k plain w = (let e = location_bricks l h s k in sym (linkto_is h (entry_at l) b s k.held (wanted l h k.scope) plain (omega arith)))

-- from the first brick on all are left
pub left_all :
    (linktos : List Linkto) (b : ℕ) → has_linkto (linkto_at linktos b) ≡ is_left linktos 0 b
left_all linktos b = (let e : false ≡ nat_lt b 0 = grind (arith, nat_tests) in ap (λ (v : Bool). if v then false else has_linkto (linkto_at linktos b)) e)

pub held_left :
    (l : Location) (h : Held) (s : Scene) → Sound s → IsHeldAt l h s
    → IsNoDir (held_looked h (entry_at l)).sight.what
    → IsLeft l (file_in (held_looked h (entry_at l)).sight.what) (seen_linktos l h) 0 s
held_left l h s sound k plain = record {
  bricks = count_is l h s sound k;
  holds = name_held l h s k;
  stands = stands_found (entry_at l) (held_looked h (entry_at l)).sight.what s plain (looked_is l h s k).stands;
  left = λ b w. linkto_seen l h b s k plain w ∙ left_all (seen_linktos l h) b;
}

-- ---- what it knows beside them

pub held_kept : (l : Location) (h : Held) (s : Scene) → IsHeldAt l h s → IsKept l h s
held_kept l h s k = record {
  order = k.held.order;
  fresh = k.held.fresh;
  scope = k.scope;
  holds = k.held.holds;
  read = (looked_is l h s k).read;
  whole = (looked_is l h s k).whole;
}

-- the directory is one of the tree
pub kept_directory :
    (l : Location) (h : Held) (s : Scene) → Sound s → IsKept l h s
    → s.history.tree.dirs l.directory ≡ true
kept_directory l h s sound k =
    let there = home_there l h.scope s k.scope k.fresh.scope in
    let whole = k.whole in
    read_whole l.directory (held_looked h (entry_at l)).sight s sound (omega arith) k.read

-- the brick that holds the name by the layout that was read holds it, and has the directory
pub kept_holder :
    (l : Location) (h : Held) (b : ℕ) (s : Scene) → Sound s → IsKept l h s
    → held_holder h (entry_at l) ≡ Some b → holder_of s.disk (entry_at l) ≡ Some b
kept_holder l h b s sound k e = read_holder (entry_at l) (held_looked h (entry_at l)).sight b s sound (k.whole ∙ sym (bricks_are h.scope s sound k.fresh.scope)) k.read e

pub kept_housed :
    (l : Location) (h : Held) (b : ℕ) (s : Scene) → IsKept l h s
    → held_holder h (entry_at l) ≡ Some b → is_some (dir_at s.disk b l.directory) ≡ true
kept_housed l h b s k e = holder_housed (entry_at l) (held_looked h (entry_at l)).sight b s k.read e
