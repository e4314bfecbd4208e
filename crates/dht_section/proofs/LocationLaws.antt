-- A section of one name that is held.
use Rattle.std.proofs.Common.{◌≡◌, ◌<◌, ℕ, true, sym, subst, arith}
use Rattle.std.specs.Prelude.{Some, Contains, []}
use Rattle.dht_types.specs.Gfid.{home}
use Rattle.dht_section.proofs.HeldLaws.{found_is, holder_is, directory_is}
use Rattle.dht_section.proofs.SameLists.{at_first}
use Rattle.dht_section.proofs.ShownLaws.{node_there}
use Rattle.dht_section.specs.Disk.{holder_of}
use Rattle.dht_section.specs.Rely.{Rely}
use Rattle.dht_section.specs.Scene.{Scene, Sound, HoldsName}
use Rattle.dht_section.specs.Section.{HasScope, IsLooked, node_seen, IsWanted, held_holder, held_looked}
use Rattle.dht_section.specs.SectionLaws.{is_held_stable}
use Rattle.dht_section.specs.SweepLaws.{holds_location}
use Rattle.dht_section.specs.Want.{Scoped}
use Rattle.dht_section.specs.declared.section.Held.{Held}
use Rattle.dht_section.specs.Location.{IsHeldAt, entry_at, scope_at}
use Rattle.dht_section.specs.declared.location.Location.{Location}

pub held_at_stable :
    (l : Location) (h : Held) (s t : Scene) → IsHeldAt l h s → Rely s t → IsHeldAt l h t
held_at_stable l h s t k o = record { held = is_held_stable h s t k.held o; scope = k.scope }

-- the name was wanted, so it stands as it was found
pub wanted : (l : Location) (h : Held) → h.scope ≡ scope_at l → IsWanted h (entry_at l)
wanted l h e = subst (λ (w : Scoped). Contains w.names (entry_at l)) (sym e) (at_first (entry_at l) [])

pub looked_is :
    (l : Location) (h : Held) (s : Scene) → IsHeldAt l h s
    → IsLooked h.scope.bricks (entry_at l) (held_looked h (entry_at l)) s
looked_is l h s k = found_is h (entry_at l) s k.held (wanted l h k.scope)

-- and that is what the tree has at it
pub held_node :
    (l : Location) (h : Held) (s : Scene) → IsHeldAt l h s
    → s.history.tree.names (entry_at l) ≡ node_seen (held_looked h (entry_at l)).sight.what
held_node l h s k = node_there s (entry_at l) (held_looked h (entry_at l)).sight.what (looked_is l h s k).stands

-- its directory is one of the tree
pub in_tree :
    (l : Location) (h : Held) (s : Scene) → Sound s → IsHeldAt l h s
    → s.history.tree.dirs l.directory ≡ true
in_tree l h s sound k = directory_is h (entry_at l) s sound k.held (wanted l h k.scope)

-- its home is a brick of the volume
pub home_there :
    (l : Location) (w : Scoped) (s : Scene) → w ≡ scope_at l → HasScope w s
    → home l.directory < w.bricks
home_there l w s e h = subst (λ (v : Scoped). home l.directory < v.bricks) (sym e) ((subst (λ (v : Scoped). HasScope v s) e h).homes 0 (omega arith))

-- its lock is held, and that of its directory
pub name_held : (l : Location) (h : Held) (s : Scene) → IsHeldAt l h s → HoldsName s (entry_at l)
name_held l h s k = holds_location l h.scope s k.scope k.held.order k.held.holds

-- the brick that holds the name by the layout that was read holds it
pub held_holder_is :
    (l : Location) (h : Held) (b : ℕ) (s : Scene) → Sound s → IsHeldAt l h s
    → held_holder h (entry_at l) ≡ Some b → holder_of s.disk (entry_at l) ≡ Some b
held_holder_is l h b s sound k e = holder_is h (entry_at l) b s sound k.held (wanted l h k.scope) e
