-- The laws of an unlink as a machine.
use Rattle.std.proofs.Common.{◌≡◌, ◌≢◌, ℕ, true, List, [], ◌∷◌, refl, sym, ◌∙◌, ap, subst}
use Rattle.std.specs.Prelude.{◌+◌, Option, Some, None, is_some, if◌then◌else◌, suc}
use Rattle.dht_types.specs.Gfid.{root}
use Rattle.dht_types.specs.History.{Deeds, IsNext}
use Rattle.dht_types.specs.Tree.{Tree, Node, IsFile, Do, Refuse, says, unlinked}
use Rattle.dht_types.specs.declared.calls.Answer.TheVariants.{Done}
use Rattle.dht_types.specs.declared.calls.Call.{Call}
use Rattle.dht_types.specs.declared.calls.Call.TheVariants.{Unlink as Called}
use Rattle.dht_types.specs.declared.calls.TreeStep.TheVariants.{RemoveFile}
use Rattle.dht_types.specs.declared.errors.Errno.TheVariants.{Estale}
use Rattle.dht_types.specs.declared.identifiers.Gfid.{Gfid}
use Rattle.dht_types.specs.declared.stored.Main.{Main}
use Rattle.dht_types.specs.declared.stored.Main.TheVariants.{Dir, File, Linkto}
use Rattle.dht_types.specs.declared.stored.Slot.{Slot}
use Rattle.dht_brick.specs.Contents.{bare}
use Rattle.dht_brick.specs.declared.requests.NameRequest.TheVariants.{Unlink as Remove}
use Rattle.dht_section.proofs.EarlyLaws.{here_at}
use Rattle.dht_section.proofs.HeldLaws.{stands_found}
use Rattle.dht_section.proofs.LocationLaws.{held_at_stable, in_tree, looked_is, name_held}
use Rattle.dht_section.specs.Disk.{dir_at, slot_at}
use Rattle.dht_section.specs.Closing.{closing_stage}
use Rattle.dht_section.specs.ClosingLaws.{closing_permitted, closing_stable}
use Rattle.dht_section.specs.Location.{entry_at}
use Rattle.dht_section.specs.Looks.{IsNoDir, file_in}
use Rattle.dht_section.specs.PartLaws.{part_permitted, part_stable}
use Rattle.dht_section.specs.Permits.{Changes}
use Rattle.dht_section.specs.Reap.{reap_stage}
use Rattle.dht_section.specs.ReapLaws.{orphan_stable, reap_permitted, reap_stable}
use Rattle.dht_section.specs.Rely.{Rely}
use Rattle.dht_section.specs.Scene.{Scene, Sound, NameStands, Wants}
use Rattle.dht_section.specs.Section.{found_shape, held_looked, last_lock, section_stage}
use Rattle.dht_section.specs.SectionLaws.{section_permitted, section_stable}
use Rattle.dht_section.specs.Shapes.{Bare, Plain}
use Rattle.dht_section.specs.Stages.{MaySend, IsStable}
use Rattle.dht_section.specs.Sweep.{sweep_stage}
use Rattle.dht_section.specs.SweepLaws.{sweep_permitted, sweep_stable}
use Rattle.dht_section.specs.Views.{visible}
use Rattle.dht_section.specs.declared.location.Location.{Location}
use Rattle.dht_section.specs.declared.looks.Place.{Place}
use Rattle.dht_section.specs.declared.looks.What.{What}
use Rattle.dht_section.specs.declared.looks.What.TheVariants.{Absent, Dir as Directory, File as AFile}
use Rattle.dht_section.specs.declared.reap.Orphan.{Orphan}
use Rattle.dht_section.specs.declared.section.Held.{Held}
use Rattle.dht_section.specs.declared.section.Section.{Section}
use Rattle.dht_fileops.specs.Unlink.{IsLinked, IsUnlink, Removes, Secures, WasLast, removed_closing, removed_locks, unlink_stage}
use Rattle.dht_fileops.specs.declared.unlink.Removed.{Removed}
use Rattle.dht_fileops.specs.declared.unlink.Unlink.{Unlink}
use Rattle.dht_fileops.specs.declared.unlink.Unlink.TheVariants.{Securing, Unlinking, Sweeping, Reaping, Ending}

-- ---- the name

-- it stands as the file on its brick
pub file_no_dir : (what : What) (p : Place) → file_in what ≡ Some p → IsNoDir what
file_no_dir Absent p e = tt
file_no_dir (Directory g) p e = absurd (let z : None ≡ Some p = e in cc)
file_no_dir (AFile f b links) p e = tt

pub linked_stands :
    (p : Place) (l : Location) (h : Held) (s : Scene) → IsLinked p l h s
    → NameStands s (entry_at l) (Plain p.brick.0 p.file)
linked_stands p l h s k =
    let what = (held_looked h (entry_at l)).sight.what in
    subst (λ (o : Option Place). NameStands s (entry_at l) (found_shape o)) k.there (stands_found (entry_at l) what s (file_no_dir what p k.there) (looked_is l h s k.held).stands)

-- the main part that shows it
visible_file :
    (m : Option Main) (f : Gfid) → visible m ≡ Some (File f None) → m ≡ Some (File f None)
visible_file None f e = e
visible_file (Some (Dir g)) f e = e
visible_file (Some (File g over)) f e = e
visible_file (Some (Linkto v)) f e = absurd (let z : None ≡ Some (File f None) = e in cc)

pub linked_main :
    (p : Place) (l : Location) (h : Held) (s : Scene) → IsLinked p l h s
    → (slot_at s.disk p.brick.0 (entry_at l)).main ≡ Some (File p.file None)
linked_main p l h s k =
    let stands = linked_stands p l h s k in
    visible_file _ p.file (ap (λ (x : Slot). x.main) (stands.has p.brick.0 stands.fits) ∙ here_at (Some (File p.file None)) p.brick.0)

-- so its brick has the directory
linked_bare :
    (p : Place) (l : Location) (h : Held) (s : Scene) → IsLinked p l h s
    → slot_at s.disk p.brick.0 (entry_at l) ≢ bare
linked_bare p l h s k e = (let z : Some (File p.file None) ≡ None = sym (linked_main p l h s k) ∙ ap (λ (x : Slot). x.main) e in cc)

pub linked_housed :
    (p : Place) (l : Location) (h : Held) (s : Scene) → Sound s → IsLinked p l h s
    → is_some (dir_at s.disk p.brick.0 l.directory) ≡ true
linked_housed p l h s sound k = sound.kept.things.housed (entry_at l) p.brick.0 (linked_stands p l h s k).fits (linked_bare p l h s k)

-- ---- what the tree says

pub says_unlink :
    (t : Tree) (d : Gfid) (n : List ℕ) (f g : Gfid) → t.dirs d ≡ true
    → t.names (d, n) ≡ Some (IsFile f) → says t (Called d n) g ≡ Do (RemoveFile d n ∷ []) Done
says_unlink t d n f g e k = ap (λ b. if b then unlinked d n (t.names (d, n)) else Refuse Estale) e ∙ ap (λ (o : Option Node). unlinked d n o) k

pub linked_says :
    (p : Place) (l : Location) (h : Held) (s : Scene) (g : Gfid) → Sound s → IsLinked p l h s
    → says s.history.tree s.mine.call g ≡ Do (RemoveFile l.directory l.name ∷ []) Done
linked_says p l h s g sound k =
    ap (λ (c : Call Gfid). says s.history.tree c g) k.call
    ∙ says_unlink s.history.tree l.directory l.name p.file g (in_tree l h s sound k.held) (linked_stands p l h s k).node

wants_removal :
    (p : Place) (l : Location) (h : Held) (s : Scene) → Sound s → IsLinked p l h s
    → Wants s (RemoveFile l.directory l.name)
wants_removal p l h s sound k = record {
  next = subst (λ (d : Option Deeds). IsNext s.history.tree s.mine.call d (RemoveFile l.directory l.name)) (sym k.held.held.fresh.deeds) ([], (Done, linked_says p l h s root sound k));
  fits = (p.file, (linked_stands p l h s k).node);
  own = tt;
}

-- ---- what it may ask

-- it takes the name from the file on its brick to nothing
removes_name :
    (p : Place) (l : Location) (h : Held) (s : Scene) → Sound s → IsLinked p l h s
    → Changes s p.brick.0 (Remove l.directory l.name p.file)
removes_name p l h s sound k = record {
  holds = name_held l h s k.held;
  from = Plain p.brick.0 p.file;
  to = Bare;
  stands = linked_stands p l h s k;
  takes = (refl, refl);
  wants = wants_removal p l h s sound k;
  also = tt;
}

pub unlink_permitted : (m : Unlink) → MaySend (unlink_stage m)
unlink_permitted (Securing l m) s sound h = part_permitted (section_stage m) (l.bricks + 3) (λ s. Secures l m s) (section_permitted m) s sound h
unlink_permitted (Unlinking p l k) s sound h = record { there = (linked_stands p l k s h.knows).fits; may = (tt, removes_name p l k s sound h.knows) }
unlink_permitted (Sweeping m x) s sound h = part_permitted (sweep_stage (removed_locks x) None m) (suc (last_lock x.held.scope) + 2) (λ s. Removes x s) (sweep_permitted (removed_locks x) None m) s sound h
unlink_permitted (Reaping m x) s sound h = part_permitted (reap_stage (removed_locks x) m) (suc (last_lock x.held.scope)) (λ s. (closing_stage (removed_closing x)).knows s) (reap_permitted (removed_locks x) m) s sound h
unlink_permitted (Ending c learned) s sound h = closing_permitted c s sound h

-- ---- what others leave

call_stable : (l : Location) (s t : Scene) → IsUnlink l s → Rely s t → IsUnlink l t
call_stable l s t h o = o.mine.call ∙ h

secures_stable :
    (l : Location) (m : Section) (s t : Scene) → Secures l m s → Rely s t → Secures l m t
secures_stable l m s t h o = record { call = call_stable l s t h.call o; scope = h.scope }

last_stable :
    (orphan : Option Orphan) (s t : Scene) → WasLast orphan s → Rely s t → WasLast orphan t
last_stable None s t h o = tt
last_stable (Some x) s t h o = orphan_stable x s t h o

removes_stable : (x : Removed) (s t : Scene) → Removes x s → Rely s t → Removes x t
removes_stable x s t h o = record { closing = closing_stable (removed_closing x) s t h.closing o; orphan = last_stable x.orphan s t h.orphan o }

pub unlink_stable : (m : Unlink) → IsStable (unlink_stage m)
unlink_stable (Securing l m) s t h o = part_stable (section_stage m) (l.bricks + 3) (λ s. Secures l m s) (section_stable m) (secures_stable l m) s t h o
unlink_stable (Unlinking p l k) s t h o = record { call = call_stable l s t h.call o; held = held_at_stable l k s t h.held o; there = h.there }
unlink_stable (Sweeping m x) s t h o = part_stable (sweep_stage (removed_locks x) None m) (suc (last_lock x.held.scope) + 2) (λ s. Removes x s) (sweep_stable (removed_locks x) None m) (removes_stable x) s t h o
unlink_stable (Reaping m x) s t h o = part_stable (reap_stage (removed_locks x) m) (suc (last_lock x.held.scope)) (λ s. (closing_stage (removed_closing x)).knows s) (reap_stable (removed_locks x) m) (closing_stable (removed_closing x)) s t h o
unlink_stable (Ending c learned) s t h o = closing_stable c s t h o
