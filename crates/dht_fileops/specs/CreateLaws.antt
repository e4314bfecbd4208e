-- The laws of a create as a machine.
use Rattle.std.proofs.Common.{◌≡◌, ◌<◌, ◌+◌, ◌*◌, ◌^◌, ℕ, List, [], ◌∷◌, refl, sym, ◌∙◌, ap, subst, arith, true}
use Rattle.std.specs.Prelude.{Option, Some, None, if◌then◌else◌, suc}
use Rattle.dht_types.specs.Gfid.{made}
use Rattle.dht_types.specs.Tree.{Tree, Node, Do, Refuse, says, created}
use Rattle.dht_types.specs.History.{Deeds, IsNext, IsOwn}
use Rattle.dht_types.specs.declared.identifiers.Gfid.{Gfid}
use Rattle.dht_types.specs.declared.identifiers.ClientNo.{ClientNo}
use Rattle.dht_types.specs.declared.identifiers.CallNo.{CallNo}
use Rattle.dht_types.specs.declared.errors.Errno.TheVariants.{Estale}
use Rattle.dht_types.specs.declared.calls.Call.{Call}
use Rattle.dht_types.specs.declared.calls.Call.TheVariants.{Create as Called}
use Rattle.dht_types.specs.declared.calls.Answer.TheVariants.{Made}
use Rattle.dht_types.specs.declared.calls.TreeStep.TheVariants.{AddFile}
use Rattle.dht_brick.specs.declared.requests.NameRequest.TheVariants.{Create as Make}
use Rattle.dht_section.proofs.KeptLaws.{kept_directory, kept_holder}
use Rattle.dht_section.specs.ClosingLaws.{closing_permitted, closing_stable}
use Rattle.dht_section.specs.Invariant.{Used, ByBytes}
use Rattle.dht_section.specs.OriginLaws.{comes_from_stable}
use Rattle.dht_section.specs.PartLaws.{part_permitted, part_stable}
use Rattle.dht_section.specs.Permits.{Changes}
use Rattle.dht_section.specs.Rely.{Rely}
use Rattle.dht_section.specs.Scene.{Scene, Sound, Wants}
use Rattle.dht_section.specs.Section.{last_lock, section_stage}
use Rattle.dht_section.specs.SectionLaws.{section_permitted, section_stable}
use Rattle.dht_section.specs.Shapes.{Bare, Plain}
use Rattle.dht_section.specs.Stages.{MaySend, IsStable}
use Rattle.dht_section.specs.Sweep.{sweep_stage}
use Rattle.dht_section.specs.SweepLaws.{kept_stable, sweep_permitted, sweep_stable, swept_stable}
use Rattle.dht_section.specs.declared.location.Location.{Location}
use Rattle.dht_section.specs.declared.section.Held.{Held}
use Rattle.dht_section.specs.declared.section.Section.{Section}
use Rattle.dht_section.specs.declared.sweep.Sweep.{Sweep}
use Rattle.dht_xattr.specs.declared.range.Range.{Range}
use Rattle.dht_heal.specs.HealLaws.{room_stable}
use Rattle.dht_heal.specs.Restart.{restart_stage}
use Rattle.dht_heal.specs.RestartLaws.{restart_permitted, restart_stable, sees_anew_stable}
use Rattle.dht_heal.specs.declared.restart.Restart.{Restart}
use Rattle.dht_heal.specs.declared.room.HealRoom.{HealRoom}
use Rattle.dht_fileops.specs.Create.{Clears, ComesOf, IsFree, Makes, MayMake, Renews, Secures, after_section, create_stage, held_locks}
use Rattle.dht_fileops.specs.declared.create.Create.{Create}
use Rattle.dht_fileops.specs.declared.create.Create.TheVariants.{Securing, Restarting, Sweeping, Creating, Ending}
use Rattle.dht_fileops.specs.declared.create.NewFile.{NewFile}
use Rattle.dht_fileops.specs.declared.create.Target.{Target}

-- ---- what the tree says

-- a tree that has the directory, and not the name, says to make the file
pub says_create :
    (t : Tree) (d : Gfid) (n : List ℕ) (g : Gfid) → t.dirs d ≡ true → t.names (d, n) ≡ None
    → says t (Called d n) g ≡ Do (AddFile d n g ∷ []) (Made g)
says_create t d n g e k = ap (λ b. if b then created d n g (t.names (d, n)) else Refuse Estale) e ∙ ap (λ (o : Option Node). created d n g o) k

pub free_says :
    (x : NewFile) (l : Location) (h : Held) (s : Scene) → Sound s → IsFree x l h s
    → says s.history.tree s.mine.call x.file
    ≡ Do (AddFile l.directory l.name x.file ∷ []) (Made x.file)
free_says x l h s sound k =
    ap (λ (c : Call Gfid). says s.history.tree c x.file) k.may.makes.call
    ∙ says_create s.history.tree l.directory l.name x.file (kept_directory l h s sound k.may.kept) k.swept.stands.node

-- ---- the file

-- the new gfid is the call's own, and of nothing yet
file_own :
    (x : NewFile) (l : Location) (h : Held) (s : Scene) → Sound s → MayMake x l h s
    → IsOwn s.history.run s.who s.mine.number x.file
file_own x l h s sound k = (x.holder.0, let w = k.makes.there in let few = sound.kept.few in omega arith, k.makes.file)

pub file_unused :
    (x : NewFile) (l : Location) (h : Held) (s : Scene) → Sound s → MayMake x l h s
    → Used s.disk s.history.tree x.file → ⊥
file_unused x l h s sound k = sound.kept.fresh s.who s.mine x.file k.makes.small sound.runs k.kept.fresh.deeds (file_own x l h s sound k)

file_free :
    (x : NewFile) (l : Location) (h : Held) (s : Scene) → Sound s → MayMake x l h s
    → s.history.tree.bytes x.file ≡ None
file_free x l h s sound k = by (s.history.tree.bytes x.file) refl
  where
    by : (o : Option (List ℕ)) → s.history.tree.bytes x.file ≡ o → o ≡ None
    by None e = refl
    by (Some bytes) e = absurd (file_unused x l h s sound k (ByBytes (λ q. let z : Some bytes ≡ None = sym e ∙ q in cc)))

wants_file :
    (x : NewFile) (l : Location) (h : Held) (s : Scene) → Sound s → IsFree x l h s
    → Wants s (AddFile l.directory l.name x.file)
wants_file x l h s sound k = record {
  next = subst (λ (d : Option Deeds). IsNext s.history.tree s.mine.call d (AddFile l.directory l.name x.file)) (sym k.may.kept.fresh.deeds) ([], (Made x.file, free_says x l h s sound k));
  fits = (kept_directory l h s sound k.may.kept, k.swept.stands.node, file_free x l h s sound k.may);
  own = file_own x l h s sound k.may;
}

-- ---- what it may ask

-- it takes the name from nothing to the file at its holder
makes_file :
    (x : NewFile) (l : Location) (h : Held) (s : Scene) → Sound s → IsFree x l h s
    → Changes s x.holder.0 (Make l.directory l.name x.file)
makes_file x l h s sound k = record {
  holds = k.swept.holds;
  from = Bare;
  to = Plain x.holder.0 x.file;
  stands = k.swept.stands;
  takes = (refl, refl);
  wants = wants_file x l h s sound k;
  also = (kept_holder l h x.holder.0 s sound k.may.kept k.may.holder, file_unused x l h s sound k.may);
}

pub create_permitted : (m : Create) → MaySend (create_stage m)
create_permitted (Securing x learned room m) s sound h = part_permitted (section_stage m) (after_section learned x.location.bricks) (λ s. Secures x learned room m s) (section_permitted m) s sound h
create_permitted (Restarting x layout m) s sound h = part_permitted (restart_stage m) (2 * x.location.bricks + 6) (λ s. Renews x m s) (restart_permitted m) s sound h
create_permitted (Sweeping m x l k) s sound h = part_permitted (sweep_stage (held_locks k) None m) (suc (last_lock k.scope) + 1) (λ s. Clears m x l k s) (sweep_permitted (held_locks k) None m) s sound h
create_permitted (Creating x l k) s sound h = record { there = h.knows.may.makes.there; may = (tt, makes_file x l k s sound h.knows) }
create_permitted (Ending c learned) s sound h = closing_permitted c s sound h

-- ---- what others leave

comes_stable : (x : Target) (s t : Scene) → ComesOf x s → Rely s t → ComesOf x t
comes_stable x s t h o = record { call = o.mine.call ∙ h.call; origin_is = comes_from_stable x.origin s t h.origin_is o }

secures_stable :
    (x : Target) (learned : Option (List (Option Range))) (room : HealRoom) (m : Section)
    (s t : Scene)
    → Secures x learned room m s → Rely s t → Secures x learned room m t
secures_stable x learned room m s t h o = record {
  comes = comes_stable x s t h.comes o;
  scope = h.scope;
  memory = room_stable room s t h.memory o;
  whole = sees_anew_stable learned x.location.directory m s t h.whole o;
}

renews_stable : (x : Target) (m : Restart) (s t : Scene) → Renews x m s → Rely s t → Renews x m t
renews_stable x m s t h o = record { comes = comes_stable x s t h.comes o; scope = h.scope }

makes_stable : (x : NewFile) (l : Location) (s t : Scene) → Makes x l s → Rely s t → Makes x l t
makes_stable x l s t h o = record {
  call = o.mine.call ∙ h.call;
  there = let w = h.there in let c = o.count in omega arith;
  file = h.file ∙ (ap (λ (n : ℕ). made n s.who s.mine.number x.holder.0) (sym o.run) ∙ (ap (λ (c : ClientNo). made t.history.run c s.mine.number x.holder.0) (sym o.who) ∙ ap (λ (k : CallNo). made t.history.run t.who k x.holder.0) (sym o.mine.number)));
  small = subst (λ (k : CallNo). k.0 < 2 ^ 64) (sym o.mine.number) h.small;
}

may_make_stable :
    (x : NewFile) (l : Location) (h : Held) (s t : Scene) → MayMake x l h s → Rely s t
    → MayMake x l h t
may_make_stable x l h s t k o = record { makes = makes_stable x l s t k.makes o; kept = kept_stable l h s t k.kept o; holder = k.holder }

clears_stable :
    (m : Sweep) (x : NewFile) (l : Location) (h : Held) (s t : Scene) → Clears m x l h s → Rely s t
    → Clears m x l h t
clears_stable m x l h s t k o = record { name = k.name; may = may_make_stable x l h s t k.may o }

pub create_stable : (m : Create) → IsStable (create_stage m)
create_stable (Securing x learned room m) s t h o = part_stable (section_stage m) (after_section learned x.location.bricks) (λ s. Secures x learned room m s) (section_stable m) (secures_stable x learned room m) s t h o
create_stable (Restarting x layout m) s t h o = part_stable (restart_stage m) (2 * x.location.bricks + 6) (λ s. Renews x m s) (restart_stable m) (renews_stable x m) s t h o
create_stable (Sweeping m x l k) s t h o = part_stable (sweep_stage (held_locks k) None m) (suc (last_lock k.scope) + 1) (λ s. Clears m x l k s) (sweep_stable (held_locks k) None m) (clears_stable m x l k) s t h o
create_stable (Creating x l k) s t h o = record { may = may_make_stable x l k s t h.may o; swept = swept_stable l None s t h.swept o }
create_stable (Ending c learned) s t h o = closing_stable c s t h o
