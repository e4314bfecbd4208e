-- The laws of an rmdir as a machine.
use Rattle.std.proofs.Common.{◌≡◌, ◌≢◌, ℕ, Bool, true, false, List, [], ◌∷◌, refl, sym, ◌∙◌, ap, subst, inl, inr, arith}
use Rattle.std.specs.Prelude.{◌+◌, ◌*◌, Option, Some, None, is_some, if◌then◌else◌, nat_eq}
use Rattle.std.proofs.lemmas.Bool.{false_from_ne_true}
use Rattle.dht_types.proofs.PutLaws.{exact_nat}
use Rattle.dht_types.proofs.TreeLaws.{empty_listing}
use Rattle.dht_types.specs.Gfid.{Entry, home, root}
use Rattle.dht_types.specs.History.{Deeds, IsNext}
use Rattle.dht_types.specs.Tree.{Tree, Node, IsDir, Do, Refuse, says, removed, removed_dir}
use Rattle.dht_types.specs.Tree.{IsEmpty as IsEmptyIn}
use Rattle.dht_types.specs.declared.calls.Answer.TheVariants.{Done}
use Rattle.dht_types.specs.declared.calls.Call.{Call}
use Rattle.dht_types.specs.declared.calls.Call.TheVariants.{Rmdir as Called}
use Rattle.dht_types.specs.declared.calls.TreeStep.{TreeStep}
use Rattle.dht_types.specs.declared.calls.TreeStep.TheVariants.{RemoveDir}
use Rattle.dht_types.specs.declared.errors.Errno.TheVariants.{Estale}
use Rattle.dht_types.specs.declared.identifiers.BrickNo.{BrickNo}
use Rattle.dht_types.specs.declared.identifiers.Gfid.{Gfid}
use Rattle.dht_brick.specs.declared.requests.NameRequest.TheVariants.{DropDir}
use Rattle.dht_section.proofs.EarlyLaws.{nat_cases}
use Rattle.dht_section.proofs.PairLaws.{pair_alone, pair_name_held}
use Rattle.dht_section.specs.Acts.{set_on}
use Rattle.dht_section.specs.ClosingLaws.{closing_permitted, closing_stable}
use Rattle.dht_section.specs.Location.{entry_at}
use Rattle.dht_section.specs.Moves.{at_home}
use Rattle.dht_section.specs.PartLaws.{part_permitted, part_stable}
use Rattle.dht_section.specs.Permits.{Changes, IsEmpty}
use Rattle.dht_section.specs.Release.{release_stage}
use Rattle.dht_section.specs.ReleaseLaws.{release_permitted, release_stable}
use Rattle.dht_section.specs.Rely.{Rely}
use Rattle.dht_section.specs.Scene.{Scene, Sound, Guards, HoldsAlone, HoldsName, NameStands, Wants, WantsAll}
use Rattle.dht_section.specs.Section.{Saw, StandsSeen, section_stage}
use Rattle.dht_section.specs.SectionLaws.{bricks_are, fresh_stable, held_stable, section_permitted, section_stable}
use Rattle.dht_section.specs.Shapes.{NameShape, Bare, Folder, Plain}
use Rattle.dht_section.specs.Stages.{MaySend, IsStable}
use Rattle.dht_section.specs.Want.{Scoped}
use Rattle.dht_section.specs.WholeLaws.{if_alone_stable}
use Rattle.dht_section.specs.declared.location.Location.{Location}
use Rattle.dht_section.specs.declared.looks.What.{What}
use Rattle.dht_section.specs.declared.looks.What.TheVariants.{Absent, Dir, File}
use Rattle.dht_section.specs.declared.release.Release.{Release}
use Rattle.dht_section.specs.declared.section.Held.{Held}
use Rattle.dht_section.specs.declared.section.Prepared.{Prepared}
use Rattle.dht_section.specs.declared.section.Section.{Section}
use Rattle.dht_resolve.specs.Lookup.{lookup_stage}
use Rattle.dht_resolve.specs.LookupName.{lookup_location}
use Rattle.dht_resolve.specs.LookupLaws.{lookup_permitted, lookup_stable, room_stable}
use Rattle.dht_dirops.specs.Rmdir.{Drops, Holds, IsBare, IsNamed, IsRmdir, Removes, Reopens, Resolves, Secures, ShowNothing, rmdir_stage}
use Rattle.dht_dirops.specs.declared.rmdir.Removal.{Removal}
use Rattle.dht_dirops.specs.declared.rmdir.Rmdir.{Rmdir}
use Rattle.dht_dirops.specs.declared.rmdir.Rmdir.TheVariants.{Resolving, Securing, Inspecting, Dropping, Releasing, Ending}

-- ---- what is held

pub holds_alone : (x : Removal) (h : Held) (s : Scene) → Holds x h s → HoldsAlone s x.directory
holds_alone x h s k = pair_alone x.location.bricks x.location.directory x.directory x.location.name h.scope s k.scope k.holds

pub holds_entry :
    (x : Removal) (h : Held) (s : Scene) → Holds x h s → HoldsName s (entry_at x.location)
holds_entry x h s k = pair_name_held x.location.bricks x.location.directory x.directory x.location.name h.scope s k.scope k.removes.apart k.holds

pub holds_bricks :
    (x : Removal) (h : Held) (s : Scene) → Sound s → Holds x h s → s.disk.count ≡ x.location.bricks
holds_bricks x h s sound k = bricks_are h.scope s sound k.fresh.scope ∙ ap (λ (w : Scoped). w.bricks) k.scope

-- ---- what the tree says

-- nothing stands in the directory
bare_in_tree : (g : Gfid) (s : Scene) → IsBare g s → IsEmptyIn s.history.tree g
bare_in_tree g s h n = (h n).node

says_rmdir :
    (t : Tree) (d : Gfid) (n : List ℕ) (g x : Gfid) → t.dirs d ≡ true
    → t.names (d, n) ≡ Some (IsDir g) → t.listings g ≡ []
    → says t (Called d n) x ≡ Do (RemoveDir d n ∷ []) Done
says_rmdir t d n g x e k l =
    ap (λ (b : Bool). if b then removed t d n (t.names (d, n)) else Refuse Estale) e
    ∙ (ap (λ (o : Option Node). removed t d n o) k
    ∙ ap (λ (xs : List (List ℕ)). removed_dir d n xs) l)

-- the directory in which the name stands is one of the tree
pub removal_housed :
    (x : Removal) (h : Held) (s : Scene) → Sound s → Holds x h s
    → s.history.tree.dirs x.location.directory ≡ true
removal_housed x h s sound k = sound.kept.tree.housed (entry_at x.location) (ap is_some k.stands.node)

pub removal_says :
    (x : Removal) (h : Held) (s : Scene) (g : Gfid) → Sound s → Holds x h s → IsBare x.directory s
    → says s.history.tree s.mine.call g
    ≡ Do (RemoveDir x.location.directory x.location.name ∷ []) Done
removal_says x h s g sound k bare =
    ap (λ (c : Call Gfid). says s.history.tree c g) k.removes.call
    ∙ says_rmdir s.history.tree x.location.directory x.location.name x.directory g (removal_housed x h s sound k) k.stands.node
    (empty_listing s.history.tree x.directory sound.kept.tree (bare_in_tree x.directory s bare))

wants_removal :
    (x : Removal) (h : Held) (s : Scene) → Sound s → Holds x h s → IsBare x.directory s
    → Wants s (RemoveDir x.location.directory x.location.name)
wants_removal x h s sound k bare = record {
  next = subst (λ (d : Option Deeds). IsNext s.history.tree s.mine.call d (RemoveDir x.location.directory x.location.name)) (sym k.fresh.deeds) ([], (Done, removal_says x h s root sound k bare));
  fits = (x.directory, k.stands.node, bare_in_tree x.directory s bare);
  own = tt;
}

-- ---- what it may ask

-- a request to a brick that is not the home stands for no step of the tree; one to the home does
away_wants :
    (x : Removal) (b : ℕ) (s : Scene) → b ≢ home x.directory
    → WantsAll s (at_home b x.directory (RemoveDir x.location.directory x.location.name))
away_wants x b s ne = subst (λ (o : Option TreeStep). WantsAll s o)
    (sym (ap (λ (v : Bool). if v then Some (RemoveDir x.location.directory x.location.name) else None) (false_from_ne_true (nat_eq b (home x.directory)) (λ e. ne ((exact_nat b (home x.directory)).0 e))))) tt

home_wants :
    (x : Removal) (b : ℕ) (s : Scene) → b ≡ home x.directory
    → Wants s (RemoveDir x.location.directory x.location.name)
    → WantsAll s (at_home b x.directory (RemoveDir x.location.directory x.location.name))
home_wants x b s e wants = subst (λ (o : Option TreeStep). WantsAll s o)
    (sym (ap (λ (v : Bool). if v then Some (RemoveDir x.location.directory x.location.name) else None) ((exact_nat b (home x.directory)).1 e))) wants

bare_slots : (g : Gfid) (s : Scene) → IsBare g s → IsEmpty s g
bare_slots g s h i n l = (h n).has i l

drops_copy :
    (x : Removal) (h : Held) (b : BrickNo) (s : Scene) → Sound s → Drops x h b s
    → Changes s b.0 (DropDir x.location.directory x.location.name x.directory)
drops_copy x h b s sound k = elim (nat_cases b.0 (home x.directory)) [
  | inl e ↦ record {
    holds = (holds_entry x h s k.held, holds_alone x h s k.held);
    from = Folder x.directory k.held.on;
    to = Bare;
    stands = k.held.stands;
    takes = (k.held.on, refl, inl (e, refl, λ i ne. k.dropped i (λ q. ne (q ∙ sym e)) (inr e)));
    wants = home_wants x b.0 s e (wants_removal x h s sound k.held k.empty);
    also = bare_slots x.directory s k.empty;
  }
  | inr ne ↦ record {
    holds = (holds_entry x h s k.held, holds_alone x h s k.held);
    from = Folder x.directory k.held.on;
    to = Folder x.directory (set_on k.held.on b.0 false);
    stands = k.held.stands;
    takes = (k.held.on, refl, inr (ne, refl));
    wants = away_wants x b.0 s ne;
    also = bare_slots x.directory s k.empty;
  }
]

pub rmdir_permitted : (m : Rmdir) → MaySend (rmdir_stage m)
rmdir_permitted (Resolving m p) s sound h = part_permitted (lookup_stage m) (3 * (lookup_location m).bricks + 8) (λ s. Resolves (lookup_location m) p s) (lookup_permitted m) s sound h
rmdir_permitted (Securing x m room learned) s sound h = part_permitted (section_stage m) (x.location.bricks + x.location.bricks + 2) (λ s. Secures x m room s) (section_permitted m) s sound h
rmdir_permitted (Inspecting x k b) s sound h = record {
  there = let e = holds_bricks x k s sound h.knows.held in let l = h.knows.within in omega arith;
  may = (tt, tt);
}
rmdir_permitted (Dropping x k b) s sound h = record {
  there = let e = holds_bricks x k s sound h.knows.held in let l = h.knows.within in omega arith;
  may = (tt, drops_copy x k b s sound h.knows);
}
rmdir_permitted (Releasing l m room layout) s sound h = part_permitted (release_stage m) 0 (λ s. Reopens l m room s) (release_permitted m) s sound h
rmdir_permitted (Ending c learned) s sound h = closing_permitted c s sound h

-- ---- what others leave

call_stable : (l : Location) (s t : Scene) → IsRmdir l s → Rely s t → IsRmdir l t
call_stable l s t h o = o.mine.call ∙ h

removes_stable : (x : Removal) (s t : Scene) → Removes x s → Rely s t → Removes x t
removes_stable x s t h o = record { call = call_stable x.location s t h.call o; apart = h.apart }

-- a name that I guard stands as it was seen, and a directory has got copies at most
seen_guarded :
    (e : Entry) (what : What) (s t : Scene) → Guards s e → StandsSeen e what s → Rely s t
    → StandsSeen e what t
seen_guarded e Absent s t g h o =
    let q = o.names e Bare g h in
    subst (λ (k : NameShape). NameStands t e k) q.1 q.2
seen_guarded e (Dir f) s t g h o =
    let q = o.names e (Folder f h.0) g h.1 in
    (q.1.0, subst (λ (k : NameShape). NameStands t e k) q.1.1 q.2)
seen_guarded e (File f b links) s t g h o =
    let q = o.names e (Plain b.0 f) g h in
    subst (λ (k : NameShape). NameStands t e k) q.1 q.2

saw_guarded :
    (e : Entry) (limit : ℕ) (shown : What) (s t : Scene) → Guards s e → Saw e limit shown s
    → Rely s t → Saw e limit shown t
saw_guarded e limit shown s t g h o = record { full = h.full; stands = seen_guarded e h.full s t g h.stands o; shows = h.shows }

pub nothing_stable :
    (g : Gfid) (limit : ℕ) (s t : Scene) → HoldsAlone s g → ShowNothing g limit s → Rely s t
    → ShowNothing g limit t
nothing_stable g limit s t alone h o n = saw_guarded (g, n) limit Absent s t (inr alone) (h n) o

pub bare_stable : (g : Gfid) (s t : Scene) → HoldsAlone s g → IsBare g s → Rely s t → IsBare g t
bare_stable g s t alone h o n = seen_guarded (g, n) Absent s t (inr alone) (h n) o

-- the name stands as it did, with the same copies
pub holds_stable : (x : Removal) (h : Held) (s t : Scene) → Holds x h s → Rely s t → Holds x h t
holds_stable x h s t k o = record {
  removes = removes_stable x s t k.removes o;
  scope = k.scope;
  fresh = fresh_stable h.scope s t k.fresh o;
  holds = held_stable h.scope _ s t k.holds o;
  on = k.on;
  stands = o.both (entry_at x.location) x.directory k.on (holds_entry x h s k) (holds_alone x h s k) k.stands;
}

pub same_copies :
    (x : Removal) (h : Held) (s t : Scene) (k : Holds x h s) (o : Rely s t)
    → (holds_stable x h s t k o).on ≡ k.on
unfolding holds_stable
same_copies x h s t k o = refl

resolves_stable :
    (l : Location) (p : Prepared) (s t : Scene) → Resolves l p s → Rely s t → Resolves l p t
resolves_stable l p s t h o = record { call = call_stable l s t h.call o; memory = h.memory }

secures_stable :
    (x : Removal) (m : Section) (room : Prepared) (s t : Scene) → Secures x m room s → Rely s t
    → Secures x m room t
secures_stable x m room s t h o = record {
  removes = removes_stable x s t h.removes o;
  scope = h.scope;
  memory = room_stable x.location room s t h.memory o;
  named = if_alone_stable (IsNamed x) (λ u w same k. ap (λ (p : Tree). p.names (entry_at x.location)) same.tree ∙ k) s t h.named o;
}

reopens_stable :
    (l : Location) (m : Release) (room : Prepared) (s t : Scene) → Reopens l m room s → Rely s t
    → Reopens l m room t
reopens_stable l m room s t h o = record {
  call = call_stable l s t h.call o;
  scope = h.scope;
  memory = room_stable l room s t h.memory o;
  disturbed = λ now. h.disturbed (o.still now).before;
}

pub rmdir_stable : (m : Rmdir) → IsStable (rmdir_stage m)
unfolding holds_stable
rmdir_stable (Resolving m p) s t h o = part_stable (lookup_stage m) (3 * (lookup_location m).bricks + 8) (λ s. Resolves (lookup_location m) p s) (lookup_stable m) (resolves_stable (lookup_location m) p) s t h o
rmdir_stable (Securing x m room learned) s t h o = part_stable (section_stage m) (x.location.bricks + x.location.bricks + 2) (λ s. Secures x m room s) (section_stable m) (secures_stable x m room) s t h o
rmdir_stable (Inspecting x k b) s t h o = record {
  held = holds_stable x k s t h.held o;
  within = h.within;
  shown = nothing_stable x.directory b.0 s t (holds_alone x k s h.held) h.shown o;
}
rmdir_stable (Dropping x k b) s t h o = record {
  held = holds_stable x k s t h.held o;
  within = h.within;
  empty = bare_stable x.directory s t (holds_alone x k s h.held) h.empty o;
  dropped = h.dropped;
}
rmdir_stable (Releasing l m room layout) s t h o = part_stable (release_stage m) 0 (λ s. Reopens l m room s) (release_stable m) (reopens_stable l m room) s t h o
rmdir_stable (Ending c learned) s t h o = closing_stable c s t h o
