-- The laws of a mkdir as a machine.
use Rattle.std.proofs.Common.{◌≡◌, ◌<◌, ◌+◌, ◌*◌, ℕ, Bool, true, false, List, [], ◌∷◌, refl, sym, ◌∙◌, ap, subst, arith, inl, inr}
use Rattle.std.specs.Prelude.{Option, Some, None, is_some, length, nat_eq, slice_index_or, if◌then◌else◌}
use Rattle.std.specs.Option.{option_and_then}
use Rattle.std.proofs.lemmas.Bool.{false_from_ne_true}
use Rattle.std.proofs.lemmas.Bool.Decides.{nat_tests}
use Rattle.std.proofs.lemmas.List.Elements.{All-get_or}
use Rattle.dht_types.proofs.PutLaws.{exact_nat}
use Rattle.dht_types.specs.Gfid.{Entry, home}
use Rattle.dht_types.specs.History.{Deeds, IsNext, IsOwn}
use Rattle.dht_types.specs.Tree.{Do, Node, Refuse, Tree, deepest, depth_in, depth_of, made_dir, made_within, says}
use Rattle.dht_types.specs.declared.calls.Answer.TheVariants.{Made}
use Rattle.dht_types.specs.declared.calls.Call.{Call}
use Rattle.dht_types.specs.declared.calls.Call.TheVariants.{Mkdir as Called}
use Rattle.dht_types.specs.declared.calls.TreeStep.{TreeStep}
use Rattle.dht_types.specs.declared.calls.TreeStep.TheVariants.{AddDir}
use Rattle.dht_types.specs.declared.errors.Errno.TheVariants.{Enametoolong, Estale}
use Rattle.dht_types.specs.declared.identifiers.BrickNo.{BrickNo}
use Rattle.dht_types.specs.declared.identifiers.Gfid.{Gfid}
use Rattle.dht_types.specs.declared.stored.DirRecord.{DirRecord}
use Rattle.dht_brick.specs.declared.requests.NameRequest.TheVariants.{MakeDir}
use Rattle.dht_xattr.proofs.PlanLaws.{planned_length, planned_read}
use Rattle.dht_xattr.specs.Plan.{planned, value_of}
use Rattle.dht_xattr.specs.Range.{decoded}
use Rattle.dht_xattr.specs.declared.range.Range.{Range}
use Rattle.dht_section.proofs.KeptLaws.{kept_directory}
use Rattle.dht_section.proofs.LayoutLaws.{range_is_value}
use Rattle.dht_section.proofs.LocationLaws.{held_at_stable, home_there}
use Rattle.dht_section.specs.Acts.{no_brick, set_on}
use Rattle.dht_section.specs.ClosingLaws.{closing_permitted, closing_stable}
use Rattle.dht_section.specs.Disk.{dir_at, range_of_value}
use Rattle.dht_section.specs.Finish.{made_at}
use Rattle.dht_section.specs.Invariant.{ByCopy, ByDir}
use Rattle.dht_section.specs.MayAnswerLaws.{may_answer_stable}
use Rattle.dht_section.specs.Moves.{at_home}
use Rattle.dht_section.specs.OriginLaws.{comes_from_stable, origin_home, origin_own, origin_unused}
use Rattle.dht_section.specs.PartLaws.{part_permitted, part_stable}
use Rattle.dht_section.specs.Permits.{Changes, IsPlannedAt, IsUnused}
use Rattle.dht_section.specs.Planned.{AllPlanned}
use Rattle.dht_section.specs.Rely.{Rely}
use Rattle.dht_section.specs.Scene.{HoldsDir, NameStands, Scene, Sound, Wants, WantsAll}
use Rattle.dht_section.specs.Section.{section_stage}
use Rattle.dht_section.specs.SectionLaws.{bricks_are, held_stable, scope_stable, section_permitted, section_stable}
use Rattle.dht_section.specs.Shapes.{Bare, Folder, Grows, NameShape}
use Rattle.dht_section.specs.Stages.{MaySend, IsStable}
use Rattle.dht_section.specs.Sweep.{sweep_stage}
use Rattle.dht_section.specs.SweepLaws.{holds_location, kept_stable, sweep_permitted, sweep_stable, swept_stable}
use Rattle.dht_section.specs.declared.section.Held.{Held}
use Rattle.dht_section.specs.declared.section.Opened.TheVariants.{Held as Holding}
use Rattle.dht_section.specs.declared.section.Section.{Section}
use Rattle.dht_section.specs.declared.sweep.Sweep.{Sweep}
use Rattle.dht_heal.specs.HealLaws.{room_stable}
use Rattle.dht_heal.specs.HealOneLaws.{no_home_step, value_read}
use Rattle.dht_heal.specs.Restart.{restart_stage}
use Rattle.dht_heal.specs.RestartLaws.{ends_anew_stable, restart_permitted, restart_stable, sees_anew_stable}
use Rattle.dht_heal.specs.declared.restart.Restart.{Restart}
use Rattle.dht_dirops.specs.Mkdir.{Clears, ComesOf, Copies, HasParents, IsDeep, IsFree, IsMade, MayMake, Measures, Renews, Secures, above_of, after_section, entry_of, held_locks, mkdir_stage, unlocks}
use Rattle.dht_dirops.specs.declared.mkdir.Mkdir.{Mkdir}
use Rattle.dht_dirops.specs.declared.mkdir.Mkdir.TheVariants.{Securing, Measuring, Restarting, Sweeping, Making, Copying, Ending}
use Rattle.dht_dirops.specs.declared.mkdir.NewDir.{NewDir}
use Rattle.dht_dirops.specs.declared.mkdir.Round.{Round}
use Rattle.dht_dirops.specs.declared.mkdir.Target.{Target}

-- ---- what the tree says

-- a tree that has the directory, not too deep, and not the name, says to make the directory
pub says_mkdir :
    (t : Tree) (d : Gfid) (n : List ℕ) (g : Gfid) → t.dirs d ≡ true
    → nat_eq (depth_of t d) deepest ≡ false → t.names (d, n) ≡ None
    → says t (Called d n) g ≡ Do (AddDir d n g ∷ []) (Made g)
says_mkdir t d n g e f k =
    ap (λ b. if b then made_dir (depth_of t d) d n g (t.names (d, n)) else Refuse Estale) e
    ∙ (ap (λ b. if b then Refuse Enametoolong else made_within d n g (t.names (d, n))) f
    ∙ ap (λ (o : Option Node). made_within d n g o) k)

-- the directory above is as deep as was shown
pub depth_is :
    (g : Gfid) (deep : ℕ) (s : Scene) → IsDeep g deep s → depth_of s.history.tree g ≡ deep
depth_is g deep s h = ap depth_in h.is ∙ h.depth

not_deepest : (depth above : ℕ) → depth ≡ above → above < deepest → nat_eq depth deepest ≡ false
not_deepest depth above e l = grind (arith, nat_tests, e, l)

pub free_says :
    (x : NewDir) (h : Held) (s : Scene) → Sound s → IsFree x h s
    → says s.history.tree s.mine.call x.made
    ≡ Do (AddDir (above_of x.target) x.target.location.name x.made ∷ []) (Made x.made)
free_says x h s sound k =
    ap (λ (c : Call Gfid). says s.history.tree c x.made) k.may.comes.call
    ∙ says_mkdir s.history.tree (above_of x.target) x.target.location.name x.made (kept_directory x.target.location h s sound k.may.kept) (not_deepest _ k.may.above (depth_is (above_of x.target) k.may.above s k.may.deep) k.may.shallow) k.swept.stands.node

-- ---- the new directory

-- its gfid is the call's own, of nothing yet, and its home is the brick to which it goes
made_own :
    (x : NewDir) (h : Held) (s : Scene) → Sound s → MayMake x h s
    → IsOwn s.history.run s.who s.mine.number x.made
made_own x h s sound k = subst (λ (g : Gfid). IsOwn s.history.run s.who s.mine.number g) (sym k.made_is) (origin_own x.target.origin x.home.0 s (let w = k.there in let few = sound.kept.few in omega arith) k.comes.origin_is)

pub made_unused : (x : NewDir) (h : Held) (s : Scene) → Sound s → MayMake x h s → IsUnused s x.made
made_unused x h s sound k = subst (IsUnused s) (sym k.made_is) (origin_unused x.target.origin x.home.0 s sound k.there k.kept.fresh.deeds k.comes.origin_is)

pub made_home :
    (x : NewDir) (h : Held) (s : Scene) → Sound s → MayMake x h s → home x.made ≡ x.home.0
made_home x h s sound k = ap home k.made_is ∙ origin_home x.target.origin x.home.0 s sound k.there k.kept.fresh.deeds k.comes.origin_is

made_free :
    (x : NewDir) (h : Held) (s : Scene) → Sound s → MayMake x h s
    → s.history.tree.dirs x.made ≡ false
made_free x h s sound k = false_from_ne_true (s.history.tree.dirs x.made) (λ e. made_unused x h s sound k (ByDir e))

-- no brick has a copy of it
pub no_copy :
    (x : NewDir) (h : Held) (s : Scene) → Sound s → MayMake x h s → (b : ℕ) → b < s.disk.count
    → dir_at s.disk b x.made ≡ None
no_copy x h s sound k b l = by (dir_at s.disk b x.made) refl
  where
    by : (o : Option DirRecord) → dir_at s.disk b x.made ≡ o → o ≡ None
    by None e = refl
    by (Some r) e = absurd (made_unused x h s sound k (ByCopy b l (ap is_some e)))

pub none_planned :
    (x : NewDir) (h : Held) (s : Scene) → Sound s → MayMake x h s
    → AllPlanned s.disk s.history.weights x.made
none_planned x h s sound k b r l e = absurd (let z : None ≡ Some r = sym (no_copy x h s sound k b l) ∙ e in cc)

wants_dir :
    (x : NewDir) (h : Held) (s : Scene) → Sound s → IsFree x h s
    → Wants s (AddDir (above_of x.target) x.target.location.name x.made)
wants_dir x h s sound k = record {
  next = subst (λ (d : Option Deeds). IsNext s.history.tree s.mine.call d (AddDir (above_of x.target) x.target.location.name x.made)) (sym k.may.kept.fresh.deeds) ([], (Made x.made, free_says x h s sound k));
  fits = (
    kept_directory x.target.location h s sound k.may.kept,
    (let e = depth_is (above_of x.target) k.may.above s k.may.deep in let l = k.may.shallow in omega arith),
    k.swept.stands.node,
    made_free x h s sound k.may,
  );
  own = made_own x h s sound k.may;
}

-- ---- its ranges

-- the value of a planned range is read as that range
plan_read :
    (s : Scene) (g : Gfid) (plan : List (Option Range)) (b : ℕ) → b < length s.history.weights
    → plan ≡ planned s.history.weights g → IsPlannedAt s b g (value_of (slice_index_or plan b None))
plan_read s g plan b l e =
    let size = planned_length s.history.weights g in
    ap (λ (p : List (Option Range)). range_of_value (value_of (slice_index_or p b None))) e
    ∙ (value_read (slice_index_or (planned s.history.weights g) b None)
    ∙ All-get_or (λ (r : Option Range). option_and_then decoded (value_of r) ≡ r) (planned s.history.weights g) b None (omega arith) (planned_read s.history.weights g))

pub gives_planned :
    (x : NewDir) (b : ℕ) (s : Scene) → Sound s → b < s.disk.count
    → x.plan ≡ planned s.history.weights x.made
    → IsPlannedAt s b x.made (value_of (slice_index_or x.plan b None))
gives_planned x b s sound l e = plan_read s x.made x.plan b (let c = sound.kept.counted in omega arith) e

-- ---- what it may ask

-- at its home it takes the name from nothing to the directory
pub home_step : (b : ℕ) (g : Gfid) (step : TreeStep) → b ≡ home g → at_home b g step ≡ Some step
home_step b g step e = ap (λ (v : Bool). if v then Some step else None) ((exact_nat b (home g)).1 e)

makes_dir :
    (x : NewDir) (h : Held) (s : Scene) → Sound s → IsFree x h s
    → Changes s x.home.0
    (MakeDir (above_of x.target) x.target.location.name x.made x.depth
    (value_of (slice_index_or x.plan x.home.0 None)))
makes_dir x h s sound k =
    let at : x.home.0 ≡ home x.made = sym (made_home x h s sound k.may) in
    let e = depth_is (above_of x.target) k.may.above s k.may.deep in
    record {
      holds = inl k.swept.holds;
      from = Bare;
      to = Folder x.made (set_on no_brick x.home.0 true);
      stands = k.swept.stands;
      takes = inl (refl, at, refl);
      wants = subst (λ (o : Option TreeStep). WantsAll s o) (sym (home_step x.home.0 x.made (AddDir (above_of x.target) x.target.location.name x.made) at)) (wants_dir x h s sound k);
      also = (
        inl (at, k.swept.holds, (let l = k.may.shallow in omega arith), k.may.depth_is ∙ ap (λ (i : ℕ). i + 1) (sym e), made_unused x h s sound k.may),
        (inr (gives_planned x x.home.0 s sound k.may.there k.may.plan_is), inr (none_planned x h s sound k.may), range_is_value _),
      );
    }

-- elsewhere it adds a copy of it
makes_copy :
    (x : NewDir) (h : Held) (b : BrickNo) (line : ℕ) (s : Scene) → Sound s → Copies x h b line s
    → Changes s b.0
    (MakeDir (above_of x.target) x.target.location.name x.made x.depth
    (value_of (slice_index_or x.plan b.0 None)))
makes_copy x h b line s sound k =
    let m = k.made in
    let (on, stands) = m.stands in
    record {
      holds = inl (holds_location x.target.location h.scope s m.scope m.order m.holds);
      from = Folder x.made on;
      to = Folder x.made (set_on on b.0 true);
      stands = stands;
      takes = inr (on, refl, refl);
      wants = subst (λ (o : Option TreeStep). WantsAll s o) (sym (no_home_step b.0 x.made (AddDir (above_of x.target) x.target.location.name x.made) (λ e. k.away (e ∙ m.home_is)))) tt;
      also = (
        inr ((sound.kept.tree.child (entry_of x.target) x.made stands.node).dir, m.descent),
        (inr (gives_planned x b.0 s sound k.there m.plan_is), inr m.ranges, range_is_value _),
      );
    }

pub mkdir_permitted : (m : Mkdir) → MaySend (mkdir_stage m)
mkdir_permitted (Securing x m) s sound h = part_permitted (section_stage m) (after_section x.learned x.target.location.bricks) (λ s. Secures x m s) (section_permitted m) s sound h
mkdir_permitted (Measuring x h) s sound k = record {
  there = let l = home_there x.target.location h.scope s k.knows.held.scope k.knows.held.held.fresh.scope in let e = bricks_are h.scope s sound k.knows.held.held.fresh.scope in omega arith;
  may = (tt, tt);
}
mkdir_permitted (Restarting x layout m) s sound h = part_permitted (restart_stage m) (3 * x.location.bricks + 7) (λ s. Renews x m s) (restart_permitted m) s sound h
mkdir_permitted (Sweeping m x h) s sound k = part_permitted (sweep_stage (held_locks h) None m) (unlocks h + x.target.location.bricks + 1) (λ s. Clears m x h s) (sweep_permitted (held_locks h) None m) s sound k
mkdir_permitted (Making x h) s sound k = record { there = k.knows.may.there; may = (tt, makes_dir x h s sound k.knows) }
mkdir_permitted (Copying x h b line) s sound k = record { there = k.knows.there; may = (tt, makes_copy x h b line s sound k.knows) }
mkdir_permitted (Ending c learned) s sound h = closing_permitted c s sound h

-- ---- what others leave

pub comes_stable : (x : Target) (s t : Scene) → ComesOf x s → Rely s t → ComesOf x t
comes_stable x s t h o = record { call = o.mine.call ∙ h.call; origin_is = comes_from_stable x.origin s t h.origin_is o }

secures_stable : (x : Round) (m : Section) (s t : Scene) → Secures x m s → Rely s t → Secures x m t
secures_stable x m s t h o = record {
  comes = comes_stable x.target s t h.comes o;
  scope = h.scope;
  memory = room_stable x.room s t h.memory o;
  whole = sees_anew_stable x.learned (above_of x.target) m s t h.whole o;
}

pub measures_stable :
    (x : Round) (k : Held) (s t : Scene) → Measures x k s → Rely s t → Measures x k t
measures_stable x k s t h o = record {
  comes = comes_stable x.target s t h.comes o;
  held = held_at_stable x.target.location k s t h.held o;
  memory = room_stable x.room s t h.memory o;
  whole = ends_anew_stable x.learned (above_of x.target) (Holding k) s t h.whole o;
}

renews_stable : (x : Target) (m : Restart) (s t : Scene) → Renews x m s → Rely s t → Renews x m t
renews_stable x m s t h o = record { comes = comes_stable x s t h.comes o; scope = h.scope }

deep_stable : (g : Gfid) (deep : ℕ) (s t : Scene) → IsDeep g deep s → Rely s t → IsDeep g deep t
deep_stable g deep s t h o = record { descent = h.descent; is = o.made g h.descent h.is; depth = h.depth }

plan_stable :
    (x : NewDir) (s t : Scene) → x.plan ≡ planned s.history.weights x.made → Rely s t
    → x.plan ≡ planned t.history.weights x.made
plan_stable x s t e o = e ∙ ap (λ (ws : List ℕ). planned ws x.made) (sym o.weights)

may_make_stable : (x : NewDir) (h : Held) (s t : Scene) → MayMake x h s → Rely s t → MayMake x h t
may_make_stable x h s t k o = record {
  comes = comes_stable x.target s t k.comes o;
  there = let w = k.there in let c = o.count in omega arith;
  made_is = k.made_is;
  plan_is = plan_stable x s t k.plan_is o;
  above = k.above;
  depth_is = k.depth_is;
  shallow = k.shallow;
  deep = deep_stable (above_of x.target) k.above s t k.deep o;
  kept = kept_stable x.target.location h s t k.kept o;
  holder = k.holder;
}

clears_stable :
    (m : Sweep) (x : NewDir) (h : Held) (s t : Scene) → Clears m x h s → Rely s t → Clears m x h t
clears_stable m x h s t k o = record { name = k.name; may = may_make_stable x h s t k.may o }

-- a directory that is held keeps its copies
parents_stable :
    (x : Target) (h : Held) (s t : Scene) → HoldsDir s (above_of x) → HasParents x h s → Rely s t
    → HasParents x h t
parents_stable x h s t holds k o b l mark = by (dir_at s.disk b (above_of x)) refl (k b (let c = o.count in omega arith) mark)
  where
    by : (r : Option DirRecord) → dir_at s.disk b (above_of x) ≡ r → is_some r ≡ true → is_some (dir_at t.disk b (above_of x)) ≡ true
    by None e q = absurd (let z : false ≡ true = q in cc)
    by (Some r) e q = let (copy, there, stays) = o.dirs (above_of x) b r holds e in ap is_some there

-- its name stays its, and bricks may get copies
folder_grows :
    (g : Gfid) (on : ℕ → Bool) (e : Entry) (k : NameShape) (t : Scene) → Grows (Folder g on) k
    → NameStands t e k → (more : ℕ → Bool) × NameStands t e (Folder g more)
folder_grows g on e k t (more, is, grows) stands = (more, subst (λ (h : NameShape). NameStands t e h) is stands)

pub made_stable :
    (x : NewDir) (h : Held) (line : ℕ) (s t : Scene) → IsMade x h line s → Rely s t
    → IsMade x h line t
made_stable x h line s t k o =
    let name = holds_location x.target.location h.scope s k.scope k.order k.holds in
    let (on, stands) = k.stands in
    let (shape, grows, stays) = o.names (entry_of x.target) (Folder x.made on) (inl name) stands in
    record {
      order = k.order;
      scope = k.scope;
      bricks = scope_stable h.scope s t k.bricks o;
      holds = held_stable h.scope (length h.scope.keys) s t k.holds o;
      parents = parents_stable x.target h s t name.dir k.parents o;
      plan_is = plan_stable x s t k.plan_is o;
      home_is = k.home_is;
      stands = folder_grows x.made on (entry_of x.target) shape t grows stays;
      descent = o.made x.made _ k.descent;
      ranges = o.planned x.made k.ranges;
      earned = may_answer_stable (made_at x.made line) s t k.earned o;
    }

pub copies_stable :
    (x : NewDir) (h : Held) (b : BrickNo) (line : ℕ) (s t : Scene) → Copies x h b line s → Rely s t
    → Copies x h b line t
copies_stable x h b line s t k o = record {
  made = made_stable x h line s t k.made o;
  there = let w = k.there in let c = o.count in omega arith;
  away = k.away;
  copied = k.copied;
}

pub mkdir_stable : (m : Mkdir) → IsStable (mkdir_stage m)
mkdir_stable (Securing x m) s t h o = part_stable (section_stage m) (after_section x.learned x.target.location.bricks) (λ s. Secures x m s) (section_stable m) (secures_stable x m) s t h o
mkdir_stable (Measuring x h) s t k o = measures_stable x h s t k o
mkdir_stable (Restarting x layout m) s t h o = part_stable (restart_stage m) (3 * x.location.bricks + 7) (λ s. Renews x m s) (restart_stable m) (renews_stable x m) s t h o
mkdir_stable (Sweeping m x h) s t k o = part_stable (sweep_stage (held_locks h) None m) (unlocks h + x.target.location.bricks + 1) (λ s. Clears m x h s) (sweep_stable (held_locks h) None m) (clears_stable m x h) s t k o
mkdir_stable (Making x h) s t k o = record { may = may_make_stable x h s t k.may o; swept = swept_stable x.target.location None s t k.swept o }
mkdir_stable (Copying x h b line) s t k o = copies_stable x h b line s t k o
mkdir_stable (Ending c learned) s t h o = closing_stable c s t h o
