-- The laws of the healing of one directory as a machine.
use Rattle.std.proofs.Common.{◌≡◌, ◌<◌, ◌≤◌, ℕ, Bool, true, false, List, [], refl, sym, ◌∙◌, ap, subst, arith, inl, inr}
use Rattle.std.specs.Prelude.{is_some, length, nat_eq, if◌then◌else◌, slice_index_or, Option, Some, None}
use Rattle.std.specs.Option.{option_and_then}
use Rattle.std.proofs.lemmas.Bool.{false_from_ne_true}
use Rattle.std.proofs.lemmas.Bool.Decides.{nat_tests}
use Rattle.std.proofs.lemmas.List.Elements.{All-get_or}
use Rattle.dht_types.proofs.PutLaws.{exact_nat}
use Rattle.dht_types.specs.Gfid.{Entry, anchor, home}
use Rattle.dht_types.specs.Tree.{Tree, Descent, IsDir, IsFile}
use Rattle.dht_types.specs.declared.calls.TreeStep.{TreeStep}
use Rattle.dht_types.specs.declared.calls.TreeStep.TheVariants.{AddDir}
use Rattle.dht_types.specs.declared.identifiers.BrickNo.{BrickNo}
use Rattle.dht_types.specs.declared.identifiers.Gfid.{Gfid}
use Rattle.dht_types.specs.declared.locks.Key.TheVariants.{Dir as DirKey}
use Rattle.dht_types.specs.declared.names.EntryKey.{EntryKey}
use Rattle.dht_brick.specs.Contents.{entry_at}
use Rattle.dht_brick.specs.declared.requests.NameRequest.TheVariants.{MakeDir}
use Rattle.dht_xattr.proofs.PlanLaws.{planned_read}
use Rattle.dht_xattr.specs.Plan.{planned, value_of}
use Rattle.dht_xattr.specs.Range.{decoded}
use Rattle.dht_xattr.specs.declared.range.Range.{Range}
use Rattle.dht_section.proofs.LayoutLaws.{range_is_value}
use Rattle.dht_section.proofs.ShownLaws.{full_of, node_there}
use Rattle.dht_section.specs.Acts.{set_on}
use Rattle.dht_section.specs.Claims.{Claim}
use Rattle.dht_section.specs.Disk.{dir_at, range_at, range_of, range_of_value}
use Rattle.dht_section.specs.Healed.{IsWhole}
use Rattle.dht_section.specs.MayAnswerLaws.{may_answer_stable}
use Rattle.dht_section.specs.Moves.{at_home}
use Rattle.dht_section.specs.Permits.{Changes, IsPlannedAt}
use Rattle.dht_section.specs.Rely.{Rely}
use Rattle.dht_section.specs.Scene.{Scene, Sound, HoldsAlone, HoldsDir, NameStands, WantsAll, fault_finish}
use Rattle.dht_section.specs.Section.{HasCopy, StandsSeen, node_seen}
use Rattle.dht_section.specs.SectionLaws.{copy_stable, lock_stable}
use Rattle.dht_section.specs.Shapes.{Folder}
use Rattle.dht_section.specs.Stages.{MaySend, IsStable}
use Rattle.dht_section.specs.Whole.{StoresTheSame}
use Rattle.dht_section.specs.WholeLaws.{if_alone_stable, same_dir, whole_stays}
use Rattle.dht_section.specs.declared.looks.What.{What}
use Rattle.dht_section.specs.declared.looks.What.TheVariants.{Absent, Dir, File}
use Rattle.dht_heal.specs.HealOne.{CopyingKnows, HadNone, HasNoParent, IsCopied, IsTarget, SawHome, Shown, Told, WasShown, WasThere, anchor_brick, heal_one_stage}
use Rattle.dht_heal.specs.declared.heal_one.HealOne.{HealOne}
use Rattle.dht_heal.specs.declared.heal_one.HealOne.TheVariants.{Locking, Surveying, Copying, Laying, Unlocking}
use Rattle.dht_heal.specs.declared.heal_one.HealedOne.{HealedOne}
use Rattle.dht_heal.specs.declared.heal_one.HealedOne.TheVariants.{Healed, Gone, Parent, Stopped}
use Rattle.dht_heal.specs.declared.heal_one.HomeCopy.{HomeCopy}
use Rattle.dht_heal.specs.declared.heal_one.Survey.{Survey}
use Rattle.dht_heal.specs.declared.heal_one.Target.{Target}

-- ---- the bricks

pub target_bricks : (x : Target) (s : Scene) → Sound s → IsTarget x s → s.disk.count ≡ x.bricks
target_bricks x s sound h = sound.kept.counted ∙ h.count

anchor_by : (x : Target) (n : ℕ) → 0 < n → n ≡ x.bricks → anchor_brick x ≡ anchor x.directory n
anchor_by x n some e = grind (arith, nat_tests, ap (anchor x.directory) e)

pub anchor_is :
    (x : Target) (s : Scene) → Sound s → IsTarget x s
    → anchor_brick x ≡ anchor x.directory s.disk.count
anchor_is x s sound h = anchor_by x s.disk.count sound.kept.some_brick (target_bricks x s sound h)

anchor_there : (x : Target) (s : Scene) → Sound s → IsTarget x s → anchor_brick x < s.disk.count
anchor_there x s sound h =
    let e = anchor_is x s sound h in
    let some = sound.kept.some_brick in
    omega arith

-- ---- the directory

-- its home has a copy, so it is one of the tree
pub home_copied :
    (g : Gfid) (mark : Bool) (read : Option Range) (s : Scene) → WasShown g mark read (home g) s
    → IsCopied g (home g) s
home_copied g true read s h = h.there
home_copied g false read s h = absurd (h.away refl)

pub in_tree :
    (g : Gfid) (s : Scene) → Sound s → IsCopied g (home g) s → s.history.tree.dirs g ≡ true
in_tree g s sound h = (sound.kept.things.dirs g).homed ∙ h

-- a directory of the tree stands at the name at which it was made
pub stands_at :
    (s : Scene) (g : Gfid) (x : Descent) (e : Entry) → Sound s → s.history.tree.dirs g ≡ true
    → s.history.tree.descents g ≡ Some x → x.place ≡ Some e
    → s.history.tree.names e ≡ Some (IsDir g)
stands_at s g x e sound there is place =
    let p = sound.kept.tree.placed g there in
    let same : Some x ≡ Some p.descent = sym is ∙ p.is in
    let one : x ≡ p.descent = cc in
    p.stands e (ap (λ (y : Descent). y.place) (sym one) ∙ place)

-- so on each brick the name is its, or nothing's
folder_by :
    (s : Scene) (e : Entry) (g : Gfid) (full : What) → StandsSeen e full s
    → node_seen full ≡ Some (IsDir g) → (on : ℕ → Bool) × NameStands s e (Folder g on)
folder_by s e g Absent k q = absurd (let z : None ≡ Some (IsDir g) = q in cc)
folder_by s e g (Dir f) k q =
    let z : Some (IsDir f) ≡ Some (IsDir g) = q in
    let one : f ≡ g = cc in
    (k.0, subst (λ (x : Gfid). NameStands s e (Folder x k.0)) one k.1)
folder_by s e g (File f b links) k q = absurd (let z : Some (IsFile f) ≡ Some (IsDir g) = q in cc)

pub as_folder :
    (s : Scene) (e : Entry) (g : Gfid) → Sound s → s.history.tree.names e ≡ Some (IsDir g)
    → (on : ℕ → Bool) × NameStands s e (Folder g on)
as_folder s e g sound h =
    let full = full_of s e sound in
    folder_by s e g full.0 full.1 (sym (node_there s e full.0 full.1) ∙ h)

-- where a copy is to be made, the directory stands at its name; and the brick is not the home
pub copying_there :
    (x : Target) (b : BrickNo) (v : Survey) (k : EntryKey) (s : Scene) → CopyingKnows x b v k s
    → IsCopied x.directory (home x.directory) s
copying_there x b v k s h = home_copied x.directory _ _ s (h.shown.bricks (home x.directory) h.target.home)

pub copying_missing :
    (x : Target) (b : BrickNo) (v : Survey) (k : EntryKey) (s : Scene) → CopyingKnows x b v k s
    → HadNone x.directory (slice_index_or v.layout b.0 None) b.0 s
copying_missing x b v k s h = subst (λ (m : Bool). WasShown x.directory m (slice_index_or v.layout b.0 None) b.0 s) h.missing (h.shown.bricks b.0 h.within)

pub copying_descent :
    (x : Target) (b : BrickNo) (v : Survey) (k : EntryKey) (s : Scene) → CopyingKnows x b v k s
    → s.history.tree.descents x.directory
    ≡ Some (record { depth = v.home.depth; place = Some (entry_at k) })
copying_descent x b v k s h =
    (h.shown.home h.target.home).descent
    ∙ ap (λ (o : Option EntryKey). Some (record { depth = v.home.depth; place = Rattle.std.specs.Option.option_map entry_at o })) h.key

pub copying_folder :
    (x : Target) (b : BrickNo) (v : Survey) (k : EntryKey) (s : Scene) → Sound s
    → CopyingKnows x b v k s → (on : ℕ → Bool) × NameStands s (entry_at k) (Folder x.directory on)
copying_folder x b v k s sound h =
    as_folder s (entry_at k) x.directory sound
    (stands_at s x.directory (record { depth = v.home.depth; place = Some (entry_at k) }) (entry_at k) sound (in_tree x.directory s sound (copying_there x b v k s h)) (copying_descent x b v k s h) refl)

-- ---- what it may ask

-- a brick that is not the home is asked for no step of the tree
pub no_home_step : (b : ℕ) (g : Gfid) (step : TreeStep) → (b ≡ home g → ⊥) → at_home b g step ≡ None
no_home_step b g step away = ap (λ (v : Bool). if v then Some step else None) (false_from_ne_true (nat_eq b (home g)) (λ e. away ((exact_nat b (home g)).0 e)))

pub no_range : range_of_value None ≡ None
unfolding range_of_value
no_range = refl

makes_copy :
    (x : Target) (b : BrickNo) (v : Survey) (k : EntryKey) (s : Scene) → Sound s
    → CopyingKnows x b v k s → Changes s b.0 (MakeDir k.dir k.name x.directory v.home.depth None)
makes_copy x b v k s sound h =
    let folder = copying_folder x b v k s sound h in
    record {
      holds = inr h.holds;
      from = Folder x.directory folder.0;
      to = Folder x.directory (set_on folder.0 b.0 true);
      stands = folder.1;
      takes = inr (folder.0, refl, refl);
      wants = subst (λ (o : Option TreeStep). WantsAll s o) (sym (no_home_step b.0 x.directory (AddDir k.dir k.name x.directory) (copying_missing x b v k s h).away)) tt;
      also = (inr (in_tree x.directory s sound (copying_there x b v k s h), copying_descent x b v k s h), (inl no_range, inl h.holds, tt));
    }

pub value_read :
    (r : Option Range) → range_of_value (value_of r) ≡ option_and_then decoded (value_of r)
unfolding range_of_value
value_read None = refl
value_read (Some r) = refl

-- the planned value is read as the planned range
pub lays_plan :
    (x : Target) (b : BrickNo) (s : Scene) → Sound s → IsTarget x s → b.0 < x.bricks
    → IsPlannedAt s b.0 x.directory (value_of (slice_index_or x.plan b.0 None))
lays_plan x b s sound h within =
    let plan = planned s.history.weights x.directory in
    let size = Rattle.dht_xattr.proofs.PlanLaws.planned_length s.history.weights x.directory in
    let count = h.count in
    ap (λ (p : List (Option Range)). range_of_value (value_of (slice_index_or p b.0 None))) h.plan
    ∙ (value_read (slice_index_or plan b.0 None)
    ∙ All-get_or (λ (r : Option Range). option_and_then decoded (value_of r) ≡ r) plan b.0 None (omega arith) (planned_read s.history.weights x.directory))

pub heal_one_permitted : (m : HealOne) → MaySend (heal_one_stage m)
heal_one_permitted (Locking x) s sound h = record {
  there = anchor_there x s sound h.knows;
  may = (anchor_is x s sound h.knows, record { before = []; first = ap (λ (c : Claim). c.locks) h.claims; above = tt });
}
heal_one_permitted (Surveying x b v) s sound h = record {
  there = let e = target_bricks x s sound h.knows.target in let l = h.knows.within in omega arith;
  may = (tt, tt);
}
heal_one_permitted (Copying x b v k) s sound h = record {
  there = let e = target_bricks x s sound h.knows.target in let l = h.knows.within in omega arith;
  may = (tt, makes_copy x b v k s sound h.knows);
}
heal_one_permitted (Laying x b at) s sound h = record {
  there = let e = target_bricks x s sound h.knows.target in let l = h.knows.within in omega arith;
  may = (tt, (h.knows.holds, lays_plan x b s sound h.knows.target h.knows.within, range_is_value _));
}
heal_one_permitted (Unlocking x d) s sound h = record {
  there = anchor_there x s sound h.knows.target;
  may = anchor_is x s sound h.knows.target;
}

-- ---- what others leave

pub target_stable : (x : Target) (s t : Scene) → IsTarget x s → Rely s t → IsTarget x t
target_stable x s t h o = record {
  count = ap length o.weights ∙ h.count;
  home = h.home;
  plan = h.plan ∙ ap (λ (ws : List ℕ). planned ws x.directory) (sym o.weights);
  deeds = o.mine.deeds ∙ h.deeds;
}

holds_stable : (g : Gfid) (s t : Scene) → HoldsAlone s g → Rely s t → HoldsAlone t g
holds_stable g s t h o = lock_stable s t g (DirKey g) o ∙ h

pub holds_dir : (g : Gfid) (s : Scene) → HoldsAlone s g → HoldsDir s g
holds_dir g s h = ap is_some h

-- a copy stays, with its range
pub has_copy_stable :
    (g : Gfid) (read : Option Range) (b : ℕ) (s t : Scene) → HoldsAlone s g → HasCopy g read b s
    → Rely s t → HasCopy g read b t
has_copy_stable g read b s t holds h o = copy_stable g read b s t (dir_at s.disk b g) refl (holds_dir g s holds) h o

copied_stable :
    (g : Gfid) (b : ℕ) (s t : Scene) → HoldsAlone s g → IsCopied g b s → Rely s t → IsCopied g b t
copied_stable g b s t holds h o = (has_copy_stable g (range_at s.disk g b) b s t holds (record { there = h; same = refl }) o).there

shown_stable :
    (g : Gfid) (mark : Bool) (read : Option Range) (b : ℕ) (s t : Scene) → HoldsAlone s g
    → WasShown g mark read b s → Rely s t → WasShown g mark read b t
shown_stable g true read b s t holds h o = has_copy_stable g read b s t holds h o
shown_stable g false read b s t holds h o = record {
  below = h.below;
  away = h.away;
  nothing = h.nothing;
  still = if_alone_stable (λ u. range_at u.disk g b ≡ None) (λ u w same e. ap range_of (same_dir u w b g same) ∙ e) s t h.still o;
}

saw_stable : (g : Gfid) (h : HomeCopy) (s t : Scene) → SawHome g h s → Rely s t → SawHome g h t
saw_stable g h s t k o = record {
  after = let since = o.mine.since in let after = k.after in omega arith;
  before = let later = o.later in let before = k.before in omega arith;
  there = ap (λ (p : Tree). p.dirs g) (o.past h.at k.before) ∙ k.there;
  descent = o.made g _ k.descent;
}

all_shown_stable :
    (g : Gfid) (v : Survey) (limit : ℕ) (s t : Scene) → HoldsAlone s g → Shown g v limit s
    → Rely s t → Shown g v limit t
all_shown_stable g v limit s t holds h o = record {
  room = h.room;
  whole = h.whole;
  bricks = λ b l. shown_stable g _ _ b s t holds (h.bricks b l) o;
  home = λ l. saw_stable g v.home s t (h.home l) o;
}

was_stable : (g : Gfid) (at : ℕ) (s t : Scene) → WasThere g at s → Rely s t → WasThere g at t
was_stable g at s t k o = record {
  after = let since = o.mine.since in let after = k.after in omega arith;
  before = let later = o.later in let before = k.before in omega arith;
  there = ap (λ (p : Tree). p.dirs g) (o.past at k.before) ∙ k.there;
}

-- what hangs on the tree and the bricks' stores alone
pub dirs_stay :
    (g : Gfid) (v : Bool) (s t : Scene) → StoresTheSame s t → s.history.tree.dirs g ≡ v
    → t.history.tree.dirs g ≡ v
dirs_stay g v s t same e = ap (λ (p : Tree). p.dirs g) same.tree ∙ e

pub no_parent_stays :
    (g : Gfid) (b : ℕ) (s t : Scene) → StoresTheSame s t → HasNoParent g b s → HasNoParent g b t
no_parent_stays g b s t same h = (h.0, h.1, ap (λ (p : Tree). p.descents g) same.tree ∙ h.2, h.3, same_dir s t b h.1.0 same ∙ h.4)

pub told_stable : (g : Gfid) (d : HealedOne) (s t : Scene) → Told g d s → Rely s t → Told g d t
told_stable g (Healed at) s t h o = record {
  was = was_stable g at s t h.was o;
  whole = if_alone_stable (λ u. IsWhole u.disk g) (λ u w. whole_stays u w g) s t h.whole o;
  still = if_alone_stable (λ u. u.history.tree.dirs g ≡ true) (dirs_stay g true) s t h.still o;
}
told_stable g (Gone at) s t h o = record {
  after = let since = o.mine.since in let after = h.after in omega arith;
  before = let later = o.later in let before = h.before in omega arith;
  gone = ap (λ (p : Tree). p.dirs g) (o.past at h.before) ∙ h.gone;
  still = if_alone_stable (λ u. u.history.tree.dirs g ≡ false) (dirs_stay g false) s t h.still o;
}
told_stable g (Parent b) s t h o = record {
  there = let there = h.there in let count = o.count in omega arith;
  lacks = if_alone_stable (HasNoParent g b.0) (no_parent_stays g b.0) s t h.lacks o;
}
told_stable g (Stopped e) s t h o = (h.0, may_answer_stable (fault_finish e) s t h.1 o)

pub heal_one_stable : (m : HealOne) → IsStable (heal_one_stage m)
heal_one_stable (Locking x) s t h o = target_stable x s t h o
heal_one_stable (Surveying x b v) s t h o = record {
  target = target_stable x s t h.target o;
  holds = holds_stable x.directory s t h.holds o;
  within = h.within;
  shown = all_shown_stable x.directory v b.0 s t h.holds h.shown o;
}
heal_one_stable (Copying x b v k) s t h o = record {
  target = target_stable x s t h.target o;
  holds = holds_stable x.directory s t h.holds o;
  within = h.within;
  shown = all_shown_stable x.directory v x.bricks s t h.holds h.shown o;
  missing = h.missing;
  key = h.key;
  copied = λ i l. copied_stable x.directory i s t h.holds (h.copied i l) o;
}
heal_one_stable (Laying x b at) s t h o = record {
  target = target_stable x s t h.target o;
  holds = holds_stable x.directory s t h.holds o;
  within = h.within;
  copied = λ i l. copied_stable x.directory i s t h.holds (h.copied i l) o;
  laid = λ i l. has_copy_stable x.directory _ i s t h.holds (h.laid i l) o;
  was = was_stable x.directory at s t h.was o;
}
heal_one_stable (Unlocking x d) s t h o = record {
  target = target_stable x s t h.target o;
  told = told_stable x.directory d s t h.told o;
}
