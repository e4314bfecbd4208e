-- The steps of a heal.
use Rattle.std.proofs.Common.{◌≡◌, ◌≢◌, ◌<◌, ◌≤◌, ◌+◌, ◌*◌, ◌-◌, ℕ, Bool, true, false, refl, sym, ◌∙◌, ap, subst, arith, inl, inr, ◌⊎◌, List, []}
use Rattle.std.specs.Prelude.{zero, suc, nat_lt, if◌then◌else◌, length, Option, Some, None, is_some}
use Rattle.std.proofs.lemmas.Bool.Decides.{nat_tests}
use Rattle.dht_types.specs.Gfid.{Entry, home, root}
use Rattle.dht_types.specs.History.{IsAlone, IsUndisturbed}
use Rattle.dht_types.specs.Tree.{Descent, Tree, deepest, depth_in, depth_of, of_root}
use Rattle.dht_types.specs.declared.errors.Errno.{Errno}
use Rattle.dht_types.specs.declared.identifiers.BrickNo.{BrickNo}
use Rattle.dht_types.specs.declared.identifiers.Gfid.{Gfid}
use Rattle.dht_types.specs.declared.names.EntryKey.{EntryKey}
use Rattle.dht_types.specs.declared.stored.DirRecord.{DirRecord}
use Rattle.dht_brick.specs.declared.replies.Given.TheVariants as given
use Rattle.dht_brick.specs.declared.replies.Reply.{Reply}
use Rattle.dht_section.proofs.ClaimLaws.{claims_more}
use Rattle.dht_section.proofs.PartSteps.{part_goes_on, part_served}
use Rattle.dht_section.proofs.PlaceLaws.{set_length, set_other, set_there}
use Rattle.dht_section.proofs.SceneLaws.{alone_before, deeds_quiet, dir_moved, fault_earned, tree_quiet}
use Rattle.dht_section.proofs.SectionParts.{fault_errors}
use Rattle.dht_section.specs.Claims.{no_claim}
use Rattle.dht_section.specs.Disk.{dir_at}
use Rattle.dht_section.specs.Ended.{gone_at}
use Rattle.dht_section.specs.Faults.{brick_error, part_fault}
use Rattle.dht_section.specs.Healed.{IsWhole}
use Rattle.dht_section.specs.HealedLaws.{whole_kept}
use Rattle.dht_section.specs.Looks.{is_nodir, with_at}
use Rattle.dht_section.specs.Moves.{Guarantee}
use Rattle.dht_section.specs.Replies.{fault_of}
use Rattle.dht_section.specs.Scene.{IfAlone, Scene, Sound, fault_finish}
use Rattle.dht_section.specs.Stages.{EndsIn, GoesOn, MatchTurn, MayClaimNext, Moves, Served, Stage}
use Rattle.dht_section.specs.declared.machine.Ask.{Ask}
use Rattle.dht_section.specs.declared.machine.Finish.{Finish}
use Rattle.dht_section.specs.declared.machine.Turn.{Turn}
use Rattle.dht_section.specs.declared.machine.Turn.TheVariants.{Go, Done}
use Rattle.dht_heal.proofs.CopyLaws.{copy_made_at, parent_there}
use Rattle.dht_heal.proofs.HealBeginning.{claims_on, on_claims, on_knows, on_variant, target_at}
use Rattle.dht_heal.proofs.HealOneParts.{Goes, knows_gone, one_after, one_deeds, one_goes_on, one_keeps, one_tree}
use Rattle.dht_heal.proofs.HealOneRequests.{info_none, info_some}
use Rattle.dht_heal.proofs.HealOneSteps.{heal_one_moves}
use Rattle.dht_heal.proofs.PathLaws.{apart, gone_below, path_healed}
use Rattle.dht_heal.specs.Heal.{GoneBelow, HealTold, Heals, IsDone, IsGone, IsPath, IsRoom, IsStep, IsStopped, WasDir, asked, climb_by, climb_told, climb_unless, climbed, end_of, gone_line, heal_after, heal_at, heal_ending, heal_from, heal_on, heal_one_gone, heal_stage, heal_went, healed_at, healed_below, longest, next_climb, one_cost, path_at, place_dir}
use Rattle.dht_heal.specs.HealLaws.{path_home}
use Rattle.dht_heal.specs.HealOne.{HasNoParent, IsMended, LacksParent, WasMissing, heal_one_after, heal_one_stage, healed_one, target_of}
use Rattle.dht_heal.specs.declared.heal.Climb.{Climb}
use Rattle.dht_heal.specs.declared.heal.Heal.{Heal}
use Rattle.dht_heal.specs.declared.heal.Heal.TheVariants.{Climbing, Healing}
use Rattle.dht_heal.specs.declared.heal.HealEnd.{HealEnd}
use Rattle.dht_heal.specs.declared.heal_one.HealOne.{HealOne}
use Rattle.dht_heal.specs.declared.room.HealRoom.{HealRoom}
use Rattle.dht_heal.specs.declared.heal_one.HealedOne.{HealedOne}
use Rattle.dht_heal.specs.declared.heal_one.HealedOne.TheVariants.{Healed, Gone, Parent, Stopped}
use Rattle.dht_heal.specs.declared.heal_one.Target.{Target}

-- a heal went on so, or ended
abbrev Went : Stage → Reply → Scene → Turn Heal HealEnd → Type 0
Went x r t turn = MatchTurn turn (λ n. GoesOn x (heal_stage n) r t) (λ d. EndsIn x (heal_ending d) t)

-- ---- what is kept by a request that does no step

pub room_moved :
    (room : HealRoom) (s t : Scene) (a : Ask) (r : Reply) → IsRoom room s → Guarantee s a r t
    → IsRoom room t
room_moved room s t a r h m = record { path = h.path; weights = h.weights ∙ sym m.weights }

step_moved :
    (path : List Gfid) (i : ℕ) (s t : Scene) (a : Ask) (r : Reply) → t.history.tree ≡ s.history.tree
    → IsStep path i s → Guarantee s a r t → IsStep path i t
step_moved path i s t a r e h m = record {
  name = h.name;
  above = h.above;
  stands = ap (λ (p : Tree). p.descents (path_at path i)) e ∙ h.stands;
  parent = ap (λ (p : Tree). p.descents (path_at path (suc i))) e ∙ h.parent;
  shallow = h.shallow;
  home = let w = h.home in let c = m.disk.count in omega arith;
}

path_moved :
    (c : Climb) (s t : Scene) (a : Ask) (r : Reply) → t.history.tree ≡ s.history.tree
    → t.mine.deeds ≡ None → IsPath c s → Guarantee s a r t → IsPath c t
path_moved c s t a r e deeds h m = record {
  room = room_moved c.room s t a r h.room m;
  count = ap length m.weights ∙ h.count;
  home = h.home;
  deeds = deeds;
  steps = λ i l. step_moved c.room.path i s t a r e (h.steps i l) m;
}

-- the tree at this line is the tree now
pub was_now :
    (d : Gfid) (v : Bool) (at : ℕ) (t : Scene) → Sound t → at ≡ t.history.size
    → t.history.tree.dirs d ≡ v → WasDir d v at t
was_now d v at t sound line e =
    let begun = sound.begun in
    record {
      after = omega arith;
      before = omega arith;
      was = ap (λ (i : ℕ). (t.history.past i).dirs d) line ∙ (ap (λ (p : Tree). p.dirs d) sound.kept.point ∙ e);
    }

few_weights : (t : Scene) → Sound t → length t.history.weights ≤ 32
few_weights t sound = let few = sound.kept.few in let counted = sound.kept.counted in omega arith

-- ---- the climb

-- where it is known that the directory has this record at its home
abbrev climb_ask_target : Climb → Target
climb_ask_target c = record { directory = asked c; bricks = c.bricks; plan = [] }

abbrev Asks : Climb → Stage
Asks c = heal_stage (Climbing c)

climb_path : (c : Climb) (r : Reply) (at : ℕ) (s t : Scene) → Served (Asks c) r at s t → IsPath c t
climb_path c r at s t v =
    let h = v.is_at.knows.path in
    path_moved c s t _ r (tree_quiet s t _ r tt v.moved) (deeds_quiet s t _ r tt v.moved ∙ h.deeds) h v.moved

climb_claims :
    (c : Climb) (r : Reply) (at : ℕ) (s t : Scene) → Served (Asks c) r at s t
    → MayClaimNext t no_claim no_claim
climb_claims c r at s t v = claims_more (Asks c) r at s t _ v (λ b key q. q)

climb_ends :
    (c : Climb) (f : Finish) (r : Reply) (at : ℕ) (s t : Scene)
    → HealTold (path_at c.room.path 0) f t → Served (Asks c) r at s t
    → EndsIn (Asks c) (heal_ending (end_of c.room f)) t
climb_ends c f r at s t told v =
    let path = climb_path c r at s t v in
    record { claims = climb_claims c r at s t v; earned = record { told = told; room = path.room; deeds = path.deeds } }

brick_errors : (r : Reply) (e : Errno) → fault_of r ≡ Some e → brick_error e ≡ Some e
brick_errors r e z = sym (ap part_fault z) ∙ (fault_errors r ∙ z)

-- the home has no copy of the directory
gone_told :
    (c : Climb) (r : Reply) (at : ℕ) (s t : Scene) → dir_at s.disk (home (asked c)) (asked c) ≡ None
    → Served (Asks c) r at s t → HealTold (path_at c.room.path 0) (gone_at at) t
gone_told c r at s t none v =
    let now : dir_at t.disk (home (asked c)) (asked c) ≡ None = dir_moved s t _ r v.moved tt (asked c) (home (asked c)) ∙ none in
    let there : t.history.tree.dirs (asked c) ≡ false = (v.after.kept.things.dirs (asked c)).homed ∙ ap is_some now in
    let first = gone_below c c.place t v.after.kept.tree (climb_path c r at s t v) (omega arith) there in
    IsGone at refl (was_now (path_at c.room.path 0) false at t v.after v.line first) (λ alone. first)

-- the path with one directory more
same_step :
    (path next : List Gfid) (i : ℕ) (s : Scene) → path_at next i ≡ path_at path i
    → path_at next (suc i) ≡ path_at path (suc i) → IsStep path i s → IsStep next i s
same_step path next i s e k h = record {
  name = h.name;
  above = h.above;
  stands = ap s.history.tree.descents e ∙ (h.stands ∙ ap (λ (g : Gfid). let x : Descent = record { depth = h.above.depth + 1; place = Some (g, h.name) } in Some x) (sym k));
  parent = ap s.history.tree.descents k ∙ h.parent;
  shallow = h.shallow;
  home = subst (λ (g : Gfid). home g < s.disk.count) (sym k) h.home;
}

-- how deep a directory of the path is
place_depth :
    (c : Climb) (i : ℕ) (t : Scene) → Sound t → IsPath c t → i ≤ c.place
    → t.history.tree.dirs (path_at c.room.path i) ≡ true
    → depth_of t.history.tree (path_at c.room.path i) + i ≤ deepest
place_depth c zero t sound h l e =
    let placed = sound.kept.tree.placed (path_at c.room.path 0) e in
    let depth = ap depth_in placed.is in
    let shallow = placed.shallow in
    omega arith
place_depth c (suc i) t sound h l e =
    let step = h.steps i (omega arith) in
    let depth = ap depth_in step.parent in
    let shallow = step.shallow in
    omega arith

-- the home showed that its directory stands in another
record Stands (c : Climb) (k : EntryKey) (t : Scene) : Type 0 where
  above : Descent
  made : t.history.tree.descents (asked c) ≡ Some (record { depth = above.depth + 1; place = Some (k.dir, k.name) })
  parent : t.history.tree.descents k.dir ≡ Some above
  shallow : above.depth + suc c.place ≤ deepest
  home : home k.dir < t.disk.count

stands :
    (c : Climb) (y : DirRecord) (k : EntryKey) (t : Scene) → Sound t → IsPath c t
    → dir_at t.disk (home (asked c)) (asked c) ≡ Some y → y.place ≡ Some k → Stands c k t
stands c y k t sound h there e =
    let g = asked c in
    let l = path_home c t c.place sound h (omega arith) in
    let p = parent_there t g (home g) y k sound l there e in
    let made = copy_made_at t g (home g) y k sound l there e in
    let placed = sound.kept.tree.placed k.dir p.1 in
    let depth : depth_of t.history.tree k.dir ≡ placed.descent.depth = ap depth_in placed.is in
    let own : depth_of t.history.tree g ≡ depth_of t.history.tree k.dir + 1 = ap depth_in made in
    let in_tree : t.history.tree.dirs g ≡ true = (sound.kept.things.dirs g).homed ∙ ap is_some there in
    let bound = place_depth c c.place t sound h (omega arith) in_tree in
    record {
      above = placed.descent;
      made = made ∙ ap (λ (n : ℕ). let x : Descent = record { depth = n + 1; place = Some (k.dir, k.name) } in Some x) depth;
      parent = placed.is;
      shallow = omega arith;
      home = p.0;
    }

new_step :
    (c : Climb) (k : EntryKey) (t : Scene) → length c.room.path ≡ longest → Stands c k t
    → IsStep (with_at c.room.path (c.place + 1) k.dir) c.place t
new_step c k t size h =
    let shallow = h.shallow in
    let within : c.place + 1 < length c.room.path = omega arith in
    let next = with_at c.room.path (c.place + 1) k.dir in
    let here : path_at next c.place ≡ asked c = set_other c.room.path (c.place + 1) c.place k.dir root within (λ q. absurd (omega arith)) in
    let more : suc c.place ≡ c.place + 1 = omega arith in
    let there : path_at next (suc c.place) ≡ k.dir = ap (path_at next) more ∙ set_there c.room.path (c.place + 1) k.dir root within in
    record {
      name = k.name;
      above = h.above;
      stands = ap t.history.tree.descents here ∙ (h.made ∙ ap (λ (g : Gfid). let x : Descent = record { depth = h.above.depth + 1; place = Some (g, k.name) } in Some x) (sym there));
      parent = ap t.history.tree.descents there ∙ h.parent;
      shallow = shallow;
      home = subst (λ (g : Gfid). home g < t.disk.count) (sym there) h.home;
    }

old_step :
    (c : Climb) (p : Gfid) (i : ℕ) (t : Scene) → c.place + 1 < length c.room.path → i < c.place
    → IsStep c.room.path i t → IsStep (with_at c.room.path (c.place + 1) p) i t
old_step c p i t within l h = same_step c.room.path (with_at c.room.path (c.place + 1) p) i t
    (set_other c.room.path (c.place + 1) i p root within (λ q. absurd (omega arith)))
    (set_other c.room.path (c.place + 1) (suc i) p root within (λ q. absurd (omega arith))) h

next_path :
    (c : Climb) (k : EntryKey) (t : Scene) → IsPath c t → Stands c k t
    → IsPath (next_climb c k.dir) t
next_path c k t h new =
    let size = h.room.path in
    let shallow = new.shallow in
    let within : c.place + 1 < length c.room.path = omega arith in
    let first : path_at (with_at c.room.path (c.place + 1) k.dir) 0 ≡ path_at c.room.path 0 = set_other c.room.path (c.place + 1) 0 k.dir root within (λ q. absurd (omega arith)) in
    record {
      room = record { path = set_length c.room.path (c.place + 1) k.dir within ∙ size; weights = h.room.weights };
      count = h.count;
      home = subst (λ (g : Gfid). home g < c.bricks) (sym first) h.home;
      deeds = h.deeds;
      steps = λ i l. by i l within (nat_lt i c.place) refl;
    }
  where
    by : (i : ℕ) → i < c.place + 1 → c.place + 1 < length c.room.path → (v : Bool) → nat_lt i c.place ≡ v → IsStep (with_at c.room.path (c.place + 1) k.dir) i t
    by i l within true e = let k2 : i < c.place = grind (arith, nat_tests, e) in old_step c k.dir i t within k2 (h.steps i k2)
    by i l within false e =
        let same : c.place ≡ i = grind (arith, nat_tests, e, l) in
        subst (λ (j : ℕ). IsStep (with_at c.room.path (c.place + 1) k.dir) j t) same (new_step c k t h.room.path new)

parent_step :
    (c : Climb) (y : DirRecord) (k : EntryKey) (r : Reply) (at : ℕ) (s t : Scene)
    → dir_at s.disk (home (asked c)) (asked c) ≡ Some y → y.place ≡ Some k
    → Served (Asks c) r at s t → GoesOn (Asks c) (heal_stage (climbed c k.dir)) r t
parent_step c y k r at s t there e v = by (nat_lt c.place longest) refl
  where
    path : IsPath c t
    path = climb_path c r at s t v

    new : Stands c k t
    new = stands c y k t v.after path (dir_moved s t _ r v.moved tt (asked c) (home (asked c)) ∙ there) e

    at_home : home (asked (next_climb c k.dir)) < c.bricks
    at_home =
        let size = path.room.path in
        let shallow = new.shallow in
        let within : c.place + 1 < length c.room.path = omega arith in
        let counted = v.after.kept.counted in
        let count = path.count in
        let l = new.home in
        subst (λ (g : Gfid). home g < c.bricks) (sym (set_there c.room.path (c.place + 1) k.dir root within)) (omega arith)

    by : (w : Bool) → nat_lt c.place longest ≡ w → GoesOn (Asks c) (heal_stage (if w then heal_on (next_climb c k.dir) else Climbing c)) r t
    by true q =
        let shallow = new.shallow in
        let left = on_variant (next_climb c k.dir) (omega arith) in
        record {
          claims = on_claims (next_climb c k.dir) t no_claim (climb_claims c r at s t v);
          knows = on_knows (next_climb c k.dir) t (few_weights t v.after) (next_path c k t path new) at_home;
          nearer = λ u. (λ w. omega arith, omega arith);
        }
    by false q = let shallow = new.shallow in absurd (grind (arith, nat_tests, q, shallow))

shown_step :
    (c : Climb) (y : DirRecord) (o : Option EntryKey) (r : Reply) (at : ℕ) (s t : Scene)
    → dir_at s.disk (home (asked c)) (asked c) ≡ Some y → y.place ≡ o → Served (Asks c) r at s t
    → GoesOn (Asks c) (heal_stage (climb_by (place_dir o) c)) r t
shown_step c y None r at s t there e v = absurd (v.is_at.knows.below ((v.before.kept.things.dirs (asked c)).rooted (home (asked c)) y (path_home c s c.place v.before v.is_at.knows.path (omega arith)) there e))
shown_step c y (Some k) r at s t there e v = parent_step c y k r at s t there e v

info_step :
    (c : Climb) (o : Option DirRecord) (r : Reply) (at : ℕ) (s t : Scene)
    → dir_at s.disk (home (asked c)) (asked c) ≡ o → fault_of r ≡ None → Served (Asks c) r at s t
    → Went (Asks c) r t (climb_told (is_nodir r) c r at)
info_step c None r at s t e z v =
    let k = info_none (climb_ask_target c) (record { 0 = home (asked c) }) s t r e z v.moved in
    subst (λ (q : Reply). Went (Asks c) r t (climb_told (is_nodir q) c q at)) (sym k) (climb_ends c (gone_at at) r at s t (gone_told c r at s t e v) v)
info_step c (Some y) r at s t e z v =
    let k = info_some (climb_ask_target c) (record { 0 = home (asked c) }) y s t r e z v.moved in
    subst (λ (q : Reply). Went (Asks c) r t (climb_told (is_nodir q) c q at)) (sym k) (shown_step c y y.place r at s t e refl v)

climb_moves :
    (c : Climb) (o : Option Errno) (r : Reply) (at : ℕ) (s t : Scene) → fault_of r ≡ o
    → Served (Asks c) r at s t → Went (Asks c) r t (climb_unless o c r at)
climb_moves c None r at s t z v = info_step c (dir_at s.disk (home (asked c)) (asked c)) r at s t refl z v
climb_moves c (Some e) r at s t z v = climb_ends c (fault_finish e) r at s t (IsStopped e refl (brick_errors r e z) (fault_earned s t _ r e z v.moved)) v

-- ---- the healing of one directory of the path

abbrev Beside : HealOne → Climb → Stage
Beside m c = heal_stage (Healing m c)

one_served :
    (m : HealOne) (c : Climb) (r : Reply) (at : ℕ) (s t : Scene) → Served (Beside m c) r at s t
    → Served (heal_one_stage m) r at s t
one_served m c r at s t v = part_served (heal_one_stage m) (c.place * one_cost c.bricks) (λ s. Heals m c s) r at s t v

gone_moved :
    (gone : Option ℕ) (d : Gfid) (s t : Scene) (a : Ask) (r : Reply) → GoneBelow gone d s
    → Guarantee s a r t → GoneBelow gone d t
gone_moved None d s t a r h m = tt
gone_moved (Some at) d s t a r h m = record {
  after = let b = h.after in let e = m.mine.since in omega arith;
  before = let b = h.before in let l = m.later in omega arith;
  was = ap (λ (p : Tree). p.dirs d) (m.past at h.before) ∙ h.was;
}

-- what is known beside it stays, as it changes no copy of another directory
heals_moved :
    (m : HealOne) (c : Climb) (r : Reply) (at : ℕ) (s t : Scene) → t.mine.deeds ≡ None
    → Served (Beside m c) r at s t → Heals m c t
heals_moved m c r at s t deeds v =
    let h = v.is_at.knows.1 in
    let all : Climb = record c { place = h.top } in
    record {
      top = h.top;
      within = h.within;
      ends = h.ends;
      path = path_moved all s t _ r (one_tree m r s t v.is_at.knows.0 v.moved) deeds h.path v.moved;
      whole = λ alone j l k. whole_kept s.disk t.disk (path_at c.room.path j) v.moved.disk.count
          (λ b. one_keeps m (path_at c.room.path j) r s t (λ q. apart all c.place j s h.path l k (q ∙ h.heals)) v.moved b)
          (h.whole (alone_before s t _ r v.moved alone) j l k);
      heals = h.heals;
      gone = gone_moved (heal_one_gone m) (path_at c.room.path 0) s t _ r h.gone v.moved;
    }

-- the tree has not the first directory where it has not the one that is healed
none_below :
    (m : HealOne) (c : Climb) (t : Scene) → Sound t → Heals m c t
    → t.history.tree.dirs (target_of m).directory ≡ false
    → t.history.tree.dirs (path_at c.room.path 0) ≡ false
none_below m c t sound h e = gone_below (record c { place = h.top }) c.place t sound.kept.tree h.path h.within (ap t.history.tree.dirs (sym h.heals) ∙ e)

found_gone :
    (m n : HealOne) (c : Climb) (at : ℕ) (t : Scene) → Sound t → at ≡ t.history.size → Heals m c t
    → Goes at (target_of m) n → (heal_one_stage n).knows t
    → GoneBelow (heal_one_gone n) (path_at c.room.path 0) t
found_gone m n c at t sound line h goes knows = elim goes.gone [
  | inl e ↦ subst (λ (o : Option ℕ). GoneBelow o (path_at c.room.path 0) t) (sym e) tt
  | inr e ↦ subst (λ (o : Option ℕ). GoneBelow o (path_at c.room.path 0) t) (sym e) (was_now (path_at c.room.path 0) false at t sound line (first e))
]
  where
    first : heal_one_gone n ≡ Some at → t.history.tree.dirs (path_at c.room.path 0) ≡ false
    first e =
        let missing = knows_gone n at t e knows in
        let now : t.history.tree.dirs (target_of n).directory ≡ false = ap (λ (p : Tree). p.dirs (target_of n).directory) (sym (ap t.history.past line ∙ sound.kept.point)) ∙ missing.gone in
        none_below m c t sound h (ap (λ (x : Target). t.history.tree.dirs x.directory) (sym goes.target) ∙ now)

goes_step :
    (m n : HealOne) (c : Climb) (r : Reply) (at : ℕ) (s t : Scene)
    → GoesOn (heal_one_stage m) (heal_one_stage n) r t → Goes at (target_of m) n
    → Served (Beside m c) r at s t → GoesOn (Beside m c) (Beside n c) r t
goes_step m n c r at s t on goes v =
    let h = heals_moved m c r at s t (one_deeds n t on.knows) v in
    part_goes_on (heal_one_stage m) (heal_one_stage n) (c.place * one_cost c.bricks) (λ s. Heals m c s) (λ s. Heals n c s) r t on (record {
      top = h.top;
      within = h.within;
      ends = h.ends;
      path = h.path;
      whole = h.whole;
      heals = ap (λ (x : Target). x.directory) goes.target ∙ h.heals;
      gone = found_gone m n c at t v.after v.line h goes on.knows;
    })

-- ---- its end

ends_so :
    (m : HealOne) (c : Climb) (f : Finish) (d : HealedOne) (t : Scene)
    → EndsIn (heal_one_stage m) (healed_one (target_of m).directory d) t → Heals m c t
    → HealTold (path_at c.room.path 0) f t → EndsIn (Beside m c) (heal_ending (end_of c.room f)) t
ends_so m c f d t ends h told = record { claims = ends.claims; earned = record { told = told; room = h.path.room; deeds = h.path.deeds } }

-- one that is healed is whole, beside those above it
whole_from :
    (m : HealOne) (c : Climb) (t : Scene) (h : Heals m c t)
    → IfAlone (λ u. IsWhole u.disk (target_of m).directory) t
    → IfAlone (λ u. (j : ℕ) → c.place ≤ j → j ≤ h.top → IsWhole u.disk (path_at c.room.path j)) t
whole_from m c t h one alone j l k = by (nat_lt c.place j) refl
  where
    by : (v : Bool) → nat_lt c.place j ≡ v → IsWhole t.disk (path_at c.room.path j)
    by true e = h.whole alone j (grind (arith, nat_tests, e)) k
    by false e =
        let same : c.place ≡ j = grind (arith, nat_tests, e, l) in
        subst (λ (g : Gfid). IsWhole t.disk g) (h.heals ∙ ap (path_at c.room.path) same) (one alone)

-- the first directory is healed
done_told :
    (m : HealOne) (c : Climb) (line : ℕ) (t : Scene) → c.place ≡ 0 → Sound t → Heals m c t
    → IsMended (target_of m).directory line t → HealTold (path_at c.room.path 0) (healed_at line) t
done_told m c line t e sound h mended =
    let first : (target_of m).directory ≡ path_at c.room.path 0 = h.heals ∙ ap (path_at c.room.path) e in
    IsDone line refl (record {
      after = mended.was.after;
      before = mended.was.before;
      was = ap (t.history.past line).dirs (sym first) ∙ mended.was.there;
    }) (λ alone. path_healed (record c { place = h.top }) t sound.kept.tree h.path h.ends (λ j k. whole_from m c t h mended.whole alone j (omega arith) k))

-- fewer requests are left with a directory less
fewer :
    (bricks place left : ℕ) → 0 < left
    → (bricks + bricks + bricks + 2) + place * one_cost bricks < left + suc place * one_cost bricks
fewer bricks place left l = omega arith

below_step :
    (m : HealOne) (c : Climb) (line place : ℕ) (r : Reply) (t : Scene) → c.place ≡ suc place
    → Sound t → EndsIn (heal_one_stage m) (healed_one (target_of m).directory (Healed line)) t
    → Heals m c t → GoesOn (Beside m c) (heal_stage (heal_at (record c { place = place }))) r t
below_step m c line place r t e sound ends h =
    let all : Climb = record c { place = h.top } in
    let next : Climb = record c { place = place } in
    let within = h.within in
    let at_home = path_home all t place sound h.path (omega arith) in
    let counted = sound.kept.counted in
    let count = h.path.count in
    let less = fewer c.bricks place (heal_one_stage m).variant (one_goes_on m) in
    let same : c.place * one_cost c.bricks ≡ suc place * one_cost c.bricks = ap (λ (n : ℕ). n * one_cost c.bricks) e in
    record {
      claims = claims_on t (heal_one_stage m).claims _ ends.claims;
      knows = (
        target_at next t (few_weights t sound) h.path.room count (omega arith) h.path.deeds,
        record {
          top = h.top;
          within = omega arith;
          ends = h.ends;
          path = h.path;
          whole = λ alone j l k. whole_from m c t h ends.earned.1.whole alone j (omega arith) k;
          heals = refl;
          gone = tt;
        },
      );
      nearer = λ u. (λ w. lesser (heal_one_stage m).variant (c.place * one_cost c.bricks) (suc place * one_cost c.bricks) _ same less, lesser_or (heal_one_stage m).variant (c.place * one_cost c.bricks) (suc place * one_cost c.bricks) _ same less);
    }
  where
    lesser : (x a b n : ℕ) → a ≡ b → n < x + b → n < x + a
    lesser x a b n e l = omega arith

    lesser_or : (x a b n : ℕ) → a ≡ b → n < x + b → n ≤ x + a
    lesser_or x a b n e l = omega arith

-- one of its parents was not there: if the call was alone that cannot be, as they are whole
no_parent_by :
    (m : HealOne) (c : Climb) (b : ℕ) (t : Scene) → Sound t → Heals m c t → b < t.disk.count
    → IsAlone t.history t.mine → HasNoParent (target_of m).directory b t → ⊥
no_parent_by m c b t sound h there alone (x, e, made, place, none) = by (nat_lt c.place h.top) refl
  where
    at_place : t.history.tree.descents (path_at c.room.path c.place) ≡ Some x
    at_place = ap t.history.tree.descents (sym h.heals) ∙ made

    one : (y z : Descent) → Some y ≡ Some z → y ≡ z
    one y z q = let k : Some y ≡ Some z = q in cc

    dir_in : Option Entry → Gfid
    dir_in None = root
    dir_in (Some q) = q.0

    by : (v : Bool) → nat_lt c.place h.top ≡ v → ⊥
    by true q =
        let below : c.place < h.top = grind (arith, nat_tests, q) in
        let step = h.path.steps c.place below in
        let same : Some (path_at c.room.path (suc c.place), step.name) ≡ Some e = ap (λ (y : Descent). y.place) (one _ x (sym step.stands ∙ at_place)) ∙ place in
        let parent : path_at c.room.path (suc c.place) ≡ e.0 = ap dir_in same in
        let whole = (h.whole alone (suc c.place) (omega arith) (omega arith)).copies b there in
        (let z : true ≡ false = sym whole ∙ (ap (λ (g : Gfid). is_some (dir_at t.disk b g)) parent ∙ ap is_some none) in cc)
    by false q =
        let within = h.within in
        let top : c.place ≡ h.top = grind (arith, nat_tests, q, within) in
        let rooted : path_at c.room.path c.place ≡ root = ap (path_at c.room.path) top ∙ h.ends in
        let same = ap (λ (y : Descent). y.place) (one of_root x (sym sound.kept.tree.rooted.1 ∙ (ap t.history.tree.descents (sym rooted) ∙ at_place))) ∙ place in
        (let z : None ≡ Some e = same in cc)

no_parent :
    (m : HealOne) (c : Climb) (b : BrickNo) (t : Scene) → Sound t → Heals m c t
    → LacksParent (target_of m).directory b t → IsAlone t.history t.mine → ⊥
no_parent m c b t sound h lacks alone = no_parent_by m c b.0 t sound h lacks.there alone (lacks.lacks alone)

anew_step :
    (m : HealOne) (c : Climb) (b : BrickNo) (r : Reply) (t : Scene) → Sound t
    → EndsIn (heal_one_stage m) (healed_one (target_of m).directory (Parent b)) t → Heals m c t
    → GoesOn (Beside m c) (heal_stage (heal_on (record c { place = 0 }))) r t
anew_step m c b r t sound ends h =
    let first : Climb = record c { place = 0 } in
    let path : IsPath first t = record { room = h.path.room; count = h.path.count; home = h.path.home; deeds = h.path.deeds; steps = λ i l. absurd (omega arith) } in
    let never : IsUndisturbed t.history t.mine → ⊥ = λ u. no_parent m c b t sound h ends.earned.1 (record { first = u.first; last = u.last }) in
    record {
      claims = on_claims first t (heal_one_stage m).claims ends.claims;
      knows = on_knows first t (few_weights t sound) path h.path.home;
      nearer = λ u. absurd (never u);
    }

healed_step :
    (m : HealOne) (c : Climb) (line place : ℕ) (r : Reply) (t : Scene) → c.place ≡ place → Sound t
    → EndsIn (heal_one_stage m) (healed_one (target_of m).directory (Healed line)) t → Heals m c t
    → Went (Beside m c) r t (healed_below place c line)
healed_step m c line zero r t e sound ends h = ends_so m c (healed_at line) (Healed line) t ends h (done_told m c line t e sound h ends.earned.1)
healed_step m c line (suc place) r t e sound ends h = below_step m c line place r t e sound ends h

gone_end :
    (m : HealOne) (c : Climb) (line : ℕ) (t : Scene) → Sound t → heal_one_gone m ≡ Some line
    → Heals m c t → WasMissing (target_of m).directory line t
    → HealTold (path_at c.room.path 0) (gone_at line) t
gone_end m c line t sound e h missing = IsGone line refl
    (subst (λ (o : Option ℕ). GoneBelow o (path_at c.room.path 0) t) e h.gone)
    (λ alone. none_below m c t sound h (missing.still alone))

end_step :
    (m : HealOne) (c : Climb) (d : HealedOne) (r : Reply) (t : Scene)
    → gone_line d ≡ heal_one_gone m → Sound t
    → EndsIn (heal_one_stage m) (healed_one (target_of m).directory d) t → Heals m c t
    → Went (Beside m c) r t (heal_from c d)
end_step m c (Healed line) r t e sound ends h = healed_step m c line c.place r t refl sound ends h
end_step m c (Gone line) r t e sound ends h = ends_so m c (gone_at line) (Gone line) t ends h (gone_end m c line t sound (sym e) h ends.earned.1)
end_step m c (Parent b) r t e sound ends h = anew_step m c b r t sound ends h
end_step m c (Stopped x) r t e sound ends h = ends_so m c (fault_finish x) (Stopped x) t ends h (IsStopped x refl ends.earned.1.0 ends.earned.1.1)

one_step :
    (m : HealOne) (c : Climb) (turn : Turn HealOne HealedOne) (r : Reply) (at : ℕ) (s t : Scene)
    → MatchTurn turn (λ n. GoesOn (heal_one_stage m) (heal_one_stage n) r t)
    (λ d. EndsIn (heal_one_stage m) (healed_one (target_of m).directory d) t)
    → MatchTurn turn (λ n. Goes at (target_of m) n) (λ d. gone_line d ≡ heal_one_gone m)
    → Served (Beside m c) r at s t → Went (Beside m c) r t (heal_went c turn)
one_step m c (Go n) r at s t went goes v = goes_step m n c r at s t went goes v
one_step m c (Done d) r at s t went goes v = end_step m c d r t goes v.after went (heals_moved m c r at s t went.earned.0 v)

-- ---- all of it

pub heal_moves :
    (m : Heal) (r : Reply) (at : ℕ) → Moves heal_stage heal_ending m r at (heal_after m r at)
heal_moves (Climbing c) r at s t v = climb_moves c (fault_of r) r at s t refl v
heal_moves (Healing m c) r at s t v = one_step m c (heal_one_after m r at) r at s t (heal_one_moves m r at s t (one_served m c r at s t v)) (one_after m r at) v
