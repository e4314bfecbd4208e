-- The steps of a mkdir by which the directory is made: at its home, and then on other bricks.
use Rattle.std.proofs.Common.{◌≡◌, ◌≢◌, ◌⊎◌, ◌<◌, ◌≤◌, ◌+◌, ◌-◌, ℕ, Bool, true, false, refl, sym, ◌∙◌, ap, subst, arith, inl, inr, List}
use Rattle.std.specs.Prelude.{Option, Some, None, is_none, is_some, length, nat_lt, slice_index_or, ◌&&◌}
use Rattle.std.proofs.lemmas.Bool.Decides.{nat_tests}
use Rattle.dht_types.proofs.PutLaws.{exact_entry, exact_gfid, put_same}
use Rattle.dht_types.specs.Gfid.{Entry, same_gfid}
use Rattle.dht_types.specs.History.{Deeds, Tells, deeds_after, is_carried}
use Rattle.dht_types.specs.Put.{same_entry}
use Rattle.dht_types.specs.Tree.{IsDir, Tree, applied, depth_in, depth_of, descent_at}
use Rattle.dht_types.specs.declared.calls.Answer.TheVariants.{Made as Answers}
use Rattle.dht_types.specs.declared.calls.TreeStep.{TreeStep}
use Rattle.dht_types.specs.declared.calls.TreeStep.TheVariants.{AddDir}
use Rattle.dht_types.specs.declared.errors.Errno.{Errno}
use Rattle.dht_types.specs.declared.identifiers.BrickNo.{BrickNo}
use Rattle.dht_types.specs.declared.identifiers.Gfid.{Gfid}
use Rattle.dht_types.specs.declared.stored.DirRecord.{DirRecord}
use Rattle.dht_types.specs.declared.stored.Main.{Main}
use Rattle.dht_types.specs.declared.stored.Main.TheVariants.{Dir, File, Linkto}
use Rattle.dht_types.specs.declared.stored.Slot.{Slot}
use Rattle.dht_xattr.specs.Plan.{planned, value_of}
use Rattle.dht_xattr.specs.declared.range.Range.{Range}
use Rattle.dht_brick.specs.Contents.{bare}
use Rattle.dht_brick.specs.Kinds.{reply_kind}
use Rattle.dht_brick.specs.Parts.{is_free, is_vacant}
use Rattle.dht_brick.specs.declared.replies.Reply.{Reply}
use Rattle.dht_brick.specs.declared.requests.NameRequest.TheVariants.{MakeDir}
use Rattle.dht_section.proofs.ClaimLaws.{claims_more}
use Rattle.dht_section.proofs.EarlyLaws.{nat_cases}
use Rattle.dht_section.proofs.KeptLaws.{kept_housed}
use Rattle.dht_section.proofs.SceneLaws.{carried_sound, carried_step, fault_earned, lock_moved, real_is}
use Rattle.dht_section.proofs.UnlockingSteps.{scope_moved}
use Rattle.dht_section.proofs.UnservedLaws.{unserved_is_rely}
use Rattle.dht_section.specs.Disk.{dir_at, range_of, slot_at}
use Rattle.dht_section.specs.Finish.{made_at}
use Rattle.dht_section.specs.MayAnswerLaws.{may_answer_moved}
use Rattle.dht_section.specs.Moves.{Guarantee, deeds_by, request_step, step_of, tree_by}
use Rattle.dht_section.specs.Permits.{IsPlannedAt}
use Rattle.dht_section.specs.Planned.{AllPlanned, bounds}
use Rattle.dht_section.specs.Replies.{fault_of}
use Rattle.dht_section.specs.Scene.{MayAnswer, Scene, Sound, fault_finish}
use Rattle.dht_section.specs.Section.{AllHeld, ReadAt, all_claimed}
use Rattle.dht_section.specs.SectionLaws.{bricks_are}
use Rattle.dht_section.specs.Stages.{GoesOn, MayClaimNext, Served, Stage}
use Rattle.dht_section.specs.Views.{core, visible}
use Rattle.dht_section.specs.Want.{Scoped, dir_of, key_at}
use Rattle.dht_section.specs.declared.section.Held.{Held}
use Rattle.dht_heal.proofs.HealOneRequests.{CopyMade, Made, NoParent, Occupied, SetsDir, copy_made, new_copy, stepless_deeds, stepless_tree}
use Rattle.dht_heal.specs.HealOne.{has_copy}
use Rattle.dht_heal.specs.HealOneLaws.{as_folder, no_home_step}
use Rattle.dht_dirops.proofs.CopySteps.{Finds, finds_copy}
use Rattle.dht_dirops.proofs.MeasureSteps.{closing_knows}
use Rattle.dht_dirops.specs.Mkdir.{HasParents, IsFree, IsMade, MayMake, above_of, closed, copied_by, copied_from, copies_of, copying, entry_of, made_by, mkdir_ask, mkdir_stage, next_copy, unless_fault, unlocks}
use Rattle.dht_dirops.specs.MkdirLaws.{depth_is, free_says, gives_planned, home_step, made_home, made_stable, none_planned}
use Rattle.dht_dirops.specs.declared.mkdir.Mkdir.TheVariants.{Copying, Making}
use Rattle.dht_dirops.specs.declared.mkdir.NewDir.{NewDir}

-- ---- the name

-- where nothing stands the name is free
bare_vacant : (m : Option Main) → visible m ≡ None → is_vacant m ≡ true
bare_vacant None e = refl
bare_vacant (Some (Dir g)) e = absurd (let z : Some (Dir g) ≡ None = e in cc)
bare_vacant (Some (File f over)) e = absurd (let z : Some (File f over) ≡ None = e in cc)
bare_vacant (Some (Linkto v)) e = refl

bare_free : (p : Slot) → core p ≡ bare → is_free p ≡ true
bare_free p e = ap (λ (v : Bool). v && is_none p.standby) (bare_vacant p.main (ap (λ (x : Slot). x.main) e)) ∙ ap (λ (x : Slot). is_none x.standby) e

-- no directory stands in itself
above_apart :
    (t : Scene) (e : Entry) (g : Gfid) → Sound t → t.history.tree.names e ≡ Some (IsDir g) → e.0 ≢ g
above_apart t e g sound node same =
    let deeper : depth_of t.history.tree g ≡ depth_of t.history.tree e.0 + 1 = ap depth_in (sound.kept.tree.child e g node).descent in
    let equal : depth_of t.history.tree e.0 ≡ depth_of t.history.tree g = ap (depth_of t.history.tree) same in
    omega arith

-- ---- what one brick's copy leaves

abbrev value_at : NewDir → ℕ → Option (List ℕ)
value_at x b = value_of (slice_index_or x.plan b None)

abbrev copy_at : NewDir → ℕ → DirRecord
copy_at x b = new_copy (above_of x.target) x.target.location.name x.depth (value_at x b)

-- a copy was made on this brick
abbrev Sets : NewDir → ℕ → Scene → Scene → Type 0
Sets x b s t = SetsDir s t b x.made (copy_at x b)

locks_moved :
    (x : NewDir) (h : Held) (b : BrickNo) (s t : Scene) (r : Reply)
    → Guarantee s (mkdir_ask x b) r t → AllHeld h.scope (length h.scope.keys) s
    → AllHeld h.scope (length h.scope.keys) t
locks_moved x h b s t r m holds j l = lock_moved s t (mkdir_ask x b) r m (dir_of (key_at h.scope j)) (key_at h.scope j) tt ∙ holds j l

parents_moved :
    (x : NewDir) (h : Held) (b : ℕ) (s t : Scene) → t.disk.count ≡ s.disk.count
    → above_of x.target ≢ x.made → Sets x b s t → HasParents x.target h s → HasParents x.target h t
parents_moved x h b s t count apart sets k i l mark = ap is_some (sets.others i (above_of x.target) apart) ∙ k i (omega arith) mark

-- its range is the planned one, and the others are as they were
ranges_moved :
    (x : NewDir) (b : ℕ) (s t : Scene) → t.disk.count ≡ s.disk.count
    → t.history.weights ≡ s.history.weights → Sets x b s t → IsPlannedAt s b x.made (value_at x b)
    → AllPlanned s.disk s.history.weights x.made → AllPlanned t.disk t.history.weights x.made
ranges_moved x b s t count weights sets gives k i y l e = elim (nat_cases i b) [
  | inl q ↦ inr (
      let there : Some (copy_at x b) ≡ Some y = sym sets.here ∙ (ap (λ (j : ℕ). dir_at t.disk j x.made) (sym q) ∙ e) in
      let same : copy_at x b ≡ y = cc in
      ap (λ (z : DirRecord). bounds (range_of (Some z))) (sym same)
      ∙ (ap bounds gives
      ∙ (ap (λ (ws : List ℕ). bounds (slice_index_or (planned ws x.made) b None)) (sym weights)
      ∙ ap (λ (j : ℕ). bounds (slice_index_or (planned t.history.weights x.made) j None)) (sym q))))
  | inr ne ↦ subst (λ (ws : List ℕ). (bounds (range_of (Some y)) ≡ None) ⊎ (bounds (range_of (Some y)) ≡ bounds (slice_index_or (planned ws x.made) i None))) (sym weights) (k i y (omega arith) (sym (sets.off i x.made ne) ∙ e))
]

-- ---- on to the next brick

module _ (x : NewDir) (h : Held) (line : ℕ) (r : Reply) (t : Scene) (k : IsMade x h line t) (sound : Sound t) (old : Stage) (claims : MayClaimNext t old.claims (all_claimed h.scope)) (from : ℕ) (left : unlocks h + (x.target.location.bricks - from) < old.variant) where
  copying_step : (o : Option BrickNo) → Finds (copies_of x.target h) x.home.0 from x.target.location.bricks o → GoesOn old (mkdir_stage (copying o x h line)) r t
  copying_step None found =
      let some = k.order.some in
      let enough = left in
      record {
        claims = claims;
        knows = record { order = k.order; scope = k.bricks; within = omega arith; earned = k.earned };
        nearer = λ u. (λ w. omega arith, omega arith);
      }
  copying_step (Some b) found =
      let bricks = bricks_are h.scope t sound k.bricks in
      let same = ap (λ (w : Scoped). w.bricks) k.scope in
      let above = found.above in
      let below = found.below in
      let enough = left in
      record {
        claims = claims;
        knows = record { made = k; there = omega arith; away = found.away; copied = found.copied };
        nearer = λ u. (λ w. omega arith, omega arith);
      }

  next_step : from ≤ x.target.location.bricks → GoesOn old (mkdir_stage (copied_from x h from line)) r t
  next_step l = copying_step (next_copy x h from) (finds_copy x h from l)

-- ---- at its home

module _ (x : NewDir) (h : Held) (r : Reply) (at : ℕ) (s t : Scene) (v : Served (mkdir_stage (Making x h)) r at s t) where
  free : IsFree x h s
  free = v.is_at.knows

  may : MayMake x h s
  may = v.is_at.knows.may

  may_claim : MayClaimNext t (all_claimed h.scope) (all_claimed h.scope)
  may_claim = claims_more _ r at s t _ v (λ b key i. i)

  make_stopped : (e : Errno) → fault_of r ≡ Some e → GoesOn (mkdir_stage (Making x h)) (mkdir_stage (closed x.target.location h (fault_finish e))) r t
  make_stopped e z = record {
    claims = may_claim;
    knows = closing_knows h (fault_finish e) s t _ r may.kept.order may.kept.fresh.scope (fault_earned s t _ r e z v.moved) v.moved;
    nearer = λ u. (λ w. omega arith, omega arith);
  }

  done : is_carried (reply_kind r) ≡ true → step_of x.home.0 (mkdir_ask x x.home).request v.moved.real ≡ Some (AddDir (above_of x.target) x.target.location.name x.made)
  done e =
      ap (step_of x.home.0 (mkdir_ask x x.home).request) (real_is s t _ r v.moved (carried_sound r e))
      ∙ (carried_step x.home.0 (MakeDir (above_of x.target) x.target.location.name x.made x.depth (value_at x x.home.0)) r e
      ∙ home_step x.home.0 x.made (AddDir (above_of x.target) x.target.location.name x.made) (sym (made_home x h s v.before may)))

  -- the tree has it
  tree_is : is_carried (reply_kind r) ≡ true → t.history.tree ≡ applied (AddDir (above_of x.target) x.target.location.name x.made) s.history.tree
  tree_is e = v.moved.tree ∙ ap (λ (o : Option TreeStep). tree_by o s.history.tree) (done e)

  node_is : is_carried (reply_kind r) ≡ true → t.history.tree.names (entry_of x.target) ≡ Some (IsDir x.made)
  node_is e = ap (λ (p : Tree). p.names (entry_of x.target)) (tree_is e) ∙ put_same same_entry exact_entry s.history.tree.names (entry_of x.target) (Some (IsDir x.made))

  depth_sent : depth_of s.history.tree (above_of x.target) + 1 ≡ x.depth
  depth_sent = ap (λ (i : ℕ). i + 1) (depth_is (above_of x.target) may.above s may.deep) ∙ sym may.depth_is

  descent_is : is_carried (reply_kind r) ≡ true → t.history.tree.descents x.made ≡ Some (record { depth = x.depth; place = Some (entry_of x.target) })
  descent_is e =
      ap (λ (p : Tree). p.descents x.made) (tree_is e)
      ∙ (put_same same_gfid exact_gfid s.history.tree.descents x.made (Some (descent_at s.history.tree (above_of x.target) x.target.location.name))
      ∙ ap (λ (i : ℕ). Some (record { depth = i; place = Some (entry_of x.target) })) depth_sent)

  -- and its line is the answer's
  made_earned : is_carried (reply_kind r) ≡ true → MayAnswer (made_at x.made at) t
  made_earned e =
      let m = v.moved in
      let begun = v.after.begun in
      let line = v.line in
      let deeds : t.mine.deeds ≡ Some (deeds_after s.history.tree t.history.size s.mine.call None (AddDir (above_of x.target) x.target.location.name x.made)) =
      m.mine.deeds_are
      ∙ (ap (λ (o : Option TreeStep). deeds_by s t.history.size o) (done e)
      ∙ ap (λ (d : Option Deeds). Some (deeds_after s.history.tree t.history.size s.mine.call d (AddDir (above_of x.target) x.target.location.name x.made))) may.kept.fresh.deeds) in
      record {
        point = at;
        printed = refl;
        after = omega arith;
        before = omega arith;
        tells = subst (λ (d : Option Deeds). Tells t.history t.mine.call d at (Answers x.made)) (sym deeds) (sym line, free_says x h s v.before free);
      }

  -- each brick that showed its copy of the directory above has one
  read_there : (mark : Bool) (range : Option Range) (b : ℕ) → ReadAt (above_of x.target) mark range b s → mark ≡ true → is_some (dir_at s.disk b (above_of x.target)) ≡ true
  read_there true range b k e = k.there
  read_there false range b k e = absurd (let z : false ≡ true = e in cc)

  parents : HasParents x.target h s
  parents b l mark =
      let whole = may.kept.whole in
      let bricks = bricks_are h.scope s v.before may.kept.fresh.scope in
      read_there _ _ b (may.kept.read b (omega arith)) mark

  is_made : is_carried (reply_kind r) ≡ true → Sets x x.home.0 s t → IsMade x h at t
  is_made e sets = record {
    order = may.kept.order;
    scope = may.kept.scope;
    bricks = scope_moved h.scope s t _ r may.kept.fresh.scope v.moved;
    holds = locks_moved x h x.home s t r v.moved may.kept.holds;
    parents = parents_moved x h x.home.0 s t v.moved.disk.count (above_apart t (entry_of x.target) x.made v.after (node_is e)) sets parents;
    plan_is = may.plan_is ∙ ap (λ (ws : List ℕ). planned ws x.made) (sym v.moved.weights);
    home_is = made_home x h s v.before may;
    stands = as_folder t (entry_of x.target) x.made v.after (node_is e);
    descent = descent_is e;
    ranges = ranges_moved x x.home.0 s t v.moved.disk.count v.moved.weights sets (gives_planned x x.home.0 s v.before may.there may.plan_is) (none_planned x h s v.before may);
    earned = made_earned e;
  }

  -- the home has the directory above, and neither the name nor the new directory: it is made
  home_made : fault_of r ≡ None → CopyMade x.home (above_of x.target) x.target.location.name x.made x.depth (value_at x x.home.0) s t r → GoesOn (mkdir_stage (Making x h)) (mkdir_stage (made_by (is_carried (reply_kind r)) x h at)) r t
  home_made z (NoParent q none) = absurd (let e : false ≡ true = ap is_some (sym none) ∙ kept_housed x.target.location h x.home.0 s may.kept may.holder in cc)
  home_made z (Occupied q taken) = absurd (let e : true ≡ false = sym (bare_free (slot_at s.disk x.home.0 (entry_of x.target)) (free.swept.stands.has x.home.0 may.there)) ∙ taken in cc)
  home_made z (Made q sets) =
      let e : is_carried (reply_kind r) ≡ true = ap (λ (y : Reply). is_carried (reply_kind y)) q in
      subst (λ (b : Bool). GoesOn (mkdir_stage (Making x h)) (mkdir_stage (made_by b x h at)) r t) (sym e)
      (next_step x h at r t (is_made e sets) v.after (mkdir_stage (Making x h)) may_claim 0 (omega arith) (omega arith))

  pub made_step : (o : Option Errno) → fault_of r ≡ o → GoesOn (mkdir_stage (Making x h)) (mkdir_stage (unless_fault o x.target.location h (made_by (is_carried (reply_kind r)) x h at))) r t
  made_step None z = home_made z (copy_made x.home (above_of x.target) x.target.location.name x.made x.depth (value_at x x.home.0) s t r z v.moved)
  made_step (Some e) z = make_stopped e z

-- ---- elsewhere

module _ (x : NewDir) (h : Held) (b : BrickNo) (line : ℕ) (r : Reply) (at : ℕ) (s t : Scene) (v : Served (mkdir_stage (Copying x h b line)) r at s t) where
  before : IsMade x h line s
  before = v.is_at.knows.made

  within : b.0 < x.target.location.bricks
  within =
      let there = v.is_at.knows.there in
      let bricks = bricks_are h.scope s v.before before.bricks in
      let same = ap (λ (w : Scoped). w.bricks) before.scope in
      omega arith

  claims_same : MayClaimNext t (all_claimed h.scope) (all_claimed h.scope)
  claims_same = claims_more _ r at s t _ v (λ b key i. i)

  copy_stopped : (e : Errno) → fault_of r ≡ Some e → GoesOn (mkdir_stage (Copying x h b line)) (mkdir_stage (closed x.target.location h (fault_finish e))) r t
  copy_stopped e z =
      let l = within in
      record {
        claims = claims_same;
        knows = closing_knows h (fault_finish e) s t _ r before.order before.bricks (fault_earned s t _ r e z v.moved) v.moved;
        nearer = λ u. (λ w. omega arith, omega arith);
      }

  -- a copy is no step of the tree
  no_step : request_step b.0 (mkdir_ask x b).request ≡ None
  no_step = no_home_step b.0 x.made (AddDir (above_of x.target) x.target.location.name x.made) (λ e. v.is_at.knows.away (e ∙ before.home_is))

  same_tree : t.history.tree ≡ s.history.tree
  same_tree = stepless_tree s t (mkdir_ask x b) r no_step v.moved

  node_stays : t.history.tree.names (entry_of x.target) ≡ Some (IsDir x.made)
  node_stays = ap (λ (p : Tree). p.names (entry_of x.target)) same_tree ∙ before.stands.1.node

  stays_made : Sets x b.0 s t → IsMade x h line t
  stays_made sets = record {
    order = before.order;
    scope = before.scope;
    bricks = scope_moved h.scope s t _ r before.bricks v.moved;
    holds = locks_moved x h b s t r v.moved before.holds;
    parents = parents_moved x h b.0 s t v.moved.disk.count (above_apart t (entry_of x.target) x.made v.after node_stays) sets before.parents;
    plan_is = before.plan_is ∙ ap (λ (ws : List ℕ). planned ws x.made) (sym v.moved.weights);
    home_is = before.home_is;
    stands = as_folder t (entry_of x.target) x.made v.after node_stays;
    descent = ap (λ (p : Tree). p.descents x.made) same_tree ∙ before.descent;
    ranges = ranges_moved x b.0 s t v.moved.disk.count v.moved.weights sets (gives_planned x b.0 s v.before v.is_at.knows.there before.plan_is) before.ranges;
    earned = may_answer_moved (made_at x.made line) s t (mkdir_ask x b) r (stepless_deeds s t (mkdir_ask x b) r no_step v.moved) v.moved before.earned;
  }

  onwards : has_copy r ≡ true → IsMade x h line t → GoesOn (mkdir_stage (Copying x h b line)) (mkdir_stage (copied_by (has_copy r && nat_lt b.0 x.target.location.bricks) x h b line)) r t
  onwards e k =
      let l = within in
      let below : nat_lt b.0 x.target.location.bricks ≡ true = grind (arith, nat_tests, l) in
      subst (λ (y : Bool). GoesOn (mkdir_stage (Copying x h b line)) (mkdir_stage (copied_by y x h b line)) r t) (sym (ap (λ (y : Bool). y && nat_lt b.0 x.target.location.bricks) e ∙ below))
      (next_step x h line r t k v.after (mkdir_stage (Copying x h b line)) claims_same (b.0 + 1) (omega arith) (omega arith))

  -- the brick has its copy: it made it, or it had it
  by_reply : fault_of r ≡ None → CopyMade b (above_of x.target) x.target.location.name x.made x.depth (value_at x b.0) s t r → GoesOn (mkdir_stage (Copying x h b line)) (mkdir_stage (copied_by (has_copy r && nat_lt b.0 x.target.location.bricks) x h b line)) r t
  by_reply z (NoParent q none) = absurd (let e : false ≡ true = ap is_some (sym none) ∙ before.parents b.0 v.is_at.knows.there v.is_at.knows.copied in cc)
  by_reply z (Occupied q taken) = onwards (ap has_copy q) (made_stable x h line s t before (unserved_is_rely s t _ r z (ap (λ (y : Reply). is_carried (reply_kind y)) q) v.moved))
  by_reply z (Made q sets) = onwards (ap has_copy q) (stays_made sets)

  pub copied_step : (o : Option Errno) → fault_of r ≡ o → GoesOn (mkdir_stage (Copying x h b line)) (mkdir_stage (unless_fault o x.target.location h (copied_by (has_copy r && nat_lt b.0 x.target.location.bricks) x h b line))) r t
  copied_step None z = by_reply z (copy_made b (above_of x.target) x.target.location.name x.made x.depth (value_at x b.0) s t r z v.moved)
  copied_step (Some e) z = copy_stopped e z
