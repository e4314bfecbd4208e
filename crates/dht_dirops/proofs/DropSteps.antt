-- The bricks are asked, one after the other, to drop
-- their copies of the directory, and its home last.
use Rattle.std.proofs.Common.{◌≡◌, ◌≢◌, ◌<◌, ℕ, Bool, true, false, refl, sym, ◌∙◌, ap, subst, inl, inr, arith}
use Rattle.std.specs.Prelude.{Option, Some, None, is_some, nat_eq, if◌then◌else◌}
use Rattle.std.proofs.lemmas.Bool.{false_from_ne_true}
use Rattle.dht_types.proofs.PutLaws.{exact_gfid, exact_nat, put_other}
use Rattle.dht_types.specs.Gfid.{Entry, home, root}
use Rattle.dht_types.specs.History.{Deeds, Tells, deeds_after, is_carried}
use Rattle.dht_types.specs.Tree.{Tree}
use Rattle.dht_types.specs.declared.calls.Answer.TheVariants.{Done as IsDone}
use Rattle.dht_types.specs.declared.calls.TreeStep.{TreeStep}
use Rattle.dht_types.specs.declared.calls.TreeStep.TheVariants.{RemoveDir}
use Rattle.dht_types.specs.declared.errors.Errno.{Errno}
use Rattle.dht_types.specs.declared.identifiers.BrickNo.{BrickNo}
use Rattle.dht_types.specs.declared.identifiers.Gfid.{Gfid}
use Rattle.dht_types.specs.declared.stored.Main.{Main}
use Rattle.dht_types.specs.declared.stored.Main.TheVariants as main
use Rattle.dht_types.specs.declared.stored.Slot.{Slot}
use Rattle.dht_brick.specs.Contents.{Contents, slot}
use Rattle.dht_brick.specs.Kinds.{reply_kind}
use Rattle.dht_brick.specs.Links.{is_occupied}
use Rattle.dht_brick.specs.Outcome.{Outcome, Do, left_by, reply_in}
use Rattle.dht_brick.specs.Parts.{is_dir, without_main}
use Rattle.dht_brick.specs.Rows.{with_store}
use Rattle.dht_brick.specs.declared.replies.Given.TheVariants as given
use Rattle.dht_brick.specs.declared.replies.Reply.{Reply}
use Rattle.dht_brick.specs.declared.replies.Reply.TheVariants as reply
use Rattle.dht_brick.specs.declared.requests.NameRequest.TheVariants.{DropDir}
use Rattle.dht_brick.specs.declared.requests.Request.TheVariants.{OnNames}
use Rattle.dht_section.proofs.ClaimLaws.{claims_more}
use Rattle.dht_section.proofs.EarlyLaws.{core_folder, nat_cases}
use Rattle.dht_section.proofs.SceneLaws.{carried_step, fault_earned, lock_moved, new_is, real_is, row_moved, row_reply}
use Rattle.dht_section.proofs.UnlockingSteps.{scope_moved}
use Rattle.dht_section.proofs.UnservedLaws.{unserved_is_rely}
use Rattle.dht_section.specs.Acts.{set_on}
use Rattle.dht_section.specs.Disk.{dir_at, slot_at}
use Rattle.dht_section.specs.Finish.{done_at}
use Rattle.dht_section.specs.Location.{entry_at}
use Rattle.dht_section.specs.Moves.{at_home, deeds_by, step_of, tree_by}
use Rattle.dht_section.specs.Rely.{Rely}
use Rattle.dht_section.specs.Replies.{fault_of}
use Rattle.dht_section.specs.Scene.{Scene, Sound, MayAnswer, NameStands, fault_finish}
use Rattle.dht_section.specs.Shapes.{Folder, when_on}
use Rattle.dht_section.specs.Stages.{Served, GoesOn}
use Rattle.dht_section.specs.Truth.{folder}
use Rattle.dht_section.specs.Views.{core, visible}
use Rattle.dht_section.specs.Want.{dir_of, key_at}
use Rattle.dht_section.specs.declared.section.Held.{Held}
use Rattle.dht_dirops.proofs.DropOrder.{next_dropped, next_nearer, next_within}
use Rattle.dht_dirops.proofs.DropRows.{drop_carried, drop_outcome, drop_refused, dropped_here, dropped_store, dropped_within}
use Rattle.dht_dirops.proofs.EmptyLaws.{bare_hidden, not_occupied}
use Rattle.dht_dirops.proofs.InspectSteps.{closed_step}
use Rattle.dht_dirops.specs.Rmdir.{Drops, Holds, IsBare, IsDropped, closed, drop_ask, drop_next, drop_told, drop_unless, home_told, is_dropped, rmdir_stage}
use Rattle.dht_dirops.specs.RmdirLaws.{bare_stable, holds_alone, holds_bricks, holds_stable, removal_says, same_copies}
use Rattle.dht_dirops.specs.declared.rmdir.Removal.{Removal}
use Rattle.dht_dirops.specs.declared.rmdir.Rmdir.{Rmdir}
use Rattle.dht_dirops.specs.declared.rmdir.Rmdir.TheVariants.{Dropping}

-- ---- what a brick has

-- nothing stands in the directory there
pub unoccupied :
    (s : Scene) (g : Gfid) (b : ℕ) → b < s.disk.count → IsBare g s
    → is_occupied (s.disk.brick b).store.slots g ≡ false
unoccupied s g b l h = not_occupied (s.disk.brick b).store.slots g (λ n. bare_hidden (slot_at s.disk b (g, n)) ((h n).has b l))

-- where it has a copy, the name's slot is the directory's
copied_slot :
    (s : Scene) (e : Entry) (g : Gfid) (on : ℕ → Bool) (b : ℕ) → b < s.disk.count
    → NameStands s e (Folder g on) → on b ≡ true → slot_at s.disk b e ≡ folder g
copied_slot s e g on b l h there = core_folder (slot_at s.disk b e) g (h.has b l ∙ ap (λ (v : Bool). let p : Slot = record { main = when_on v (main.Dir g); standby = None } in p) there)

-- and elsewhere it is not
not_its : (g : Gfid) (m : Option Main) → visible m ≡ None → is_dir g m ≡ false
not_its g None e = refl
not_its g (Some (main.Dir h)) e = absurd (let z : Some (main.Dir h) ≡ None = e in cc)
not_its g (Some (main.File f over)) e = refl
not_its g (Some (main.Linkto v)) e = refl

uncopied_slot :
    (s : Scene) (e : Entry) (g : Gfid) (on : ℕ → Bool) (b : ℕ) → b < s.disk.count
    → NameStands s e (Folder g on) → on b ≡ false → is_dir g (slot_at s.disk b e).main ≡ false
uncopied_slot s e g on b l h none = not_its g (slot_at s.disk b e).main (ap (λ (p : Slot). p.main) (h.has b l) ∙ ap (λ (v : Bool). when_on v (main.Dir g)) none)

-- the brick of a slot that is a directory's has the directory in which it stands
copied_housed :
    (s : Scene) (e : Entry) (g : Gfid) (b : ℕ) → Sound s → b < s.disk.count
    → slot_at s.disk b e ≡ folder g → is_some (dir_at s.disk b e.0) ≡ true
copied_housed s e g b sound l is = sound.kept.things.housed e b l (λ z. let y : Some (main.Dir g) ≡ None = ap (λ (p : Slot). p.main) (sym is ∙ z) in cc)

-- ---- a set of bricks without one

set_at : (on : ℕ → Bool) (b : ℕ) (v : Bool) → set_on on b v b ≡ v
set_at on b v = ap (λ (w : Bool). if w then v else on b) ((exact_nat b b).1 refl)

set_off : (on : ℕ → Bool) (b i : ℕ) (v : Bool) → i ≢ b → set_on on b v i ≡ on i
set_off on b i v ne = ap (λ (w : Bool). if w then v else on i) (false_from_ne_true (nat_eq i b) (λ e. ne ((exact_nat i b).0 e)))

set_less : (on : ℕ → Bool) (b i : ℕ) → on i ≡ false → set_on on b false i ≡ false
set_less on b i e = by (nat_eq i b)
  where
    by : (w : Bool) → (if w then false else on i) ≡ false
    by true = refl
    by false = e

-- ---- a request that was carried out

was_carried : (y : Reply) → is_carried (reply_kind y) ≡ true → is_dropped y ≡ true
was_carried (reply.Ok gives) w = refl
was_carried (reply.Refused why) w = absurd (let z : false ≡ true = w in cc)
was_carried (reply.Wait holder) w = absurd (let z : false ≡ true = w in cc)
was_carried reply.Down w = absurd (let z : false ≡ true = w in cc)
was_carried reply.Failed w = absurd (let z : false ≡ true = w in cc)
was_carried reply.NoMemory w = absurd (let z : false ≡ true = w in cc)

-- ---- the request

module _ (x : Removal) (h : Held) (b : BrickNo) (r : Reply) (at : ℕ) (s t : Scene) (v : Served (rmdir_stage (Dropping x h b)) r at s t) where
  abbrev e : Entry
  e = entry_at x.location

  abbrev g : Gfid
  g = x.directory

  k : Drops x h b s
  k = v.is_at.knows

  brick_there : b.0 < s.disk.count
  brick_there =
      let count = holds_bricks x h s v.before k.held in
      let l = k.within in
      omega arith

  empty_there : is_occupied (s.disk.brick b.0).store.slots g ≡ false
  empty_there = unoccupied s g b.0 brick_there k.empty

  abbrev outcome : Outcome Contents
  outcome = drop_outcome x.location.directory x.location.name g (s.disk.brick b.0) (dir_at s.disk b.0 x.location.directory) (is_occupied (s.disk.brick b.0).store.slots g) (is_dir g (slot_at s.disk b.0 e).main)

  stopped_step : (y : Errno) → fault_of r ≡ Some y → GoesOn (rmdir_stage (Dropping x h b)) (rmdir_stage (closed x h (fault_finish y))) r t
  stopped_step y z = closed_step x h (Dropping x h b) (fault_finish y) r at s t refl (omega arith) k.held (fault_earned s t _ r y z v.moved) v

  module _ (z : fault_of r ≡ None) where
    reply_is : r ≡ reply_in outcome
    reply_is = row_reply s t (drop_ask x b) r v.moved z

    -- ---- a brick that has a copy drops it

    module _ (there : k.held.on b.0 ≡ true) where
      its : slot_at s.disk b.0 e ≡ folder g
      its = copied_slot s e g k.held.on b.0 brick_there k.held.stands there

      outcome_is : outcome ≡ Do given.Nothing (with_store (s.disk.brick b.0) (dropped_store x.location.directory x.location.name g (s.disk.brick b.0).store))
      outcome_is = drop_carried x.location.directory x.location.name g (s.disk.brick b.0) _ _ _ (copied_housed s e g b.0 v.before brick_there its) empty_there (ap (λ (p : Slot). is_dir g p.main) its ∙ (exact_gfid g g).1 refl)

      carried : is_carried (reply_kind r) ≡ true
      carried = ap (λ (y : Reply). is_carried (reply_kind y)) (reply_is ∙ ap reply_in outcome_is)

      new_brick : t.disk.brick b.0 ≡ with_store (s.disk.brick b.0) (dropped_store x.location.directory x.location.name g (s.disk.brick b.0).store)
      new_brick = new_is s t (drop_ask x b) r v.moved ∙ ((row_moved s t (drop_ask x b) r v.moved z).1 ∙ ap (λ (o : Outcome Contents). left_by o (s.disk.brick b.0)) outcome_is)

      slot_off : (i : ℕ) (y : Entry) → i ≢ b.0 → slot_at t.disk i y ≡ slot_at s.disk i y
      slot_off i y ne = ap (λ (f : ℕ → Contents). slot (f i).store y) v.moved.disk.brick ∙ ap (λ (c : Contents). slot c.store y) (put_other nat_eq exact_nat s.disk.brick b.0 v.moved.new i ne)

      step_is : step_of b.0 (OnNames (DropDir x.location.directory x.location.name g)) v.moved.real ≡ at_home b.0 g (RemoveDir x.location.directory x.location.name)
      step_is = ap (λ (y : Reply). step_of b.0 (OnNames (DropDir x.location.directory x.location.name g)) y) (real_is s t (drop_ask x b) r v.moved z) ∙ carried_step b.0 (DropDir x.location.directory x.location.name g) r carried

      -- ---- at the home, that is the step of the tree

      done_earned : b.0 ≡ home g → MayAnswer (done_at at) t
      done_earned q =
          let m = v.moved in
          let begun = v.after.begun in
          let line = v.line in
          let step : TreeStep = RemoveDir x.location.directory x.location.name in
          let is : step_of b.0 (OnNames (DropDir x.location.directory x.location.name g)) m.real ≡ Some step =
          step_is ∙ ap (λ (w : Bool). if w then Some step else None) ((exact_nat b.0 (home g)).1 q) in
          let deeds : t.mine.deeds ≡ Some (deeds_after s.history.tree t.history.size s.mine.call None step) =
          m.mine.deeds_are
          ∙ (ap (λ (o : Option TreeStep). deeds_by s t.history.size o) is
          ∙ ap (λ (d : Option Deeds). Some (deeds_after s.history.tree t.history.size s.mine.call d step)) k.held.fresh.deeds) in
          record {
            point = at;
            printed = refl;
            after = omega arith;
            before = omega arith;
            tells = subst (λ (d : Option Deeds). Tells t.history t.mine.call d at IsDone) (sym deeds) (sym line, removal_says x h s root v.before k.held k.empty);
          }

      -- ---- elsewhere, one brick fewer has a copy

      module _ (away : b.0 ≢ home g) where
        no_step : step_of b.0 (OnNames (DropDir x.location.directory x.location.name g)) v.moved.real ≡ None
        no_step = step_is ∙ ap (λ (w : Bool). if w then Some (RemoveDir x.location.directory x.location.name) else None) (false_from_ne_true (nat_eq b.0 (home g)) (λ q. away ((exact_nat b.0 (home g)).0 q)))

        tree_same : t.history.tree ≡ s.history.tree
        tree_same = v.moved.tree ∙ ap (λ (o : Option TreeStep). tree_by o s.history.tree) no_step

        abbrev fewer : ℕ → Bool
        fewer = set_on k.held.on b.0 false

        core_after : (i : ℕ) → i < s.disk.count → core (slot_at t.disk i e) ≡ record { main = when_on (fewer i) (main.Dir g); standby = None }
        core_after i l = elim (nat_cases i b.0) [
          | inl q ↦ ap (λ (j : ℕ). core (slot_at t.disk j e)) q
              ∙ (ap (λ (c : Contents). core (slot c.store e)) new_brick
              ∙ (ap core (dropped_here x.location.directory x.location.name g (s.disk.brick b.0).store k.held.removes.apart)
              ∙ (ap (λ (p : Slot). core (without_main p)) its
              ∙ ap (λ (w : Bool). let p : Slot = record { main = when_on w (main.Dir g); standby = None } in p) (sym (ap fewer q ∙ set_at k.held.on b.0 false)))))
          | inr ne ↦ ap core (slot_off i e ne)
              ∙ (k.held.stands.has i l
              ∙ ap (λ (w : Bool). let p : Slot = record { main = when_on w (main.Dir g); standby = None } in p) (sym (set_off k.held.on b.0 i false ne)))
        ]

        stands_after : NameStands t e (Folder g fewer)
        stands_after =
            let fits = k.held.stands.fits in
            let count = v.moved.disk.count in
            record {
              fits = (
                (let l = fits.0 in omega arith),
                set_off k.held.on b.0 (home g) false (λ q. away (sym q)) ∙ fits.1,
                λ i l. set_less k.held.on b.0 i (fits.2 i (omega arith)),
              );
              has = λ i l. core_after i (omega arith);
              node = ap (λ (p : Tree). p.names e) tree_same ∙ k.held.stands.node;
            }

        bare_after : IsBare g t
        bare_after n = record {
          fits = tt;
          has = λ i l. elim (nat_cases i b.0) [
            | inl q ↦ ap (λ (j : ℕ). core (slot_at t.disk j (g, n))) q
                ∙ (ap (λ (c : Contents). core (slot c.store (g, n))) new_brick
                ∙ ap core (dropped_within x.location.directory x.location.name g (s.disk.brick b.0).store n))
            | inr ne ↦ ap core (slot_off i (g, n) ne) ∙ (k.empty n).has i (let count = v.moved.disk.count in omega arith)
          ];
          node = ap (λ (p : Tree). p.names (g, n)) tree_same ∙ (k.empty n).node;
        }

        held_fewer : Holds x h t
        held_fewer = record {
          removes = record { call = v.moved.mine.call ∙ k.held.removes.call; apart = k.held.removes.apart };
          scope = k.held.scope;
          fresh = record {
            scope = scope_moved h.scope s t _ r k.held.fresh.scope v.moved;
            deeds = v.moved.mine.deeds_are ∙ (ap (λ (o : Option TreeStep). deeds_by s t.history.size o) no_step ∙ k.held.fresh.deeds);
          };
          holds = λ j l. lock_moved s t (drop_ask x b) r v.moved (dir_of (key_at h.scope j)) (key_at h.scope j) tt ∙ k.held.holds j l;
          on = fewer;
          stands = stands_after;
        }

        drops_fewer : Drops x h (drop_next x b) t
        unfolding held_fewer
        drops_fewer =
            let count = holds_bricks x h s v.before k.held in
            let at_home = k.held.stands.fits.0 in
            record {
              held = held_fewer;
              within = next_within x b (omega arith);
              empty = bare_after;
              dropped = next_dropped x b fewer away (λ i l. set_less k.held.on b.0 i (k.held.stands.fits.2 i (omega arith)))
                  (λ i ne l. set_less k.held.on b.0 i (k.dropped i ne l)) (set_at k.held.on b.0 false);
            }

    -- ---- a brick that has none refuses

    module _ (none : k.held.on b.0 ≡ false) where
      refused : (is_dropped r ≡ true) × (is_carried (reply_kind r) ≡ false)
      refused =
          let q = drop_refused x.location.directory x.location.name g (s.disk.brick b.0) (dir_at s.disk b.0 x.location.directory) _ _ empty_there (uncopied_slot s e g k.held.on b.0 brick_there k.held.stands none) in
          (ap is_dropped reply_is ∙ q.0, ap (λ (y : Reply). is_carried (reply_kind y)) reply_is ∙ q.1)

      rely : Rely s t
      rely = unserved_is_rely s t (drop_ask x b) r z refused.1 v.moved

      drops_same : b.0 ≢ home g → Drops x h (drop_next x b) t
      drops_same away =
          let count = holds_bricks x h s v.before k.held in
          let at_home = k.held.stands.fits.0 in
          record {
            held = holds_stable x h s t k.held rely;
            within = next_within x b (omega arith);
            empty = bare_stable g s t (holds_alone x h s k.held) k.empty rely;
            dropped = subst (IsDropped g (drop_next x b)) (sym (same_copies x h s t k.held rely)) (next_dropped x b k.held.on away (λ i l. k.held.stands.fits.2 i (omega arith)) k.dropped none);
          }

    -- ---- how it goes on

    abbrev Went : Rmdir → Type 0
    Went n = GoesOn (rmdir_stage (Dropping x h b)) (rmdir_stage n) r t

    either : (w : Bool) (m n : Rmdir) → (w ≡ true → Went m) → (w ≡ false → Went n) → Went (if w then m else n)
    either true m n f j = f refl
    either false m n f j = j refl

    next_step : b.0 ≢ home g → Drops x h (drop_next x b) t → Went (Dropping x h (drop_next x b))
    next_step away after =
        let nearer = next_nearer x b k.within away in
        record {
          claims = claims_more _ r at s t _ v (λ c key i. i);
          knows = after;
          nearer = λ u. (λ w. omega arith, omega arith);
        }

    -- the home has a copy
    home_on : b.0 ≡ home g → k.held.on b.0 ≡ true
    home_on q = ap k.held.on q ∙ k.held.stands.fits.1

    home_step : b.0 ≡ home g → Went (home_told x h b r at)
    home_step q = either (is_carried (reply_kind r)) _ _
        (λ w. closed_step x h (Dropping x h b) (done_at at) r at s t refl (omega arith) k.held (done_earned (home_on q) q) v)
        (λ w. absurd (let y : false ≡ true = sym w ∙ carried (home_on q) in cc))

    away_step : b.0 ≢ home g → Went (if is_dropped r then Dropping x h (drop_next x b) else Dropping x h b)
    away_step away = by (k.held.on b.0) refl
      where
        by : (w : Bool) → k.held.on b.0 ≡ w → Went (if is_dropped r then Dropping x h (drop_next x b) else Dropping x h b)
        by true there = either (is_dropped r) _ _ (λ w. next_step away (drops_fewer there away)) (λ w. absurd (let y : false ≡ true = sym w ∙ was_carried r (carried there) in cc))
        by false none = either (is_dropped r) _ _ (λ w. next_step away (drops_same none away)) (λ w. absurd (let y : false ≡ true = sym w ∙ (refused none).0 in cc))

    told_step : Went (drop_told x h b r at)
    told_step = elim (nat_cases b.0 (home g)) [
      | inl q ↦ subst (λ (w : Bool). Went (if w then home_told x h b r at else (if is_dropped r then Dropping x h (drop_next x b) else Dropping x h b))) (sym ((exact_nat b.0 (home g)).1 q)) (home_step q)
      | inr ne ↦ subst (λ (w : Bool). Went (if w then home_told x h b r at else (if is_dropped r then Dropping x h (drop_next x b) else Dropping x h b))) (sym (false_from_ne_true (nat_eq b.0 (home g)) (λ q. ne ((exact_nat b.0 (home g)).0 q)))) (away_step ne)
    ]

  unless_step : (o : Option Errno) → fault_of r ≡ o → GoesOn (rmdir_stage (Dropping x h b)) (rmdir_stage (drop_unless o x h b r at)) r t
  unless_step (Some y) z = stopped_step y z
  unless_step None z = told_step z

  pub drop_step : GoesOn (rmdir_stage (Dropping x h b)) (rmdir_stage (drop_unless (fault_of r) x h b r at)) r t
  drop_step = unless_step (fault_of r) refl
