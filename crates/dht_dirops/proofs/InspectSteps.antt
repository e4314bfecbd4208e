-- The bricks are asked, one after the other, whether a name stands in the directory.
use Rattle.std.proofs.Common.{◌≡◌, ◌<◌, ◌+◌, ◌-◌, ℕ, Bool, true, false, refl, sym, ◌∙◌, ap, subst, arith, List, [], ◌∷◌}
use Rattle.std.specs.Prelude.{Option, Some, None, is_some, suc, nat_le, if◌then◌else◌}
use Rattle.std.proofs.lemmas.Bool.Decides.{nat_tests}
use Rattle.dht_types.specs.Gfid.{Entry}
use Rattle.dht_types.specs.History.{Deeds, Tells}
use Rattle.dht_types.specs.Tree.{Tree, Node, IsDir, IsFile, Refuse, says, removed, removed_dir, answer_of}
use Rattle.dht_types.specs.declared.calls.Answer.TheVariants.{Fault}
use Rattle.dht_types.specs.declared.calls.Call.{Call}
use Rattle.dht_types.specs.declared.calls.Call.TheVariants.{Rmdir as Called}
use Rattle.dht_types.specs.declared.errors.Errno.{Errno}
use Rattle.dht_types.specs.declared.errors.Errno.TheVariants.{Enotempty, Estale}
use Rattle.dht_types.specs.declared.identifiers.BrickNo.{BrickNo}
use Rattle.dht_types.specs.declared.identifiers.Gfid.{Gfid}
use Rattle.dht_types.specs.declared.stored.DirRecord.{DirRecord}
use Rattle.dht_types.specs.declared.stored.Main.{Main}
use Rattle.dht_types.specs.declared.stored.Main.TheVariants as main
use Rattle.dht_types.specs.declared.stored.Slot.{Slot}
use Rattle.dht_brick.specs.Contents.{Contents, bare}
use Rattle.dht_brick.specs.Looks.{info_of}
use Rattle.dht_brick.specs.Outcome.{Do, in_dir, reply_in, within}
use Rattle.dht_brick.specs.Rows.{with_store}
use Rattle.dht_brick.specs.declared.replies.Given.TheVariants as given
use Rattle.dht_brick.specs.declared.replies.Reply.{Reply}
use Rattle.dht_section.proofs.ClaimLaws.{claims_more}
use Rattle.dht_section.proofs.PairLaws.{pair_ordered}
use Rattle.dht_section.proofs.SceneLaws.{fault_earned, row_reply, tree_quiet}
use Rattle.dht_section.proofs.ShownLaws.{full_of, node_there, saw_all, saw_more, unhoused}
use Rattle.dht_section.proofs.UnlockingSteps.{scope_moved}
use Rattle.dht_section.specs.Disk.{dir_at, slot_at}
use Rattle.dht_section.specs.Finish.{refused_at}
use Rattle.dht_section.specs.Looks.{what_by}
use Rattle.dht_section.specs.Moves.{Guarantee}
use Rattle.dht_section.specs.Replies.{fault_of, is_shown}
use Rattle.dht_section.specs.Scene.{Scene, Sound, MayAnswer, fault_finish}
use Rattle.dht_section.specs.Section.{Saw, ShownBelow, StandsSeen, all_claimed, last_lock, node_seen}
use Rattle.dht_section.specs.Stages.{Served, GoesOn}
use Rattle.dht_section.specs.Views.{core, visible}
use Rattle.dht_section.specs.Want.{IsOrdered}
use Rattle.dht_section.specs.declared.looks.What.{What}
use Rattle.dht_section.specs.declared.looks.What.TheVariants.{Absent, Dir, File}
use Rattle.dht_section.specs.declared.machine.Finish.{Finish}
use Rattle.dht_section.specs.declared.section.Held.{Held}
use Rattle.dht_dirops.proofs.DropOrder.{few_left, first_dropped, first_within}
use Rattle.dht_dirops.proofs.EmptyLaws.{bare_hidden, hidden_is, none_visible, not_occupied}
use Rattle.dht_dirops.proofs.InfoSteps.{info_rely}
use Rattle.dht_dirops.specs.Rmdir.{Holds, Inspects, IsBare, ShowNothing, closed, drop_at, inspect_ask, inspect_told, inspect_unless, rmdir_stage, shows_name}
use Rattle.dht_dirops.specs.RmdirLaws.{holds_alone, holds_bricks, holds_stable, nothing_stable, removal_housed}
use Rattle.dht_dirops.specs.declared.rmdir.Removal.{Removal}
use Rattle.dht_dirops.specs.declared.rmdir.Rmdir.{Rmdir}
use Rattle.dht_dirops.specs.declared.rmdir.Rmdir.TheVariants.{Inspecting, Dropping}

-- ---- how it ends under its locks

holds_order : (x : Removal) (h : Held) (s : Scene) → Holds x h s → IsOrdered h.scope
holds_order x h s k = subst IsOrdered (sym k.scope) (pair_ordered x.location.bricks x.location.directory x.directory x.location.name k.removes.apart)

-- the locks are given back, and the answer is right
pub closed_step :
    (x : Removal) (h : Held) (m : Rmdir) (f : Finish) (r : Reply) (at : ℕ) (s t : Scene)
    → (rmdir_stage m).claims ≡ all_claimed h.scope
    → suc (last_lock h.scope) < (rmdir_stage m).variant → Holds x h s → MayAnswer f t
    → Served (rmdir_stage m) r at s t → GoesOn (rmdir_stage m) (rmdir_stage (closed x h f)) r t
closed_step x h m f r at s t claims nearer k earned v =
    let order = holds_order x h s k in
    let some = order.some in
    record {
      claims = claims_more _ r at s t _ v (λ b key i. subst (λ (c : Rattle.dht_section.specs.Claims.Claim). Rattle.dht_section.specs.Claims.Listed c.locks b key) claims i);
      knows = record { order = order; scope = scope_moved h.scope s t _ r k.fresh.scope v.moved; within = omega arith; earned = earned };
      nearer = λ u. (λ w. nearer, omega arith);
    }

-- ---- what a brick shows

abbrev info_reply : Option DirRecord → Contents → Gfid → Reply
info_reply o c g = reply_in (within (with_store c) (in_dir o (λ y. Do (given.Dirinfo (info_of c.store g y)) c.store)))

answered : (o : Option DirRecord) (c : Contents) (g : Gfid) → is_shown (info_reply o c g) ≡ true
answered None c g = refl
answered (Some y) c g = refl

pub info_told :
    (x : Removal) (b : BrickNo) (s t : Scene) (r : Reply) → fault_of r ≡ None
    → Guarantee s (inspect_ask x b) r t → is_shown r ≡ true
info_told x b s t r z m = ap is_shown (row_reply s t (inspect_ask x b) r m z) ∙ answered (dir_at s.disk b.0 x.directory) (s.disk.brick b.0) x.directory

-- a brick that shows no name in the directory has none
hidden_at :
    (s : Scene) (g : Gfid) (b : ℕ) (n : List ℕ) (o : Option DirRecord) → Sound s → b < s.disk.count
    → dir_at s.disk b g ≡ o → shows_name (info_reply o (s.disk.brick b) g) ≡ false
    → visible (slot_at s.disk b (g, n)).main ≡ None
hidden_at s g b n None sound l e h = ap (λ (p : Slot). visible p.main) (unhoused s (g, n) b sound l e)
hidden_at s g b n (Some y) sound l e h = hidden_is (slot_at s.disk b (g, n)) (none_visible (s.disk.brick b).store.slots g n h)

what_hidden : (b : BrickNo) (m : Option Main) → visible m ≡ None → what_by Absent b m 0 ≡ Absent
what_hidden b None e = refl
what_hidden b (Some (main.Dir g)) e = absurd (let z : Some (main.Dir g) ≡ None = e in cc)
what_hidden b (Some (main.File f over)) e = absurd (let z : Some (main.File f over) ≡ None = e in cc)
what_hidden b (Some (main.Linkto v)) e = refl

saw_next :
    (s : Scene) (e : Entry) (b : BrickNo) → b.0 < s.disk.count
    → visible (slot_at s.disk b.0 e).main ≡ None → Saw e b.0 Absent s → Saw e (b.0 + 1) Absent s
saw_next s e b l hidden h =
    let more = saw_more s e b (slot_at s.disk b.0 e).main 0 h.full Absent l refl h.stands h.shows in
    record {
      full = more.next;
      stands = more.stands;
      shows = subst (ShownBelow (b.0 + 1) more.next) (what_hidden b (slot_at s.disk b.0 e).main hidden) more.shows;
    }

-- so one brick more showed nothing
pub nothing_next :
    (x : Removal) (b : BrickNo) (s t : Scene) (r : Reply) → Sound s → b.0 < s.disk.count
    → fault_of r ≡ None → shows_name r ≡ false → Guarantee s (inspect_ask x b) r t
    → ShowNothing x.directory b.0 s → ShowNothing x.directory (b.0 + 1) s
nothing_next x b s t r sound l z e m h n =
    saw_next s (x.directory, n) b l
    (hidden_at s x.directory b.0 n (dir_at s.disk b.0 x.directory) sound l refl (sym (ap shows_name (row_reply s t (inspect_ask x b) r m z)) ∙ e))
    (h n)

-- and where all bricks did, nothing stands in it
pub all_bare : (g : Gfid) (s : Scene) → ShowNothing g s.disk.count s → IsBare g s
all_bare g s h n =
    let k = h n in
    subst (λ (w : What). StandsSeen (g, n) w s) (sym (saw_all s (g, n) k.full Absent k.stands k.shows)) k.stands

-- ---- a name stands in it

seen_bare :
    (s : Scene) (e : Entry) (b : ℕ) (full : What) → b < s.disk.count → StandsSeen e full s
    → None ≡ node_seen full → core (slot_at s.disk b e) ≡ bare
seen_bare s e b Absent l k q = k.has b l
seen_bare s e b (Dir g) l k q = absurd (let z : None ≡ Some (IsDir g) = q in cc)
seen_bare s e b (File f c links) l k q = absurd (let z : None ≡ Some (IsFile f) = q in cc)

-- a name of which the tree has nothing is bare on each brick
bare_at :
    (s : Scene) (e : Entry) (b : ℕ) → Sound s → b < s.disk.count → s.history.tree.names e ≡ None
    → core (slot_at s.disk b e) ≡ bare
bare_at s e b sound l none =
    let full = full_of s e sound in
    seen_bare s e b full.0 l full.1 (sym none ∙ node_there s e full.0 full.1)

nothing_there : (A : Type 0) (o : Option A) → false ≡ is_some o → o ≡ None
nothing_there A None e = refl
nothing_there A (Some x) e = absurd (let z : false ≡ true = e in cc)

-- so a directory that lists no name is not shown to have one
shows_none :
    (s : Scene) (g : Gfid) (b : ℕ) (o : Option DirRecord) → Sound s → b < s.disk.count
    → s.history.tree.listings g ≡ [] → shows_name (info_reply o (s.disk.brick b) g) ≡ false
shows_none s g b None sound l e = refl
shows_none s g b (Some y) sound l e = not_occupied (s.disk.brick b).store.slots g (λ n. bare_hidden (slot_at s.disk b (g, n)) (bare_at s (g, n) b sound l
    (nothing_there Node (s.history.tree.names (g, n)) (ap (λ (xs : List (List ℕ)). Rattle.dht_types.specs.Tree.lists n xs) (sym e) ∙ sound.kept.tree.listed (g, n)))))

refuses_full :
    (p : Tree) (d : Gfid) (n : List ℕ) (g y : Gfid) (xs : List (List ℕ)) → p.dirs d ≡ true
    → p.names (d, n) ≡ Some (IsDir g) → p.listings g ≡ xs → (xs ≡ [] → ⊥)
    → answer_of (says p (Called d n) y) ≡ Some (Fault Enotempty)
refuses_full p d n g y [] e k l some = absurd (some refl)
refuses_full p d n g y (z ∷ zs) e k l some =
    ap (λ (b : Bool). answer_of (if b then removed p d n (p.names (d, n)) else Refuse Estale)) e
    ∙ (ap (λ (o : Option Node). answer_of (removed p d n o)) k
    ∙ ap (λ (ys : List (List ℕ)). answer_of (removed_dir d n ys)) l)

pub full_earned :
    (x : Removal) (h : Held) (b : BrickNo) (r : Reply) (at : ℕ) (s t : Scene) → fault_of r ≡ None
    → shows_name r ≡ true → Holds x h t → b.0 < s.disk.count → Guarantee s (inspect_ask x b) r t
    → Sound s → Sound t → at ≡ t.history.size → MayAnswer (refused_at Enotempty at) t
full_earned x h b r at s t z e k l m before sound line =
    let begun = sound.begun in
    record {
      point = at;
      printed = refl;
      after = omega arith;
      before = omega arith;
      tells = subst (λ (d : Option Deeds). Tells t.history t.mine.call d at (Fault Enotempty)) (sym k.fresh.deeds)
          (λ (y : Gfid). ap (λ (c : Call Gfid). answer_of (says (t.history.past at) c y)) k.removes.call
          ∙ (ap (λ (p : Tree). answer_of (says p (Called x.location.directory x.location.name) y)) (ap t.history.past line ∙ sound.kept.point)
          ∙ refuses_full t.history.tree x.location.directory x.location.name x.directory y (t.history.tree.listings x.directory) (removal_housed x h t sound k) k.stands.node refl full));
    }
  where
    full : t.history.tree.listings x.directory ≡ [] → ⊥
    full none =
        let before_none : s.history.tree.listings x.directory ≡ [] = ap (λ (p : Tree). p.listings x.directory) (sym (tree_quiet s t (inspect_ask x b) r tt m)) ∙ none in
        let y : false ≡ true = sym (shows_none s x.directory b.0 (dir_at s.disk b.0 x.directory) before l before_none) ∙ (sym (ap shows_name (row_reply s t (inspect_ask x b) r m z)) ∙ e) in
        cc

-- ---- how it goes on

-- an rmdir that asks whether a name stands in the directory went on so
abbrev Went : Removal → Held → BrickNo → Reply → Scene → Rmdir → Type 0
Went x h b r t n = GoesOn (rmdir_stage (Inspecting x h b)) (rmdir_stage n) r t

either :
    (x : Removal) (h : Held) (b : BrickNo) (r : Reply) (t : Scene) (v : Bool) (m n : Rmdir)
    → (v ≡ true → Went x h b r t m) → (v ≡ false → Went x h b r t n)
    → Went x h b r t (if v then m else n)
either x h b r t true m n f g = f refl
either x h b r t false m n f g = g refl

module _ (x : Removal) (h : Held) (b : BrickNo) (r : Reply) (at : ℕ) (s t : Scene) (v : Served (rmdir_stage (Inspecting x h b)) r at s t) where
  k : Inspects x h b s
  k = v.is_at.knows

  brick_there : b.0 < s.disk.count
  brick_there =
      let e = holds_bricks x h s v.before k.held in
      let l = k.within in
      omega arith

  stopped_step : (e : Errno) → fault_of r ≡ Some e → Went x h b r t (closed x h (fault_finish e))
  stopped_step e z = closed_step x h (Inspecting x h b) (fault_finish e) r at s t refl (omega arith) k.held (fault_earned s t _ r e z v.moved) v

  module _ (z : fault_of r ≡ None) where
    held_after : Holds x h t
    held_after = holds_stable x h s t k.held (info_rely x.directory b.0 s t r z v.moved)

    full_step : shows_name r ≡ true → Went x h b r t (closed x h (refused_at Enotempty at))
    full_step e = closed_step x h (Inspecting x h b) (refused_at Enotempty at) r at s t refl (omega arith) k.held (full_earned x h b r at s t z e held_after brick_there v.moved v.before v.after v.line) v

    shown_after : shows_name r ≡ false → ShowNothing x.directory (b.0 + 1) t
    shown_after e = nothing_stable x.directory (b.0 + 1) s t (holds_alone x h s k.held) (nothing_next x b s t r v.before brick_there z e v.moved k.shown) (info_rely x.directory b.0 s t r z v.moved)

    next_step : shows_name r ≡ false → nat_le (x.location.bricks - b.0) 1 ≡ false → Went x h b r t (Inspecting x h (record { 0 = b.0 + 1 }))
    next_step e q =
        let l : b.0 + 1 < x.location.bricks = grind (arith, nat_tests, q) in
        record {
          claims = claims_more _ r at s t _ v (λ c key i. i);
          knows = record { held = held_after; within = l; shown = shown_after e };
          nearer = λ u. (λ w. omega arith, omega arith);
        }

    -- all bricks showed no name
    bare_after : shows_name r ≡ false → nat_le (x.location.bricks - b.0) 1 ≡ true → IsBare x.directory t
    bare_after e q =
        let l = k.within in
        let count = holds_bricks x h t v.after held_after in
        let end : b.0 + 1 ≡ t.disk.count = (let y : b.0 + 1 ≡ x.location.bricks = grind (arith, nat_tests, q, l) in omega arith) in
        all_bare x.directory t (subst (λ (i : ℕ). ShowNothing x.directory i t) end (shown_after e))

    drop_step : shows_name r ≡ false → nat_le (x.location.bricks - b.0) 1 ≡ true → Went x h b r t (Dropping x h (drop_at x 0))
    drop_step e q =
        let held = held_after in
        let count = holds_bricks x h t v.after held in
        let at_home = held.stands.fits.0 in
        let few = few_left x (drop_at x 0) in
        let l = k.within in
        record {
          claims = claims_more _ r at s t _ v (λ c key i. i);
          knows = record {
            held = held;
            within = first_within x (omega arith);
            empty = bare_after e q;
            dropped = first_dropped x held.on (λ i j. held.stands.fits.2 i (omega arith));
          };
          nearer = λ u. (λ w. omega arith, omega arith);
        }

    told_step : Went x h b r t (inspect_told x h b r at)
    told_step = either x h b r t (shows_name r) _ _ full_step
        (λ e. either x h b r t (is_shown r) _ _
        (λ y. either x h b r t (nat_le (x.location.bricks - b.0) 1) _ _ (drop_step e) (next_step e))
        (λ y. absurd (let w : false ≡ true = sym y ∙ info_told x b s t r z v.moved in cc)))

  unless_step : (o : Option Errno) → fault_of r ≡ o → Went x h b r t (inspect_unless o x h b r at)
  unless_step (Some e) z = stopped_step e z
  unless_step None z = told_step z

  pub inspect_step : Went x h b r t (inspect_unless (fault_of r) x h b r at)
  inspect_step = unless_step (fault_of r) refl
