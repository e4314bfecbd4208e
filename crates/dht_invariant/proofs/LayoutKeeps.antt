-- A layout that is set keeps the clauses: one copy of a directory that its
-- client holds alone gets its planned range, and nothing else changes.
use Rattle.std.proofs.Common.{◌≡◌, ◌≢◌, ◌<◌, ◌≤◌, ℕ, true, List, refl, sym, ap, ◌∙◌, subst, inl, inr, ◌⊎◌, length}
use Rattle.std.specs.Prelude.{Option, Some, None, is_some, slice_index_or, unwrap_or}
use Rattle.std.specs.FinMap.{contains_key}
use Rattle.std.specs.Option.{option_map}
use Rattle.dht_types.specs.Gfid.{Entry, root, home, run_of}
use Rattle.dht_types.specs.Tree.{Tree}
use Rattle.dht_types.specs.Volume.{replay_names}
use Rattle.dht_types.specs.declared.identifiers.BrickNo.{BrickNo}
use Rattle.dht_types.specs.declared.identifiers.Gfid.{Gfid}
use Rattle.dht_types.specs.declared.locks.Key.{Key}
use Rattle.dht_types.specs.declared.stored.DirRecord.{DirRecord}
use Rattle.dht_types.specs.declared.stored.Slot.{Slot}
use Rattle.dht_hash.proofs.DaviesMeyerLaws.{dm_below}
use Rattle.dht_hash.specs.DaviesMeyer.{dm}
use Rattle.dht_xattr.specs.Layout.{holder}
use Rattle.dht_xattr.specs.Plan.{planned}
use Rattle.dht_brick.specs.Contents.{Contents, bare, Opens, slot, dir, file}
use Rattle.dht_brick.specs.Outcome.{Do}
use Rattle.dht_brick.specs.Parts.{is_copy, is_dir}
use Rattle.dht_brick.specs.declared.replies.Given.{Given}
use Rattle.dht_brick.specs.declared.replies.Reply.{Reply}
use Rattle.dht_brick.specs.declared.replies.Reply.TheVariants.{Ok as Carried}
use Rattle.dht_brick.specs.declared.requests.NameRequest.TheVariants.{SetLayout}
use Rattle.dht_brick.specs.declared.requests.Request.TheVariants.{OnNames}
use Rattle.dht_section.specs.declared.machine.Ask.{Ask}
use Rattle.dht_section.specs.Dirs.{DirInvariant}
use Rattle.dht_section.specs.Disk.{file_in, slot_at, file_at, dir_at, range_of, range_at, holder_of}
use Rattle.dht_section.specs.Early.{Early, IsPlain}
use Rattle.dht_section.specs.Invariant.{Things, Used, most_hops}
use Rattle.dht_section.specs.Moves.{Guarantee, outcome_of, step_of, tree_by}
use Rattle.dht_section.specs.Names.{StandsAs}
use Rattle.dht_section.specs.Permits.{IsPlannedAt}
use Rattle.dht_section.specs.Planned.{bounds, AllPlanned}
use Rattle.dht_section.specs.Rely.{IsFileUsed, outline}
use Rattle.dht_section.specs.Scene.{Scene, Sound, HoldsAlone, NameStands}
use Rattle.dht_section.specs.Shapes.{NameShape, Folder, NameFits}
use Rattle.dht_section.specs.Views.{core, cores_of, links_to, view_of, dir_view}
use Rattle.dht_section.proofs.EarlyLaws.{nat_cases}
use Rattle.dht_invariant.specs.Laws.{Preserves}
use Rattle.dht_invariant.specs.Locality.{NoHold, ALock, ARegistration, ASeal, NamesFile, ByFileRecord, ByFileName, ByRegistration, BySeal, NamesLock, DirClause}
use Rattle.dht_invariant.specs.Touches.{Touches, Same}
use Rattle.dht_invariant.proofs.Basics.{gfid_cases, other_some}
use Rattle.dht_invariant.proofs.ClauseLocality.{reach_of, answers_leave_others}
use Rattle.dht_invariant.proofs.DirLaws.{SameAt, same_at, dir_remains}
use Rattle.dht_invariant.proofs.DirRows.{RangeSet, StoresOnly, range_set, stores_only}
use Rattle.dht_invariant.proofs.EarlyLaws.{HasNone}
use Rattle.dht_invariant.proofs.Frames.{brick_by, brick_is, kept_by, used_kept}
use Rattle.dht_invariant.proofs.GrowsLaws.{grows_refl}
use Rattle.dht_invariant.proofs.LayoutLaws.{layout_same}
use Rattle.dht_invariant.proofs.NoMoreLaws.{file_used_kept, sealed_kept}
use Rattle.dht_invariant.proofs.PlannedLaws.{holder_planned}
use Rattle.dht_invariant.proofs.ServedLaws.{WasDone, WasNot, came, others_hold}
use Rattle.dht_invariant.proofs.UndoneKeeps.{undone_leaves}

module _ (s t : Scene) (b : BrickNo) (d : Gfid) (value : Option (List ℕ)) (r : Reply) (m : Guarantee s (record { brick = b; request = OnNames (SetLayout d value) }) r t) (sound : Sound s) (there : b.0 < s.disk.count) (alone : HoldsAlone s d) (plan : IsPlannedAt s b.0 d value) (gives : Given) (real : m.real ≡ Carried gives) (done : outcome_of s (record { brick = b; request = OnNames (SetLayout d value) }) ≡ Do gives m.new) where
  abbrev ask : Ask
  ask = record { brick = b; request = OnNames (SetLayout d value) }

  abbrev bricks : List (List ℕ)
  bricks = replay_names (length s.history.weights)

  row : RangeSet d value (s.disk.brick b.0) m.new
  row = range_set bricks d value (s.disk.brick b.0) m.new gives done

  rest : StoresOnly (SetLayout d value) (s.disk.brick b.0) m.new
  rest = stores_only bricks (SetLayout d value) (s.disk.brick b.0) m.new gives done

  tree : t.history.tree ≡ s.history.tree
  tree = m.tree ∙ ap (λ (x : Reply). tree_by (step_of b.0 (OnNames (SetLayout d value)) x) s.history.tree) real

  stays : {X : Type 0} (g : Contents → X) → g m.new ≡ g (s.disk.brick b.0) → (i : ℕ) → g (t.disk.brick i) ≡ g (s.disk.brick i)
  stays g same i = kept_by g s.disk t.disk b.0 m.new m.disk same i

  slots_stay : (i : ℕ) (x : Entry) → slot_at t.disk i x ≡ slot_at s.disk i x
  slots_stay i x = stays (λ (c : Contents). slot c.store x) (ap (λ o. unwrap_or o bare) (rest.only.slots x (λ k. let z : None ≡ Some x = k in cc) (λ k. let z : None ≡ Some x.0 = k in cc))) i

  files_stay : (i : ℕ) (f : Gfid) → file_at t.disk i f ≡ file_at s.disk i f
  files_stay i f = stays (λ (c : Contents). file c.store f) (rest.only.files f (λ k. let z : None ≡ Some f = k in cc)) i

  opens_stay : (i : ℕ) → (t.disk.brick i).opens ≡ (s.disk.brick i).opens
  opens_stay i = stays (λ (c : Contents). c.opens) rest.opens i

  off : (i : ℕ) → i ≢ b.0 → t.disk.brick i ≡ s.disk.brick i
  off i ne = brick_by (λ (c : Contents). c ≡ s.disk.brick i) s.disk t.disk b.0 m.new i m.disk (λ e. absurd (ne e)) (λ x. refl)

  within_count : (i : ℕ) → i < t.disk.count → i < s.disk.count
  within_count i l = subst (λ (n : ℕ). i < n) m.disk.count l

  -- ---- copies
  abbrev laid : DirRecord
  laid = record row.old { value = value }

  laid_at : dir_at t.disk b.0 d ≡ Some laid
  laid_at = ap (λ (c : Contents). dir c.store d) (brick_is s.disk t.disk b.0 m.new m.disk) ∙ row.copy

  dirs_stay : (g : Gfid) → g ≢ d → (i : ℕ) → dir_at t.disk i g ≡ dir_at s.disk i g
  dirs_stay g ne i = stays (λ (c : Contents). dir c.store g) (rest.only.dirs g (other_some d g ne)) i

  -- a copy is as it was, or it is the one that was laid out
  record IsLaid (i : ℕ) (g : Gfid) : Type 0 where
    brick : i ≡ b.0
    directory : g ≡ d
    before : dir_at s.disk i g ≡ Some row.old
    after : dir_at t.disk i g ≡ Some laid

  copies : (i : ℕ) (g : Gfid) → (dir_at t.disk i g ≡ dir_at s.disk i g) ⊎ IsLaid i g
  copies i g = elim (gfid_cases g d) [
    | inl q ↦ elim (nat_cases i b.0) [
      | inl z ↦ inr (record {
        brick = z;
        directory = q;
        before = ap (λ (j : ℕ). dir_at s.disk j g) z ∙ (ap (dir_at s.disk b.0) q ∙ row.there);
        after = ap (λ (j : ℕ). dir_at t.disk j g) z ∙ (ap (dir_at t.disk b.0) q ∙ laid_at);
      })
      | inr ne ↦ inl (ap (λ (c : Contents). dir c.store g) (off i ne))
    ]
    | inr ne ↦ inl (dirs_stay g ne i)
  ]

  copied : (i : ℕ) (g : Gfid) → is_some (dir_at t.disk i g) ≡ is_some (dir_at s.disk i g)
  copied i g = elim (copies i g) [
    | inl q ↦ ap is_some q
    | inr q ↦ ap is_some q.after ∙ sym (ap is_some q.before)
  ]

  depths_stay : (i : ℕ) (g : Gfid) → option_map (λ (x : DirRecord). x.depth) (dir_at t.disk i g) ≡ option_map (λ (x : DirRecord). x.depth) (dir_at s.disk i g)
  depths_stay i g = elim (copies i g) [
    | inl q ↦ ap (option_map (λ (x : DirRecord). x.depth)) q
    | inr q ↦ ap (option_map (λ (x : DirRecord). x.depth)) q.after ∙ sym (ap (option_map (λ (x : DirRecord). x.depth)) q.before)
  ]

  remains : (i : ℕ) (g : Gfid) → SameAt (dir_at s.disk i g) (dir_at t.disk i g)
  remains i g = elim (copies i g) [
    | inl q ↦ subst (SameAt (dir_at s.disk i g)) (sym q) (same_at (dir_at s.disk i g))
    | inr q ↦ subst (λ (o : Option DirRecord). SameAt o (dir_at t.disk i g)) (sym q.before) (subst (SameAt (Some row.old)) (sym q.after) (record { place = refl; depth = refl }))
  ]

  dirs_now : (g : Gfid) → DirClause t.disk t.history.tree g
  dirs_now g =
      let old = dir_remains s.disk.count g (dir_view s.disk g) (dir_view t.disk g) (record {
        copies = λ i l. remains i g;
        home = copied (home g) g;
        mains = λ i x l. ap (λ (p : Slot). is_dir g p.main) (slots_stay i x);
        above = λ i n k l main depth. depths_stay i k.dir ∙ depth;
      }) (s.history.tree.dirs g) (s.history.tree.descents g) (sound.kept.things.dirs g) in
      subst (λ (u : Tree). DirClause t.disk u g) (sym tree) (subst (λ (n : ℕ). DirInvariant n g (dir_view t.disk g) (s.history.tree.dirs g) (s.history.tree.descents g)) (sym m.disk.count) old)

  -- ---- nothing else is named
  no_file : (f : Gfid) → NamesFile (reach_of s ask) b.0 s.disk t.disk f → ⊥
  no_file f (ByFileRecord k) = let z : None ≡ Some f = k in cc
  no_file f (ByFileName x k z) = let y : None ≡ Some x = k in cc
  no_file f (ByRegistration x k z) = let y : NoHold ≡ ARegistration x = k in cc
  no_file f (BySeal k) = let y : NoHold ≡ ASeal f = k in cc

  no_lock : (i : ℕ) (key : Key) → NamesLock (reach_of s ask) b.0 i key → ⊥
  no_lock i key h = let z : NoHold ≡ ALock key h.client = h.hold in cc

  things : Things t.disk t.history.tree (most_hops t.history) t.claims
  things =
      let others = answers_leave_others s t ask r m in
      let k = sound.kept.things in
      subst (Things t.disk t.history.tree (most_hops t.history)) (sym m.claims) (record {
        names = λ x. others.names x (λ q. let z : None ≡ Some x = q in cc) (k.names x);
        files = λ f. others.files f (no_file f) (k.files f);
        dirs = dirs_now;
        locks = λ i key l. others.locks i key (no_lock i key) (k.locks i key (within_count i l));
        housed = λ x i l ne. copied i x.0 ∙ k.housed x i (within_count i l) (λ q. ne (slots_stay i x ∙ q));
        roots = λ i l. copied i root ∙ k.roots i (within_count i l);
      })

  -- ---- ranges
  laid_range : range_of (Some laid) ≡ slice_index_or (planned s.history.weights d) b.0 None
  laid_range = plan

  planned_on : (g : Gfid) → AllPlanned s.disk s.history.weights g → AllPlanned t.disk s.history.weights g
  planned_on g all i x l h = elim (copies i g) [
    | inl q ↦ all i x (within_count i l) (sym q ∙ h)
    | inr q ↦ inr (ap bounds (ap range_of (sym h ∙ q.after) ∙ (laid_range
        ∙ (ap (λ (j : ℕ). slice_index_or (planned s.history.weights d) j None) (sym q.brick) ∙ ap (λ (y : Gfid). slice_index_or (planned s.history.weights y) i None) (sym q.directory)))))
  ]

  planned_now : (g : Gfid) → AllPlanned s.disk s.history.weights g → AllPlanned t.disk t.history.weights g
  planned_now g all = subst (λ (ws : List ℕ). AllPlanned t.disk ws g) (sym m.weights) (planned_on g all)

  -- so who holds a name holds it still
  ranges_off : (g : Gfid) (i : ℕ) → i ≢ b.0 → range_at t.disk g i ≡ range_at s.disk g i
  ranges_off g i ne = ap (λ (c : Contents). range_of (dir c.store g)) (off i ne)

  holds_on : (x : Entry) (i : ℕ) → AllPlanned s.disk s.history.weights x.0 → holder_of s.disk x ≡ Some i → holder_of t.disk x ≡ Some i
  holds_on x i all held = elim (gfid_cases x.0 d) [
    | inl q ↦ holder_planned s.disk t.disk s.history.weights x.0 b.0 (dm x.1) sound.kept.heavy sound.kept.counted (dm_below x.1) m.disk.count there (ranges_off x.0) all
        (inl (ap bounds (ap (λ (y : Gfid). range_at t.disk y b.0) q ∙ (ap range_of laid_at ∙ (laid_range ∙ ap (λ (y : Gfid). slice_index_or (planned s.history.weights y) b.0 None) (sym q)))))) i held
    | inr ne ↦ ap (λ ranges. holder ranges (dm x.1)) (layout_same s.disk t.disk x.0 m.disk.count (λ j. ap range_of (dirs_stay x.0 ne j))) ∙ held
  ]

  -- ---- what is used, and what holds for now
  used_before : (g : Gfid) → Used t.disk t.history.tree g → Used s.disk s.history.tree g
  used_before g = used_kept t.disk s.disk t.history.tree s.history.tree g (sym m.disk.count)
      (λ k none. k (ap (λ (u : Tree). u.bytes g) tree ∙ none))
      (λ k. ap (λ (u : Tree). u.dirs g) (sym tree) ∙ k)
      (λ k none. k (ap (λ (u : Tree). u.descents g) tree ∙ none))
      (λ i k. ap is_some (sym (files_stay i g)) ∙ k)
      (λ i k. sym (copied i g) ∙ k)
      (sym (sealed_kept s.disk t.disk g m.disk.count opens_stay))

  early : Early t.disk t.history
  early = (let k = sound.early in record {
    plain = λ x i l. subst IsPlain (sym (slots_stay i x)) (k.plain x i (within_count i l));
    unmoved = λ f i o l h. k.unmoved f i o (within_count i l) (sym (files_stay i f) ∙ h);
    unopened = λ i o l. ap (λ (x : Opens). contains_key x.registered o) (opens_stay i) ∙ k.unopened i o (within_count i l);
    planned = λ g first. planned_now g (k.planned g (sym m.run ∙ first));
    held = λ x i f first l h. holds_on x i (k.planned x.0 (sym m.run ∙ first)) (k.held x i f (sym m.run ∙ first) (within_count i l) (sym (ap file_in (slots_stay i x)) ∙ h));
    unlinked = λ x i first l. subst HasNone (sym (slots_stay i x)) (k.unlinked x i (sym m.run ∙ first) (within_count i l));
    earlier = λ g u. subst (λ (n : ℕ). run_of g ≤ n) (sym m.run) (k.earlier g (used_before g u));
  })

  -- ---- what it is to others
  stands_on : (x : Entry) (h : NameShape) → NameStands s x h → StandsAs t.disk.count (cores_of t.disk x) (t.history.tree.names x) h
  stands_on x h st = record {
    fits = subst (λ (n : ℕ). NameFits n h) (sym m.disk.count) st.fits;
    has = λ i l. ap core (slots_stay i x) ∙ st.has i (within_count i l);
    node = ap (λ (u : Tree). u.names x) tree ∙ st.node;
  }

  sealed_on : (f : Gfid) → (view_of s.disk f).sealed ≡ true → (view_of t.disk f).sealed ≡ true
  sealed_on f h = sealed_kept s.disk t.disk f m.disk.count opens_stay ∙ h

  used_on : (f : Gfid) → IsFileUsed s.disk s.history.tree f → IsFileUsed t.disk t.history.tree f
  used_on f = file_used_kept s.disk t.disk s.history.tree t.history.tree f m.disk.count (ap (λ (u : Tree). u.bytes f) tree) (λ i. files_stay i f) (sealed_on f)

  touches : Touches s t.disk t.history.tree
  touches = record {
    count = m.disk.count;
    locks = λ c i key ne. others_hold s t ask r m i key c ne;
    names = λ x h st. inr (h, grows_refl h, stands_on x h st);
    slots = λ x i same. inr (slots_stay i x);
    outlines = λ i f l. inr (ap outline (files_stay i f));
    dirs = λ g i. elim (gfid_cases g d) [
      | inl q ↦ inl (subst (HoldsAlone s) (sym q) alone)
      | inr ne ↦ inr (Same (dirs_stay g ne i))
    ];
    both = λ x g on st. inr (inr (stands_on x (Folder g on) st));
    known = λ g h. inr (ap (λ (u : Tree). u.dirs g) tree ∙ h);
    planned = planned_on;
    made = λ g x h. ap (λ (u : Tree). u.descents g) tree ∙ h;
    used = used_on;
    sealed = sealed_on;
    nameless = λ f h. record {
      used = used_on f h.used;
      links = λ i x l. ap (links_to f) (slots_stay i x) ∙ h.links i x (within_count i l);
      copies = λ i x l. ap (λ (p : Slot). is_copy f p.standby) (slots_stay i x) ∙ h.copies i x (within_count i l);
    };
  }

  pub layout_leaves : Preserves s t
  layout_leaves = record { things = things; early = early; used = used_before; touches = touches }

-- so it does, however it was answered
pub layouts_keep :
    (s t : Scene) (b : BrickNo) (d : Gfid) (value : Option (List ℕ)) (r : Reply)
    → b.0 < s.disk.count → HoldsAlone s d × IsPlannedAt s b.0 d value
    → Guarantee s (record { brick = b; request = OnNames (SetLayout d value) }) r t → Sound s
    → Preserves s t
layouts_keep s t b d value r there may m sound = elim (came b.0 (OnNames (SetLayout d value)) (outcome_of s (record { brick = b; request = OnNames (SetLayout d value) })) (s.disk.brick b.0) m.real m.new m.served) [
  | WasDone gives real done ↦ layout_leaves s t b d value r m sound there may.0 may.1 gives real done
  | WasNot step same ↦ undone_leaves s t (record { brick = b; request = OnNames (SetLayout d value) }) r m sound step same
]
