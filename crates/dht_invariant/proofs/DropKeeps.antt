-- A drop that is carried out keeps the clauses: the live record
-- of a sealed, nameless file goes, and nothing else changes.
use Rattle.std.proofs.Common.{◌≡◌, ◌≢◌, ◌<◌, ℕ, true, false, List, refl, sym, ap, ◌∙◌, subst, inl, inr, length, arith}
use Rattle.std.specs.Prelude.{Some, None}
use Rattle.dht_types.specs.Gfid.{Entry}
use Rattle.dht_types.specs.Tree.{Tree}
use Rattle.dht_types.specs.Volume.{replay_names}
use Rattle.dht_types.specs.declared.identifiers.BrickNo.{BrickNo}
use Rattle.dht_types.specs.declared.identifiers.Gfid.{Gfid}
use Rattle.dht_types.specs.declared.locks.Key.{Key}
use Rattle.dht_types.specs.declared.stored.Record.TheVariants as stored
use Rattle.dht_types.specs.declared.stored.Slot.{Slot}
use Rattle.dht_brick.proofs.DropLaws.{Drops, drops}
use Rattle.dht_brick.proofs.MapLemmas.{get-remove_here}
use Rattle.dht_brick.proofs.TableLemmas.{gfid_total}
use Rattle.dht_brick.specs.Contents.{Contents, Store, Opens, slot, dir, file}
use Rattle.dht_brick.specs.FileRows.{file_row}
use Rattle.dht_brick.specs.OpenRows.{registrations}
use Rattle.dht_brick.specs.Outcome.{Do}
use Rattle.dht_brick.specs.Parts.{is_copy, without_file}
use Rattle.dht_brick.specs.Rows.{with_store}
use Rattle.dht_brick.specs.declared.replies.Given.{Given}
use Rattle.dht_brick.specs.declared.replies.Reply.{Reply}
use Rattle.dht_brick.specs.declared.replies.Reply.TheVariants.{Ok as Carried}
use Rattle.dht_brick.specs.declared.requests.FileRequest.TheVariants.{Drop}
use Rattle.dht_brick.specs.declared.requests.Request.TheVariants.{OnFile}
use Rattle.dht_section.specs.declared.machine.Ask.{Ask}
use Rattle.dht_section.specs.Disk.{slot_at, file_at, dir_at}
use Rattle.dht_section.specs.Invariant.{Used, most_hops}
use Rattle.dht_section.specs.Moves.{Guarantee, outcome_of, step_of, tree_by}
use Rattle.dht_section.specs.Rely.{IsFileUsed, IsNameless, BySeal}
use Rattle.dht_section.specs.Scene.{Scene, Sound}
use Rattle.dht_section.specs.Shapes.{Gone, body, record_at}
use Rattle.dht_section.specs.Views.{links_to, view_of}
use Rattle.dht_invariant.specs.Laws.{Preserves}
use Rattle.dht_invariant.specs.Locality.{NoHold, ALock, ARegistration, ASeal, NamesFile, ByFileRecord, ByFileName, ByRegistration, BySeal as BySealed, NamesLock, FileClause}
use Rattle.dht_invariant.specs.Touches.{OwnsFile}
use Rattle.dht_invariant.proofs.Basics.{gfid_cases, other_some, true_false}
use Rattle.dht_section.proofs.EarlyLaws.{nat_cases, here_off}
use Rattle.dht_invariant.proofs.ClauseLocality.{reach_of, answer_changes}
use Rattle.dht_invariant.proofs.Frames.{brick_by, brick_is, kept_by}
use Rattle.dht_invariant.proofs.NoMoreLaws.{StoresNoMore, early_no_more, used_no_more, file_used_kept, sealed_kept, opened_kept, taken_touches, no_dir_named, no_node_named, things_no_more}
use Rattle.dht_invariant.proofs.ServedLaws.{within_done, others_hold}
use Rattle.dht_invariant.proofs.ShapeLaws.{live_is, live_shape}

module _ (s t : Scene) (b : BrickNo) (f : Gfid) (r : Reply) (m : Guarantee s (record { brick = b; request = OnFile (Drop f) }) r t) (sound : Sound s) (there : b.0 < s.disk.count) (is_sealed : (view_of s.disk f).sealed ≡ true) (none : IsNameless s.disk s.history.tree f) (gives : Given) (real : m.real ≡ Carried gives) (done : outcome_of s (record { brick = b; request = OnFile (Drop f) }) ≡ Do gives m.new) where
  abbrev ask : Ask
  ask = record { brick = b; request = OnFile (Drop f) }

  abbrev bricks : List (List ℕ)
  bricks = replay_names (length s.history.weights)

  left : (store : Store) × (file_row bricks (Drop f) (s.disk.brick b.0).store ≡ Do gives store) × (m.new ≡ with_store (s.disk.brick b.0) store)
  left = within_done (with_store (s.disk.brick b.0)) (file_row bricks (Drop f) (s.disk.brick b.0).store) gives m.new done

  row : Drops (s.disk.brick b.0).store f (file_at s.disk b.0 f) left.0
  row = drops bricks (s.disk.brick b.0).store f gives left.0 left.1

  store_now : m.new.store ≡ without_file (s.disk.brick b.0).store f
  store_now = ap (λ (c : Contents). c.store) left.2 ∙ row.store

  tree : t.history.tree ≡ s.history.tree
  tree = m.tree ∙ ap (λ (x : Reply). tree_by (step_of b.0 (OnFile (Drop f)) x) s.history.tree) real

  stays : {X : Type 0} (g : Contents → X) → g m.new ≡ g (s.disk.brick b.0) → (i : ℕ) → g (t.disk.brick i) ≡ g (s.disk.brick i)
  stays g same i = kept_by g s.disk t.disk b.0 m.new m.disk same i

  slots_stay : (i : ℕ) (x : Entry) → slot_at t.disk i x ≡ slot_at s.disk i x
  slots_stay i x = stays (λ (c : Contents). slot c.store x) (ap (λ (y : Store). slot y x) store_now) i

  dirs_stay : (i : ℕ) (g : Gfid) → dir_at t.disk i g ≡ dir_at s.disk i g
  dirs_stay i g = stays (λ (c : Contents). dir c.store g) (ap (λ (y : Store). dir y g) store_now) i

  files_stay : (g : Gfid) → g ≢ f → (i : ℕ) → file_at t.disk i g ≡ file_at s.disk i g
  files_stay g ne i = stays (λ (c : Contents). file c.store g) ((answer_changes s t ask r m).store.files g (other_some f g ne)) i

  opens_stay : (i : ℕ) → (t.disk.brick i).opens ≡ (s.disk.brick i).opens
  opens_stay i = stays (λ (c : Contents). c.opens) (ap (λ (c : Contents). c.opens) left.2) i

  gone : file_at t.disk b.0 f ≡ None
  gone = ap (λ (c : Contents). file c.store f) (brick_is s.disk t.disk b.0 m.new m.disk) ∙ (ap (λ (y : Store). file y f) store_now ∙ get-remove_here gfid_total (s.disk.brick b.0).store.files f)

  file_off : (i : ℕ) → i ≢ b.0 → file_at t.disk i f ≡ file_at s.disk i f
  file_off i ne = brick_by (λ c. file c.store f ≡ file_at s.disk i f) s.disk t.disk b.0 m.new i m.disk (λ e. absurd (ne e)) (λ e. refl)

  stores : StoresNoMore s.disk t.disk
  stores = record {
    count = m.disk.count;
    slots = λ i x. inl (slots_stay i x);
    files = λ i g. elim (gfid_cases g f) [
      | inl q ↦ elim (nat_cases i b.0) [
        | inl z ↦ inr (ap (λ (j : ℕ). file_at t.disk j g) z ∙ (ap (file_at t.disk b.0) q ∙ gone))
        | inr ne ↦ inl (ap (file_at t.disk i) q ∙ (file_off i ne ∙ ap (file_at s.disk i) (sym q)))
      ]
      | inr ne ↦ inl (files_stay g ne i)
    ];
    dirs = dirs_stay;
  }

  sealed_same : (g : Gfid) → (view_of t.disk g).sealed ≡ (view_of s.disk g).sealed
  sealed_same g = sealed_kept s.disk t.disk g m.disk.count opens_stay

  within_count : (i : ℕ) → i < t.disk.count → i < s.disk.count
  within_count i l = subst (λ (n : ℕ). i < n) m.disk.count l

  -- ---- no brick has bytes of the file now
  not_open : (view_of t.disk f).opened ≡ 0
  not_open = opened_kept s.disk t.disk f m.disk.count (λ i. ap (λ (o : Opens). registrations o f) (opens_stay i)) ∙ ((sound.kept.things.files f).sealed is_sealed).2

  no_link : (i : ℕ) (x : Entry) → i < t.disk.count → links_to f (slot_at t.disk i x) ≡ false
  no_link i x l = ap (links_to f) (slots_stay i x) ∙ none.links i x (within_count i l)

  no_copy : (i : ℕ) (x : Entry) → i < t.disk.count → is_copy f (slot_at t.disk i x).standby ≡ false
  no_copy i x l = ap (λ (p : Slot). is_copy f p.standby) (slots_stay i x) ∙ none.copies i x (within_count i l)

  no_body : (i : ℕ) → i < t.disk.count → body (file_at t.disk i f) ≡ None
  no_body i l = elim (nat_cases i b.0) [
    | inl z ↦ ap (λ (j : ℕ). body (file_at t.disk j f)) z ∙ ap body gone
    | inr ne ↦
        let was = sound.kept.things.files f in
        let x = live_is (file_at s.disk b.0 f) row.live in
        let shape = live_shape was.shape b.0 x.0 x.1 (sym (was.records.has b.0 there) ∙ ap body x.2) in
        ap body (file_off i ne) ∙ (was.records.has i (within_count i l) ∙ (ap (λ h. record_at h i) shape.2 ∙ here_off (Some (stored.Live shape.0 shape.1)) b.0 i ne))
  ]

  file_now : FileClause t.disk t.history.tree (most_hops t.history) s.claims f
  file_now = record {
    shape = Gone;
    records = record { fits = tt; has = no_body };
    low = λ k e. absurd (let z : None ≡ Some k = e in cc);
    linked = λ i x l h. absurd (true_false (links_to f (slot_at t.disk i x)) h (no_link i x l));
    names = no_copy;
    points = λ i k n x l q e. absurd (let z : None ≡ Some n = e in cc);
    sealed = λ h. (no_link, no_copy, not_open);
    truth = λ h. absurd (elim h.3 [
      | inl z ↦ true_false (links_to f (slot_at t.disk h.0 h.1)) z (no_link h.0 h.1 h.2)
      | inr z ↦ true_false (is_copy f (slot_at t.disk h.0 h.1).standby) z (no_copy h.0 h.1 h.2)
    ]);
    opened = λ h. absurd (let z = not_open in omega arith);
    kept = λ bytes shown e q. absurd (let z : None ≡ Some shown = q in cc);
  }

  -- ---- nothing else is named
  other_file : (g : Gfid) → g ≢ f → NamesFile (reach_of s ask) b.0 s.disk t.disk g → ⊥
  other_file g ne (ByFileRecord k) = other_some f g ne k
  other_file g ne (ByFileName x k z) = let y : None ≡ Some x = k in cc
  other_file g ne (ByRegistration x k z) = let y : NoHold ≡ ARegistration x = k in cc
  other_file g ne (BySealed k) = let y : NoHold ≡ ASeal g = k in cc

  no_lock : (i : ℕ) (key : Key) → NamesLock (reach_of s ask) b.0 i key → ⊥
  no_lock i key h = let z : NoHold ≡ ALock key h.client = h.hold in cc

  -- no name is its, so each is guarded
  owns : OwnsFile s f
  owns x i l h = absurd (true_false (links_to f (slot_at s.disk i x)) h (none.links i x l))

  used_after : (g : Gfid) → IsFileUsed s.disk s.history.tree g → IsFileUsed t.disk t.history.tree g
  used_after g h = elim (gfid_cases g f) [
    | inl q ↦ subst (IsFileUsed t.disk t.history.tree) (sym q) (BySeal (sealed_same f ∙ is_sealed))
    | inr ne ↦ file_used_kept s.disk t.disk s.history.tree t.history.tree g m.disk.count (ap (λ (u : Tree). u.bytes g) tree) (files_stay g ne) (λ z. sealed_same g ∙ z) h
  ]

  used_before : (g : Gfid) → Used t.disk t.history.tree g → Used s.disk s.history.tree g
  used_before g = used_no_more s.disk t.disk stores s.history.tree t.history.tree g (ap (λ (u : Tree). u.bytes g) tree) (ap (λ (u : Tree). u.dirs g) tree) (ap (λ (u : Tree). u.descents g) tree) (sealed_same g)

  pub drop_leaves : Preserves s t
  drop_leaves = record {
    things = things_no_more s t ask r m stores
        (λ x. inl (λ k. let z : None ≡ Some x = k in cc))
        (λ g. elim (gfid_cases g f) [
          | inl q ↦ inr (subst (FileClause t.disk t.history.tree (most_hops t.history) s.claims) (sym q) file_now)
          | inr ne ↦ inl (other_file g ne)
        ])
        (λ g. (no_dir_named (reach_of s ask) b.0 s.disk t.disk refl refl refl g, no_node_named (reach_of s ask) s.history.tree refl g)) no_lock sound.kept.things;
    early = early_no_more s.disk t.disk stores s.history t.history m.run m.weights (λ i. ap (λ (o : Opens). o.registered) (opens_stay i)) used_before sound.early;
    used = used_before;
    touches = taken_touches s t.disk t.history.tree (record {
      stores = stores;
      locks = λ c i key ne. others_hold s t ask r m i key c ne;
      names = λ x. inr (ap (λ (u : Tree). u.names x) tree, λ i. slots_stay i x);
      files = λ g. elim (gfid_cases g f) [
        | inl q ↦ inl (subst (OwnsFile s) (sym q) owns)
        | inr ne ↦ inr (files_stay g ne)
      ];
      dirs = λ g. ap (λ (u : Tree). u.dirs g) tree;
      descents = λ g. ap (λ (u : Tree). u.descents g) tree;
      used = used_after;
      sealed = λ g h. sealed_same g ∙ h;
    });
  }
