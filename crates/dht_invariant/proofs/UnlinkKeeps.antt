-- An unlink that is carried out keeps the clauses: its guarded name
-- is bare, its file has a name less, and nothing else changes.
use Rattle.std.proofs.Common.{◌≡◌, ◌≢◌, ◌<◌, ℕ, Bool, true, false, List, refl, sym, ap, ◌∙◌, subst, inl, inr}
use Rattle.std.specs.Prelude.{Option, Some, None, ◌&&◌, ◌||◌, unwrap_or}
use Rattle.dht_types.proofs.PutLaws.{put_same, put_other, exact_entry, exact_gfid}
use Rattle.dht_types.specs.Put.{same_entry}
use Rattle.dht_types.specs.Gfid.{Entry, same_gfid}
use Rattle.dht_types.specs.Tree.{Tree, IsFile, IsDir, applied}
use Rattle.dht_types.specs.declared.calls.TreeStep.TheVariants.{RemoveFile}
use Rattle.dht_types.specs.declared.identifiers.BrickNo.{BrickNo}
use Rattle.dht_types.specs.declared.identifiers.Gfid.{Gfid}
use Rattle.dht_types.specs.declared.locks.Key.{Key}
use Rattle.dht_types.specs.declared.stored.DirRecord.{DirRecord}
use Rattle.dht_types.specs.declared.stored.Main.{Main}
use Rattle.dht_types.specs.declared.stored.Main.TheVariants.{File}
use Rattle.dht_types.specs.declared.stored.Slot.{Slot}
use Rattle.dht_types.specs.declared.stored.Standby.{Standby}
use Rattle.dht_brick.specs.Contents.{Contents, Store, Opens, bare, slot, dir, file}
use Rattle.dht_brick.specs.NameRows.{on_slot, when}
use Rattle.dht_brick.specs.OpenRows.{registrations}
use Rattle.dht_brick.specs.Outcome.{Outcome, Do, Refuse, in_dir, within, left_by}
use Rattle.dht_brick.specs.Parts.{is_copy, is_dir, is_live, is_plain, slot_shown, with_slot, without_main}
use Rattle.dht_brick.specs.Rows.{with_store}
use Rattle.dht_brick.specs.declared.replies.Given.{Given}
use Rattle.dht_brick.specs.declared.replies.Reply.{Reply}
use Rattle.dht_brick.specs.declared.replies.Reply.TheVariants.{Ok as Carried}
use Rattle.dht_brick.specs.declared.replies.Why.TheVariants as why
use Rattle.dht_brick.specs.declared.requests.NameRequest.TheVariants.{Unlink}
use Rattle.dht_brick.specs.declared.requests.Request.TheVariants.{OnNames}
use Rattle.dht_section.specs.declared.machine.Ask.{Ask}
use Rattle.dht_section.specs.Claims.{places_of}
use Rattle.dht_section.specs.Disk.{slot_at, file_at, dir_at}
use Rattle.dht_section.specs.Invariant.{Used, most_hops}
use Rattle.dht_section.specs.Moves.{Guarantee, outcome_of, step_of, tree_by}
use Rattle.dht_section.specs.Permits.{Changes}
use Rattle.dht_section.specs.Scene.{Scene, Sound, Guards, NameStands}
use Rattle.dht_section.specs.Shapes.{Bare, Plain, body, core_at}
use Rattle.dht_section.specs.Truth.{plain}
use Rattle.dht_section.specs.Views.{core, links_to, view_of}
use Rattle.dht_invariant.specs.Laws.{Preserves}
use Rattle.dht_invariant.specs.Locality.{NoHold, ALock, ARegistration, ASeal, NamesFile, ByFileRecord, ByFileName, ByRegistration, BySeal, IsNode, NamesDir, ByDirRecord, ByDirName, ByParent, NamesLock, NameClause, FileClause, is_of}
use Rattle.dht_invariant.proofs.Basics.{gfid_cases, other_some, both_true, true_false, not_true}
use Rattle.dht_section.proofs.EarlyLaws.{nat_cases, here_at, here_off}
use Rattle.dht_section.proofs.SlotLaws.{slot_put, entry_cases}
use Rattle.dht_invariant.proofs.ClauseLocality.{reach_of, answer_changes, hops_grow}
use Rattle.dht_invariant.proofs.Frames.{brick_by, brick_is, kept_by, links_core, dir_core, file_kept}
use Rattle.dht_invariant.proofs.LessLaws.{file_unlinked}
use Rattle.dht_invariant.proofs.NoMoreLaws.{StoresNoMore, early_no_more, used_no_more, file_used_kept, sealed_kept, opened_kept, taken_touches, things_no_more}
use Rattle.dht_invariant.proofs.QuietKeeps.{at_most}
use Rattle.dht_invariant.proofs.ServedLaws.{others_hold}
use Rattle.dht_invariant.proofs.ShapeLaws.{live_is, live_shape}

-- what the row leaves where it is carried out
record Leaves (x : Entry) (f : Gfid) (c new : Contents) : Type 0 where
  live : is_live (file c.store f) ≡ true
  store : new.store ≡ with_slot c.store x (without_main (slot c.store x))
  opens : new.opens ≡ c.opens

-- what an unlink comes to, where its directory is there,
-- and its slot and its file are as it wants them, or not
abbrev unlinked : Gfid → List ℕ → Gfid → Contents → Option DirRecord → Bool → Outcome Contents
unlinked d n f c o v = within (with_store c) (in_dir o (λ r. on_slot (Unlink d n f) c.store (d, n) (when v (without_main (slot c.store (d, n))))))

left :
    (d : Gfid) (n : List ℕ) (f : Gfid) (c new : Contents) (gives : Given) (o : Option DirRecord)
    (v : Bool)
    → (is_plain f (slot c.store (d, n)).main && is_live (file c.store f)) ≡ v
    → unlinked d n f c o v ≡ Do gives new → Leaves (d, n) f c new
left d n f c new gives None v e done = absurd (let z : Refuse why.Nodir ≡ Do gives new = done in cc)
left d n f c new gives (Some x) false e done = absurd (let z : Refuse (why.Slot (slot_shown (slot c.store (d, n)))) ≡ Do gives new = done in cc)
left d n f c new gives (Some x) true e done = record {
  live = (both_true (is_plain f (slot c.store (d, n)).main) (is_live (file c.store f)) e).1;
  store = ap (λ (y : Outcome Contents). (left_by y c).store) (sym done);
  opens = ap (λ (y : Outcome Contents). (left_by y c).opens) (sym done);
}

-- the slot of a plain name is its file's alone
core_plain : (b : ℕ) (f : Gfid) → core_at (Plain b f) b ≡ plain f
core_plain b f = ap (λ (o : Option Main). let p : Slot = record { main = o; standby = None } in p) (here_at (Some (File f None)) b)

core_off : (b : ℕ) (f : Gfid) (i : ℕ) → i ≢ b → core_at (Plain b f) i ≡ bare
core_off b f i ne = ap (λ (o : Option Main). let p : Slot = record { main = o; standby = None } in p) (here_off (Some (File f None)) b i ne)

module _ (s t : Scene) (b : BrickNo) (d : Gfid) (n : List ℕ) (f : Gfid) (r : Reply) (m : Guarantee s (record { brick = b; request = OnNames (Unlink d n f) }) r t) (sound : Sound s) (there : b.0 < s.disk.count) (may : Changes s b.0 (Unlink d n f)) (gives : Given) (real : m.real ≡ Carried gives) (done : outcome_of s (record { brick = b; request = OnNames (Unlink d n f) }) ≡ Do gives m.new) where
  abbrev ask : Ask
  ask = record { brick = b; request = OnNames (Unlink d n f) }

  abbrev name : Entry
  name = (d, n)

  row : Leaves (d, n) f (s.disk.brick b.0) m.new
  row = left d n f (s.disk.brick b.0) m.new gives (dir_at s.disk b.0 d) (is_plain f (slot_at s.disk b.0 (d, n)).main && is_live (file_at s.disk b.0 f)) refl done

  stands : NameStands s (d, n) (Plain b.0 f)
  stands = subst (NameStands s (d, n)) may.takes.0 may.stands

  tree : t.history.tree ≡ applied (RemoveFile d n) s.history.tree
  tree = m.tree ∙ ap (λ (x : Reply). tree_by (step_of b.0 (OnNames (Unlink d n f)) x) s.history.tree) real

  bytes_same : (g : Gfid) → t.history.tree.bytes g ≡ s.history.tree.bytes g
  bytes_same g = ap (λ (u : Tree). u.bytes g) tree

  dirs_same : (g : Gfid) → t.history.tree.dirs g ≡ s.history.tree.dirs g
  dirs_same g = ap (λ (u : Tree). u.dirs g) tree

  descents_same : (g : Gfid) → t.history.tree.descents g ≡ s.history.tree.descents g
  descents_same g = ap (λ (u : Tree). u.descents g) tree

  stays : {X : Type 0} (g : Contents → X) → g m.new ≡ g (s.disk.brick b.0) → (i : ℕ) → g (t.disk.brick i) ≡ g (s.disk.brick i)
  stays g same i = kept_by g s.disk t.disk b.0 m.new m.disk same i

  files_stay : (i : ℕ) (g : Gfid) → file_at t.disk i g ≡ file_at s.disk i g
  files_stay i g = stays (λ (c : Contents). file c.store g) (ap (λ (y : Store). file y g) row.store) i

  dirs_stay : (i : ℕ) (g : Gfid) → dir_at t.disk i g ≡ dir_at s.disk i g
  dirs_stay i g = stays (λ (c : Contents). dir c.store g) (ap (λ (y : Store). dir y g) row.store) i

  opens_stay : (i : ℕ) → (t.disk.brick i).opens ≡ (s.disk.brick i).opens
  opens_stay i = stays (λ (c : Contents). c.opens) row.opens i

  slots_stay : (x : Entry) → x ≢ name → (i : ℕ) → slot_at t.disk i x ≡ slot_at s.disk i x
  slots_stay x ne i = stays (λ (c : Contents). slot c.store x) (ap (λ o. unwrap_or o bare) ((answer_changes s t ask r m).store.slots x (other_some name x ne) (λ k. let z : None ≡ Some x.0 = k in cc))) i

  slot_off : (i : ℕ) (x : Entry) → i ≢ b.0 → slot_at t.disk i x ≡ slot_at s.disk i x
  slot_off i x ne = brick_by (λ c. slot c.store x ≡ slot_at s.disk i x) s.disk t.disk b.0 m.new i m.disk (λ e. absurd (ne e)) (λ e. refl)

  -- the name had no standby part
  slot_now : slot_at t.disk b.0 name ≡ bare
  slot_now =
      ap (λ (c : Contents). slot c.store name) (brick_is s.disk t.disk b.0 m.new m.disk)
      ∙ (ap (λ (y : Store). slot y name) row.store
      ∙ (slot_put (s.disk.brick b.0).store.slots name (without_main (slot_at s.disk b.0 name))
      ∙ ap (λ (o : Option Standby). let p : Slot = record { main = None; standby = o } in p) (ap (λ (p : Slot). p.standby) (stands.has b.0 there))))

  stores : StoresNoMore s.disk t.disk
  stores = record {
    count = m.disk.count;
    slots = λ i x. elim (entry_cases x name) [
      | inl q ↦ elim (nat_cases i b.0) [
        | inl z ↦ inr (ap (λ (j : ℕ). slot_at t.disk j x) z ∙ (ap (slot_at t.disk b.0) q ∙ slot_now))
        | inr ne ↦ inl (slot_off i x ne)
      ]
      | inr ne ↦ inl (slots_stay x ne i)
    ];
    files = λ i g. inl (files_stay i g);
    dirs = dirs_stay;
  }

  sealed_same : (g : Gfid) → (view_of t.disk g).sealed ≡ (view_of s.disk g).sealed
  sealed_same g = sealed_kept s.disk t.disk g m.disk.count opens_stay

  within_count : (i : ℕ) → i < t.disk.count → i < s.disk.count
  within_count i l = subst (λ (c : ℕ). i < c) m.disk.count l

  -- ---- the name is bare now
  name_now : NameClause t.disk t.history.tree name
  name_now = (
    Bare,
    record {
      fits = tt;
      has = λ i l. elim (nat_cases i b.0) [
        | inl z ↦ ap (λ (j : ℕ). core (slot_at t.disk j name)) z ∙ ap core slot_now
        | inr ne ↦ ap core (slot_off i name ne) ∙ (stands.has i (within_count i l) ∙ core_off b.0 f i ne)
      ];
      node = ap (λ (u : Tree). u.names name) tree ∙ put_same same_entry exact_entry s.history.tree.names name None;
    },
  )

  -- ---- the file has a name less
  fewer : (i : ℕ) (x : Entry) → i < s.disk.count → links_to f (slot_at t.disk i x) ≡ true → links_to f (slot_at s.disk i x) ≡ true
  fewer i x l h = elim (stores.slots i x) [
    | inl q ↦ ap (links_to f) (sym q) ∙ h
    | inr q ↦ absurd (true_false (links_to f (slot_at t.disk i x)) h (ap (links_to f) q))
  ]

  was_core : core (slot_at s.disk b.0 name) ≡ plain f
  was_core = stands.has b.0 there ∙ core_plain b.0 f

  copies_same : (g : Gfid) (i : ℕ) (x : Entry) → is_copy g (slot_at t.disk i x).standby ≡ is_copy g (slot_at s.disk i x).standby
  copies_same g i x = elim (entry_cases x name) [
    | inl q ↦ elim (nat_cases i b.0) [
      | inl z ↦ subst (λ (y : Entry). is_copy g (slot_at t.disk i y).standby ≡ is_copy g (slot_at s.disk i y).standby) (sym q)
          (subst (λ (j : ℕ). is_copy g (slot_at t.disk j name).standby ≡ is_copy g (slot_at s.disk j name).standby) (sym z)
          (ap (λ (p : Slot). is_copy g p.standby) slot_now ∙ sym (ap (λ (p : Slot). is_copy g p.standby) was_core)))
      | inr ne ↦ ap (λ (p : Slot). is_copy g p.standby) (slot_off i x ne)
    ]
    | inr ne ↦ ap (λ (p : Slot). is_copy g p.standby) (slots_stay x ne i)
  ]

  view_now : view_of t.disk f ≡ record (view_of s.disk f) { links = (view_of t.disk f).links; unmarked = (view_of t.disk f).unmarked }
  view_now =
      let opened = opened_kept s.disk t.disk f m.disk.count (λ i. ap (λ (o : Opens). registrations o f) (opens_stay i)) in
      λ j. record {
        records = λ i. files_stay i f j;
        links = (view_of t.disk f).links;
        unmarked = (view_of t.disk f).unmarked;
        copies = λ i x. copies_same f i x j;
        opened = opened j;
        sealed = sealed_same f j;
      }

  file_now : FileClause t.disk t.history.tree (most_hops t.history) s.claims f
  file_now =
      let was = sound.kept.things.files f in
      let x = live_is (file_at s.disk b.0 f) row.live in
      let shape = live_shape was.shape b.0 x.0 x.1 (sym (was.records.has b.0 there) ∙ ap body x.2) in
      file_kept s.disk.count t.disk.count (most_hops t.history) (most_hops t.history) (places_of s.claims f)
      (record (view_of s.disk f) { links = (view_of t.disk f).links; unmarked = (view_of t.disk f).unmarked }) (view_of t.disk f) (s.history.tree.bytes f) (t.history.tree.bytes f)
      m.disk.count view_now (bytes_same f) (at_most (most_hops t.history) (most_hops t.history) refl)
      (file_unlinked s.disk.count (most_hops s.history) (most_hops t.history) (places_of s.claims f) (view_of s.disk f) (view_of t.disk f).links (view_of t.disk f).unmarked (s.history.tree.bytes f)
      was b.0 shape.0 shape.1 shape.2 (hops_grow s.history t.history m.later) fewer)

  -- ---- nothing else is named
  is_name : (x : Entry) → (reach_of s ask).stored.slot ≡ Some x → x ≡ name
  is_name x k = let z : Some (d, n) ≡ Some x = k in cc

  was_others : (g : Gfid) → g ≢ f → is_of g (slot_at s.disk b.0 name) ≡ false
  was_others g ne =
      ap (λ (v : Bool). v || is_copy g (slot_at s.disk b.0 name).standby) (links_core g (slot_at s.disk b.0 name))
      ∙ (ap (is_of g) was_core
      ∙ ap (λ (v : Bool). (v || false) || false) (not_true (same_gfid g f) (λ h. ne ((exact_gfid g f).0 h))))

  other_file : (g : Gfid) → g ≢ f → NamesFile (reach_of s ask) b.0 s.disk t.disk g → ⊥
  other_file g ne (ByFileRecord k) = let z : None ≡ Some g = k in cc
  other_file g ne (ByFileName x k z) = elim z [
    | inl h ↦ true_false (is_of g (slot_at s.disk b.0 x)) h (ap (λ (y : Entry). is_of g (slot_at s.disk b.0 y)) (is_name x k) ∙ was_others g ne)
    | inr h ↦ true_false (is_of g (slot_at t.disk b.0 x)) h (ap (λ (y : Entry). is_of g (slot_at t.disk b.0 y)) (is_name x k) ∙ ap (is_of g) slot_now)
  ]
  other_file g ne (ByRegistration x k z) = let y : NoHold ≡ ARegistration x = k in cc
  other_file g ne (BySeal k) = let y : NoHold ≡ ASeal g = k in cc

  no_dir : (g : Gfid) → NamesDir (reach_of s ask) b.0 s.disk t.disk g → ⊥
  no_dir g (ByDirRecord k) = let z : None ≡ Some g = k in cc
  no_dir g (ByDirName x k z) = elim z [
    | inl h ↦ true_false (is_dir g (slot_at s.disk b.0 x).main) h (ap (λ (y : Entry). is_dir g (slot_at s.disk b.0 y).main) (is_name x k) ∙ (dir_core g (slot_at s.disk b.0 name) ∙ ap (λ (p : Slot). is_dir g p.main) was_core))
    | inr h ↦ true_false (is_dir g (slot_at t.disk b.0 x).main) h (ap (λ (y : Entry). is_dir g (slot_at t.disk b.0 y).main) (is_name x k) ∙ ap (λ (p : Slot). is_dir g p.main) slot_now)
  ]
  no_dir g (ByParent x k there place turned) = let z : None ≡ Some k.dir = turned in cc

  -- the tree has a file at the name
  no_node : (g : Gfid) → IsNode (reach_of s ask) s.history.tree g → ⊥
  no_node g k = let z : Some (IsFile f) ≡ Some (IsDir g) = sym stands.node ∙ (ap s.history.tree.names (sym (is_name k.entry k.slot)) ∙ k.node) in cc

  no_lock : (i : ℕ) (key : Key) → NamesLock (reach_of s ask) b.0 i key → ⊥
  no_lock i key h = let z : NoHold ≡ ALock key h.client = h.hold in cc

  used_before : (g : Gfid) → Used t.disk t.history.tree g → Used s.disk s.history.tree g
  used_before g = used_no_more s.disk t.disk stores s.history.tree t.history.tree g (bytes_same g) (dirs_same g) (descents_same g) (sealed_same g)

  pub unlink_leaves : Preserves s t
  unlink_leaves = record {
    things = things_no_more s t ask r m stores
        (λ x. elim (entry_cases x name) [
          | inl q ↦ inr (subst (NameClause t.disk t.history.tree) (sym q) name_now)
          | inr ne ↦ inl (other_some name x ne)
        ])
        (λ g. elim (gfid_cases g f) [
          | inl q ↦ inr (subst (FileClause t.disk t.history.tree (most_hops t.history) s.claims) (sym q) file_now)
          | inr ne ↦ inl (other_file g ne)
        ])
        (λ g. (no_dir g, no_node g)) no_lock sound.kept.things;
    early = early_no_more s.disk t.disk stores s.history t.history m.run m.weights (λ i. ap (λ (o : Opens). o.registered) (opens_stay i)) used_before sound.early;
    used = used_before;
    touches = taken_touches s t.disk t.history.tree (record {
      stores = stores;
      locks = λ c i key ne. others_hold s t ask r m i key c ne;
      names = λ x. elim (entry_cases x name) [
        | inl q ↦ inl (subst (Guards s) (sym q) (inl may.holds))
        | inr ne ↦ inr (ap (λ (u : Tree). u.names x) tree ∙ put_other same_entry exact_entry s.history.tree.names name None x ne, slots_stay x ne)
      ];
      files = λ g. inr (λ i. files_stay i g);
      dirs = dirs_same;
      descents = descents_same;
      used = λ g. file_used_kept s.disk t.disk s.history.tree t.history.tree g m.disk.count (bytes_same g) (λ i. files_stay i g) (λ h. sealed_same g ∙ h);
      sealed = λ g h. sealed_same g ∙ h;
    });
  }
