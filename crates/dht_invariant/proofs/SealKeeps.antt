-- A seal that is carried out keeps the clauses: its
-- nameless file is sealed, and nothing else changes.
use Rattle.std.proofs.Common.{◌≡◌, ◌≢◌, ℕ, Bool, true, false, refl, sym, ap, ◌∙◌, subst, inl, inr}
use Rattle.std.specs.Prelude.{Some, None, is_some, ◌==◌, if◌then◌else◌}
use Rattle.dht_types.proofs.PutLaws.{exact_nat}
use Rattle.dht_types.specs.Gfid.{Entry, anchor}
use Rattle.dht_types.specs.Tree.{Tree}
use Rattle.dht_types.specs.declared.identifiers.BrickNo.{BrickNo}
use Rattle.dht_types.specs.declared.identifiers.Gfid.{Gfid}
use Rattle.dht_types.specs.declared.locks.Key.{Key}
use Rattle.dht_types.specs.declared.stored.Slot.{Slot}
use Rattle.dht_brick.proofs.MapLemmas.{get-insert_here}
use Rattle.dht_brick.proofs.TableLemmas.{gfid_total}
use Rattle.dht_brick.specs.Contents.{Contents, Store, Opens, slot, dir, file}
use Rattle.dht_brick.specs.OpenRows.{registrations, is_sealed, sealed}
use Rattle.dht_brick.specs.Outcome.{Outcome, Do, Refuse, within, left_by}
use Rattle.dht_brick.specs.Parts.{is_copy, is_plain}
use Rattle.dht_brick.specs.Rows.{with_opens}
use Rattle.dht_brick.specs.declared.replies.Given.{Given}
use Rattle.dht_brick.specs.declared.replies.Given.TheVariants as given
use Rattle.dht_brick.specs.declared.replies.Reply.{Reply}
use Rattle.dht_brick.specs.declared.replies.Reply.TheVariants.{Ok as Carried}
use Rattle.dht_brick.specs.declared.replies.Why.TheVariants as why
use Rattle.dht_brick.specs.declared.requests.Request.TheVariants.{Seal}
use Rattle.dht_section.specs.declared.machine.Ask.{Ask}
use Rattle.dht_section.specs.Claims.{places_of}
use Rattle.dht_section.specs.Disk.{slot_at, file_at, dir_at}
use Rattle.dht_section.specs.Invariant.{Used, most_hops}
use Rattle.dht_section.specs.Moves.{Guarantee, outcome_of, step_of, tree_by}
use Rattle.dht_section.specs.Rely.{IsNameless}
use Rattle.dht_section.specs.Scene.{Scene, Sound}
use Rattle.dht_section.specs.Views.{FileView, links_to, view_of}
use Rattle.dht_invariant.specs.Laws.{Preserves}
use Rattle.dht_invariant.specs.Locality.{ALock, ARegistration, ASeal, NamesFile, ByFileRecord, ByFileName, ByRegistration, BySeal, NamesLock, FileClause}
use Rattle.dht_invariant.proofs.Basics.{gfid_cases}
use Rattle.dht_invariant.proofs.ClauseLocality.{reach_of, answer_shows, hops_grow}
use Rattle.dht_invariant.proofs.Frames.{brick_is, kept_by, file_is_used, file_kept}
use Rattle.dht_invariant.proofs.LessLaws.{file_sealed}
use Rattle.dht_invariant.proofs.NoMoreLaws.{StoresNoMore, early_no_more, used_no_more, file_used_kept, opened_kept, taken_touches, no_dir_named, no_node_named, things_no_more}
use Rattle.dht_invariant.proofs.QuietKeeps.{at_most}
use Rattle.dht_invariant.proofs.ServedLaws.{others_hold}

-- what the row leaves where it is carried out
record Leaves (f : Gfid) (c new : Contents) : Type 0 where
  closed : registrations c.opens f ≡ 0
  store : new.store ≡ c.store
  opens : new.opens ≡ sealed c.opens f

left :
    (f : Gfid) (c new : Contents) (gives : Given) (v : Bool) → (registrations c.opens f == 0) ≡ v
    → within (with_opens c)
    (if v
    then Do given.Nothing (sealed c.opens f)
    else Refuse (why.Open (registrations c.opens f)))
    ≡ Do gives new
    → Leaves f c new
left f c new gives true e done = record {
  closed = (exact_nat (registrations c.opens f) 0).0 e;
  store = ap (λ (y : Outcome Contents). (left_by y c).store) (sym done);
  opens = ap (λ (y : Outcome Contents). (left_by y c).opens) (sym done);
}
left f c new gives false e done = absurd (let z : Refuse (why.Open (registrations c.opens f)) ≡ Do gives new = done in cc)

-- a seal leaves who has a file open
seal_opens : (f g : Gfid) (o : Opens) → registrations (sealed o f) g ≡ registrations o g
unfolding registrations
seal_opens f g o = refl

module _ (s t : Scene) (b : BrickNo) (f : Gfid) (r : Reply) (m : Guarantee s (record { brick = b; request = Seal f }) r t) (sound : Sound s) (at : b.0 ≡ anchor f s.disk.count) (none : IsNameless s.disk s.history.tree f) (gives : Given) (real : m.real ≡ Carried gives) (done : outcome_of s (record { brick = b; request = Seal f }) ≡ Do gives m.new) where
  abbrev ask : Ask
  ask = record { brick = b; request = Seal f }

  row : Leaves f (s.disk.brick b.0) m.new
  row = left f (s.disk.brick b.0) m.new gives (registrations (s.disk.brick b.0).opens f == 0) refl done

  tree : t.history.tree ≡ s.history.tree
  tree = m.tree ∙ ap (λ (x : Reply). tree_by (step_of b.0 (Seal f) x) s.history.tree) real

  stays : {X : Type 0} (g : Contents → X) → g m.new ≡ g (s.disk.brick b.0) → (i : ℕ) → g (t.disk.brick i) ≡ g (s.disk.brick i)
  stays g same i = kept_by g s.disk t.disk b.0 m.new m.disk same i

  slots_stay : (i : ℕ) (x : Entry) → slot_at t.disk i x ≡ slot_at s.disk i x
  slots_stay i x = stays (λ (c : Contents). slot c.store x) (ap (λ (y : Store). slot y x) row.store) i

  files_stay : (i : ℕ) (g : Gfid) → file_at t.disk i g ≡ file_at s.disk i g
  files_stay i g = stays (λ (c : Contents). file c.store g) (ap (λ (y : Store). file y g) row.store) i

  dirs_stay : (i : ℕ) (g : Gfid) → dir_at t.disk i g ≡ dir_at s.disk i g
  dirs_stay i g = stays (λ (c : Contents). dir c.store g) (ap (λ (y : Store). dir y g) row.store) i

  stores : StoresNoMore s.disk t.disk
  stores = record {
    count = m.disk.count;
    slots = λ i x. inl (slots_stay i x);
    files = λ i g. inl (files_stay i g);
    dirs = dirs_stay;
  }

  -- ---- the file is sealed now
  opened_same : (view_of t.disk f).opened ≡ (view_of s.disk f).opened
  opened_same = opened_kept s.disk t.disk f m.disk.count (stays (λ (c : Contents). registrations c.opens f) (ap (λ (o : Opens). registrations o f) row.opens ∙ seal_opens f f (s.disk.brick b.0).opens))

  sealed_now : (view_of t.disk f).sealed ≡ true
  sealed_now =
      ap (λ (i : ℕ). is_sealed (t.disk.brick i).opens f) (ap (anchor f) m.disk.count ∙ sym at)
      ∙ (ap (λ (c : Contents). is_sealed c.opens f) (brick_is s.disk t.disk b.0 m.new m.disk)
      ∙ (ap (λ (o : Opens). is_sealed o f) row.opens
      ∙ ap is_some (get-insert_here gfid_total (s.disk.brick b.0).opens.sealed f tt)))

  view_now : view_of t.disk f ≡ record (view_of s.disk f) { sealed = true }
  view_now = λ j. record {
    records = λ i. files_stay i f j;
    links = λ i x. ap (links_to f) (slots_stay i x) j;
    unmarked = λ i x. ap (λ (p : Slot). is_plain f p.main) (slots_stay i x) j;
    copies = λ i x. ap (λ (p : Slot). is_copy f p.standby) (slots_stay i x) j;
    opened = opened_same j;
    sealed = sealed_now j;
  }

  file_now : FileClause t.disk t.history.tree (most_hops t.history) s.claims f
  file_now =
      let grown = hops_grow s.history t.history m.later in
      file_kept s.disk.count t.disk.count (most_hops t.history) (most_hops t.history) (places_of s.claims f)
      (record (view_of s.disk f) { sealed = true }) (view_of t.disk f) (s.history.tree.bytes f) (t.history.tree.bytes f)
      m.disk.count view_now (ap (λ (u : Tree). u.bytes f) tree) (at_most (most_hops t.history) (most_hops t.history) refl)
      (file_sealed s.disk.count (most_hops s.history) (most_hops t.history) (places_of s.claims f) (view_of s.disk f) (s.history.tree.bytes f) grown none.links none.copies
      (ap (λ (i : ℕ). registrations (s.disk.brick i).opens f) (sym at) ∙ row.closed) (sound.kept.things.files f))

  -- ---- nothing else is named
  other_file : (g : Gfid) → g ≢ f → NamesFile (reach_of s ask) b.0 s.disk t.disk g → ⊥
  other_file g ne (ByFileRecord k) = let z : None ≡ Some g = k in cc
  other_file g ne (ByFileName x k z) = let y : None ≡ Some x = k in cc
  other_file g ne (ByRegistration x k z) = let y : ASeal f ≡ ARegistration x = k in cc
  other_file g ne (BySeal k) = ne (let y : ASeal f ≡ ASeal g = k in cc)

  no_lock : (i : ℕ) (key : Key) → NamesLock (reach_of s ask) b.0 i key → ⊥
  no_lock i key h = let z : ASeal f ≡ ALock key h.client = h.hold in cc

  same_view : (g : Gfid) → g ≢ f → view_of t.disk g ≡ view_of s.disk g
  same_view g ne = (answer_shows s t ask r m).files g (other_file g ne)

  stays_sealed : (g : Gfid) → (view_of s.disk g).sealed ≡ true → (view_of t.disk g).sealed ≡ true
  stays_sealed g h = elim (gfid_cases g f) [
    | inl q ↦ subst (λ (x : Gfid). (view_of t.disk x).sealed ≡ true) (sym q) sealed_now
    | inr ne ↦ ap (λ (v : FileView). v.sealed) (same_view g ne) ∙ h
  ]

  used_before : (g : Gfid) → Used t.disk t.history.tree g → Used s.disk s.history.tree g
  used_before g h = elim (gfid_cases g f) [
    | inl q ↦ subst (Used s.disk s.history.tree) (sym q) (file_is_used s.disk s.history.tree f none.used)
    | inr ne ↦ used_no_more s.disk t.disk stores s.history.tree t.history.tree g (ap (λ (u : Tree). u.bytes g) tree) (ap (λ (u : Tree). u.dirs g) tree) (ap (λ (u : Tree). u.descents g) tree) (ap (λ (v : FileView). v.sealed) (same_view g ne)) h
  ]

  pub seal_leaves : Preserves s t
  seal_leaves = record {
    things = things_no_more s t ask r m stores
        (λ x. inl (λ k. let z : None ≡ Some x = k in cc))
        (λ g. elim (gfid_cases g f) [
          | inl q ↦ inr (subst (FileClause t.disk t.history.tree (most_hops t.history) s.claims) (sym q) file_now)
          | inr ne ↦ inl (other_file g ne)
        ])
        (λ g. (no_dir_named (reach_of s ask) b.0 s.disk t.disk refl refl refl g, no_node_named (reach_of s ask) s.history.tree refl g)) no_lock sound.kept.things;
    early = early_no_more s.disk t.disk stores s.history t.history m.run m.weights (stays (λ (c : Contents). c.opens.registered) (ap (λ (o : Opens). o.registered) row.opens)) used_before sound.early;
    used = used_before;
    touches = taken_touches s t.disk t.history.tree (record {
      stores = stores;
      locks = λ c i key ne. others_hold s t ask r m i key c ne;
      names = λ x. inr (ap (λ (u : Tree). u.names x) tree, λ i. slots_stay i x);
      files = λ g. inr (λ i. files_stay i g);
      dirs = λ g. ap (λ (u : Tree). u.dirs g) tree;
      descents = λ g. ap (λ (u : Tree). u.descents g) tree;
      used = λ g. file_used_kept s.disk t.disk s.history.tree t.history.tree g m.disk.count (ap (λ (u : Tree). u.bytes g) tree) (λ i. files_stay i g) (stays_sealed g);
      sealed = stays_sealed;
    });
  }
