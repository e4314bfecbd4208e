-- A linkto that comes or goes is in no part of the invariant.
use Rattle.std.proofs.Common.{◌≡◌, ◌≢◌, ◌<◌, ℕ, Bool, true, false, List, refl, sym, ap, ◌∙◌, subst, inl, inr, arith}
use Rattle.std.specs.Prelude.{Option, Some, None, is_some, unwrap_or}
use Rattle.std.specs.FinMap.{contains_key}
use Rattle.dht_types.specs.Gfid.{Entry, root}
use Rattle.dht_types.specs.Tree.{Tree}
use Rattle.dht_types.specs.declared.calls.TreeStep.{TreeStep}
use Rattle.dht_types.specs.declared.identifiers.BrickNo.{BrickNo}
use Rattle.dht_types.specs.declared.identifiers.Gfid.{Gfid}
use Rattle.dht_types.specs.declared.stored.DirRecord.{DirRecord}
use Rattle.dht_types.specs.declared.stored.Main.{Main}
use Rattle.dht_types.specs.declared.stored.Main.TheVariants.{Dir, File, Linkto}
use Rattle.dht_types.specs.declared.stored.Slot.{Slot}
use Rattle.dht_brick.specs.Contents.{Contents, Store, Opens, Locks, bare, slot, dir, file}
use Rattle.dht_brick.specs.Locality.{ChangesOnly, IsLocal, at_slot}
use Rattle.dht_brick.specs.NameRows.{name_row, on_slot, when}
use Rattle.dht_brick.specs.Named.{name_named}
use Rattle.dht_brick.specs.Outcome.{Outcome, Do, Refuse, Await, in_dir, within, left_by}
use Rattle.dht_brick.specs.Parts.{is_copy, is_dir, is_plain, is_vacant, is_linkto, with_main, without_main, with_slot}
use Rattle.dht_brick.specs.Rows.{with_store}
use Rattle.dht_brick.proofs.LocalityLaws.{names_are_local}
use Rattle.dht_brick.specs.declared.replies.Reply.{Reply}
use Rattle.dht_brick.specs.declared.replies.Reply.TheVariants.{Ok as Carried}
use Rattle.dht_brick.specs.declared.requests.NameRequest.{NameRequest}
use Rattle.dht_brick.specs.declared.requests.NameRequest.TheVariants.{MakeLinkto, DropLinkto}
use Rattle.dht_brick.specs.declared.requests.Request.TheVariants.{OnNames}
use Rattle.dht_section.specs.Claims.{Claim, places_of}
use Rattle.dht_section.specs.Disk.{file_in, slot_at, file_at, dir_at, holders}
use Rattle.dht_section.specs.Early.{Early}
use Rattle.dht_section.specs.Invariant.{Things, Used, most_hops}
use Rattle.dht_section.specs.Moves.{Guarantee, outcome_of, step_of, tree_by}
use Rattle.dht_section.specs.Permits.{MayName, Changes}
use Rattle.dht_section.specs.Scene.{Scene, Sound, NameStands, Guards}
use Rattle.dht_section.specs.Shapes.{NameShape, NameFits}
use Rattle.dht_section.specs.Views.{visible, core, cores_of, links_to, view_of, dir_view}
use Rattle.dht_invariant.specs.Laws.{IsOfLinkto, LinktoLeaves, LinktosKeep}
use Rattle.dht_invariant.specs.Makes.{Framed}
use Rattle.dht_invariant.specs.Touches.{Touches}
use Rattle.dht_invariant.proofs.Basics.{other_some}
use Rattle.dht_section.proofs.EarlyLaws.{nat_cases}
use Rattle.dht_section.proofs.SlotLaws.{entry_cases, slot_put}
use Rattle.dht_invariant.proofs.EarlyLaws.{HasNone, file_core, plain_as, early_on}
use Rattle.dht_invariant.proofs.Frames.{brick_by, brick_is, kept_by, links_core, plain_core, dir_core, name_kept, file_kept, dir_kept, lock_kept, view_same, dir_view_same, used_kept}
use Rattle.dht_invariant.proofs.NoMoreLaws.{sealed_kept}
use Rattle.dht_invariant.proofs.ServedLaws.{within_keeps, served_is}
use Rattle.dht_invariant.proofs.TouchLaws.{one_slot_touches}

-- ---- what the row leaves

vacant_none : (m : Option Main) → is_vacant m ≡ true → None ≡ visible m
vacant_none None e = refl
vacant_none (Some (Dir g)) e = absurd (let k : false ≡ true = e in cc)
vacant_none (Some (File f over)) e = absurd (let k : false ≡ true = e in cc)
vacant_none (Some (Linkto v)) e = refl

linkto_none : (m : Option Main) → is_linkto m ≡ true → None ≡ visible m
linkto_none None e = absurd (let k : false ≡ true = e in cc)
linkto_none (Some (Dir g)) e = absurd (let k : false ≡ true = e in cc)
linkto_none (Some (File f over)) e = absurd (let k : false ≡ true = e in cc)
linkto_none (Some (Linkto v)) e = refl

abbrev Kept : Store → Entry → Store → Type 0
Kept s x n = core (slot n x) ≡ core (slot s x)

-- the linkto is made
abbrev IsMade : NameRequest → Type 0
IsMade (MakeLinkto d n value) = Unit {0}
IsMade q = ⊥

-- a slot that is put in the place of one of the same core
put_core :
    (s : Store) (x : Entry) (p : Slot) → core p ≡ core (slot s x) → Kept s x (with_slot s x p)
put_core s x p e = ap core (slot_put s.slots x p) ∙ e

made_core :
    (d : Gfid) (n value : List ℕ) (s : Store) (o : Option DirRecord) (v : Bool)
    → is_vacant (slot s (d, n)).main ≡ v
    → Kept s (d, n)
    (left_by
    (in_dir o
    (λ r.
    on_slot (MakeLinkto d n value) s (d, n)
    (when v (with_main (slot s (d, n)) (Linkto value)))))
    s)
made_core d n value s None v e = refl
made_core d n value s (Some r) false e = refl
made_core d n value s (Some r) true e = put_core s (d, n) (with_main (slot s (d, n)) (Linkto value)) (ap (λ m. let p : Slot = record { main = m; standby = (slot s (d, n)).standby } in p) (vacant_none (slot s (d, n)).main e))

dropped_core :
    (d : Gfid) (n : List ℕ) (s : Store) (o : Option DirRecord) (v : Bool)
    → is_linkto (slot s (d, n)).main ≡ v
    → Kept s (d, n)
    (left_by
    (in_dir o
    (λ r. on_slot (DropLinkto d n) s (d, n) (when v (without_main (slot s (d, n))))))
    s)
dropped_core d n s None v e = refl
dropped_core d n s (Some r) false e = refl
dropped_core d n s (Some r) true e = put_core s (d, n) (without_main (slot s (d, n))) (ap (λ m. let p : Slot = record { main = m; standby = (slot s (d, n)).standby } in p) (linkto_none (slot s (d, n)).main e))

row_core :
    (bricks : List (List ℕ)) (q : NameRequest) (s : Store) → IsOfLinkto q
    → Kept s (name_named q) (left_by (name_row bricks q s) s)
row_core bricks (MakeLinkto d n value) s h = made_core d n value s (dir s d) (is_vacant (slot s (d, n)).main) refl
row_core bricks (DropLinkto d n) s h = dropped_core d n s (dir s d) (is_linkto (slot s (d, n)).main) refl
row_core bricks q s h = absurd h

-- a linkto that is dropped leaves none, and one that is made is made where it may be
abbrev StaysNone : Store → Entry → Store → Type 0
StaysNone s x n = HasNone (slot s x) → HasNone (slot n x)

dropped_none :
    (d : Gfid) (n : List ℕ) (s : Store) (o : Option DirRecord) (v : Bool)
    → StaysNone s (d, n)
    (left_by
    (in_dir o
    (λ r. on_slot (DropLinkto d n) s (d, n) (when v (without_main (slot s (d, n))))))
    s)
dropped_none d n s None v h = h
dropped_none d n s (Some r) false h = h
dropped_none d n s (Some r) true h = subst HasNone (sym (slot_put s.slots (d, n) (without_main (slot s (d, n))))) refl

row_none :
    (bricks : List (List ℕ)) (q : NameRequest) (s : Store) → IsOfLinkto q → (IsMade q → ⊥)
    → StaysNone s (name_named q) (left_by (name_row bricks q s) s)
row_none bricks (MakeLinkto d n value) s h dropped = absurd (dropped tt)
row_none bricks (DropLinkto d n) s h dropped = dropped_none d n s (dir s d) (is_linkto (slot s (d, n)).main)
row_none bricks q s h dropped = absurd h

-- where the directory is not there, nothing is done
closed :
    (o : Option DirRecord) (outcome : DirRecord → Outcome Store) (s : Store) → o ≡ None
    → left_by (in_dir o outcome) s ≡ s
closed None outcome s e = refl
closed (Some r) outcome s e = absurd (let z : Some r ≡ None = e in cc)

row_closed :
    (bricks : List (List ℕ)) (q : NameRequest) (s : Store) → IsOfLinkto q
    → dir s (name_named q).0 ≡ None → left_by (name_row bricks q s) s ≡ s
row_closed bricks (MakeLinkto d n value) s h e = closed (dir s d) _ s e
row_closed bricks (DropLinkto d n) s h e = closed (dir s d) _ s e
row_closed bricks q s h e = absurd h

-- only the slot is another
local_only :
    (o : Outcome Store) (s : Store) (x : Entry) → IsLocal (at_slot x) s o
    → ChangesOnly (at_slot x) s (left_by o s)
local_only (Do given new) s x h = h
local_only (Refuse why) s x h = record { slots = λ e ne out. refl; dirs = λ g ne. refl; files = λ f ne. refl }
local_only (Await holder) s x h = record { slots = λ e ne out. refl; dirs = λ g ne. refl; files = λ f ne. refl }

row_only :
    (bricks : List (List ℕ)) (q : NameRequest) (s : Store) → IsOfLinkto q
    → ChangesOnly (at_slot (name_named q)) s (left_by (name_row bricks q s) s)
row_only bricks (MakeLinkto d n value) s h = local_only (name_row bricks (MakeLinkto d n value) s) s (d, n) (names_are_local bricks (MakeLinkto d n value) s)
row_only bricks (DropLinkto d n) s h = local_only (name_row bricks (DropLinkto d n) s) s (d, n) (names_are_local bricks (DropLinkto d n) s)
row_only bricks q s h = absurd h

-- what one brick has after it
record Left (old : Contents) (q : NameRequest) (x : Entry) (c : Contents) : Type 0 where
  only : ChangesOnly (at_slot x) old.store c.store
  same : core (slot c.store x) ≡ core (slot old.store x)
  none : (IsMade q → ⊥) → StaysNone old.store x c.store
  shut : dir old.store x.0 ≡ None → slot c.store x ≡ slot old.store x
  opens : c.opens ≡ old.opens
  locks : c.locks ≡ old.locks

nothing_left : (old : Contents) (q : NameRequest) (x : Entry) → Left old q x old
nothing_left old q x = record {
  only = record { slots = λ e ne out. refl; dirs = λ g ne. refl; files = λ f ne. refl };
  same = refl;
  none = λ made h. h;
  shut = λ e. refl;
  opens = refl;
  locks = refl;
}

store_left :
    (o : Outcome Store) (c : Contents)
    → (left_by (within (with_store c) o) c).store ≡ left_by o c.store
store_left (Do given new) c = refl
store_left (Refuse why) c = refl
store_left (Await holder) c = refl

row_left :
    (bricks : List (List ℕ)) (q : NameRequest) (c : Contents) → IsOfLinkto q
    → Left c q (name_named q) (left_by (within (with_store c) (name_row bricks q c.store)) c)
row_left bricks q c h =
    let e : (left_by (within (with_store c) (name_row bricks q c.store)) c).store ≡ left_by (name_row bricks q c.store) c.store = store_left (name_row bricks q c.store) c in
    record {
      only = subst (ChangesOnly (at_slot (name_named q)) c.store) (sym e) (row_only bricks q c.store h);
      same = ap (λ (s : Store). core (slot s (name_named q))) e ∙ row_core bricks q c.store h;
      none = λ made. subst (StaysNone c.store (name_named q)) (sym e) (row_none bricks q c.store h made);
      shut = λ none. ap (λ (s : Store). slot s (name_named q)) (e ∙ row_closed bricks q c.store h none);
      opens = within_keeps (λ (x : Contents). x.opens) (with_store c) (name_row bricks q c.store) c (λ a. refl);
      locks = within_keeps (λ (x : Contents). x.locks) (with_store c) (name_row bricks q c.store) c (λ a. refl);
    }

-- ---- what it leaves on all bricks

module _ (s t : Scene) (b : BrickNo) (q : NameRequest) (r : Reply) (h : IsOfLinkto q) (there : b.0 < s.disk.count) (may : Changes s b.0 q) (m : Guarantee s (record { brick = b; request = OnNames q }) r t) (sound : Sound s) where
  abbrev name : Entry
  name = name_named q

  left : Left (s.disk.brick b.0) q (name_named q) m.new
  left = served_is (Left (s.disk.brick b.0) q (name_named q)) (outcome_of s (record { brick = b; request = OnNames q })) (s.disk.brick b.0) m.real m.new (row_left _ q (s.disk.brick b.0) h) (nothing_left (s.disk.brick b.0) q (name_named q)) m.served

  stays : {X : Type 0} (g : Contents → X) → g m.new ≡ g (s.disk.brick b.0) → (i : ℕ) → g (t.disk.brick i) ≡ g (s.disk.brick i)
  stays g same i = kept_by g s.disk t.disk b.0 m.new m.disk same i

  no_dir : (g : Gfid) → (at_slot name).dir ≢ Some g
  no_dir g e = let z : None ≡ Some g = e in cc

  framed : Framed (at_slot name) b.0 s.disk t.disk
  framed = record {
    count = m.disk.count;
    slots = λ i x ne out. stays (λ (c : Contents). slot c.store x) (ap (λ o. unwrap_or o bare) (left.only.slots x ne out)) i;
    files = λ i f ne. stays (λ (c : Contents). file c.store f) (left.only.files f ne) i;
    dirs = λ i g ne. stays (λ (c : Contents). dir c.store g) (left.only.dirs g ne) i;
    off = λ i ne. brick_by (λ c. c ≡ s.disk.brick i) s.disk t.disk b.0 m.new i m.disk (λ e. absurd (ne e)) (λ x. refl);
    opens = stays (λ (c : Contents). c.opens) left.opens;
    locks = stays (λ (c : Contents). c.locks) left.locks;
  }

  dirs_stay : (i : ℕ) (g : Gfid) → dir_at t.disk i g ≡ dir_at s.disk i g
  dirs_stay i g = framed.dirs i g (no_dir g)

  files_stay : (i : ℕ) (f : Gfid) → file_at t.disk i f ≡ file_at s.disk i f
  files_stay i f = framed.files i f (λ e. let z : None ≡ Some f = e in cc)

  slots_stay : (i : ℕ) (x : Entry) → x ≢ name → slot_at t.disk i x ≡ slot_at s.disk i x
  slots_stay i x ne = framed.slots i x (other_some name x ne) (λ e. let z : None ≡ Some x.0 = e in cc)

  cores_stay : (i : ℕ) (x : Entry) → core (slot_at t.disk i x) ≡ core (slot_at s.disk i x)
  cores_stay i x = elim (entry_cases x name) [
    | inl e ↦ stays (λ (c : Contents). core (slot c.store x)) (subst (λ (y : Entry). core (slot m.new.store y) ≡ core (slot (s.disk.brick b.0).store y)) (sym e) left.same) i
    | inr ne ↦ ap core (slots_stay i x ne)
  ]

  within_count : (i : ℕ) → i < t.disk.count → i < s.disk.count
  within_count i l = subst (λ (n : ℕ). i < n) m.disk.count l

  -- a slot that is not bare is of a directory that is there
  housed : (x : Entry) (i : ℕ) → i < s.disk.count → slot_at t.disk i x ≢ bare → is_some (dir_at s.disk i x.0) ≡ true
  housed x i l ne = by (dir_at s.disk i x.0) refl
    where
      same : dir_at s.disk i x.0 ≡ None → slot_at t.disk i x ≡ slot_at s.disk i x
      same none = elim (entry_cases x name) [
        | inl e ↦ elim (nat_cases i b.0) [
          | inl z ↦ ap (λ (j : ℕ). slot_at t.disk j x) z
              ∙ (ap (λ (c : Contents). slot c.store x) (brick_is s.disk t.disk b.0 m.new m.disk)
              ∙ (ap (slot m.new.store) e
              ∙ (left.shut (ap (λ (y : Entry). dir_at s.disk b.0 y.0) (sym e) ∙ (ap (λ (j : ℕ). dir_at s.disk j x.0) (sym z) ∙ none))
              ∙ (ap (slot (s.disk.brick b.0).store) (sym e) ∙ ap (λ (j : ℕ). slot_at s.disk j x) (sym z)))))
          | inr nz ↦ ap (λ (c : Contents). slot c.store x) (framed.off i nz)
        ]
        | inr nx ↦ slots_stay i x nx
      ]

      by : (o : Option DirRecord) → dir_at s.disk i x.0 ≡ o → is_some o ≡ true
      by None e = sym (ap is_some e) ∙ sound.kept.things.housed x i l (λ z. ne (same e ∙ z))
      by (Some rec) e = refl

  no_step : (x : Reply) → step_of b.0 (OnNames q) x ≡ None
  no_step x = by q h x
    where
      by : (p : NameRequest) → IsOfLinkto p → (y : Reply) → step_of b.0 (OnNames p) y ≡ None
      by (MakeLinkto d n value) k (Carried given) = refl
      by (DropLinkto d n) k (Carried given) = refl
      by p k (Carried given) = absurd k
      by p k y = refl

  tree : t.history.tree ≡ s.history.tree
  tree = m.tree ∙ ap (λ (x : Option TreeStep). tree_by x s.history.tree) (no_step m.real)

  things_by : Things t.disk s.history.tree (most_hops t.history) s.claims
  things_by =
      let k = sound.kept.things in
      let later = m.later in
      record {
        names = λ x. name_kept s.disk.count t.disk.count (cores_of s.disk x) (cores_of t.disk x) (s.history.tree.names x) (s.history.tree.names x) m.disk.count (λ i. cores_stay i x) refl (k.names x);
        files = λ f. file_kept s.disk.count t.disk.count (most_hops s.history) (most_hops t.history) (places_of s.claims f) (view_of s.disk f) (view_of t.disk f) (s.history.tree.bytes f) (s.history.tree.bytes f) m.disk.count
            (view_same s.disk t.disk f m.disk.count framed.opens (λ i. files_stay i f)
            (λ i x. links_core f (slot_at t.disk i x) ∙ (ap (links_to f) (cores_stay i x) ∙ sym (links_core f (slot_at s.disk i x))))
            (λ i x. plain_core f (slot_at t.disk i x).main ∙ (ap (λ (p : Slot). is_plain f p.main) (cores_stay i x) ∙ sym (plain_core f (slot_at s.disk i x).main)))
            (λ i x. ap (λ (p : Slot). is_copy f p.standby) (cores_stay i x)))
            refl (omega arith) (k.files f);
        dirs = λ g. dir_kept s.disk.count t.disk.count g (dir_view s.disk g) (dir_view t.disk g) (s.history.tree.dirs g) (s.history.tree.dirs g) (s.history.tree.descents g) (s.history.tree.descents g) m.disk.count
            (dir_view_same s.disk t.disk g dirs_stay (λ i x. dir_core g (slot_at t.disk i x) ∙ (ap (λ (p : Slot). is_dir g p.main) (cores_stay i x) ∙ sym (dir_core g (slot_at s.disk i x))))) refl refl (k.dirs g);
        locks = λ i key l. lock_kept i key (holders s.disk i key) (holders t.disk i key) s.claims (ap (λ (x : Locks). x key) (framed.locks i)) (k.locks i key (within_count i l));
        housed = λ x i l ne. ap is_some (dirs_stay i x.0) ∙ housed x i (within_count i l) ne;
        roots = λ i l. ap is_some (dirs_stay i root) ∙ k.roots i (within_count i l);
      }

  shapes : (x : Entry) (a : NameShape) → NameStands s x a → NameStands t x a
  shapes x a st = record {
    fits = subst (λ (n : ℕ). NameFits n a) (sym m.disk.count) st.fits;
    has = λ i l. cores_stay i x ∙ st.has i (within_count i l);
    node = ap (λ (u : Tree). u.names x) tree ∙ st.node;
  }

  guards : Guards s name
  guards = by q h may
    where
      by : (p : NameRequest) → IsOfLinkto p → Changes s b.0 p → Guards s (name_named p)
      by (MakeLinkto d n value) k c = inl c.holds
      by (DropLinkto d n) k c = inl c.holds
      by p k c = absurd k

  touches : Touches s t.disk t.history.tree
  touches = one_slot_touches s (at_slot name) name None t.disk t.history.tree (record {
    brick = b.0;
    framed = framed;
    slot = refl;
    dropped = refl;
    dir = refl;
    file = refl;
    guards = guards;
    owns = λ g e. (let z : None ≡ Some g = e in cc);
    names = λ y ne. ap (λ (u : Tree). u.names y) tree;
    dirs = λ g. ap (λ (u : Tree). u.dirs g) tree;
    descents = λ g. ap (λ (u : Tree). u.descents g) tree;
    bytes = λ g k none. k (sym (ap (λ (u : Tree). u.bytes g) tree) ∙ none);
    recorded = λ i g k. ap is_some (files_stay i g) ∙ k;
    unnamed = λ g k. (
      links_core g (slot_at t.disk b.0 name) ∙ (ap (links_to g) (cores_stay b.0 name) ∙ (sym (links_core g (slot_at s.disk b.0 name)) ∙ k.links b.0 name there)),
      ap (λ (p : Slot). is_copy g p.standby) (cores_stay b.0 name) ∙ k.copies b.0 name there,
    );
  })

  used_before : (g : Gfid) → Used t.disk t.history.tree g → Used s.disk s.history.tree g
  used_before g = used_kept t.disk s.disk t.history.tree s.history.tree g (sym m.disk.count)
      (λ k none. k (ap (λ (u : Tree). u.bytes g) tree ∙ none))
      (λ k. ap (λ (u : Tree). u.dirs g) (sym tree) ∙ k)
      (λ k none. k (ap (λ (u : Tree). u.descents g) tree ∙ none))
      (λ i k. ap is_some (sym (files_stay i g)) ∙ k)
      (λ i k. ap is_some (sym (dirs_stay i g)) ∙ k)
      (sym (sealed_kept s.disk t.disk g m.disk.count framed.opens))

  -- in the first run no linkto is made
  dropped : s.history.run ≡ 1 → IsMade q → ⊥
  dropped first made = by q may made
    where
      by : (p : NameRequest) → Changes s b.0 p → IsMade p → ⊥
      by (MakeLinkto d n value) c k = c.also.1 first
      by p c k = k

  none_linked : (x : Entry) (i : ℕ) → s.history.run ≡ 1 → i < s.disk.count → HasNone (slot_at t.disk i x)
  none_linked x i first l = elim (entry_cases x name) [
    | inl e ↦ elim (nat_cases i b.0) [
      | inl z ↦ subst HasNone (sym (ap (λ (j : ℕ). slot_at t.disk j x) z ∙ (ap (slot_at t.disk b.0) e ∙ ap (λ (c : Contents). slot c.store name) (brick_is s.disk t.disk b.0 m.new m.disk))))
          (left.none (dropped first) (sound.early.unlinked name b.0 first there))
      | inr ne ↦ subst HasNone (sym (ap (λ (c : Contents). slot c.store x) (framed.off i ne))) (sound.early.unlinked x i first l)
    ]
    | inr ne ↦ subst HasNone (sym (slots_stay i x ne)) (sound.early.unlinked x i first l)
  ]

  early : Early t.disk t.history
  early = early_on s.disk t.disk s.history t.history
      (record { count = m.disk.count; run = m.run; weights = m.weights; dirs = dirs_stay; unopened = λ i o k. ap (λ (x : Opens). contains_key x.registered o) (framed.opens i) ∙ k }) sound.early
      (λ x i l. plain_as (slot_at s.disk i x) (slot_at t.disk i x) (cores_stay i x) (sound.early.plain x i l))
      none_linked
      (λ f i o l e. sound.early.unmoved f i o l (sym (files_stay i f) ∙ e))
      (λ x i f l e. inl (file_core (slot_at s.disk i x) ∙ (ap file_in (sym (cores_stay i x)) ∙ (sym (file_core (slot_at t.disk i x)) ∙ e))))
      (λ g u. inl (used_before g u))

  pub linkto_leaves : LinktoLeaves s t
  linkto_leaves = record {
    kept = record {
      things = subst (λ (x : ℕ → Claim). Things t.disk t.history.tree (most_hops t.history) x) (sym m.claims) (subst (λ (u : Tree). Things t.disk u (most_hops t.history) s.claims) (sym tree) things_by);
      early = early;
      used = used_before;
      touches = touches;
    };
    tree = tree;
    shapes = shapes;
  }

may_change : (s : Scene) (b : ℕ) (q : NameRequest) → IsOfLinkto q → MayName s b q → Changes s b q
may_change s b (MakeLinkto d n value) h may = may
may_change s b (DropLinkto d n) h may = may
may_change s b q h may = absurd h

pub linktos_keep : LinktosKeep
linktos_keep s t b q r h there may m sound = linkto_leaves s t b q r h there (may_change s b.0 q h may) m sound
