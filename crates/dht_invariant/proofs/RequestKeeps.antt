-- A permitted request, however it was answered, is a transition.
use Rattle.std.proofs.Common.{◌≡◌, ◌≢◌, ◌<◌, ◌≤◌, ◌^◌, ℕ, true, false, [], refl, sym, ap, ◌∙◌, subst, inl, inr, ◌⊎◌, length, arith}
use Rattle.std.specs.Prelude.{Option, Some, None, nat_eq, is_some, Any}
use Rattle.dht_types.proofs.PutLaws.{put_same, put_other, exact_nat, exact_entry, exact_gfid}
use Rattle.dht_types.specs.Put.{same_entry}
use Rattle.std.specs.FinMap.{contains_key}
use Rattle.dht_types.specs.Gfid.{Entry, anchor, same_gfid, run_of}
use Rattle.dht_types.proofs.TreeLaws.{fits_keeps_tree}
use Rattle.dht_types.specs.Tree.{Tree, IsTree, IsFile, IsDir, applied}
use Rattle.dht_types.specs.History.{PendingCall, IsOwn, deeds_after}
use Rattle.dht_types.specs.declared.identifiers.Gfid.{Gfid}
use Rattle.dht_types.specs.declared.identifiers.ClientNo.{ClientNo}
use Rattle.dht_types.specs.declared.identifiers.CallNo.{CallNo}
use Rattle.dht_types.specs.declared.calls.TreeStep.{TreeStep}
use Rattle.dht_types.specs.declared.calls.TreeStep.TheVariants.{AddFile}
use Rattle.dht_types.specs.declared.locks.Key.{Key}
use Rattle.dht_types.specs.declared.stored.Main.TheVariants.{File}
use Rattle.dht_types.specs.declared.stored.Slot.{Slot}
use Rattle.dht_types.specs.declared.stored.Record.{Record}
use Rattle.dht_types.specs.declared.stored.Record.TheVariants as stored
use Rattle.dht_brick.specs.Contents.{Contents, Store, Opens, bare, slot, dir, file}
use Rattle.dht_brick.specs.Locality.{name_places}
use Rattle.dht_brick.specs.OpenRows.{is_sealed}
use Rattle.dht_brick.specs.Parts.{is_copy, with_main}
use Rattle.dht_brick.specs.declared.requests.NameRequest.{NameRequest}
use Rattle.dht_brick.specs.declared.requests.NameRequest.TheVariants.{Look, Dirinfo, SetLayout, MakeDir, DropDir, Create, MakeLinkto, DropLinkto, Unlink}
use Rattle.dht_brick.specs.declared.requests.Request.{Request}
use Rattle.dht_brick.specs.declared.requests.Request.TheVariants.{OnNames}
use Rattle.dht_brick.specs.declared.replies.Reply.{Reply}
use Rattle.dht_brick.specs.declared.replies.Reply.TheVariants.{Ok as Carried}
use Rattle.dht_section.specs.declared.machine.Ask.{Ask}
use Rattle.dht_section.specs.Claims.{Claim, places_of}
use Rattle.dht_section.specs.Disk.{file_in, slot_at, name_at, file_at, dir_at, holder_of, holders}
use Rattle.dht_section.specs.Truth.{plain}
use Rattle.dht_section.specs.Early.{Early, IsPlain, IsUnmoved}
use Rattle.dht_section.specs.Invariant.{Invariant, Things, Used, NothingUsed, most_hops}
use Rattle.dht_section.specs.Locks.{LockInvariant}
use Rattle.dht_section.specs.Moves.{Guarantee, name_step, request_step, step_of, tree_by, deeds_by}
use Rattle.dht_section.specs.Permits.{May, MayName, IsBuilt, Permitted, Changes}
use Rattle.dht_section.specs.Rely.{IsFileUsed, IsNameless}
use Rattle.dht_section.specs.Scene.{Scene, Sound, WantsAll}
use Rattle.dht_section.specs.Views.{core, links_to}
use Rattle.dht_invariant.specs.Laws.{IsMine, Carries, RequestsAreTransitions}
use Rattle.dht_invariant.specs.Makes.{Makes, IsNew}
use Rattle.dht_invariant.specs.Touches.{Touches, OwnsFile}
use Rattle.dht_invariant.specs.Transition.{Transition, OnlyMine}
use Rattle.dht_invariant.proofs.Basics.{gfid_cases}
use Rattle.dht_section.proofs.SlotLaws.{entry_cases}
use Rattle.dht_invariant.proofs.ContentsLaws.{slot_at_new, slot_off_new, file_at_new, file_off_new}
use Rattle.dht_invariant.proofs.CreateKeeps.{no_link, same_copies, links_other, create_keeps}
use Rattle.dht_invariant.proofs.DirRequests.{preserves_carries, directories_keep}
use Rattle.dht_invariant.proofs.EarlyLaws.{HasNone, early_on}
use Rattle.dht_section.proofs.EarlyLaws.{nat_cases, stands_plainly, Nowhere, Once, AsFolder}
use Rattle.dht_invariant.proofs.Frames.{brick_by, brick_is, kept_by, file_is_used, used_kept}
use Rattle.dht_invariant.proofs.LinktoKeeps.{linktos_keep}
use Rattle.dht_invariant.proofs.LockKeeps.{locks_moved}
use Rattle.dht_invariant.proofs.OwnLaws.{own_is, own_run}
use Rattle.dht_invariant.proofs.QuietKeeps.{SameStores, SameHistory, at_most, same_opens, same_stores, things_same, used_same, transition_same}
use Rattle.dht_invariant.proofs.RelyLaws.{never_alone, others_of}
use Rattle.dht_invariant.proofs.RemovalKeeps.{removals_keep}
use Rattle.dht_invariant.proofs.RowEffects.{Quiet, Adds, IsQuiet, IsCreate, Removes, TurnsLinkto, TurnsDir, effect}
use Rattle.dht_invariant.proofs.ServedLaws.{others_hold}
use Rattle.dht_invariant.proofs.TouchLaws.{OneSlot, one_slot_touches}

-- ---- the step of a request that was permitted can be done

name_wants :
    (s : Scene) (b : ℕ) (q : NameRequest) → IsBuilt q → MayName s b q → WantsAll s (name_step b q)
name_wants s b (Look d n) built may = tt
name_wants s b (Dirinfo d) built may = tt
name_wants s b (SetLayout d value) built may = tt
name_wants s b (MakeDir d n g depth value) built may = may.wants
name_wants s b (DropDir d n g) built may = may.wants
name_wants s b (Create d n f) built may = may.wants
name_wants s b (MakeLinkto d n value) built may = tt
name_wants s b (DropLinkto d n) built may = tt
name_wants s b (Unlink d n f) built may = may.wants
name_wants s b q built may = absurd built

request_wants : (s : Scene) (b : ℕ) (q : Request) → May s b q → WantsAll s (request_step b q)
request_wants s b (OnNames q) may = name_wants s b q may.0 may.1
request_wants s b q may = tt

reply_wants : (s : Scene) (b : ℕ) (q : Request) (r : Reply) → May s b q → WantsAll s (step_of b q r)
reply_wants s b q (Carried given) may = request_wants s b q may
reply_wants s b q r may = tt

tree_wanted :
    (s : Scene) (step : Option TreeStep) → IsTree s.history.tree → WantsAll s step
    → IsTree (tree_by step s.history.tree)
tree_wanted s None k w = k
tree_wanted s (Some step) k w = fits_keeps_tree s.history.tree step k w.fits

-- ---- of whom the pending calls are

mine_is :
    (s t : Scene) (c : ℕ) (r : PendingCall) → OnlyMine s t → t.history.pending c ≡ Some r
    → c ≡ s.who.0 → r ≡ t.mine
mine_is s t c r h e q =
    let z : Some r ≡ Some t.mine = sym e ∙ (ap t.history.pending q ∙ (ap (λ (f : ℕ → Option PendingCall). f s.who.0) h.pending ∙ put_same nat_eq exact_nat s.history.pending s.who.0 (Some t.mine))) in
    cc

other_is :
    (s t : Scene) (c : ℕ) (r : PendingCall) → OnlyMine s t → t.history.pending c ≡ Some r
    → c ≢ s.who.0 → s.history.pending c ≡ Some r
other_is s t c r h e ne = sym (ap (λ (f : ℕ → Option PendingCall). f c) h.pending ∙ put_other nat_eq exact_nat s.history.pending s.who.0 (Some t.mine) c ne) ∙ e

pub claims_less :
    (p q : ℕ → Claim) → q ≡ p → (f : Gfid) (b w : ℕ) → places_of q f b w ≤ places_of p f b w
claims_less p q e f b w = at_most (places_of q f b w) (places_of p f b w) (ap (λ (x : ℕ → Claim). places_of x f b w) e)

module _ (s t : Scene) (a : Ask) (r : Reply) (m : Guarantee s a r t) (sound : Sound s) (p : Permitted s a) (h : OnlyMine s t) where
  locks_now : (b : ℕ) (key : Key) → b < t.disk.count → LockInvariant b key (holders t.disk b key) t.claims
  locks_now = locks_moved s t a r m p h.client sound.kept.things.locks

  less : (f : Gfid) (b w : ℕ) → places_of t.claims f b w ≤ places_of s.claims f b w
  less = claims_less s.claims t.claims m.claims

  others_wait : (w : ℕ) → w ≢ s.who.0 → t.history.pending w ≡ s.history.pending w
  others_wait w ne = ap (λ (f : ℕ → Option PendingCall). f w) h.pending ∙ put_other nat_eq exact_nat s.history.pending s.who.0 (Some t.mine) w ne

  elsewhere : (b : ℕ) → s.disk.count ≤ b → t.disk.brick b ≡ s.disk.brick b
  elsewhere b l = brick_by (λ (c : Contents). c ≡ s.disk.brick b) s.disk t.disk a.brick.0 m.new b m.disk (λ e. (let there = p.there in absurd (omega arith))) (λ x. refl)

  tree_now : IsTree t.history.tree
  tree_now = subst IsTree (sym m.tree) (tree_wanted s (step_of a.brick.0 a.request m.real) sound.kept.tree (reply_wants s a.brick.0 a.request m.real p.may))

  -- what keeps the invariant and touches no more than it may is a transition
  changed_transition : Invariant t.disk t.history t.claims → Early t.disk t.history → Touches s t.disk t.history.tree → Transition s.who.0 s.disk s.history s.claims t.disk t.history t.claims
  changed_transition kept early touches = record {
    count = m.disk.count;
    kept = kept;
    early = early;
    later = m.later;
    pending = others_wait;
    claims = λ w ne. ap (λ (x : ℕ → Claim). x w) m.claims;
    elsewhere = elsewhere;
    others = λ w r ne runs. others_of s w r ne sound.kept.some_brick sound.kept.things.locks t.disk t.history t.claims touches
        (never_alone s w r ne sound.kept.some_brick sound.kept.things.locks t.history sound.kept.counts sound.runs runs h.calls) m.run m.weights m.later m.past;
  }

  -- ---- a request that made nothing

  module _ (q : Quiet a.brick.0 a.request m.real (s.disk.brick a.brick.0) m.new) where
    quiet_stores : SameStores s.disk t.disk
    quiet_stores = same_opens s.disk t.disk m.disk.count
        (kept_by (λ (c : Contents). c.store) s.disk t.disk a.brick.0 m.new m.disk q.store)
        (kept_by (λ (c : Contents). c.opens) s.disk t.disk a.brick.0 m.new m.disk q.opens)

    quiet_tree : t.history.tree ≡ s.history.tree
    quiet_tree = m.tree ∙ ap (λ (x : Option TreeStep). tree_by x s.history.tree) q.step

    quiet_deeds : t.mine.deeds ≡ s.mine.deeds
    quiet_deeds = m.mine.deeds_are ∙ ap (deeds_by s t.history.size) q.step

    quiet_unused : NothingUsed t.disk t.history
    quiet_unused c r g small e none own u =
        let used : Used s.disk s.history.tree g = used_same s.disk t.disk quiet_stores s.history.tree g (subst (λ (x : Tree). Used t.disk x g) quiet_tree u) in
        let own2 : IsOwn s.history.run c r.number g = subst (λ (i : ℕ). IsOwn i c r.number g) m.run own in
        elim (nat_cases c.0 s.who.0) [
          | inl z ↦ (let same = mine_is s t c.0 r h e z in
              let number : r.number ≡ s.mine.number = ap (λ (x : PendingCall). x.number) same ∙ m.mine.number in
              sound.kept.fresh c s.mine g (subst (λ (x : CallNo). x.0 < 2 ^ 64) number small) (ap s.history.pending z ∙ sound.runs)
              (sym quiet_deeds ∙ (ap (λ (x : PendingCall). x.deeds) (sym same) ∙ none)) (subst (λ (x : CallNo). IsOwn s.history.run c x g) number own2) used)
          | inr ne ↦ sound.kept.fresh c r g small (other_is s t c.0 r h e ne) none own2 used
        ]

    quiet_history : SameHistory s.history t.history
    quiet_history = (let calls = h.calls in record { tree = quiet_tree; weights = m.weights; run = m.run; calls = omega arith; counts = h.counts; later = m.later; past = m.past; point = h.point })

    quiet_transition : Transition s.who.0 s.disk s.history s.claims t.disk t.history t.claims
    quiet_transition = transition_same s.disk t.disk quiet_stores s.history t.history quiet_history s.who.0 s.claims t.claims elsewhere less locks_now
        (others_hold s t a r m) (λ w ne. ap (λ (x : ℕ → Claim). x w) m.claims) others_wait quiet_unused sound.kept sound.early

  -- ---- a request that made a file

  module _ (q : Adds a.brick.0 a.request m.real (s.disk.brick a.brick.0) m.new) where
    abbrev at : ℕ
    at = a.brick.0

    abbrev name : Entry
    name = (q.dir, q.name)

    may : Changes s a.brick.0 (Create q.dir q.name q.file)
    may = (let x : May s a.brick.0 (OnNames (Create q.dir q.name q.file)) = subst (May s a.brick.0) q.request p.may in x.1)

    made_tree : t.history.tree ≡ applied (AddFile q.dir q.name q.file) s.history.tree
    made_tree = m.tree ∙ ap (λ (x : Option TreeStep). tree_by x s.history.tree) q.step

    made_deeds : t.mine.deeds ≡ Some (deeds_after s.history.tree t.history.size s.mine.call s.mine.deeds (AddFile q.dir q.name q.file))
    made_deeds = m.mine.deeds_are ∙ ap (deeds_by s t.history.size) q.step

    -- the brick as it is now, and another one
    new_is : t.disk.brick at ≡ m.new
    new_is = brick_is s.disk t.disk at m.new m.disk

    off : (i : ℕ) → i ≢ at → t.disk.brick i ≡ s.disk.brick i
    off i ne = brick_by (λ (c : Contents). c ≡ s.disk.brick i) s.disk t.disk at m.new i m.disk (λ e. absurd (ne e)) (λ x. refl)

    stays : {X : Type 0} (g : Contents → X) → g m.new ≡ g (s.disk.brick at) → (i : ℕ) → g (t.disk.brick i) ≡ g (s.disk.brick i)
    stays g same i = kept_by g s.disk t.disk at m.new m.disk same i

    slots_stay : (i : ℕ) (x : Entry) → x ≢ name → slot_at t.disk i x ≡ slot_at s.disk i x
    slots_stay i x ne = stays (λ (c : Contents). slot c.store x) (ap (λ (y : Store). slot y x) q.store ∙ slot_off_new (s.disk.brick at).store name q.file x ne) i

    files_stay : (i : ℕ) (f : Gfid) → f ≢ q.file → file_at t.disk i f ≡ file_at s.disk i f
    files_stay i f ne = stays (λ (c : Contents). file c.store f) (ap (λ (y : Store). file y f) q.store ∙ file_off_new (s.disk.brick at).store name q.file f ne) i

    dirs_stay : (i : ℕ) (g : Gfid) → dir_at t.disk i g ≡ dir_at s.disk i g
    dirs_stay i g = stays (λ (c : Contents). dir c.store g) (ap (λ (y : Store). dir y g) q.store) i

    opens_stay : (i : ℕ) → (t.disk.brick i).opens ≡ (s.disk.brick i).opens
    opens_stay i = stays (λ (c : Contents). c.opens) q.opens i

    makes : Makes s.disk t.disk at name q.file
    makes = record {
      there = p.there;
      framed = record {
        count = m.disk.count;
        slots = λ i x ne out. slots_stay i x (λ e. ne (ap Some (sym e)));
        files = λ i f ne. files_stay i f (λ e. ne (ap Some (sym e)));
        dirs = λ i g ne. dirs_stay i g;
        off = off;
        opens = opens_stay;
        locks = λ i. stays (λ (c : Contents). c.locks) q.locks i;
      };
      slot = ap (λ (c : Contents). slot c.store name) new_is ∙ (ap (λ (y : Store). slot y name) q.store ∙ slot_at_new (s.disk.brick at).store name q.file);
      file = ap (λ (c : Contents). file c.store q.file) new_is ∙ (ap (λ (y : Store). file y q.file) q.store ∙ file_at_new (s.disk.brick at).store name q.file);
      housed = q.housed;
    }

    -- nothing stood at the name, and the file is of nothing
    bare_before : (b : ℕ) → b < s.disk.count → core (slot_at s.disk b name) ≡ bare
    bare_before = elim (stands_plainly s.disk name (s.history.tree.names name) (sound.kept.things.names name) (sound.early.plain name)) [
      | Nowhere z ↦ z.bare
      | Once z ↦ absurd (let w : Some (IsFile z.file) ≡ None = sym z.node ∙ may.wants.fits.1 in cc)
      | AsFolder z ↦ absurd (let w : Some (IsDir z.directory) ≡ None = sym z.stands.node ∙ may.wants.fits.1 in cc)
    ]

    is_new : IsNew s.disk s.history.tree name q.file
    is_new = record {
      bare = record { fits = tt; has = bare_before; node = may.wants.fits.1 };
      unused = may.also.1;
    }

    made_things : Things t.disk t.history.tree (most_hops t.history) t.claims
    made_things =
        let later = m.later in
        subst (λ (x : Tree). Things t.disk x (most_hops t.history) t.claims) (sym made_tree)
        (things_same t.disk t.disk (same_stores t.disk) (applied (AddFile q.dir q.name q.file) s.history.tree) (most_hops s.history) (most_hops t.history) s.claims t.claims (omega arith) less locks_now
        (create_keeps s.disk t.disk s.history.tree at name q.file (most_hops s.history) s.claims makes is_new sound.kept.things))

    -- what is used but the file was used before
    used_before : (g : Gfid) → g ≢ q.file → Used t.disk t.history.tree g → Used s.disk s.history.tree g
    used_before g ne u = used_kept t.disk s.disk (applied (AddFile q.dir q.name q.file) s.history.tree) s.history.tree g (sym m.disk.count)
        (λ e none. e (put_other same_gfid exact_gfid s.history.tree.bytes q.file (Some []) g ne ∙ none))
        (λ e. e)
        (λ e. e)
        (λ i e. ap is_some (sym (files_stay i g ne)) ∙ e)
        (λ i e. ap is_some (sym (dirs_stay i g)) ∙ e)
        (sym (ap (λ (i : ℕ). is_sealed (t.disk.brick i).opens g) (ap (anchor g) m.disk.count) ∙ ap (λ (o : Opens). is_sealed o g) (opens_stay (anchor g s.disk.count))))
        (subst (λ (x : Tree). Used t.disk x g) made_tree u)

    -- ---- what holds for now
    slot_made : slot_at t.disk at name ≡ plain q.file
    slot_made = makes.slot ∙ ap (λ (p : Slot). with_main p (File q.file None)) (bare_before at p.there)

    slots_off : (i : ℕ) (x : Entry) → i ≢ at → slot_at t.disk i x ≡ slot_at s.disk i x
    slots_off i x ne = ap (λ (c : Contents). slot c.store x) (off i ne)

    made_plain : (x : Entry) (i : ℕ) → i < s.disk.count → IsPlain (slot_at t.disk i x)
    made_plain x i l = elim (entry_cases x name) [
      | inl e ↦ elim (nat_cases i at) [
        | inl z ↦ inr (inl (q.file, ap (λ (j : ℕ). slot_at t.disk j x) z ∙ (ap (slot_at t.disk at) e ∙ slot_made)))
        | inr ne ↦ subst IsPlain (sym (slots_off i x ne)) (sound.early.plain x i l)
      ]
      | inr ne ↦ subst IsPlain (sym (slots_stay i x ne)) (sound.early.plain x i l)
    ]

    made_none : (x : Entry) (i : ℕ) → s.history.run ≡ 1 → i < s.disk.count → HasNone (slot_at t.disk i x)
    made_none x i first l = elim (entry_cases x name) [
      | inl e ↦ elim (nat_cases i at) [
        | inl z ↦ subst HasNone (sym (ap (λ (j : ℕ). slot_at t.disk j x) z ∙ (ap (slot_at t.disk at) e ∙ slot_made))) refl
        | inr ne ↦ subst HasNone (sym (slots_off i x ne)) (sound.early.unlinked x i first l)
      ]
      | inr ne ↦ subst HasNone (sym (slots_stay i x ne)) (sound.early.unlinked x i first l)
    ]

    made_unmoved : (f : Gfid) (i : ℕ) (o : Record) → i < s.disk.count → file_at t.disk i f ≡ Some o → IsUnmoved o
    made_unmoved f i o l e = elim (gfid_cases f q.file) [
      | inl w ↦ elim (nat_cases i at) [
        | inl z ↦ ([], (let y : Some o ≡ Some (stored.Live 0 []) = sym e ∙ (ap (λ (j : ℕ). file_at t.disk j f) z ∙ (ap (file_at t.disk at) w ∙ makes.file)) in cc))
        | inr ne ↦ sound.early.unmoved f i o l (sym (ap (λ (c : Contents). file c.store f) (off i ne)) ∙ e)
      ]
      | inr ne ↦ sound.early.unmoved f i o l (sym (files_stay i f ne) ∙ e)
    ]

    -- the one new name is on its holder
    made_named : (x : Entry) (i : ℕ) (f : Gfid) → i < s.disk.count → name_at t.disk i x ≡ Some f → (name_at s.disk i x ≡ Some f) ⊎ (holder_of s.disk x ≡ Some i)
    made_named x i f l e = elim (entry_cases x name) [
      | inl w ↦ elim (nat_cases i at) [
        | inl z ↦ inr (ap (holder_of s.disk) w ∙ (may.also.0 ∙ ap Some (sym z)))
        | inr ne ↦ inl (sym (ap file_in (slots_off i x ne)) ∙ e)
      ]
      | inr ne ↦ inl (sym (ap file_in (slots_stay i x ne)) ∙ e)
    ]

    made_earlier : (g : Gfid) → Used t.disk t.history.tree g → Used s.disk s.history.tree g ⊎ (run_of g ≤ s.history.run)
    made_earlier g u = elim (gfid_cases g q.file) [
      | inl e ↦ inr (own_run s.history.run s.who s.mine.number g h.client h.small (subst (IsOwn s.history.run s.who s.mine.number) (sym e) may.wants.own))
      | inr ne ↦ inl (used_before g ne u)
    ]

    made_early : Early t.disk t.history
    made_early = early_on s.disk t.disk s.history t.history
        (record { count = m.disk.count; run = m.run; weights = m.weights; dirs = dirs_stay; unopened = λ i o k. ap (λ (x : Opens). contains_key x.registered o) (opens_stay i) ∙ k }) sound.early
        made_plain made_none made_unmoved made_named made_earlier

    -- ---- what it is to others
    no_names : (g : Gfid) → Some q.file ≡ Some g → OwnsFile s g
    no_names g e y b l link =
        let same : g ≡ q.file = cc in
        absurd (no_link s.disk t.disk s.history.tree at name q.file (most_hops s.history) s.claims makes is_new sound.kept.things b y l
        (subst (λ (f : Gfid). links_to f (slot_at s.disk b y) ≡ true) same link))

    recorded : (i : ℕ) (g : Gfid) → is_some (file_at s.disk i g) ≡ true → is_some (file_at t.disk i g) ≡ true
    recorded i g k = elim (gfid_cases g q.file) [
      | inl e ↦ elim (nat_cases i at) [
        | inl z ↦ ap (λ (j : ℕ). is_some (file_at t.disk j g)) z ∙ (ap (λ (f : Gfid). is_some (file_at t.disk at f)) e ∙ ap is_some makes.file)
        | inr ne ↦ ap (λ (c : Contents). is_some (file c.store g)) (off i ne) ∙ k
      ]
      | inr ne ↦ ap is_some (files_stay i g ne) ∙ k
    ]

    bytes_stay : (g : Gfid) → s.history.tree.bytes g ≢ None → (applied (AddFile q.dir q.name q.file) s.history.tree).bytes g ≢ None
    bytes_stay g k none = elim (gfid_cases g q.file) [
      | inl e ↦ (let z : Some [] ≡ None = sym (put_same same_gfid exact_gfid s.history.tree.bytes q.file (Some [])) ∙ (ap (applied (AddFile q.dir q.name q.file) s.history.tree).bytes (sym e) ∙ none) in cc)
      | inr ne ↦ k (sym (put_other same_gfid exact_gfid s.history.tree.bytes q.file (Some []) g ne) ∙ none)
    ]

    unnamed : (g : Gfid) → IsNameless s.disk s.history.tree g → (links_to g (slot_at t.disk at name) ≡ false) × (is_copy g (slot_at t.disk at name).standby ≡ false)
    unnamed g k = elim (gfid_cases g q.file) [
      | inl e ↦ absurd (may.also.1 (file_is_used s.disk s.history.tree q.file (subst (IsFileUsed s.disk s.history.tree) e k.used)))
      | inr ne ↦ (
        links_other s.disk t.disk s.history.tree at name q.file (most_hops s.history) s.claims makes is_new sound.kept.things g ne ∙ k.links at name p.there,
        same_copies s.disk t.disk s.history.tree at name q.file (most_hops s.history) s.claims makes is_new sound.kept.things g at name ∙ k.copies at name p.there,
      )
    ]

    one_slot : OneSlot s (name_places (Create q.dir q.name q.file)) name (Some q.file) t.disk (applied (AddFile q.dir q.name q.file) s.history.tree)
    one_slot = record {
      brick = at;
      framed = makes.framed;
      slot = refl;
      dropped = refl;
      dir = refl;
      file = refl;
      guards = inl may.holds;
      owns = no_names;
      names = λ y ne. put_other same_entry exact_entry s.history.tree.names name (Some (IsFile q.file)) y ne;
      dirs = λ g. refl;
      descents = λ g. refl;
      bytes = bytes_stay;
      recorded = recorded;
      unnamed = unnamed;
    }

    touches : Touches s t.disk t.history.tree
    touches = subst (Touches s t.disk) (sym made_tree) (one_slot_touches s (name_places (Create q.dir q.name q.file)) name (Some q.file) t.disk (applied (AddFile q.dir q.name q.file) s.history.tree) one_slot)

    made_used : (g : Gfid) → Used t.disk t.history.tree g → Used s.disk s.history.tree g ⊎ IsMine s t g
    made_used g u = elim (gfid_cases g q.file) [
      | inl e ↦ inr (record {
        own = subst (IsOwn s.history.run s.who s.mine.number) (sym e) may.wants.own;
        did = λ none. (let w : None ≡ Some (deeds_after s.history.tree t.history.size s.mine.call s.mine.deeds (AddFile q.dir q.name q.file)) = sym none ∙ made_deeds in cc);
      })
      | inr ne ↦ inl (used_before g ne u)
    ]

    made_carries : Carries s t
    made_carries = record { things = made_things; early = made_early; used = made_used; touches = touches }

  -- ---- any request that was carried out, or not

  module _ (q : Carries s t) where
    -- a call that has done nothing now had done nothing
    deeds_before : (o : Option TreeStep) → t.mine.deeds ≡ deeds_by s t.history.size o → t.mine.deeds ≡ None → s.mine.deeds ≡ None
    deeds_before None e none = sym e ∙ none
    deeds_before (Some x) e none = absurd (let z : None ≡ Some (deeds_after s.history.tree t.history.size s.mine.call s.mine.deeds x) = sym none ∙ e in cc)

    -- what is this call's own is no other's
    own_call : (c : ClientNo) (k : CallNo) (g : Gfid) → k.0 < 2 ^ 64 → IsOwn s.history.run c k g → IsMine s t g → (c.0 ≡ s.who.0) × (k.0 ≡ s.mine.number.0)
    own_call c k g l own mine = own_is s.history.run c s.who k s.mine.number g l h.small own mine.own

    carried_unused : NothingUsed t.disk t.history
    carried_unused c r g l e none own u =
        let was_own : IsOwn s.history.run c r.number g = subst (λ (i : ℕ). IsOwn i c r.number g) m.run own in
        elim (nat_cases c.0 s.who.0) [
          | inl z ↦ (let same = mine_is s t c.0 r h e z in
              let undone : t.mine.deeds ≡ None = ap (λ (x : PendingCall). x.deeds) (sym same) ∙ none in
              let number : r.number ≡ s.mine.number = ap (λ (x : PendingCall). x.number) same ∙ m.mine.number in
              elim (q.used g u) [
                | inl used ↦ sound.kept.fresh c s.mine g (subst (λ (x : CallNo). x.0 < 2 ^ 64) number l) (ap s.history.pending z ∙ sound.runs)
                    (deeds_before (step_of a.brick.0 a.request m.real) m.mine.deeds_are undone)
                    (subst (λ (x : CallNo). IsOwn s.history.run c x g) number was_own) used
                | inr mine ↦ mine.did undone
              ])
          | inr ne ↦ elim (q.used g u) [
            | inl used ↦ sound.kept.fresh c r g l (other_is s t c.0 r h e ne) none was_own used
            | inr mine ↦ ne (own_call c r.number g l was_own mine).0
          ]
        ]

    carried_known : (g : Gfid) (c : ClientNo) (k : CallNo) → k.0 < 2 ^ 64 → Used t.disk t.history.tree g → IsOwn t.history.run c k g → k.0 ≤ t.history.calls
    carried_known g c k l u own =
        let calls = h.calls in
        let was_own : IsOwn s.history.run c k g = subst (λ (i : ℕ). IsOwn i c k g) m.run own in
        elim (q.used g u) [
          | inl used ↦ (let z = sound.kept.known g c k l used was_own in omega arith)
          | inr mine ↦ (let z = (own_call c k g l was_own mine).1 in let n = h.numbered in omega arith)
        ]

    carried_invariant : Invariant t.disk t.history t.claims
    carried_invariant =
        let count = m.disk.count in
        let some = sound.kept.some_brick in
        let few = sound.kept.few in
        record {
          things = q.things;
          heavy = subst (λ ws. Any (λ w. 0 < w) ws) (sym m.weights) sound.kept.heavy;
          some_brick = omega arith;
          counted = count ∙ sound.kept.counted ∙ ap length (sym m.weights);
          few = omega arith;
          tree = tree_now;
          counts = h.counts sound.kept.counts;
          point = h.point;
          known = carried_known;
          fresh = carried_unused;
        }

    carried_transition : Transition s.who.0 s.disk s.history s.claims t.disk t.history t.claims
    carried_transition = changed_transition carried_invariant q.early q.touches

pub request_transition : RequestsAreTransitions
request_transition s t a r m sound p h = elim (effect _ s a.brick.0 a.request (s.disk.brick a.brick.0) m.real m.new p.may m.served) [
  | IsQuiet q ↦ quiet_transition s t a r m sound p h q
  | IsCreate q ↦ carried_transition s t a r m sound p h (made_carries s t a r m sound p h q)
  | Removes q ↦ carried_transition s t a r m sound p h (preserves_carries s t (removals_keep s t a r q p m sound))
  | TurnsLinkto n q e ↦
      let may : May s a.brick.0 (OnNames n) = subst (May s a.brick.0) e p.may in
      carried_transition s t a r m sound p h (preserves_carries s t (linktos_keep s t a.brick n r q p.there may.1 (subst (λ (x : Request). Guarantee s (record { brick = a.brick; request = x }) r t) e m) sound).kept)
  | TurnsDir q ↦ carried_transition s t a r m sound p h (directories_keep s t a r q m sound p h)
]
