-- What stays where bricks store what they stored: only locks,
-- registrations, claims or lines of the history change.
use Rattle.std.proofs.Common.{◌≡◌, ◌≢◌, ◌<◌, ◌≤◌, ℕ, false, refl, sym, ap, ◌∙◌, subst, inl, length, arith}
use Rattle.std.specs.Prelude.{Some, is_some, Any}
use Rattle.std.specs.FinMap.{contains_key}
use Rattle.dht_types.specs.Gfid.{Entry, root, anchor}
use Rattle.dht_types.specs.Counted.{CallsCounted}
use Rattle.dht_types.specs.Tree.{Tree, IsTree}
use Rattle.dht_types.specs.History.{History, PendingCall, IsOwn, IsAlone}
use Rattle.dht_types.specs.declared.identifiers.Gfid.{Gfid}
use Rattle.dht_types.specs.declared.identifiers.ClientNo.{ClientNo}
use Rattle.dht_types.specs.declared.locks.Key.{Key}
use Rattle.dht_types.specs.declared.stored.Slot.{Slot}
use Rattle.dht_brick.specs.Contents.{Store, Opens, slot, dir, file}
use Rattle.dht_brick.specs.OpenRows.{registrations, is_sealed}
use Rattle.dht_brick.specs.Parts.{is_copy, is_dir, is_plain}
use Rattle.dht_brick.specs.declared.opens.Registration.{Registration}
use Rattle.dht_section.specs.Claims.{Claim, places_of}
use Rattle.dht_section.specs.Disk.{Disk, file_in, slot_at, file_at, dir_at, holders}
use Rattle.dht_section.specs.Early.{Early, IsPlain}
use Rattle.dht_section.specs.Invariant.{Invariant, Things, Used, NothingUsed, most_hops}
use Rattle.dht_section.specs.Locks.{LockInvariant}
use Rattle.dht_section.specs.Names.{StandsAs}
use Rattle.dht_section.specs.Rely.{Rely, IsFileUsed, IsNameless, ByBytes, ByRecord, BySeal, outline}
use Rattle.dht_section.specs.Shapes.{NameShape, Folder, NameFits}
use Rattle.dht_section.specs.Views.{core, cores_of, links_to, view_of, dir_view}
use Rattle.dht_invariant.specs.Transition.{Transition, scene}
use Rattle.dht_invariant.proofs.Basics.{none_some}
use Rattle.dht_invariant.proofs.EarlyLaws.{HasNone, early_on}
use Rattle.dht_invariant.proofs.Frames.{name_kept, dir_kept, dir_view_same, used_kept}
use Rattle.dht_invariant.proofs.GrowsLaws.{grows_refl}
use Rattle.dht_invariant.proofs.LayoutLaws.{planned_same}
use Rattle.dht_invariant.proofs.LessLaws.{file_less}

-- bricks store what they stored, the same files are sealed, and no file is open to more
pub record SameStores (d e : Disk) : Type 0 where
  pub count : e.count ≡ d.count
  pub stores : (b : ℕ) → (e.brick b).store ≡ (d.brick b).store
  pub opened : (b : ℕ) (f : Gfid) → registrations (e.brick b).opens f ≤ registrations (d.brick b).opens f
  pub unopened : (b : ℕ) (r : Registration)
      → contains_key (d.brick b).opens.registered r ≡ false → contains_key (e.brick b).opens.registered r ≡ false
  pub seals : (b : ℕ) (f : Gfid) → is_sealed (e.brick b).opens f ≡ is_sealed (d.brick b).opens f

pub at_most : (m n : ℕ) → m ≡ n → m ≤ n
at_most m n e = omega arith

-- so it is where all is the same but locks
pub same_opens :
    (d e : Disk) → e.count ≡ d.count → ((b : ℕ) → (e.brick b).store ≡ (d.brick b).store)
    → ((b : ℕ) → (e.brick b).opens ≡ (d.brick b).opens) → SameStores d e
same_opens d e count stores opens = record {
  count = count;
  stores = stores;
  opened = λ b f. at_most (registrations (e.brick b).opens f) (registrations (d.brick b).opens f) (ap (λ (o : Opens). registrations o f) (opens b));
  unopened = λ b r h. ap (λ (o : Opens). contains_key o.registered r) (opens b) ∙ h;
  seals = λ b f. ap (λ (o : Opens). is_sealed o f) (opens b);
}

pub same_stores : (d : Disk) → SameStores d d
same_stores d = same_opens d d refl (λ b. refl) (λ b. refl)

-- what a history keeps of another, but for its lines
pub record SameHistory (s t : History) : Type 0 where
  pub tree : t.tree ≡ s.tree
  pub weights : t.weights ≡ s.weights
  pub run : t.run ≡ s.run
  pub calls : s.calls ≤ t.calls
  pub counts : CallsCounted s → CallsCounted t
  pub later : s.size ≤ t.size
  pub past : (j : ℕ) → j ≤ s.size → t.past j ≡ s.past j
  pub point : t.past t.size ≡ t.tree

module _ (d e : Disk) (m : SameStores d e) where
  slots_same : (b : ℕ) (x : Entry) → slot_at e b x ≡ slot_at d b x
  slots_same b x = ap (λ (s : Store). slot s x) (m.stores b)

  files_same : (b : ℕ) (f : Gfid) → file_at e b f ≡ file_at d b f
  files_same b f = ap (λ (s : Store). file s f) (m.stores b)

  dirs_same : (b : ℕ) (g : Gfid) → dir_at e b g ≡ dir_at d b g
  dirs_same b g = ap (λ (s : Store). dir s g) (m.stores b)

  within : (b : ℕ) → b < e.count → b < d.count
  within b l = subst (λ (n : ℕ). b < n) m.count l

  sealed_same : (g : Gfid) → (view_of e g).sealed ≡ (view_of d g).sealed
  sealed_same g = ap (λ (i : ℕ). is_sealed (e.brick i).opens g) (ap (anchor g) m.count) ∙ m.seals (anchor g d.count) g

  opened_less : (g : Gfid) → (view_of e g).opened ≤ (view_of d g).opened
  opened_less g = subst (λ (i : ℕ). registrations (e.brick (anchor g i)).opens g ≤ registrations (d.brick (anchor g d.count)).opens g) (sym m.count) (m.opened (anchor g d.count) g)

  view_fewer : (f : Gfid) → view_of e f ≡ record (view_of d f) { opened = (view_of e f).opened }
  view_fewer f = λ j. record {
    records = λ i. files_same i f j;
    links = λ i x. ap (links_to f) (slots_same i x) j;
    unmarked = λ i x. ap (λ (p : Slot). is_plain f p.main) (slots_same i x) j;
    copies = λ i x. ap (λ (p : Slot). is_copy f p.standby) (slots_same i x) j;
    opened = (view_of e f).opened;
    sealed = sealed_same f j;
  }

  pub things_same : (t : Tree) (low top : ℕ) (p q : ℕ → Claim) → low ≤ top → ((f : Gfid) (b w : ℕ) → places_of q f b w ≤ places_of p f b w) → ((b : ℕ) (key : Key) → b < e.count → LockInvariant b key (holders e b key) q) → Things d t low p → Things e t top q
  things_same t low top p q l less locks k = record {
    names = λ x. name_kept d.count e.count (cores_of d x) (cores_of e x) (t.names x) (t.names x) m.count (λ b. ap core (slots_same b x)) refl (k.names x);
    files = λ f. file_less d.count e.count low top (view_of e f).opened (places_of p f) (places_of q f) (view_of d f) (view_of e f) (t.bytes f) m.count (view_fewer f) (opened_less f) l (less f) (k.files f);
    dirs = λ g. dir_kept d.count e.count g (dir_view d g) (dir_view e g) (t.dirs g) (t.dirs g) (t.descents g) (t.descents g) m.count
        (dir_view_same d e g dirs_same (λ b x. ap (λ (p : Slot). is_dir g p.main) (slots_same b x))) refl refl (k.dirs g);
    locks = locks;
    housed = λ x b h ne. ap is_some (dirs_same b x.0) ∙ k.housed x b (within b h) (λ q. ne (slots_same b x ∙ q));
    roots = λ b h. ap is_some (dirs_same b root) ∙ k.roots b (within b h);
  }

  pub used_same : (t : Tree) (g : Gfid) → Used e t g → Used d t g
  used_same t g = used_kept e d t t g (sym m.count) (λ h. h) (λ h. h) (λ h. h)
      (λ b h. ap is_some (sym (files_same b g)) ∙ h)
      (λ b h. ap is_some (sym (dirs_same b g)) ∙ h)
      (sym (sealed_same g))

  pub early_same : (s t : History) → t.tree ≡ s.tree → t.run ≡ s.run → t.weights ≡ s.weights → Early d s → Early e t
  early_same s t tree run weights k = early_on d e s t (record { count = m.count; run = run; weights = weights; dirs = dirs_same; unopened = m.unopened }) k
      (λ x b l. subst IsPlain (sym (slots_same b x)) (k.plain x b l))
      (λ x b first l. subst HasNone (sym (slots_same b x)) (k.unlinked x b first l))
      (λ f b r l h. k.unmoved f b r l (sym (files_same b f) ∙ h))
      (λ x b f l h. inl (sym (ap file_in (slots_same b x)) ∙ h))
      (λ g u. inl (used_same s.tree g (subst (λ (x : Tree). Used e x g) tree u)))

  module _ (s t : History) (h : SameHistory s t) where
    pub invariant_same : (p q : ℕ → Claim) → ((f : Gfid) (b w : ℕ) → places_of q f b w ≤ places_of p f b w) → ((b : ℕ) (key : Key) → b < e.count → LockInvariant b key (holders e b key) q) → NothingUsed e t → Invariant d s p → Invariant e t q
    invariant_same p q less locks fresh k =
        let later = h.later in
        let count = m.count in
        let some = k.some_brick in
        let few = k.few in
        let calls = h.calls in
        record {
          things = subst (λ (x : Tree). Things e x (most_hops t) q) (sym h.tree) (things_same s.tree (most_hops s) (most_hops t) p q (omega arith) less locks k.things);
          heavy = subst (λ ws. Any (λ w. 0 < w) ws) (sym h.weights) k.heavy;
          some_brick = omega arith;
          counted = count ∙ k.counted ∙ ap length (sym h.weights);
          few = omega arith;
          tree = subst IsTree (sym h.tree) k.tree;
          counts = h.counts k.counts;
          point = h.point;
          known = λ g c n l u own. (let z = k.known g c n l (used_same s.tree g (subst (λ (x : Tree). Used e x g) h.tree u)) (subst (λ (i : ℕ). IsOwn i c n g) h.run own) in omega arith);
          fresh = fresh;
        }

    file_used_same : (f : Gfid) → IsFileUsed d s.tree f → IsFileUsed e t.tree f
    file_used_same f (ByBytes k) = ByBytes (λ none. k (sym (ap (λ (x : Tree). x.bytes f) h.tree) ∙ none))
    file_used_same f (ByRecord b r l k) = ByRecord b r (subst (λ (n : ℕ). b < n) (sym m.count) l) (files_same b f ∙ k)
    file_used_same f (BySeal k) = BySeal (sealed_same f ∙ k)

    nameless_same : (f : Gfid) → IsNameless d s.tree f → IsNameless e t.tree f
    nameless_same f k = record {
      used = file_used_same f k.used;
      links = λ i x l. ap (links_to f) (slots_same i x) ∙ k.links i x (within i l);
      copies = λ i x l. ap (λ (p : Slot). is_copy f p.standby) (slots_same i x) ∙ k.copies i x (within i l);
    }

    stands_same : (x : Entry) (a : NameShape) → StandsAs d.count (cores_of d x) (s.tree.names x) a → StandsAs e.count (cores_of e x) (t.tree.names x) a
    stands_same x a st = record {
      fits = subst (λ (n : ℕ). NameFits n a) (sym m.count) st.fits;
      has = λ b l. ap core (slots_same b x) ∙ st.has b (within b l);
      node = ap (λ (u : Tree). u.names x) h.tree ∙ st.node;
    }

    -- a call that is alone was alone, as no call was accepted since
    alone_before : (w : ℕ) (r : PendingCall) → CallsCounted s → s.pending w ≡ Some r → IsAlone t r → IsAlone s r
    alone_before w r counts pending alone = (let l = h.calls in let n = counts.numbered w r pending in let last = alone.last in record { first = alone.first; last = omega arith })

    -- to a client whose locks stay it is what others may do
    pub rely_same : (p q : ℕ → Claim) (w : ClientNo) (r : PendingCall) → CallsCounted s → s.pending w.0 ≡ Some r → ((b : ℕ) (key : Key) → holders e b key w.0 ≡ holders d b key w.0) → Rely (scene d s p w r) (scene e t q w r)
    rely_same p q w r counts pending locks = record {
      who = refl;
      mine = record { number = refl; call = refl; since = refl; alone = refl; is_first = refl; was_down = refl; has_failed = refl; deeds = refl };
      count = m.count;
      run = h.run;
      weights = h.weights;
      locks = locks;
      names = λ x a g st. (a, grows_refl a, stands_same x a st);
      slots = λ x b g same. slots_same b x;
      outlines = λ x b f g l link. ap outline (files_same b f);
      dirs = λ g b rec i there. (rec, dirs_same b g ∙ there, record { place = refl; depth = refl; hashes = refl });
      added = λ g b rec i none there. absurd (none_some (dir_at d b g) rec none (sym (dirs_same b g) ∙ there));
      known = λ g i k. ap (λ (u : Tree). u.dirs g) h.tree ∙ k;
      both = λ x g on i a st. stands_same x (Folder g on) st;
      planned = λ g. planned_same d e g s.weights t.weights m.count h.weights (λ b. dirs_same b g);
      made = λ g x k. ap (λ (u : Tree). u.descents g) h.tree ∙ k;
      still = λ alone. record { before = alone_before w.0 r counts pending alone; tree = h.tree; stores = m.stores };
      used = file_used_same;
      sealed = λ f k. sealed_same f ∙ k;
      nameless = nameless_same;
      later = h.later;
      past = h.past;
    }

    -- all of a transition that stores nothing
    pub transition_same : (c : ℕ) (p q : ℕ → Claim) → ((b : ℕ) → d.count ≤ b → e.brick b ≡ d.brick b) → ((f : Gfid) (b w : ℕ) → places_of q f b w ≤ places_of p f b w) → ((b : ℕ) (key : Key) → b < e.count → LockInvariant b key (holders e b key) q) → ((b : ℕ) (key : Key) (w : ℕ) → w ≢ c → holders e b key w ≡ holders d b key w) → ((w : ℕ) → w ≢ c → q w ≡ p w) → ((w : ℕ) → w ≢ c → t.pending w ≡ s.pending w) → NothingUsed e t → Invariant d s p → Early d s → Transition c d s p e t q
    transition_same c p q elsewhere less locks holds claims pending fresh k now = record {
      count = m.count;
      kept = invariant_same p q less locks fresh k;
      early = early_same s t h.tree h.run h.weights now;
      later = h.later;
      pending = pending;
      claims = claims;
      elsewhere = elsewhere;
      others = λ w r ne pending. rely_same p q w r k.counts pending (λ b key. holds b key w.0 ne);
    }
