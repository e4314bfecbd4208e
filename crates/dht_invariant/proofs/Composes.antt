-- Two transitions of one client, one after the other, are one.
use Rattle.std.proofs.Common.{◌≡◌, ◌<◌, ◌≤◌, ℕ, true, refl, sym, ap, ◌∙◌, subst, inl, inr, arith}
use Rattle.std.specs.Prelude.{Option, Some, None, is_some}
use Rattle.std.proofs.lemmas.Bool.{cases_lt}
use Rattle.dht_types.specs.Gfid.{Entry, anchor}
use Rattle.dht_types.specs.History.{History, PendingCall}
use Rattle.dht_types.specs.declared.identifiers.ClientNo.{ClientNo}
use Rattle.dht_types.specs.declared.identifiers.Gfid.{Gfid}
use Rattle.dht_types.specs.declared.locks.Key.{Key}
use Rattle.dht_types.specs.declared.locks.Key.TheVariants.{Dir, Entry as Name}
use Rattle.dht_types.specs.declared.stored.DirRecord.{DirRecord}
use Rattle.dht_brick.specs.Contents.{Contents, slot}
use Rattle.dht_section.specs.Claims.{Claim}
use Rattle.dht_section.specs.Disk.{Disk, slot_at, dir_at, lock_at, holders}
use Rattle.dht_section.specs.Invariant.{Invariant}
use Rattle.dht_section.specs.Names.{StandsAs}
use Rattle.dht_section.specs.Planned.{AllPlanned}
use Rattle.dht_section.specs.Rely.{Rely, CopyStays}
use Rattle.dht_section.specs.Scene.{HoldsDir, HoldsAlone, HoldsName, Guards}
use Rattle.dht_section.specs.Shapes.{NameShape, Grows, core_at}
use Rattle.dht_section.specs.Views.{core, cores_of, links_to}
use Rattle.dht_invariant.specs.Laws.{TransitionsCompose}
use Rattle.dht_invariant.specs.Transition.{scene}
use Rattle.dht_invariant.proofs.Frames.{links_core}
use Rattle.dht_invariant.proofs.GrowsLaws.{grows_on, grew_between, linked_stays}

-- a copy stays, twice
copy_on : (r q u : DirRecord) → CopyStays r q → CopyStays q u → CopyStays r u
copy_on r q u h k = record { place = k.place ∙ h.place; depth = k.depth ∙ h.depth; hashes = k.hashes ∙ h.hashes }

module _ (d e f : Disk) (s t u : History) (p q r : ℕ → Claim) (w : ClientNo) (x : PendingCall) (k : Invariant d s p) (off : (b : ℕ) → d.count ≤ b → e.brick b ≡ d.brick b) (out : (b : ℕ) → e.count ≤ b → f.brick b ≡ e.brick b) (one : Rely (scene d s p w x) (scene e t q w x)) (two : Rely (scene e t q w x) (scene f u r w x)) where
  in_e : (b : ℕ) → b < d.count → b < e.count
  in_e b l = subst (λ (n : ℕ). b < n) (sym one.count) l

  in_f : (b : ℕ) → b < d.count → b < f.count
  in_f b l = subst (λ (n : ℕ). b < n) (sym two.count) (in_e b l)

  lock_stays : (g : Gfid) (key : Key) → lock_at e g key w ≡ lock_at d g key w
  lock_stays g key = ap (λ (n : ℕ). holders e (anchor g n) key w.0) one.count ∙ one.locks (anchor g d.count) key

  dir_stays : (g : Gfid) → HoldsDir (scene d s p w x) g → HoldsDir (scene e t q w x) g
  dir_stays g h = ap is_some (lock_stays g (Dir g)) ∙ h

  holds_stays : (y : Entry) → HoldsName (scene d s p w x) y → HoldsName (scene e t q w x) y
  holds_stays y h = record { name = lock_stays y.0 (Name y.0 y.1) ∙ h.name; dir = dir_stays y.0 h.dir }

  alone_stays : (g : Gfid) → HoldsAlone (scene d s p w x) g → HoldsAlone (scene e t q w x) g
  alone_stays g h = lock_stays g (Dir g) ∙ h

  guards_stay : (y : Entry) → Guards (scene d s p w x) y → Guards (scene e t q w x) y
  guards_stay y (inl h) = inl (holds_stays y h)
  guards_stay y (inr h) = inr (alone_stays y.0 h)

  -- the shapes of a guarded name at the three times
  record Three (y : Entry) : Type 0 where
    first : NameShape
    next : NameShape
    last : NameShape
    grows : Grows first next
    again : Grows next last
    stands : StandsAs d.count (cores_of d y) (s.tree.names y) first
    goes : StandsAs e.count (cores_of e y) (t.tree.names y) next
    ends : StandsAs f.count (cores_of f y) (u.tree.names y) last

  three : (y : Entry) → Guards (scene d s p w x) y → Three y
  three y g =
      let h = k.things.names y in
      let i = one.names y h.0 g h.1 in
      let j = two.names y i.0 (guards_stay y g) i.2 in
      record { first = h.0; next = i.0; last = j.0; grows = i.1; again = j.1; stands = h.1; goes = i.2; ends = j.2 }

  core_between : (y : Entry) (b : ℕ) → b < d.count → Three y → core (slot_at f b y) ≡ core (slot_at d b y) → core (slot_at e b y) ≡ core (slot_at d b y)
  core_between y b l h same =
      h.goes.has b (in_e b l)
      ∙ (grew_between h.first h.next h.last b h.grows h.again (sym (h.ends.has b (in_f b l)) ∙ (same ∙ h.stands.has b l))
      ∙ sym (h.stands.has b l))

  slots_on : (y : Entry) (b : ℕ) → Guards (scene d s p w x) y → core (slot_at f b y) ≡ core (slot_at d b y) → slot_at f b y ≡ slot_at d b y
  slots_on y b g same = elim (cases_lt b d.count) [
    | inl l ↦ (let mid = core_between y b l (three y g) same in two.slots y b (guards_stay y g) (same ∙ sym mid) ∙ one.slots y b g mid)
    | inr l ↦ ap (λ (c : Contents). slot c.store y) (out b (subst (λ (n : ℕ). n ≤ b) (sym one.count) l) ∙ off b l)
  ]

  link_stays : (y : Entry) (b : ℕ) (i : Gfid) → b < d.count → Three y → links_to i (slot_at d b y) ≡ true → links_to i (slot_at e b y) ≡ true
  link_stays y b i l h link =
      let was : links_to i (core_at h.first b) ≡ true = ap (links_to i) (sym (h.stands.has b l)) ∙ (sym (links_core i (slot_at d b y)) ∙ link) in
      let same : core (slot_at e b y) ≡ core (slot_at d b y) = h.goes.has b (in_e b l) ∙ (linked_stays i h.first h.next b h.grows was ∙ sym (h.stands.has b l)) in
      links_core i (slot_at e b y) ∙ (ap (links_to i) same ∙ (sym (links_core i (slot_at d b y)) ∙ link))

  dirs_on : (g : Gfid) (b : ℕ) (c : DirRecord) → HoldsDir (scene d s p w x) g → dir_at d b g ≡ Some c → (i : DirRecord) × (dir_at f b g ≡ Some i) × CopyStays c i
  dirs_on g b c h there =
      let i = one.dirs g b c h there in
      let j = two.dirs g b i.0 (dir_stays g h) i.1 in
      (j.0, j.1, copy_on c i.0 j.0 i.2 j.2)

  added_on : (g : Gfid) (b : ℕ) (c : DirRecord) → HoldsDir (scene d s p w x) g → dir_at d b g ≡ None → dir_at f b g ≡ Some c → AllPlanned f u.weights g
  added_on g b c h none there = by (dir_at e b g) refl
    where
      by : (o : Option DirRecord) → dir_at e b g ≡ o → AllPlanned f u.weights g
      by None gone = two.added g b c (dir_stays g h) gone there
      by (Some i) was = two.planned g (one.added g b i h none was)

  pub rely_on : Rely (scene d s p w x) (scene f u r w x)
  rely_on = record {
    who = refl;
    mine = record { number = refl; call = refl; since = refl; alone = refl; is_first = refl; was_down = refl; has_failed = refl; deeds = refl };
    count = two.count ∙ one.count;
    run = two.run ∙ one.run;
    weights = two.weights ∙ one.weights;
    locks = λ b key. two.locks b key ∙ one.locks b key;
    names = λ y h g st. (let i = one.names y h g st in let j = two.names y i.0 (guards_stay y g) i.2 in (j.0, grows_on h i.0 j.0 i.1 j.1, j.2));
    slots = slots_on;
    outlines = λ y b i g l link. two.outlines y b i (guards_stay y g) (in_e b l) (link_stays y b i l (three y g) link) ∙ one.outlines y b i g l link;
    dirs = dirs_on;
    added = added_on;
    known = λ g h i. two.known g (dir_stays g h) (one.known g h i);
    both = λ y g on h a st. two.both y g on (holds_stays y h) (alone_stays g a) (one.both y g on h a st);
    planned = λ g h. two.planned g (one.planned g h);
    made = λ g y h. two.made g y (one.made g y h);
    still = λ alone. (let j = two.still alone in let i = one.still j.before in record { before = i.before; tree = j.tree ∙ i.tree; stores = λ b. j.stores b ∙ i.stores b });
    used = λ i h. two.used i (one.used i h);
    sealed = λ i h. two.sealed i (one.sealed i h);
    nameless = λ i h. two.nameless i (one.nameless i h);
    later = (let l = one.later in let m = two.later in omega arith);
    past = λ j l. (let m = one.later in two.past j (omega arith) ∙ one.past j l);
  }

pub transitions_compose : TransitionsCompose
transitions_compose c d e f s t u p q r k one two = record {
  count = two.count ∙ one.count;
  kept = two.kept;
  early = two.early;
  later = (let l = one.later in let m = two.later in omega arith);
  pending = λ w ne. two.pending w ne ∙ one.pending w ne;
  claims = λ w ne. two.claims w ne ∙ one.claims w ne;
  elsewhere = λ b l. two.elsewhere b (subst (λ (n : ℕ). n ≤ b) (sym one.count) l) ∙ one.elsewhere b l;
  others = λ w x ne h. rely_on d e f s t u p q r w x k one.elsewhere two.elsewhere (one.others w x ne h) (two.others w x ne (one.pending w.0 ne ∙ h));
}
