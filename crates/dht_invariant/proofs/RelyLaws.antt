-- What a request of another client touches at most is what others may do.
use Rattle.std.proofs.Common.{◌≡◌, ◌≢◌, ◌<◌, ◌≤◌, ℕ, refl, sym, ◌∙◌, subst, inl, inr}
use Rattle.std.specs.Prelude.{None, Some, List}
use Rattle.dht_types.specs.Gfid.{Entry, anchor}
use Rattle.dht_types.specs.Counted.{CallsCounted}
use Rattle.dht_types.specs.History.{History, PendingCall, IsAlone}
use Rattle.dht_types.specs.declared.identifiers.Gfid.{Gfid}
use Rattle.dht_types.specs.declared.identifiers.ClientNo.{ClientNo}
use Rattle.dht_types.specs.declared.locks.Key.{Key}
use Rattle.dht_types.specs.declared.locks.Key.TheVariants.{Dir, Entry as Name}
use Rattle.dht_types.specs.declared.locks.Mode.{Mode}
use Rattle.dht_types.specs.declared.locks.Mode.TheVariants.{Exclusive}
use Rattle.dht_types.specs.declared.stored.DirRecord.{DirRecord}
use Rattle.dht_section.specs.Claims.{Claim}
use Rattle.dht_section.specs.Disk.{Disk, lock_at, dir_at, holders}
use Rattle.dht_section.specs.Locks.{LockInvariant}
use Rattle.dht_section.specs.Planned.{AllPlanned}
use Rattle.dht_section.specs.Rely.{Rely, CopyStays}
use Rattle.dht_section.specs.Scene.{Scene, HoldsDir, HoldsAlone, Guards}
use Rattle.dht_invariant.specs.Touches.{Touches, DirStays, Same, Cleared, Added}
use Rattle.dht_invariant.specs.Transition.{scene}
use Rattle.dht_invariant.proofs.Basics.{none_some, some_same, is_there, anchor_within}

-- the scene as another client sees it
abbrev pub seen_by : ClientNo → PendingCall → Scene → Scene
seen_by w r o = scene o.disk o.history o.claims w r

module _ (o : Scene) (w : ClientNo) (r : PendingCall) (ne : w.0 ≢ o.who.0) (some : 0 < o.disk.count) (locks : (b : ℕ) (key : Key) → b < o.disk.count → LockInvariant b key (holders o.disk b key) o.claims) where
  within : (g : Gfid) → anchor g o.disk.count < o.disk.count
  within g = anchor_within g o.disk.count some

  -- two clients do not hold one lock, one of them alone
  clash : (g : Gfid) (k : Key) (m : Mode) → lock_at o.disk g k o.who ≡ Some Exclusive → lock_at o.disk g k w ≡ Some m → ⊥
  clash g k m h i = ne ((locks (anchor g o.disk.count) k (within g)).alone o.who.0 w.0 m h i)

  clash_dir : (g : Gfid) → HoldsAlone o g → HoldsDir (seen_by w r o) g → ⊥
  clash_dir g h i = (let q = is_there (lock_at o.disk g (Dir g) w) i in clash g (Dir g) q.0 h q.1)

  clash_back : (g : Gfid) → HoldsDir o g → HoldsAlone (seen_by w r o) g → ⊥
  clash_back g h i = (let q = is_there (lock_at o.disk g (Dir g) o.who) h in ne (sym ((locks (anchor g o.disk.count) (Dir g) (within g)).alone w.0 o.who.0 q.0 i q.1)))

  -- nor do two guard one name
  pub guards_clash : (x : Entry) → Guards o x → Guards (seen_by w r o) x → ⊥
  guards_clash x (inl h) (inl i) = clash x.0 (Name x.0 x.1) Exclusive h.name i.name
  guards_clash x (inl h) (inr i) = clash_back x.0 h.dir i
  guards_clash x (inr h) (inl i) = clash_dir x.0 h i.dir
  guards_clash x (inr h) (inr i) = clash x.0 (Dir x.0) Exclusive h i

  stays : (e : Disk) (g : Gfid) (b : ℕ) (rec : DirRecord) → DirStays o e b g → dir_at o.disk b g ≡ Some rec → (q : DirRecord) × (dir_at e b g ≡ Some q) × CopyStays rec q
  stays e g b rec (Same h) k = (rec, h ∙ k, record { place = refl; depth = refl; hashes = refl })
  stays e g b rec (Cleared r q h i same) k = (q, i, subst (λ (x : DirRecord). CopyStays x q) (some_same (dir_at o.disk b g) r rec h k) same)
  stays e g b rec (Added none planned) k = absurd (none_some (dir_at o.disk b g) rec none k)

  comes : (e : Disk) (g : Gfid) (b : ℕ) (rec : DirRecord) → DirStays o e b g → dir_at o.disk b g ≡ None → dir_at e b g ≡ Some rec → AllPlanned e o.history.weights g
  comes e g b rec (Same h) none k = absurd (none_some (dir_at o.disk b g) rec none (sym h ∙ k))
  comes e g b rec (Cleared r q h i same) none k = absurd (none_some (dir_at o.disk b g) r none h)
  comes e g b rec (Added h planned) none k = planned

  -- the call of another client is not alone, as mine is running too
  pub never_alone : (t : History) → CallsCounted o.history → o.history.pending o.who.0 ≡ Some o.mine → o.history.pending w.0 ≡ Some r → t.calls ≡ o.history.calls → IsAlone t r → ⊥
  never_alone t counts mine other calls alone =
      none_some (o.history.pending o.who.0) o.mine (counts.alone w.0 o.who.0 r other alone.first (alone.last ∙ calls) (λ q. ne (sym q))) mine

  pub others_of : (e : Disk) (t : History) (q : ℕ → Claim) → Touches o e t.tree → (IsAlone t r → ⊥) → t.run ≡ o.history.run → t.weights ≡ o.history.weights → o.history.size ≤ t.size → ((j : ℕ) → j ≤ o.history.size → t.past j ≡ o.history.past j) → Rely (seen_by w r o) (scene e t q w r)
  others_of e t q h running run weights later past = record {
    who = refl;
    mine = record { number = refl; call = refl; since = refl; alone = refl; is_first = refl; was_down = refl; has_failed = refl; deeds = refl };
    count = h.count;
    run = run;
    weights = weights;
    locks = λ b k. h.locks w.0 b k ne;
    names = λ x s g st. elim (h.names x s st) [ inl q ↦ absurd (guards_clash x q g) | inr q ↦ q ];
    slots = λ x b g same. elim (h.slots x b same) [ inl q ↦ absurd (guards_clash x q g) | inr q ↦ q ];
    outlines = λ x b f g l link. elim (h.outlines b f l) [ inl q ↦ absurd (guards_clash x (q x b l link) g) | inr q ↦ q ];
    dirs = λ g b rec i there. elim (h.dirs g b) [ inl q ↦ absurd (clash_dir g q i) | inr q ↦ stays e g b rec q there ];
    added = λ g b rec i none there. elim (h.dirs g b) [ inl q ↦ absurd (clash_dir g q i) | inr q ↦ subst (λ (ws : List ℕ). AllPlanned e ws g) (sym weights) (comes e g b rec q none there) ];
    known = λ g i d. elim (h.known g d) [ inl q ↦ absurd (clash_dir g q i) | inr q ↦ q ];
    both = λ x g on i a st. elim (h.both x g on st) [
      | inl q ↦ absurd (guards_clash x q (inl i))
      | inr q ↦ elim q [ inl z ↦ absurd (clash g (Dir g) Exclusive z a) | inr z ↦ z ]
    ];
    planned = λ g k. subst (λ (ws : List ℕ). AllPlanned e ws g) (sym weights) (h.planned g k);
    made = h.made;
    still = λ alone. absurd (running alone);
    used = h.used;
    sealed = h.sealed;
    nameless = h.nameless;
    later = later;
    past = past;
  }
