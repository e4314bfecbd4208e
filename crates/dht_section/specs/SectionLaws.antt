-- The laws of the section as a machine.
use Rattle.std.proofs.Common.{◌≡◌, ◌<◌, ◌⊎◌, ℕ, Bool, true, false, refl, sym, ◌∙◌, ap, subst, inl, inr, arith, ◌∷◌}
use Rattle.std.specs.Prelude.{zero, suc, length, is_some, Option, Some, None, slice_index_or}
use Rattle.std.specs.Ordering.{is_lt}
use Rattle.std.proofs.lemmas.Bool.Decides.{nat_tests}
use Rattle.dht_types.specs.Gfid.{Entry, anchor}
use Rattle.dht_types.specs.Tree.{Tree}
use Rattle.dht_types.specs.declared.identifiers.Gfid.{Gfid}
use Rattle.dht_types.specs.declared.locks.Key.{Key}
use Rattle.dht_types.specs.declared.locks.Key.TheVariants.{Rebalance, Dir, Entry as Name, Content}
use Rattle.dht_types.specs.declared.stored.DirRecord.{DirRecord}
use Rattle.dht_types.specs.declared.stored.Record.{Record}
use Rattle.dht_types.specs.declared.stored.Record.TheVariants as stored
use Rattle.dht_types.specs.declared.stored.Slot.{Slot}
use Rattle.dht_xattr.specs.Plan.{planned}
use Rattle.dht_xattr.specs.declared.range.Range.{Range}
use Rattle.dht_brick.specs.Looks.{shape_of}
use Rattle.dht_section.specs.Claims.{Claim, rank_cmp, IsAbove}
use Rattle.dht_section.specs.Disk.{holders, lock_at, slot_at, file_at, dir_at, range_of}
use Rattle.dht_section.specs.Looks.{looked_at, mark_at, linkto_in}
use Rattle.dht_section.specs.MayAnswerLaws.{may_answer_stable}
use Rattle.dht_section.specs.Permits.{StandsOn}
use Rattle.dht_section.specs.Planned.{bounds, AllPlanned}
use Rattle.dht_section.specs.Rely.{Rely, Outline, NoRecord, IsLive, IsMoving, IsStandby, IsForward, outline}
use Rattle.dht_section.specs.Scene.{Scene, Sound, HoldsDir, HoldsName, NameStands, fault_finish}
use Rattle.dht_section.specs.Section.{HasCopy, HadNoCopy, ReadAt, Reads, StandsSeen, ShownOf, found_shape, HasScope, IsFresh, HoldsKey, AllHeld, SawAt, WhatShown, Shown, IsLooked, IsHeld, WasGone, unheld_earned, unlocking_stage, section_stage}
use Rattle.dht_section.specs.Shapes.{NameShape, Bare, Folder, Plain, Grows}
use Rattle.dht_section.specs.Stages.{MaySend, IsStable}
use Rattle.dht_section.specs.Views.{core, links_to}
use Rattle.dht_section.specs.Want.{Scoped, IsOrdered, IsGuard, key_at, name_at, dir_of, lock_brick, lock_in, claimed}
use Rattle.dht_section.specs.declared.looks.Looked.{Looked}
use Rattle.dht_section.specs.declared.looks.Sight.{Sight}
use Rattle.dht_section.specs.declared.looks.What.{What}
use Rattle.dht_section.specs.declared.looks.What.TheVariants.{Absent, Dir as Directory, File}
use Rattle.dht_section.specs.declared.looks.Place.{Place}
use Rattle.dht_section.specs.declared.section.Held.{Held}
use Rattle.dht_section.specs.declared.section.Section.{Section}
use Rattle.dht_section.specs.declared.section.Section.TheVariants.{Locking, Looking, Unlocking}
use Rattle.dht_section.specs.declared.section.Unheld.{Unheld}
use Rattle.dht_section.specs.declared.section.Unheld.TheVariants.{Gone, Stopped}

-- ---- where locks stand

brick_at :
    (w : Scoped) (key : Key) (n : ℕ) → 0 < n → n ≡ w.bricks
    → lock_brick w key ≡ anchor (dir_of key) n
brick_at w key n h e = grind (arith, nat_tests, ap (anchor (dir_of key)) e)

anchor_within : (g : Gfid) (n : ℕ) → 0 < n → anchor g n < n
anchor_within g n h = omega arith

pub bricks_are : (w : Scoped) (s : Scene) → Sound s → HasScope w s → s.disk.count ≡ w.bricks
bricks_are w s sound h = sound.kept.counted ∙ h.bricks

pub lock_brick_is :
    (w : Scoped) (key : Key) (s : Scene) → Sound s → HasScope w s
    → lock_brick w key ≡ anchor (dir_of key) s.disk.count
lock_brick_is w key s sound h = brick_at w key s.disk.count sound.kept.some_brick (bricks_are w s sound h)

pub lock_brick_within :
    (w : Scoped) (key : Key) (s : Scene) → Sound s → HasScope w s → lock_brick w key < s.disk.count
lock_brick_within w key s sound h =
    let e = lock_brick_is w key s sound h in
    let w = anchor_within (dir_of key) s.disk.count sound.kept.some_brick in
    omega arith

stands_by :
    (b count : ℕ) (key : Key) → IsGuard key → b ≡ anchor (dir_of key) count → StandsOn count b key
stands_by b count (Dir g) k e = e
stands_by b count (Name g n) k e = e
stands_by b count Rebalance k e = absurd k
stands_by b count (Content f) k e = absurd k

pub stands_on :
    (w : Scoped) (key : Key) (s : Scene) → Sound s → HasScope w s → IsGuard key
    → StandsOn s.disk.count (lock_brick w key) key
stands_on w key s sound h k = stands_by (lock_brick w key) s.disk.count key k (lock_brick_is w key s sound h)

-- ---- what is claimed

pub claimed_more : (w : Scoped) (i : ℕ) → claimed w (suc i) ≡ lock_in w i ∷ claimed w i
unfolding claimed
claimed_more w i = refl

-- a key that is above each of the first ones
all_below :
    (w : Scoped) (key : Key) (i : ℕ) → ((j : ℕ) → j < i → is_lt (rank_cmp (key_at w j) key) ≡ true)
    → IsAbove key (claimed w i)
unfolding claimed
all_below w key zero h = tt
all_below w key (suc i) h = (h i (omega arith), all_below w key i (λ j l. h j (omega arith)))

-- ---- what a section may ask

-- each lock is above those that were asked for
pub section_permitted : (m : Section) → MaySend (section_stage m)
section_permitted (Locking w i looks) s sound h =
    let k = h.knows in
    record {
      there = lock_brick_within w (key_at w i) s sound k.fresh.scope;
      may = (
        stands_on w (key_at w i) s sound k.fresh.scope (k.order.kinds i k.within),
        record {
          before = claimed w i;
          first = ap (λ (c : Claim). c.locks) h.claims ∙ claimed_more w i;
          above = all_below w (key_at w i) i (λ j l. k.order.above j i l k.within);
        },
      );
    }
section_permitted (Looking w looks n b x) s sound h = record {
  there = let c = bricks_are w s sound h.knows.fresh.scope in let l = h.knows.within in omega arith;
  may = (tt, tt);
}
section_permitted (Unlocking w i x) s sound h = record {
  there = lock_brick_within w (key_at w i) s sound h.knows.scope;
  may = stands_on w (key_at w i) s sound h.knows.scope (h.knows.order.kinds i h.knows.within);
}

-- ---- what others leave

pub scope_stable : (w : Scoped) (s t : Scene) → HasScope w s → Rely s t → HasScope w t
scope_stable w s t h o = record { bricks = ap length o.weights ∙ h.bricks; homes = h.homes }

pub fresh_stable : (w : Scoped) (s t : Scene) → IsFresh w s → Rely s t → IsFresh w t
fresh_stable w s t h o = record { scope = scope_stable w s t h.scope o; deeds = o.mine.deeds ∙ h.deeds }

-- a lock is held as it was
pub lock_stable :
    (s t : Scene) (g : Gfid) (key : Key) → Rely s t
    → lock_at t.disk g key t.who ≡ lock_at s.disk g key s.who
lock_stable s t g key o =
    ap (λ c. lock_at t.disk g key c) o.who
    ∙ (ap (λ (n : ℕ). holders t.disk (anchor g n) key s.who.0) o.count ∙ o.locks (anchor g s.disk.count) key)

pub held_stable : (w : Scoped) (i : ℕ) (s t : Scene) → AllHeld w i s → Rely s t → AllHeld w i t
held_stable w i s t h o j l = lock_stable s t (dir_of (key_at w j)) (key_at w j) o ∙ h j l

-- where all locks are held, the lock of each name is, and that of its directory
pub holds_name :
    (w : Scoped) (n : ℕ) (s : Scene) → IsOrdered w → n < length w.names
    → AllHeld w (length w.keys) s → HoldsName s (name_at w n)
holds_name w n s order l h =
    let name = order.named n l in
    let dir = order.housed n l in
    record {
      name = subst (λ (k : Key). HoldsKey w k s) name.2 (h name.0 name.1);
      dir = ap is_some (subst (λ (k : Key). HoldsKey w k s) dir.2 (h dir.0 dir.1));
    }

-- a copy of a directory that I hold stays, with its range
pub copy_stable :
    (g : Gfid) (read : Option Range) (b : ℕ) (s t : Scene) (o : Option DirRecord)
    → dir_at s.disk b g ≡ o → HoldsDir s g → HasCopy g read b s → Rely s t → HasCopy g read b t
copy_stable g read b s t None e holds h o = absurd (let z : false ≡ true = ap is_some (sym e) ∙ h.there in cc)
copy_stable g read b s t (Some r) e holds h o =
    let q = o.dirs g b r holds e in
    record {
      there = ap is_some q.1;
      same = h.same ∙ (ap (λ x. bounds (range_of x)) e ∙ (sym q.2.hashes ∙ ap (λ x. bounds (range_of x)) (sym q.1)));
    }

-- where all ranges of it are planned, they stay so: a copy that is added has a planned one
planned_stable :
    (g : Gfid) (s t : Scene) → HoldsDir s g → AllPlanned s.disk s.history.weights g → Rely s t
    → AllPlanned t.disk t.history.weights g
planned_stable g s t holds h o b r l e = by (dir_at s.disk b g) refl
  where
    by : (x : Option DirRecord) → dir_at s.disk b g ≡ x → (bounds (range_of (Some r)) ≡ None) ⊎ (bounds (range_of (Some r)) ≡ bounds (slice_index_or (planned t.history.weights g) b None))
    by None k = o.added g b r holds k e b r l e
    by (Some p) k =
        let q = o.dirs g b p holds k in
        let same : bounds (range_of (Some r)) ≡ bounds (range_of (Some p)) = ap (λ x. bounds (range_of x)) (sym e ∙ q.1) ∙ q.2.hashes in
        elim (h b p (let c = o.count in omega arith) k) [
          | inl z ↦ inl (same ∙ z)
          | inr z ↦ inr (same ∙ (z ∙ ap (λ ws. bounds (slice_index_or (planned ws g) b None)) (sym o.weights)))
        ]

-- a brick that had no copy has none, or it was added with a planned range
still_none :
    (g : Gfid) (b : ℕ) (s t : Scene) → HoldsDir s g → dir_at s.disk b g ≡ None → Rely s t
    → (dir_at t.disk b g ≡ None) ⊎ AllPlanned t.disk t.history.weights g
still_none g b s t holds h o = by (dir_at t.disk b g) refl
  where
    by : (x : Option DirRecord) → dir_at t.disk b g ≡ x → (dir_at t.disk b g ≡ None) ⊎ AllPlanned t.disk t.history.weights g
    by None e = inl e
    by (Some r) e = inr (o.added g b r holds h e)

no_copy_stable :
    (g : Gfid) (read : Option Range) (b : ℕ) (s t : Scene) → HoldsDir s g → HadNoCopy g read b s
    → Rely s t → HadNoCopy g read b t
no_copy_stable g read b s t holds h o = record {
  below = h.below;
  away = h.away;
  nothing = h.nothing;
  still = elim h.still [
    | inl q ↦ still_none g b s t holds q o
    | inr q ↦ inr (planned_stable g s t holds q o)
  ];
}

read_stable :
    (g : Gfid) (mark : Bool) (read : Option Range) (b : ℕ) (s t : Scene) → HoldsDir s g
    → ReadAt g mark read b s → Rely s t → ReadAt g mark read b t
read_stable g true read b s t holds h o = copy_stable g read b s t (dir_at s.disk b g) refl holds h o
read_stable g false read b s t holds h o = no_copy_stable g read b s t holds h o

pub reads_stable :
    (g : Gfid) (x : Sight) (s t : Scene) → HoldsDir s g → Reads g x s → Rely s t → Reads g x t
reads_stable g x s t holds h o b l = read_stable g (mark_at x.copies b) (slice_index_or x.layout b None) b s t holds (h b l) o

saw_at_stable : (e : Entry) (x : Looked) (s t : Scene) → SawAt e x s → Rely s t → SawAt e x t
saw_at_stable e x s t h o =
    let later = o.later in
    let before = h.before in
    let after = h.after in
    let since = o.mine.since in
    record {
      after = omega arith;
      before = omega arith;
      directory = ap (λ (p : Tree). p.dirs e.0) (o.past x.at h.before) ∙ h.directory;
      node = ap (λ (p : Tree). p.names e) (o.past x.at h.before) ∙ h.node;
      descent = h.descent;
      was = ap (λ (p : Tree). p.descents e.0) (o.past x.at h.before) ∙ h.was;
      is = o.made e.0 h.descent h.is;
    }

-- the core of a name's slot, by how it stands
pub same_core :
    (e : Entry) (h : NameShape) (s t : Scene) (b : ℕ) → t.disk.count ≡ s.disk.count
    → b < s.disk.count → NameStands s e h → NameStands t e h
    → core (slot_at t.disk b e) ≡ core (slot_at s.disk b e)
same_core e h s t b count l k q = q.has b (omega arith) ∙ sym (k.has b l)

-- the hop of a record, by its outline
outline_hop : Outline → ℕ
outline_hop NoRecord = 0
outline_hop (IsLive hop) = hop
outline_hop (IsMoving hop t) = hop
outline_hop (IsStandby hop source dir name) = hop
outline_hop (IsForward hop brick) = hop

hop_by : (o : Option Record) → (shape_of o).hop ≡ outline_hop (outline o)
unfolding outline_hop
hop_by None = refl
hop_by (Some (stored.Live hop bytes)) = refl
hop_by (Some (stored.Moving hop t bytes)) = refl
hop_by (Some (stored.Standby c)) = refl
hop_by (Some (stored.Forward hop brick)) = refl

what_stable :
    (e : Entry) (what : What) (hop : ℕ) (h : NameShape) (s t : Scene) → HoldsName s e
    → NameStands s e h → NameStands t e h → WhatShown e what hop s → Rely s t
    → WhatShown e what hop t
what_stable e Absent hop h s t holds k q x o = tt
what_stable e (Directory g) hop h s t holds k q x o = tt
what_stable e (File f b links) hop h s t holds k q x o =
    let l = x.there in
    let count = o.count in
    let same = o.slots e b.0 (inl holds) (same_core e h s t b.0 o.count x.there k q) in
    record {
      there = omega arith;
      link = ap (links_to f) same ∙ x.link;
      moved = x.moved ∙ (hop_by (file_at s.disk b.0 f) ∙ (ap outline_hop (sym (o.outlines e b.0 f (inl holds) x.there x.link)) ∙ sym (hop_by (file_at t.disk b.0 f))));
    }

pub shown_stable :
    (e : Entry) (x : Sight) (limit : ℕ) (h : NameShape) (s t : Scene) → HoldsName s e
    → NameStands s e h → NameStands t e h → Shown e x limit s → Rely s t → Shown e x limit t
shown_stable e x limit h s t holds k q w o = record {
  room = w.room;
  bricks = λ b l. (let p = w.bricks b l in
      let there = p.there in
      let count = o.count in
      record {
        there = omega arith;
        linkto = p.linkto
            ∙ (ap (λ ws. linkto_in (length ws) (slot_at s.disk b e).main) (sym o.weights)
            ∙ ap (λ (v : Slot). linkto_in (length t.history.weights) v.main) (sym (o.slots e b (inl holds) (same_core e h s t b o.count p.there k q))));
      });
  file = what_stable e x.what x.hop h s t holds k q w.file o;
}

-- a name that stands nowhere, or as a file on one brick, stays so
pub found_grows :
    (found : Option Place) (k : NameShape) → Grows (found_shape found) k → k ≡ found_shape found
found_grows None k h = h
found_grows (Some p) k h = h

pub stands_stable :
    (e : Entry) (found : Option Place) (s t : Scene) → HoldsName s e
    → NameStands s e (found_shape found) → Rely s t → NameStands t e (found_shape found)
stands_stable e found s t holds h o =
    let q = o.names e (found_shape found) (inl holds) h in
    subst (λ (k : NameShape). NameStands t e k) (found_grows found q.0 q.1) q.2

-- what was seen at it stands, and a directory has got copies at most
pub seen_stable :
    (e : Entry) (what : What) (s t : Scene) → HoldsName s e → StandsSeen e what s → Rely s t
    → StandsSeen e what t
seen_stable e Absent s t holds h o = stands_stable e None s t holds h o
seen_stable e (Directory g) s t holds h o =
    let q = o.names e (Folder g h.0) (inl holds) h.1 in
    (q.1.0, subst (λ (k : NameShape). NameStands t e k) q.1.1 q.2)
seen_stable e (File f b links) s t holds h o = stands_stable e (Some (record { brick = b; file = f })) s t holds h o

pub shown_of_stable :
    (e : Entry) (what : What) (x : Sight) (limit : ℕ) (s t : Scene) → HoldsName s e
    → StandsSeen e what s → StandsSeen e what t → ShownOf what e x limit s → Rely s t
    → ShownOf what e x limit t
shown_of_stable e Absent x limit s t holds k q w o = shown_stable e x limit Bare s t holds k q w o
shown_of_stable e (Directory g) x limit s t holds k q w o = w
shown_of_stable e (File f b links) x limit s t holds k q w o = shown_stable e x limit (Plain b.0 f) s t holds k q w o

pub looked_stable :
    (bricks : ℕ) (e : Entry) (x : Looked) (s t : Scene) → HoldsName s e → IsLooked bricks e x s
    → Rely s t → IsLooked bricks e x t
looked_stable bricks e x s t holds h o =
    let stands = seen_stable e x.sight.what s t holds h.stands o in
    record {
      stands = stands;
      shown = shown_of_stable e x.sight.what x.sight bricks s t holds h.stands stands h.shown o;
      read = reads_stable e.0 x.sight s t holds.dir h.read o;
      whole = h.whole;
      saw = saw_at_stable e x s t h.saw o;
    }

pub gone_stable : (g : Gfid) (at : ℕ) (s t : Scene) → WasGone g at s → Rely s t → WasGone g at t
gone_stable g at s t h o =
    let later = o.later in
    let before = h.before in
    let after = h.after in
    let since = o.mine.since in
    record {
      deeds = o.mine.deeds ∙ h.deeds;
      after = omega arith;
      before = omega arith;
      gone = ap (λ (p : Tree). p.dirs g) (o.past at h.before) ∙ h.gone;
    }

pub unheld_stable :
    (w : Scoped) (x : Unheld) (s t : Scene) → unheld_earned w x s → Rely s t → unheld_earned w x t
unheld_stable w (Gone g at) s t h o = (h.0, gone_stable g at s t h.1 o)
unheld_stable w (Stopped e) s t h o = may_answer_stable (fault_finish e) s t h o

pub unlocking_stable :
    (w : Scoped) (i : ℕ) (earned : Scene → Type 0)
    → ((s t : Scene) → earned s → Rely s t → earned t) → IsStable (unlocking_stage w i earned)
unlocking_stable w i earned stays s t h o = record {
  order = h.order;
  scope = scope_stable w s t h.scope o;
  within = h.within;
  earned = stays s t h.earned o;
}

pub section_stable : (m : Section) → IsStable (section_stage m)
section_stable (Locking w i looks) s t h o = record {
  order = h.order;
  fresh = fresh_stable w s t h.fresh o;
  within = h.within;
  room = h.room;
  holds = held_stable w i s t h.holds o;
}
section_stable (Looking w looks n b x) s t h o =
    let e = name_at w n in
    let holds = holds_name w n s h.order h.name h.holds in
    let stands = seen_stable e h.saw.full s t holds h.saw.stands o in
    record {
      order = h.order;
      fresh = fresh_stable w s t h.fresh o;
      name = h.name;
      within = h.within;
      room = h.room;
      holds = held_stable w (length w.keys) s t h.holds o;
      saw = record { full = h.saw.full; stands = stands; shows = h.saw.shows };
      read = reads_stable e.0 x s t holds.dir h.read o;
      whole = h.whole;
      shown = shown_of_stable e h.saw.full x b.0 s t holds h.saw.stands stands h.shown o;
      looked = λ j l. looked_stable w.bricks (name_at w j) (looked_at looks j) s t (holds_name w j s h.order (let k = h.name in omega arith) h.holds) (h.looked j l) o;
    }
section_stable (Unlocking w i x) s t h o = unlocking_stable w i (unheld_earned w x) (unheld_stable w x) s t h o

-- what is held stays so, whatever others do
pub is_held_stable : (h : Held) (s t : Scene) → IsHeld h s → Rely s t → IsHeld h t
is_held_stable h s t k o = record {
  order = k.order;
  fresh = fresh_stable h.scope s t k.fresh o;
  room = k.room;
  holds = held_stable h.scope (length h.scope.keys) s t k.holds o;
  looked = λ j l. looked_stable h.scope.bricks (name_at h.scope j) (looked_at h.looks j) s t (holds_name h.scope j s k.order l k.holds) (k.looked j l) o;
}
