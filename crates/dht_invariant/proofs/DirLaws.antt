-- What becomes of the clause on a directory where
-- copies of directories come, go, or get other ranges.
use Rattle.std.proofs.Common.{◌≡◌, ◌<◌, ◌+◌, ℕ, Bool, true, refl, sym, ap, ◌∙◌, subst, arith}
use Rattle.std.specs.Prelude.{Option, Some, None, is_some}
use Rattle.dht_types.specs.Gfid.{Entry, home}
use Rattle.dht_types.specs.Tree.{Descent, depth_in}
use Rattle.dht_types.specs.declared.identifiers.Gfid.{Gfid}
use Rattle.dht_types.specs.declared.names.EntryKey.{EntryKey}
use Rattle.dht_types.specs.declared.stored.DirRecord.{DirRecord}
use Rattle.dht_brick.specs.Contents.{entry_at}
use Rattle.dht_section.specs.Dirs.{DirInvariant, PlacedAt, SameCopy, CopyAt}
use Rattle.dht_section.specs.Views.{DirView}
use Rattle.dht_invariant.proofs.Basics.{is_there, none_some}

-- ---- a directory whose copies stay, but for their ranges

-- a brick has a copy at one time and the other, in the same place and as deep
abbrev pub SameAt : Option DirRecord → Option DirRecord → Type 0
SameAt None None = Unit {0}
SameAt (Some r) (Some q) = SameCopy r q
SameAt o p = ⊥

pub same_at : (o : Option DirRecord) → SameAt o o
same_at None = tt
same_at (Some r) = record { place = refl; depth = refl }

-- its copies and names stay, and a directory above it that is as deep as it was stands there
pub record Remains (count : ℕ) (g : Gfid) (v w : DirView) : Type 0 where
  pub copies : (b : ℕ) → b < count → SameAt (v.copies b) (w.copies b)
  pub home : is_some (w.copies (home g)) ≡ is_some (v.copies (home g))
  pub mains : (b : ℕ) (e : Entry) → b < count → w.mains b e ≡ v.mains b e
  pub above : (b n : ℕ) (k : EntryKey)
      → b < count → v.mains b (entry_at k) ≡ true → v.depths b k.dir ≡ Some n → w.depths b k.dir ≡ Some n

-- the copy that was there
was_copy :
    (o p : Option DirRecord) (r : DirRecord) → SameAt o p → p ≡ Some r
    → (q : DirRecord) × (o ≡ Some q) × SameCopy q r
was_copy None None r h e = absurd (let z : None ≡ Some r = e in cc)
was_copy (Some q) (Some p) r h e = (let same : p ≡ r = cc in (q, refl, subst (SameCopy q) same h))
was_copy None (Some p) r h e = absurd h
was_copy (Some q) None r h e = absurd h

is_copy :
    (o p : Option DirRecord) (r : DirRecord) → SameAt o p → o ≡ Some r
    → (q : DirRecord) × (p ≡ Some q) × SameCopy r q
is_copy None None r h e = absurd (let z : None ≡ Some r = e in cc)
is_copy (Some q) (Some p) r h e = (let same : q ≡ r = cc in (p, refl, subst (λ x. SameCopy x p) same h))
is_copy None (Some p) r h e = absurd h
is_copy (Some q) None r h e = absurd h

module _ (count : ℕ) (g : Gfid) (v w : DirView) (m : Remains count g v w) where
  placed_on : (b : ℕ) (r : DirRecord) (q : DirRecord) (o : Option EntryKey) → b < count → SameCopy q r → PlacedAt v b q o → PlacedAt w b r o
  placed_on b r q None l same h = same.depth ∙ h
  placed_on b r q (Some k) l same h = record {
    main = m.mains b (entry_at k) l ∙ h.main;
    above = h.above;
    parent = m.above b h.above k l h.main h.parent;
    depth = same.depth ∙ h.depth;
  }

  was : (b : ℕ) (r : DirRecord) → b < count → w.copies b ≡ Some r → (q : DirRecord) × (v.copies b ≡ Some q) × SameCopy q r
  was b r l e = was_copy (v.copies b) (w.copies b) r (m.copies b l) e

  pub dir_remains : (told : Bool) (descent : Option Descent) → DirInvariant count g v told descent → DirInvariant count g w told descent
  dir_remains told descent h = record {
    homed = h.homed ∙ sym m.home;
    led = λ b l there.
        (let r = is_there (w.copies b) there in
        let q = was b r.0 l r.1 in
        h.led b l (ap is_some q.1));
    one = λ b i r q lb li hb hi.
        (let x = was b r lb hb in
        let y = was i q li hi in
        let same = h.one b i x.0 y.0 lb li x.1 y.1 in
        record { place = y.2.place ∙ (same.place ∙ sym x.2.place); depth = y.2.depth ∙ (same.depth ∙ sym x.2.depth) });
    placed = λ b r l e.
        (let x = was b r l e in
        subst (PlacedAt w b r) (sym x.2.place) (placed_on b r x.0 x.0.place l x.2 (h.placed b x.0 l x.1)));
    rooted = λ b r l e none. (let x = was b r l e in h.rooted b x.0 l x.1 (sym x.2.place ∙ none));
    deep = λ b r l e. (let x = was b r l e in x.2.depth ∙ h.deep b x.0 l x.1);
    named = λ b e l main.
        (let n = h.named b e l (sym (m.mains b e l) ∙ main) in
        let c = is_copy (v.copies b) (w.copies b) n.copy (m.copies b l) n.there in
        record { copy = c.0; there = c.1; key = n.key; place = c.2.place ∙ n.place; name = n.name });
  }

-- ---- a directory of one name

-- the copies that there are stand at this name, as deep
-- as that, and the name is the directory's where they are
pub record OneName (count : ℕ) (w : DirView) (k : EntryKey) (above : ℕ) : Type 0 where
  pub placed : (b : ℕ) (r : DirRecord)
      → b < count → w.copies b ≡ Some r → (r.place ≡ Some k) × (r.depth ≡ above + 1)
  pub main : (b : ℕ) → b < count → is_some (w.copies b) ≡ true → w.mains b (entry_at k) ≡ true
  pub parent : (b : ℕ) → b < count → is_some (w.copies b) ≡ true → w.depths b k.dir ≡ Some above
  pub named : (b : ℕ) (e : Entry)
      → b < count → w.mains b e ≡ true → (e ≡ entry_at k) × (is_some (w.copies b) ≡ true)

module _ (count : ℕ) (g : Gfid) (w : DirView) (k : EntryKey) (above : ℕ) (m : OneName count w k above) where
  stands_in : (b : ℕ) (r : DirRecord) → b < count → w.copies b ≡ Some r → PlacedAt w b r (Some k)
  stands_in b r l e = record {
    main = m.main b l (ap is_some e);
    above = above;
    parent = m.parent b l (ap is_some e);
    depth = (m.placed b r l e).1;
  }

  pub dir_of_name : (told : Bool) (descent : Option Descent) → told ≡ is_some (w.copies (home g)) → ((b : ℕ) → b < count → is_some (w.copies b) ≡ true → (home g < count) × (told ≡ true)) → ((b : ℕ) → b < count → is_some (w.copies b) ≡ true → above + 1 ≡ depth_in descent) → DirInvariant count g w told descent
  dir_of_name told descent homed led deep = record {
    homed = homed;
    led = led;
    one = λ b i r q lb li hb hi.
        (let x = m.placed b r lb hb in
        let y = m.placed i q li hi in
        record { place = y.0 ∙ sym x.0; depth = y.1 ∙ sym x.1 });
    placed = λ b r l e. subst (PlacedAt w b r) (sym (m.placed b r l e).0) (stands_in b r l e);
    rooted = λ b r l e none. absurd (none_some r.place k none (m.placed b r l e).0);
    deep = λ b r l e. (m.placed b r l e).1 ∙ deep b l (ap is_some e);
    named = λ b e l main.
        (let n = m.named b e l main in
        let c = is_there (w.copies b) n.1 in
        record { copy = c.0; there = c.1; key = k; place = (m.placed b c.0 l c.1).0; name = sym n.0 });
  }

-- a directory that has a name on some brick is of that name alone
module _ (count : ℕ) (g : Gfid) (v : DirView) (told : Bool) (descent : Option Descent) (h : DirInvariant count g v told descent) (a : ℕ) (x : Entry) (there : a < count) (main : v.mains a x ≡ true) where
  first : CopyAt v a x
  first = h.named a x there main

  abbrev key : EntryKey
  key = record { dir = x.0; name = x.1 }

  first_key : first.key ≡ key
  first_key = let q = first.name in λ i. record { dir = (q i).0; name = (q i).1 }

  first_place : first.copy.place ≡ Some key
  first_place = first.place ∙ ap Some first_key

  placed_first : PlacedAt v a first.copy (Some key)
  placed_first = subst (PlacedAt v a first.copy) first_place (h.placed a first.copy there first.there)

  place_of : (b : ℕ) (r : DirRecord) → b < count → v.copies b ≡ Some r → r.place ≡ Some key
  place_of b r l e = (h.one a b first.copy r there l first.there e).place ∙ first_place

  depth_of : (b : ℕ) (r : DirRecord) → b < count → v.copies b ≡ Some r → r.depth ≡ placed_first.above + 1
  depth_of b r l e = (h.one a b first.copy r there l first.there e).depth ∙ placed_first.depth

  placed_by : (b : ℕ) (r : DirRecord) → b < count → v.copies b ≡ Some r → PlacedAt v b r (Some key)
  placed_by b r l e = subst (PlacedAt v b r) (place_of b r l e) (h.placed b r l e)

  parent_of : (b : ℕ) → b < count → is_some (v.copies b) ≡ true → v.depths b x.0 ≡ Some placed_first.above
  parent_of b l some =
      let r = is_there (v.copies b) some in
      let p = placed_by b r.0 l r.1 in
      let was = p.depth in
      let is = depth_of b r.0 l r.1 in
      let one = p.above in
      p.parent ∙ ap Some (omega arith)

  named_as : (b : ℕ) (e : Entry) → b < count → v.mains b e ≡ true → (e ≡ x) × (is_some (v.copies b) ≡ true)
  named_as b e l at =
      let n = h.named b e l at in
      let same : Some n.key ≡ Some key = sym n.place ∙ place_of b n.copy l n.there in
      let keys : n.key ≡ key = cc in
      (sym n.name ∙ ap entry_at keys, ap is_some n.there)

  pub one_name : (above : ℕ) × OneName count v (record { dir = x.0; name = x.1 }) above × (above + 1 ≡ depth_in descent)
  one_name = (
    placed_first.above,
    record {
      placed = λ b r l e. (place_of b r l e, depth_of b r l e);
      main = λ b l some. (let r = is_there (v.copies b) some in (placed_by b r.0 l r.1).main);
      parent = parent_of;
      named = named_as;
    },
    sym placed_first.depth ∙ h.deep a first.copy there first.there,
  )
