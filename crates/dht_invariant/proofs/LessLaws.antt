-- What the invariant of a file keeps where fewer have it open, and no client
-- has copied it further; where it loses names; and where it is sealed.
use Rattle.std.proofs.Common.{◌≡◌, ◌<◌, ◌≤◌, ℕ, Bool, true, List, refl, sym, ap, ◌∙◌, subst, inl, inr, arith}
use Rattle.std.specs.Prelude.{Option, take}
use Rattle.std.proofs.lemmas.List.{take-take}
use Rattle.dht_types.specs.Gfid.{Entry}
use Rattle.dht_section.specs.Files.{FileInvariant, NamedAs, NoLink, NoCopy, Agree, PointsOn, Leads, ToMain, ToMoved, ToCopy, Onward}
use Rattle.dht_section.specs.Shapes.{FileShape, Gone, Live, Moving, Copying, Moved}
use Rattle.dht_section.specs.Views.{FileView}
use Rattle.dht_invariant.proofs.Basics.{not_true, true_false}

agree_less : (p q : ℕ) (copy source : List ℕ) → q ≤ p → Agree p copy source → Agree q copy source
agree_less p q copy source l h = record {
  same = sym (take-take q p copy l) ∙ (ap (take q) h.same ∙ take-take q p source l);
  shorter = h.shorter;
}

-- where a pointer leads is told by the records
pub points_on :
    (count : ℕ) (v w : FileView) (h : FileShape) → ((b : ℕ) → w.records b ≡ v.records b)
    → PointsOn count v h → PointsOn count w h
points_on count v w h same points i k n b l r e = (let z = points i k n b l (sym (same i) ∙ r) e in (z.0, z.1, leads_on b.0 k z.2))
  where
    leads_on : (b k : ℕ) → Leads v h b k → Leads w h b k
    leads_on b k (ToMain e n t l) = ToMain e n t l
    leads_on b k (ToMoved c e l) = ToMoved c e l
    leads_on b k (ToCopy c e l) = ToCopy c (same b ∙ e) l
    leads_on b k (Onward n next e l) = Onward n next (same b ∙ e) l

names_less :
    (count : ℕ) (v : FileView) (o : ℕ) (p q : ℕ → ℕ → ℕ) (h : FileShape)
    → ((b w : ℕ) → q b w ≤ p b w) → NamedAs count v p h
    → NamedAs count (record v { opened = o }) q h
names_less count v o p q Gone l n = n
names_less count v o p q (Live b hop bytes) l n = n
names_less count v o p q (Moving b hop t bytes) l n = n
names_less count v o p q (Copying b hop t bytes c) l n = (
  n.0,
  n.1,
  n.2,
  n.3,
  elim n.4 [
    | inl dirty ↦ inl dirty
    | inr agrees ↦ inr (λ w. agree_less (p t.0 w) (q t.0 w) c.bytes bytes (l t.0 w) (agrees w))
  ],
)
names_less count v o p q (Moved t c) l n = n

file_fewer :
    (n low top o : ℕ) (p q : ℕ → ℕ → ℕ) (v : FileView) (t : Option (List ℕ)) → o ≤ v.opened
    → low ≤ top → ((b w : ℕ) → q b w ≤ p b w) → FileInvariant n low p v t
    → FileInvariant n top q (record v { opened = o }) t
file_fewer n low top o p q v t fewer l less h = record {
  shape = h.shape;
  records = h.records;
  low = λ k e. (let z = h.low k e in omega arith);
  linked = h.linked;
  names = names_less n v o p q h.shape less h.names;
  points = points_on n v (record v { opened = o }) h.shape (λ b. refl) h.points;
  sealed = λ s. (let z = h.sealed s in let y = z.2 in (z.0, z.1, omega arith));
  truth = h.truth;
  opened = λ s. h.opened (omega (arith, s, fewer));
  kept = h.kept;
}

pub file_less :
    (m n low top o : ℕ) (p q : ℕ → ℕ → ℕ) (v w : FileView) (t : Option (List ℕ)) → n ≡ m
    → w ≡ record v { opened = o } → o ≤ v.opened → low ≤ top → ((b c : ℕ) → q b c ≤ p b c)
    → FileInvariant m low p v t → FileInvariant n top q w t
file_less m n low top o p q v w t count view fewer l less h =
    subst (λ (c : ℕ). FileInvariant c top q w t) (sym count)
    (subst (λ (x : FileView). FileInvariant m top q x t) (sym view) (file_fewer m low top o p q v t fewer l less h))

-- a file whose bytes stand on one brick, and which is under no way, may lose names
pub file_unlinked :
    (n low top : ℕ) (p : ℕ → ℕ → ℕ) (v : FileView) (links unmarked : ℕ → Entry → Bool)
    (t : Option (List ℕ)) (k : FileInvariant n low p v t) (b hop : ℕ) (bytes : List ℕ)
    → k.shape ≡ Live b hop bytes → low ≤ top
    → ((i : ℕ) (x : Entry) → i < n → links i x ≡ true → v.links i x ≡ true)
    → FileInvariant n top p (record v { links = links; unmarked = unmarked }) t
file_unlinked n low top p v links unmarked t k b hop bytes live l fewer = record {
  shape = k.shape;
  records = k.records;
  low = λ m e. (let z = k.low m e in omega arith);
  linked = λ i x li h. k.linked i x li (fewer i x li h);
  names = subst (λ (h : FileShape). NamedAs n (record v { links = links; unmarked = unmarked }) p h) (sym live) (subst (λ (h : FileShape). NamedAs n v p h) live k.names);
  points = points_on n v (record v { links = links; unmarked = unmarked }) k.shape (λ i. refl) k.points;
  sealed = λ z. (let was = k.sealed z in (λ i x li. not_true (links i x) (λ h. true_false (v.links i x) (fewer i x li h) (was.0 i x li)), was.1, was.2));
  truth = λ h. k.truth (
    h.0,
    h.1,
    h.2,
    elim h.3 [
      | inl z ↦ inl (fewer h.0 h.1 h.2 z)
      | inr z ↦ inr z
    ],
  );
  opened = k.opened;
  kept = k.kept;
}

-- a file without name and registration may be sealed
names_sealed :
    (n : ℕ) (v : FileView) (o : Bool) (p : ℕ → ℕ → ℕ) (h : FileShape) → NamedAs n v p h
    → NamedAs n (record v { sealed = o }) p h
names_sealed n v o p Gone k = k
names_sealed n v o p (Live b hop bytes) k = k
names_sealed n v o p (Moving b hop t bytes) k = k
names_sealed n v o p (Copying b hop t bytes c) k = k
names_sealed n v o p (Moved t c) k = k

pub file_sealed :
    (n low top : ℕ) (p : ℕ → ℕ → ℕ) (v : FileView) (t : Option (List ℕ)) → low ≤ top → NoLink n v
    → NoCopy n v → v.opened ≡ 0 → FileInvariant n low p v t
    → FileInvariant n top p (record v { sealed = true }) t
file_sealed n low top p v t l links copies opened k = record {
  shape = k.shape;
  records = k.records;
  low = λ m e. (let z = k.low m e in omega arith);
  linked = k.linked;
  names = names_sealed n v true p k.shape k.names;
  points = points_on n v (record v { sealed = true }) k.shape (λ i. refl) k.points;
  sealed = λ z. (links, copies, opened);
  truth = k.truth;
  opened = k.opened;
  kept = k.kept;
}
