-- What was read of a layout names the same holders as the layout.
use Rattle.std.proofs.Common.{◌≡◌, ◌<◌, ◌+◌, ◌^◌, ℕ, Bool, true, false, refl, sym, ◌∙◌, ap, subst, arith, cond, inl, inr}
use Rattle.std.specs.Prelude.{is_some, zero, suc, Option, Some, None, IfSome, List, [], ◌∷◌, ◌++◌, length, not, slice_index_or, nat_lt, nat_le, ◌&&◌, if◌then◌else◌}
use Rattle.std.proofs.Common.{length-append}
use Rattle.std.specs.List.{position_or_len}
use Rattle.std.proofs.lemmas.Bool.{false_from_ne_true}
use Rattle.std.proofs.lemmas.Bool.Decides.{nat_tests}
use Rattle.std.proofs.lemmas.List.Quantifiers.{position-Some}
use Rattle.std.proofs.Math.ListN.{get_or-append}
use Rattle.std.proofs.Math.Seq.{get_or-append_seam}
use Rattle.dht_types.specs.Gfid.{Entry, root}
use Rattle.dht_types.specs.Saved.{IsValue}
use Rattle.dht_types.specs.Volume.{HasWeight}
use Rattle.dht_types.specs.declared.identifiers.Gfid.{Gfid}
use Rattle.dht_types.specs.declared.stored.DirRecord.{DirRecord}
use Rattle.dht_hash.specs.DaviesMeyer.{dm}
use Rattle.dht_hash.proofs.DaviesMeyerLaws.{dm_below}
use Rattle.dht_xattr.specs.Layout.{holder}
use Rattle.dht_xattr.specs.Plan.{planned, value_of}
use Rattle.dht_xattr.specs.Range.{contains}
use Rattle.dht_xattr.specs.declared.range.Range.{Range}
use Rattle.dht_xattr.proofs.LayoutLaws.{count_two, first_is, holder_within}
use Rattle.dht_xattr.proofs.PlanLaws.{planned_length, planned_once}
use Rattle.dht_section.specs.Disk.{Disk, dir_at, range_of, range_at, ranges_below, layout_of, holder_of}
use Rattle.dht_section.specs.Looks.{mark_at}
use Rattle.dht_section.specs.Planned.{bounds, AllPlanned}
use Rattle.dht_section.specs.Scene.{Scene, Sound}
use Rattle.dht_section.specs.Section.{HasCopy, ReadAt, Reads}
use Rattle.dht_section.specs.declared.looks.Sight.{Sight}

-- the attribute of a range has a value's length
pub range_is_value : (o : Option Range) → IfSome (value_of o) IsValue
range_is_value None = tt
range_is_value (Some r) = omega arith

-- which hashes are in a range hangs on its bounds alone
within : Option (ℕ × ℕ) → ℕ → Bool
within None hash = false
within (Some b) hash = nat_le b.0 hash && nat_le hash b.1

contains_by : (r : Option Range) (hash : ℕ) → contains r hash ≡ within (bounds r) hash
unfolding within
contains_by None hash = refl
contains_by (Some r) hash = refl

pub same_contained :
    (x y : Option Range) (hash : ℕ) → bounds x ≡ bounds y → contains x hash ≡ contains y hash
same_contained x y hash e = contains_by x hash ∙ (ap (λ o. within o hash) e ∙ sym (contains_by y hash))

-- the first place where a test passes, in two lists
position_same :
    (p : Option Range → Bool) (xs ys : List (Option Range)) → length xs ≡ length ys
    → ((i : ℕ) → i < length xs → p (slice_index_or xs i None) ≡ p (slice_index_or ys i None))
    → position_or_len p xs ≡ position_or_len p ys
position_same p [] [] l h = refl
position_same p [] (y ∷ ys) l h = absurd (omega arith)
position_same p (x ∷ xs) [] l h = absurd (omega arith)
position_same p (x ∷ xs) (y ∷ ys) l h = step (p x) (p y) (h 0 (omega arith)) (position_same p xs ys (omega arith) (λ i k. h (suc i) (omega arith)))
  where
    step : (a b : Bool) → a ≡ b → position_or_len p xs ≡ position_or_len p ys → cond (not a) (1 + position_or_len p xs) 0 ≡ cond (not b) (1 + position_or_len p ys) 0
    step a b e k = ap (λ v. cond (not v) (1 + position_or_len p xs) 0) e ∙ ap (λ (n : ℕ). cond (not b) (1 + n) 0) k

holder_same :
    (hash : ℕ) (xs ys : List (Option Range)) → length xs ≡ length ys
    → ((i : ℕ) → i < length xs
    → bounds (slice_index_or xs i None) ≡ bounds (slice_index_or ys i None))
    → holder xs hash ≡ holder ys hash
holder_same hash xs ys l h =
    let p : Option Range → Bool = λ r. contains r hash in
    let e = position_same p xs ys l (λ i k. same_contained (slice_index_or xs i None) (slice_index_or ys i None) hash (h i k)) in
    ap (λ (n : ℕ). if nat_lt n (length xs) then Some n else None) e ∙ ap (λ (n : ℕ). if nat_lt (position_or_len p ys) n then Some (position_or_len p ys) else None) l

-- the ranges of the first bricks
pub below_length : (d : Disk) (g : Gfid) (n : ℕ) → length (ranges_below d g n) ≡ n
unfolding ranges_below
below_length d g zero = refl
below_length d g (suc n) = let e = below_length d g n in omega (arith, length-append (ranges_below d g n) (range_at d g n ∷ []))

pub below_at :
    (d : Disk) (g : Gfid) (n i : ℕ) → i < n
    → slice_index_or (ranges_below d g n) i None ≡ range_at d g i
unfolding ranges_below
below_at d g zero i l = absurd (omega arith)
below_at d g (suc n) i l = by (λ k. below_at d g n i k) (nat_lt i n) refl
  where
    by : (i < n → slice_index_or (ranges_below d g n) i None ≡ range_at d g i) → (v : Bool) → nat_lt i n ≡ v → slice_index_or (ranges_below d g n ++ range_at d g n ∷ []) i None ≡ range_at d g i
    by before true e =
        let k : i < n = grind (arith, nat_tests, e) in
        let w = below_length d g n in
        get_or-append (ranges_below d g n) (range_at d g n ∷ []) None i (omega arith) ∙ before k
    by before false e =
        let k : n ≡ i = grind (arith, nat_tests, e, l) in
        let w = below_length d g n in
        ap (λ (j : ℕ). slice_index_or (ranges_below d g n ++ range_at d g n ∷ []) j None) (sym k ∙ sym w)
        ∙ (get_or-append_seam (ranges_below d g n) (range_at d g n) [] None ∙ ap (range_at d g) k)

-- ---- a directory of which each brick has a copy

-- the holder by what was read is the holder
pub copied_holder :
    (e : Entry) (x : Sight) (s : Scene)
    → ((b : ℕ) → b < length x.layout → mark_at x.copies b ≡ true) → length x.layout ≡ s.disk.count
    → Reads e.0 x s → holder x.layout (dm e.1) ≡ holder_of s.disk e
copied_holder e x s all l h =
    let w = below_length s.disk e.0 s.disk.count in
    holder_same (dm e.1) x.layout (layout_of s.disk e.0) (omega arith)
    (λ i k. (subst (λ (mark : Bool). ReadAt e.0 mark (slice_index_or x.layout i None) i s) (all i k) (h i k)).same ∙ ap bounds (sym (below_at s.disk e.0 s.disk.count i (omega arith))))

-- where the directory is the root, each brick showed its copy
root_shown :
    (g : Gfid) (mark : Bool) (read : Option Range) (b : ℕ) (s : Scene) → g ≡ root
    → ReadAt g mark read b s → mark ≡ true
root_shown g true read b s e h = refl
root_shown g false read b s e h = absurd (h.below e)

pub root_copied :
    (x : Sight) (b : ℕ) (g : Gfid) (s : Scene) → g ≡ root → b < length x.layout → Reads g x s
    → mark_at x.copies b ≡ true
root_copied x b g s e l h = root_shown g (mark_at x.copies b) _ b s e (h b l)

pub root_holder :
    (e : Entry) (x : Sight) (s : Scene) → e.0 ≡ root → length x.layout ≡ s.disk.count
    → Reads e.0 x s → holder x.layout (dm e.1) ≡ holder_of s.disk e
root_holder e x s rooted l h = copied_holder e x s (λ b k. root_copied x b e.0 s rooted k h) l h

-- ---- any directory

-- a range that was read has a hash exactly where the brick's has it now
has_read :
    (g : Gfid) (mark : Bool) (read : Option Range) (b : ℕ) (hash : ℕ) (s : Scene)
    → ReadAt g mark read b s → contains read hash ≡ true
    → HasCopy g read b s × (contains (range_at s.disk g b) hash ≡ true)
has_read g true read b hash s h e = (h, sym (same_contained read (range_at s.disk g b) hash h.same) ∙ e)
has_read g false read b hash s h e = absurd (let z : false ≡ true = ap (λ o. contains o hash) (sym h.nothing) ∙ e in cc)

-- each hash is in one planned range
pub planned_one :
    (weights : List ℕ) (g : Gfid) (hash i j : ℕ) → HasWeight weights → hash < 2 ^ 32 → i < j
    → j < length weights → contains (slice_index_or (planned weights g) i None) hash ≡ true
    → contains (slice_index_or (planned weights g) j None) hash ≡ true → ⊥
planned_one weights g hash i j heavy below l k at_i at_j =
    let once = planned_once weights g hash heavy below in
    let size = planned_length weights g in
    let two = count_two (λ range. contains range hash) (planned weights g) i j None l (omega arith) at_i at_j in
    omega arith

-- where all ranges are planned, one that has a hash is the planned one
pub planned_has :
    (d : Disk) (weights : List ℕ) (g : Gfid) (b hash : ℕ) (o : Option DirRecord) → dir_at d b g ≡ o
    → b < d.count → AllPlanned d weights g → contains (range_at d g b) hash ≡ true
    → contains (slice_index_or (planned weights g) b None) hash ≡ true
unfolding within
planned_has d weights g b hash None q l h e = absurd (let z : false ≡ true = ap (λ o. contains (range_of o) hash) (sym q) ∙ e in cc)
planned_has d weights g b hash (Some r) q l h e =
    let here : contains (range_of (Some r)) hash ≡ true = ap (λ o. contains (range_of o) hash) (sym q) ∙ e in
    elim (h b r l q) [
      | inl z ↦ absurd (let k : false ≡ true = ap (λ o. within o hash) (sym z) ∙ (sym (contains_by (range_of (Some r)) hash) ∙ here) in cc)
      | inr z ↦ sym (same_contained (range_of (Some r)) (slice_index_or (planned weights g) b None) hash z) ∙ here
    ]

-- a brick before the one that holds a name, by what was read, does not hold it
not_before :
    (e : Entry) (mark : Bool) (read : Option Range) (i b : ℕ) (s : Scene) → Sound s → i < b
    → b < s.disk.count → contains (range_at s.disk e.0 b) (dm e.1) ≡ true
    → contains read (dm e.1) ≡ false → ReadAt e.0 mark read i s
    → contains (range_at s.disk e.0 i) (dm e.1) ≡ false
not_before e true read i b s sound l k has fails h = sym (same_contained read (range_at s.disk e.0 i) (dm e.1) h.same) ∙ fails
not_before e false read i b s sound l k has fails h = elim h.still [
  | inl none ↦ ap (λ o. contains (range_of o) (dm e.1)) none
  | inr all ↦ false_from_ne_true (contains (range_at s.disk e.0 i) (dm e.1)) (λ t. (let counted = sound.kept.counted in
      planned_one s.history.weights e.0 (dm e.1) i b sound.kept.heavy (dm_below e.1) l (omega arith)
      (planned_has s.disk s.history.weights e.0 i (dm e.1) (dir_at s.disk i e.0) refl (omega arith) all t)
      (planned_has s.disk s.history.weights e.0 b (dm e.1) (dir_at s.disk b e.0) refl k all has)))
]

-- the brick that holds a name by what was read holds it
pub read_holder :
    (e : Entry) (x : Sight) (b : ℕ) (s : Scene) → Sound s → length x.layout ≡ s.disk.count
    → Reads e.0 x s → holder x.layout (dm e.1) ≡ Some b → holder_of s.disk e ≡ Some b
read_holder e x b s sound whole h found =
    let l = holder_within x.layout (dm e.1) b found in
    let all = below_length s.disk e.0 s.disk.count in
    let first = position-Some (λ range. contains range (dm e.1)) x.layout b None found in
    let here = has_read e.0 (mark_at x.copies b) _ b (dm e.1) s (h b l) first.1 in
    first_is (λ range. contains range (dm e.1)) (layout_of s.disk e.0) b None (omega arith)
    (ap (λ o. contains o (dm e.1)) (below_at s.disk e.0 s.disk.count b (omega arith)) ∙ here.1)
    (λ i k. ap (λ o. contains o (dm e.1)) (below_at s.disk e.0 s.disk.count i (omega arith))
    ∙ not_before e (mark_at x.copies i) _ i b s sound k (omega arith) here.1 (first.2 i k) (h i (omega arith)))

-- and it has its copy of the directory
pub holder_housed :
    (e : Entry) (x : Sight) (b : ℕ) (s : Scene) → Reads e.0 x s → holder x.layout (dm e.1) ≡ Some b
    → is_some (dir_at s.disk b e.0) ≡ true
holder_housed e x b s h found =
    let l = holder_within x.layout (dm e.1) b found in
    let first = position-Some (λ range. contains range (dm e.1)) x.layout b None found in
    (has_read e.0 (mark_at x.copies b) _ b (dm e.1) s (h b l) first.1).0.there
