-- The counts of the slots, kept by each change of one slot.
use Rattle.std.proofs.Common.{arith, ◌≡◌, ◌≤◌, ◌+◌, ◌<◌, ◌^◌, ℕ, Bool, true, false, cond, List, [], ◌∷◌, refl, sym, ap, subst, ◌∙◌}
use Rattle.std.specs.Prelude.{Option, Some, None, ◌&&◌, ◌||◌, ◌==◌, not, IsSome, IfSome, is_some, count_by}
use Rattle.std.specs.Option.{option_map}
use Rattle.std.specs.List.{list_any}
use Rattle.std.specs.FinMap.{get, insert, remove, entries, values, empty, len, len-entries, len-empty}
use Rattle.std.proofs.lemmas.List.Sums.{sum_by-cons, count_by-le-length}
use Rattle.dht_types.specs.Gfid.{Entry, same_gfid}
use Rattle.dht_types.specs.declared.identifiers.Gfid.{Gfid}
use Rattle.dht_types.specs.declared.stored.Main.{Main}
use Rattle.dht_types.specs.declared.stored.Main.TheVariants.{Dir, File, Linkto}
use Rattle.dht_types.specs.declared.stored.Standby.{Standby}
use Rattle.dht_types.specs.declared.stored.Standby.TheVariants.{StandLink, Copy}
use Rattle.dht_types.specs.declared.stored.Slot.{Slot}
use Rattle.dht_types.proofs.PutLaws.{exact_gfid}
use Rattle.dht_brick.specs.Contents.{Slots, entry_cmp, slot_in, bare}
use Rattle.dht_brick.specs.Links.{links, is_marked, is_occupied}
use Rattle.dht_brick.specs.Parts.{main_shown, slot_shown, is_file, is_contested, is_standlink, is_copy, is_visible, is_vacant, with_main, without_main, without_standby}
use Rattle.dht_brick.specs.declared.replies.SlotShown.{SlotShown}
use Rattle.dht_brick.proofs.TableLemmas.{count_by-map}
use Rattle.dht_names.specs.Counts.{Tallies, counter, weight, counted, counts_for, is_for, is_seen, is_taken, named, marked, readied, one_if, HasAll, Covers, KeepsCounts, IsCounted, keeps_main, is_to_be}
use Rattle.dht_names.specs.declared.counts.Kind.{Kind}
use Rattle.dht_names.specs.declared.counts.Kind.TheVariants.{Visible, Named, Marked, Readied, Copied}
use Rattle.dht_names.proofs.CountLemmas.{Recounts, counted-insert, counted-remove, counted-same, slot_is_counted, counts_are_few, has_room}

-- ---- where the counts were kept so far, and one slot is counted as another one

module _ (m : Slots) (t t1 : Tallies) (h : IsCounted m t) (same : KeepsCounts t t1) where
  here : IsCounted m t1
  here = counted-same m t t1 h same

  pub few_counts : (n : ℕ) → n ≡ len m → n < 2 ^ 63 → (g : Gfid) → (k : Kind) → counter t1 g k < 2 ^ 63
  few_counts n e short = counts_are_few m t1 n here (e ∙ len-entries m) short

  module _ (e : Entry) (old : SlotShown) (was : old ≡ slot_shown (slot_in m e)) where
    pub old_counted : (g : Gfid) → (k : Kind) → weight k g e.0 old ≤ counter t1 g k
    old_counted g k = subst (λ (s : SlotShown). weight k g e.0 s ≤ counter t1 g k) (sym was) (slot_is_counted m e t1 here g k)

    module _ (new : SlotShown) (t2 : Tallies) (r : Recounts e.0 old new t1 t2) where
      pub put_counted : (p : Slot) (m2 : Slots) → new ≡ slot_shown p → m2 ≡ insert m e p → IsCounted m2 t2
      put_counted p m2 is put =
          subst (λ (x : Slots). IsCounted x t2) (sym put) (counted-insert m e p t1 t2 here
          (subst (λ (s : SlotShown). Recounts e.0 s (slot_shown p) t1 t2) was (subst (λ (s : SlotShown). Recounts e.0 old s t1 t2) is r)))

      pub gone_counted : (m2 : Slots) → new ≡ slot_shown bare → m2 ≡ remove m e → IsCounted m2 t2
      gone_counted m2 is put =
          subst (λ (x : Slots). IsCounted x t2) (sym put) (counted-remove m e t1 t2 here
          (subst (λ (s : SlotShown). Recounts e.0 s (slot_shown bare) t1 t2) was (subst (λ (s : SlotShown). Recounts e.0 old s t1 t2) is r)))

-- no slots count for nothing
pub none_counted :
    (m : Slots) (t : Tallies) → m ≡ empty → ((g : Gfid) → (k : Kind) → counter t g k ≡ 0)
    → IsCounted m t
none_counted m t e none = λ g k.
    let short = count_by-le-length (counts_for k g) (entries m) in
    let size = sym (len-entries m) ∙ ap (λ (x : Slots). len x) e ∙ len-empty entry_cmp Slot in
    let nothing = none g k in
    omega (arith, short, size, nothing)

-- ---- slots that count for no other gfid

is_for-itself : (g : Gfid) → is_for g (Some g) ≡ true
is_for-itself g = (exact_gfid g g).1 refl

covered :
    (m : Slots) (e : Entry) (t : Tallies) (j k : Kind) (g : Gfid) → IsCounted m t
    → counted j e.0 (slot_shown (slot_in m e)) ≡ Some g → IsSome (get t g)
covered m e t j k g h is =
    let one = ap (λ o. one_if (is_for g o)) is ∙ ap one_if (is_for-itself g) in
    let there = slot_is_counted m e t h g j in
    has_room t g j (omega (arith, one, there))

covered_if :
    (m : Slots) (e : Entry) (t : Tallies) (k : Kind) (o : Option Gfid) → IsCounted m t
    → IfSome o (λ g. (j : Kind) × (counted j e.0 (slot_shown (slot_in m e)) ≡ Some g))
    → IfSome o (λ g. IsSome (get t g))
covered_if m e t k None h c = tt
covered_if m e t k (Some g) h c = covered m e t c.0 k g h c.1

-- a slot has room for each gfid that it covers
pub covered_room :
    (m : Slots) (e : Entry) (t : Tallies) (old new : SlotShown) → IsCounted m t
    → old ≡ slot_shown (slot_in m e) → Covers e.0 old new → HasAll t e.0 new
covered_room m e t old new h was c = λ k. covered_if m e t k (counted k e.0 new) h (subst (λ (s : SlotShown). IfSome (counted k e.0 new) (λ g. (j : Kind) × (counted j e.0 s ≡ Some g))) was (c k))

pub covers_by : (d : Gfid) (a b a2 b2 : SlotShown) → a ≡ a2 → b ≡ b2 → Covers d a2 b2 → Covers d a b
covers_by d a b a2 b2 e f c = subst (λ (s : SlotShown). Covers d s b) (sym e) (subst (λ (s : SlotShown). Covers d a2 s) (sym f) c)

or_true : (b : Bool) → (b || true) ≡ true
or_true true = refl
or_true false = refl

seen_by :
    (d : Gfid) (b c : Bool) → (b ≡ true → c ≡ true)
    → IfSome (cond b (Some d) None) (λ g. cond c (Some d) None ≡ Some g)
seen_by d false c h = tt
seen_by d true c h = ap (λ x. cond x (Some d) None) (h refl)

-- ways in which a slot counts alike
alike :
    (d : Gfid) (j : Kind) (old : SlotShown) (o : Option Gfid)
    → IfSome o (λ g. counted j d old ≡ Some g)
    → IfSome o (λ g. (j : Kind) × (counted j d old ≡ Some g))
alike d j old None h = tt
alike d j old (Some g) h = (j, h)

same_way : (o : Option Gfid) → IfSome o (λ g. o ≡ Some g)
same_way None = tt
same_way (Some g) = refl

seen_alike :
    (d : Gfid) (old new : SlotShown) → (is_seen new ≡ true → is_seen old ≡ true)
    → IfSome (counted Visible d new) (λ g. (j : Kind) × (counted j d old ≡ Some g))
seen_alike d old new h = alike d Visible old (counted Visible d new) (seen_by d (is_seen new) (is_seen old) h)

seen_or : (b c : Bool) → c ≡ true → (b || c) ≡ true
seen_or true c e = refl
seen_or false c e = e

pub covers_no_main : (d : Gfid) (p : Slot) → Covers d (slot_shown p) (slot_shown (without_main p))
covers_no_main d p Visible = seen_alike d (slot_shown p) (slot_shown (without_main p)) (seen_or (is_taken (option_map main_shown p.main)) (is_some p.standby))
covers_no_main d p Named = tt
covers_no_main d p Marked = tt
covers_no_main d p Readied = alike d Readied (slot_shown p) (counted Readied d (slot_shown p)) (same_way (counted Readied d (slot_shown p)))
covers_no_main d p Copied = alike d Copied (slot_shown p) (counted Copied d (slot_shown p)) (same_way (counted Copied d (slot_shown p)))

or_first : (b c : Bool) → (b || false) ≡ true → (b || c) ≡ true
or_first true c e = refl
or_first false c e = cc

pub covers_no_standby :
    (d : Gfid) (p : Slot) → Covers d (slot_shown p) (slot_shown (without_standby p))
covers_no_standby d p Visible = seen_alike d (slot_shown p) (slot_shown (without_standby p)) (or_first (is_taken (option_map main_shown p.main)) (is_some p.standby))
covers_no_standby d p Named = alike d Named (slot_shown p) (counted Named d (slot_shown p)) (same_way (counted Named d (slot_shown p)))
covers_no_standby d p Marked = alike d Marked (slot_shown p) (counted Marked d (slot_shown p)) (same_way (counted Marked d (slot_shown p)))
covers_no_standby d p Readied = tt
covers_no_standby d p Copied = tt

-- a linkto counts for nothing
linkto_covered :
    (d : Gfid) (p : Slot) (value : List ℕ)
    → Covers d (slot_shown p) (slot_shown (with_main p (Linkto value)))
linkto_covered d p value Visible = seen_alike d (slot_shown p) (slot_shown (with_main p (Linkto value))) (seen_or (is_taken (option_map main_shown p.main)) (is_some p.standby))
linkto_covered d p value Named = tt
linkto_covered d p value Marked = tt
linkto_covered d p value Readied = alike d Readied (slot_shown p) (counted Readied d (slot_shown p)) (same_way (counted Readied d (slot_shown p)))
linkto_covered d p value Copied = alike d Copied (slot_shown p) (counted Copied d (slot_shown p)) (same_way (counted Copied d (slot_shown p)))

-- the same file's name, marked or not
file_seen :
    (f : Gfid) (m : Option Main) → is_file f m ≡ true → is_taken (option_map main_shown m) ≡ true
file_seen f None h = cc
file_seen f (Some (Dir g)) h = refl
file_seen f (Some (File g over)) h = refl
file_seen f (Some (Linkto value)) h = cc

file_named :
    (f : Gfid) (m : Option Main) → is_file f m ≡ true → named (option_map main_shown m) ≡ Some f
file_named f None h = cc
file_named f (Some (Dir g)) h = cc
file_named f (Some (File g over)) h = ap Some (sym ((exact_gfid f g).0 h))
file_named f (Some (Linkto value)) h = cc

or_left : (b c : Bool) → b ≡ true → (b || c) ≡ true
or_left true c e = refl
or_left false c e = cc

module _ (d : Gfid) (p : Slot) (f : Gfid) where
  marked_named : (over : Option _) → is_file f p.main ≡ true → IfSome (marked (Some (main_shown (File f over)))) (λ g. named (slot_shown p).main ≡ Some g)
  marked_named None h = tt
  marked_named (Some b) h = file_named f p.main h

  file_covered : (over : Option _) → is_file f p.main ≡ true → Covers d (slot_shown p) (slot_shown (with_main p (File f over)))
  file_covered over h Visible = seen_alike d (slot_shown p) (slot_shown (with_main p (File f over))) (λ _. or_left (is_taken (option_map main_shown p.main)) (is_some p.standby) (file_seen f p.main h))
  file_covered over h Named = (Named, file_named f p.main h)
  file_covered over h Marked = alike d Named (slot_shown p) (counted Marked d (slot_shown (with_main p (File f over)))) (marked_named over h)
  file_covered over h Readied = alike d Readied (slot_shown p) (counted Readied d (slot_shown p)) (same_way (counted Readied d (slot_shown p)))
  file_covered over h Copied = alike d Copied (slot_shown p) (counted Copied d (slot_shown p)) (same_way (counted Copied d (slot_shown p)))

pub covers_main :
    (d : Gfid) (p : Slot) (m : Main) → keeps_main p.main m ≡ true
    → Covers d (slot_shown p) (slot_shown (with_main p m))
covers_main d p (Dir g) h = cc
covers_main d p (File f over) h = file_covered d p f over h
covers_main d p (Linkto value) h = linkto_covered d p value

or_only : (b : Bool) → (b || false) ≡ true → b ≡ true
or_only true h = refl
or_only false h = cc

standby_there : (f : Gfid) (s : Option Standby) → is_to_be f s ≡ true → is_some s ≡ true
standby_there f None h = cc
standby_there f (Some x) h = refl

pub copy_is_to_be : (f : Gfid) (s : Option Standby) → is_copy f s ≡ true → is_to_be f s ≡ true
copy_is_to_be f None h = cc
copy_is_to_be f (Some (StandLink g)) h = cc
copy_is_to_be f (Some (Copy g)) h = h

-- a name that becomes that of its file to be
settled :
    (d : Gfid) (f : Gfid) (m : Option Main) (x : Standby) → is_to_be f (Some x) ≡ true
    → (j : Kind) × (counted j d (slot_shown (record { main = m; standby = Some x })) ≡ Some f)
settled d f m (StandLink g) h = (Readied, ap Some (sym ((exact_gfid f g).0 (or_only (same_gfid f g) h))))
settled d f m (Copy g) h = (Copied, ap Some (sym ((exact_gfid f g).0 h)))

by_standby :
    (d : Gfid) (f : Gfid) (m : Option Main) (s : Option Standby) → is_to_be f s ≡ true
    → Covers d (slot_shown (record { main = m; standby = s }))
    (slot_shown (with_main bare (File f None)))
by_standby d f m None h k = cc
by_standby d f m (Some x) h Visible = seen_alike d (slot_shown (record { main = m; standby = Some x })) (slot_shown (with_main bare (File f None))) (λ _. or_true (is_taken (option_map main_shown m)))
by_standby d f m (Some x) h Named = settled d f m x h
by_standby d f m (Some x) h Marked = tt
by_standby d f m (Some x) h Readied = tt
by_standby d f m (Some x) h Copied = tt

pub covers_settled :
    (d : Gfid) (p : Slot) (f : Gfid) → is_to_be f p.standby ≡ true
    → Covers d (slot_shown p) (slot_shown (with_main bare (File f None)))
covers_settled d p f h = by_standby d f p.main p.standby h

pub is_there : (p : Slot) (f : Gfid) → is_to_be f p.standby ≡ true → is_some p.standby ≡ true
is_there p f h = standby_there f p.standby h

-- ---- what the counts tell

positive : (m : ℕ) → 0 < m → true ≡ not (m == 0)
positive m p = grind (arith, p)

one_any : (b a : Bool) (n m : ℕ) → m ≡ cond b 1 0 + n → a ≡ not (n == 0) → (b || a) ≡ not (m == 0)
one_any true a n m e h = positive m (omega (arith, e))
one_any false a n m e h = h ∙ ap (λ x. not (x == 0)) (let same : n ≡ m = omega (arith, e) in same)

any_counted : {X : Type 0} (p : X → Bool) (xs : List X) → list_any p xs ≡ not (count_by p xs == 0)
any_counted p [] = refl
any_counted p (x ∷ xs) = one_any (p x) (list_any p xs) (count_by p xs) (count_by p (x ∷ xs)) (sum_by-cons (λ y. cond (p y) 1 0) x xs) (any_counted p xs)

named_is : (f : Gfid) (m : Option Main) → is_file f m ≡ is_for f (named (option_map main_shown m))
named_is f None = refl
named_is f (Some (Dir g)) = refl
named_is f (Some (File g over)) = refl
named_is f (Some (Linkto value)) = refl

marked_is :
    (f : Gfid) (m : Option Main) → is_contested f m ≡ is_for f (marked (option_map main_shown m))
marked_is f None = refl
marked_is f (Some (Dir g)) = refl
marked_is f (Some (File g None)) = refl
marked_is f (Some (File g (Some b))) = refl
marked_is f (Some (Linkto value)) = refl

readied_is : (f : Gfid) (s : Option Standby) → is_standlink f s ≡ is_for f (readied s)
readied_is f None = refl
readied_is f (Some (StandLink g)) = refl
readied_is f (Some (Copy g)) = refl

taken_is : (m : Option Main) → not (is_vacant m) ≡ is_taken (option_map main_shown m)
taken_is None = refl
taken_is (Some (Dir g)) = refl
taken_is (Some (File g over)) = refl
taken_is (Some (Linkto value)) = refl

and_true : (b : Bool) → (b && true) ≡ b
and_true true = refl
and_true false = refl

and_false : (b : Bool) → (b && false) ≡ false
and_false true = refl
and_false false = refl

in_and_seen : (g d : Gfid) (b : Bool) → (same_gfid g d && b) ≡ is_for g (cond b (Some d) None)
in_and_seen g d true = and_true (same_gfid g d)
in_and_seen g d false = and_false (same_gfid g d)

visible_is :
    (g : Gfid) (e : Entry × Slot) → (same_gfid g e.0.0 && is_visible e.1) ≡ counts_for Visible g e
visible_is g e = ap (λ b. same_gfid g e.0.0 && (b || is_some e.1.standby)) (taken_is e.1.main) ∙ in_and_seen g e.0.0 (is_seen (slot_shown e.1))

module _ (m : Slots) (t : Tallies) (h : IsCounted m t) (f : Gfid) where
  of_values : (p : Slot → Bool) (k : Kind) → ((s : Slot) (e : Entry) → p s ≡ counts_for k f (e, s)) → count_by p (values m) ≡ counter t f k
  of_values p k is =
      count_by-map p (λ (e : Entry × Slot). e.1) (entries m)
      ∙ (λ i. count_by (λ (e : Entry × Slot). is e.1 e.0 i) (entries m))
      ∙ sym (h f k)

  pub named_counted : count_by (λ p. is_file f p.main) (values m) ≡ counter t f Named
  named_counted = of_values (λ p. is_file f p.main) Named (λ s e. named_is f s.main)

  pub readied_counted : count_by (λ p. is_standlink f p.standby) (values m) ≡ counter t f Readied
  readied_counted = of_values (λ p. is_standlink f p.standby) Readied (λ s e. readied_is f s.standby)

  pub links_counted : counter t f Named + counter t f Readied ≡ links m f
  unfolding links
  links_counted = ap (λ n. n + counter t f Readied) (sym named_counted) ∙ ap (λ n. count_by (λ p. is_file f p.main) (values m) + n) (sym readied_counted)

  pub marks_counted : not (counter t f Marked == 0) ≡ is_marked m f
  unfolding is_marked
  marks_counted =
      ap (λ n. not (n == 0)) (sym (of_values (λ p. is_contested f p.main) Marked (λ s e. marked_is f s.main)))
      ∙ sym (any_counted (λ p. is_contested f p.main) (values m))

  pub visible_counted : not (counter t f Visible == 0) ≡ is_occupied m f
  unfolding is_occupied
  visible_counted =
      ap (λ n. not (n == 0)) (h f Visible ∙ (λ i. count_by (λ (e : Entry × Slot). sym (visible_is f e) i) (entries m)))
      ∙ sym (any_counted (λ (e : Entry × Slot). same_gfid f e.0.0 && is_visible e.1) (entries m))
