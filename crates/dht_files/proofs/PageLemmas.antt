-- A page of a list that is filled an item at a time.
use Rattle.std.proofs.Common.{arith, ◌≡◌, ◌<◌, ◌-◌, ℕ, zero, suc, List, [], ◌∷◌, ◌++◌, length, Bool, true, false, cond, refl, sym, ap, ◌∙◌, append_assoc, append-nil}
use Rattle.std.specs.Prelude.{Option, Some, None, ◌&&◌, ◌==◌, take, filter}
use Rattle.std.specs.BTreeMap.Range.{range_contains, entries_between}
use Rattle.std.specs.declared.ops.Bound.TheVariants.{Unbounded}
use Rattle.dht_types.specs.declared.identifiers.Gfid.{Gfid}
use Rattle.dht_types.specs.declared.stored.Record.{Record}
use Rattle.dht_brick.specs.Contents.{Store, gfid_cmp}
use Rattle.dht_brick.specs.Links.{links}
use Rattle.dht_brick.specs.Looks.{is_gfid_above, is_orphan}
use Rattle.dht_brick.specs.Order.{gfids_from}
use Rattle.dht_brick.specs.Parts.{is_live}
use Rattle.dht_brick.proofs.TableLemmas.{above_is}
use Rattle.std.proofs.lemmas.List.{length-append}

module _ {A : Type 0} (page : ℕ) (xs : List A) where
  left_one : (x : A) (ys : List A) (n k : ℕ) → n ≡ suc k → take n (x ∷ ys) ≡ x ∷ take k ys
  left_one x ys n k e = ap (λ m. take m (x ∷ ys)) e

  pub filled_more : (x : A) (ys : List A) → length xs < page → (xs ++ x ∷ []) ++ take (page - length (xs ++ x ∷ [])) ys ≡ xs ++ take (page - length xs) (x ∷ ys)
  filled_more x ys room =
      let longer = length-append xs (x ∷ []) in
      let less : page - length xs ≡ suc (page - length (xs ++ x ∷ [])) = omega (arith, longer, room) in
      append_assoc xs (x ∷ []) (take (page - length (xs ++ x ∷ [])) ys) ∙ ap (λ zs. xs ++ zs) (sym (left_one x ys (page - length xs) (page - length (xs ++ x ∷ [])) less))

pub nothing_left : {A : Type 0} (n : ℕ) (ys : List A) → ys ≡ [] → take n ys ≡ []
nothing_left zero ys e = refl
nothing_left (suc n) [] e = refl
nothing_left (suc n) (y ∷ ys) e = cc

nothing_more : (page n : ℕ) → n ≡ page → page - n ≡ zero
nothing_more page n e = omega (arith, e)

pub full_page :
    {A : Type 0} (page : ℕ) (xs ys : List A) → length xs ≡ page
    → xs ++ take (page - length xs) ys ≡ xs
full_page page xs ys full = ap (λ n. xs ++ take n ys) (nothing_more page (length xs) full) ∙ append-nil xs

-- a filter at one item
pub filter_yes :
    {A : Type 0} (p : A → Bool) (x : A) (xs : List A) → p x ≡ true
    → filter p (x ∷ xs) ≡ x ∷ filter p xs
filter_yes p x xs e = ap (λ b. cond b (x ∷ filter p xs) (filter p xs)) e

pub filter_no :
    {A : Type 0} (p : A → Bool) (x : A) (xs : List A) → p x ≡ false
    → filter p (x ∷ xs) ≡ filter p xs
filter_no p x xs e = ap (λ b. cond b (x ∷ filter p xs) (filter p xs)) e

-- ---- the orphans above a file are those of the range

tested_one :
    {A : Type 0} (q : A → Bool) (x : A) (ys : List A) (b : Bool)
    → cond (cond b (q x) false) (x ∷ filter q ys) (filter q ys) ≡ filter q (cond b (x ∷ ys) ys)
tested_one q x ys true = refl
tested_one q x ys false = refl

from_above : (a l n : Bool) → (a && l && n) ≡ cond a (true && l && n) false
from_above true l n = refl
from_above false l n = refl

tested :
    {A : Type 0} (p q r : A → Bool) → ((x : A) → r x ≡ cond (p x) (q x) false) → (xs : List A)
    → filter r xs ≡ filter q (filter p xs)
tested p q r h [] = refl
tested p q r h (x ∷ xs) = ap (λ b. cond b (x ∷ filter r xs) (filter r xs)) (h x) ∙ ap (λ ys. cond (cond (p x) (q x) false) (x ∷ ys) ys) (tested p q r h xs) ∙ tested_one q x (filter p xs) (p x)

orphan_above :
    (s : Store) (after : Option Gfid) (e : Gfid × Record)
    → is_orphan s after e
    ≡ cond (range_contains gfid_cmp (gfids_from after) Unbounded e.0) (is_orphan s None e) false
orphan_above s after e = from_above (is_gfid_above after e.0) (is_live (Some e.1)) (links s.slots e.0 == 0) ∙ ap (λ b. cond b (is_orphan s None e) false) (sym (above_is after e.0))

pub orphans_within :
    (s : Store) (after : Option Gfid) (es : List (Gfid × Record))
    → filter (is_orphan s after) es
    ≡ filter (is_orphan s None) (entries_between gfid_cmp (gfids_from after) Unbounded es)
orphans_within s after es = tested (λ (e : Gfid × Record). range_contains gfid_cmp (gfids_from after) Unbounded e.0) (is_orphan s None) (is_orphan s after) (orphan_above s after) es
