-- Tallies that are changed, and what slots count for a gfid.
use Rattle.std.proofs.Common.{arith, ◌≡◌, ◌≤◌, ◌+◌, ◌-◌, ◌<◌, ◌^◌, ℕ, Bool, true, false, cond, List, [], ◌∷◌, length, refl, sym, ap, subst, ◌∙◌}
use Rattle.std.specs.Prelude.{Option, Some, None, ◌&&◌, IsSome, IfSome, is_some, unwrap_or, count_by, T}
use Rattle.std.specs.declared.cmp.Ordering.{Ordering}
use Rattle.std.specs.declared.cmp.Ordering.TheVariants.{Less, Equal, Greater}
use Rattle.std.specs.Ordering.{is_eq, is_lt, eq_by_cmp}
use Rattle.std.specs.Cmp.{IsTotalOrder, tied_itself}
use Rattle.std.specs.FinMap.{FinMap, get, insert, remove, entries, empty, put, find, is_sorted, get-empty, get-insert, get-remove, get_tied, get-entries, entries-insert, entries_sorted, same_map}
use Rattle.std.specs.FinMap.Entries.{below_all, by_order}
use Rattle.std.proofs.lemmas.List.Sums.{sum_by-cons, count_by-le-length}
use Rattle.dht_types.specs.Gfid.{Entry, same_gfid}
use Rattle.dht_types.specs.declared.identifiers.Gfid.{Gfid}
use Rattle.dht_types.specs.declared.stored.Slot.{Slot}
use Rattle.dht_types.proofs.PutLaws.{exact_gfid}
use Rattle.dht_brick.specs.Contents.{Slots, gfid_cmp, slot_in, bare}
use Rattle.dht_brick.specs.Parts.{slot_shown}
use Rattle.dht_brick.proofs.MapLemmas.{get-remove_here}
use Rattle.dht_brick.proofs.TableLemmas.{gfid_total, gfid_exact, entry_total, entry_exact}
use Rattle.dht_brick.specs.declared.replies.SlotShown.{SlotShown}
use Rattle.dht_names.specs.Counts.{Tallies, no_tally, tally_count, with_count, is_unused, counter, same_kind, one_if, is_for, counted, weight, counts_for, KeepsCounts, KeepsAll, Raises, Lowers, IsCounted}
use Rattle.dht_names.specs.declared.counts.Kind.{Kind}
use Rattle.dht_names.specs.declared.counts.Kind.TheVariants.{Visible, Named, Marked, Readied, Copied}
use Rattle.dht_names.specs.declared.counts.Tally.{Tally}

-- ---- gfids that tie

tied : (r : Ordering) → is_eq r ≡ true → r ≡ Equal
tied Less e = cc
tied Equal e = refl
tied Greater e = cc

both_ways : (a b : Bool) → (a ≡ true → b ≡ true) → (b ≡ true → a ≡ true) → a ≡ b
both_ways true b f g = sym (f refl)
both_ways false true f g = g refl
both_ways false false f g = refl

pub gfid_ties : (g h : Gfid) → eq_by_cmp gfid_cmp g h ≡ same_gfid g h
gfid_ties g h =
    both_ways (eq_by_cmp gfid_cmp g h) (same_gfid g h)
    (λ t. (exact_gfid g h).1 (gfid_exact g h (tied (gfid_cmp g h) t)))
    (λ t. subst (λ (x : Gfid). eq_by_cmp gfid_cmp g x ≡ true) ((exact_gfid g h).0 t) (ap is_eq (tied_itself gfid_total g)))

-- ---- one tally

no_count : (k : Kind) → tally_count k no_tally ≡ 0
no_count Visible = refl
no_count Named = refl
no_count Marked = refl
no_count Readied = refl
no_count Copied = refl

-- one more, or one less, in one way
pub with_more :
    (j k : Kind) (t : Tally)
    → tally_count j (with_count k (tally_count k t + 1) t)
    ≡ tally_count j t + one_if (same_kind j k)
with_more Visible Visible t = refl
with_more Visible Named t = omega arith
with_more Visible Marked t = omega arith
with_more Visible Readied t = omega arith
with_more Visible Copied t = omega arith
with_more Named Visible t = omega arith
with_more Named Named t = refl
with_more Named Marked t = omega arith
with_more Named Readied t = omega arith
with_more Named Copied t = omega arith
with_more Marked Visible t = omega arith
with_more Marked Named t = omega arith
with_more Marked Marked t = refl
with_more Marked Readied t = omega arith
with_more Marked Copied t = omega arith
with_more Readied Visible t = omega arith
with_more Readied Named t = omega arith
with_more Readied Marked t = omega arith
with_more Readied Readied t = refl
with_more Readied Copied t = omega arith
with_more Copied Visible t = omega arith
with_more Copied Named t = omega arith
with_more Copied Marked t = omega arith
with_more Copied Readied t = omega arith
with_more Copied Copied t = refl

pub with_less :
    (j k : Kind) (t : Tally) → 1 ≤ tally_count k t
    → tally_count j (with_count k (tally_count k t - 1) t) + one_if (same_kind j k)
    ≡ tally_count j t
with_less Visible Visible t h = omega arith
with_less Visible Named t h = omega arith
with_less Visible Marked t h = omega arith
with_less Visible Readied t h = omega arith
with_less Visible Copied t h = omega arith
with_less Named Visible t h = omega arith
with_less Named Named t h = omega arith
with_less Named Marked t h = omega arith
with_less Named Readied t h = omega arith
with_less Named Copied t h = omega arith
with_less Marked Visible t h = omega arith
with_less Marked Named t h = omega arith
with_less Marked Marked t h = omega arith
with_less Marked Readied t h = omega arith
with_less Marked Copied t h = omega arith
with_less Readied Visible t h = omega arith
with_less Readied Named t h = omega arith
with_less Readied Marked t h = omega arith
with_less Readied Readied t h = omega arith
with_less Readied Copied t h = omega arith
with_less Copied Visible t h = omega arith
with_less Copied Named t h = omega arith
with_less Copied Marked t h = omega arith
with_less Copied Readied t h = omega arith
with_less Copied Copied t h = omega arith

unused : (k : Kind) (t : Tally) → is_unused t ≡ true → tally_count k t ≡ 0
unused Visible t e = grind arith
unused Named t e = grind arith
unused Marked t e = grind arith
unused Readied t e = grind arith
unused Copied t e = grind arith

pub none_here : {X : Type 0} (o : Option X) → is_some o ≡ false → o ≡ None
none_here None h = refl
none_here (Some x) h = cc

-- ---- the tallies

of_one : Kind → Option Tally → ℕ
of_one k o = tally_count k (unwrap_or o no_tally)

pub nothing_kept : (g : Gfid) (k : Kind) → counter empty g k ≡ 0
nothing_kept g k = ap (λ (o : Option Tally). tally_count k (unwrap_or o no_tally)) (get-empty gfid_cmp g) ∙ no_count k

module _ (m : Tallies) (g : Gfid) where
  at_tie : (q : Gfid) → eq_by_cmp gfid_cmp q g ≡ true → get m q ≡ get m g
  at_tie q t = sym (get_tied gfid_total m q g (tied (gfid_cmp q g) t))

  pub not_kept : (k : Kind) → get m g ≡ None → counter m g k ≡ 0
  not_kept k none = ap (λ (o : Option Tally). tally_count k (unwrap_or o no_tally)) none ∙ no_count k

  pub kept : (k : Kind) (t : Tally) → get m g ≡ Some t → counter m g k ≡ tally_count k t
  kept k t some = ap (λ (o : Option Tally). tally_count k (unwrap_or o no_tally)) some

  -- a gfid for which something counts has room
  some_kept : (o : Option Tally) (k : Kind) → 1 ≤ tally_count k (unwrap_or o no_tally) → IsSome o
  some_kept None k h = absurd (let none = no_count k in omega (arith, h, none))
  some_kept (Some t) k h = refl

  pub has_room : (k : Kind) → 1 ≤ counter m g k → IsSome (get m g)
  has_room k h = some_kept (get m g) k h

  pub admitted : get m g ≡ None → KeepsCounts m (insert m g no_tally)
  admitted none = λ q k.
      ap (λ (o : Option Tally). tally_count k (unwrap_or o no_tally)) (get-insert gfid_total m g no_tally q)
      ∙ elim (eq_by_cmp gfid_cmp q g) as (λ b. eq_by_cmp gfid_cmp q g ≡ b → tally_count k (unwrap_or (cond b (Some no_tally) (get m q)) no_tally) ≡ tally_count k (unwrap_or (get m q) no_tally)) [
        | true ↦ λ t. ap (λ (o : Option Tally). tally_count k (unwrap_or o no_tally)) (sym (at_tie q t ∙ none))
        | false ↦ λ t. refl
      ] refl

  stays : (b : Bool) (t : Tally) (o : Option Tally) → IsSome o → IsSome (cond b (Some t) o)
  stays true t o h = refl
  stays false t o h = h

  pub keeps_room : (t : Tally) → KeepsAll m (insert m g t)
  keeps_room t = λ q h. subst IsSome (sym (get-insert gfid_total m g t q)) (stays (eq_by_cmp gfid_cmp q g) t (get m q) h)

  pub room_here : (t : Tally) → IsSome (get (insert m g t) g)
  room_here t = subst IsSome (sym (get-insert gfid_total m g t g)) (subst (λ b. IsSome (cond b (Some t) (get m g))) (sym (ap is_eq (tied_itself gfid_total g))) refl)

  one_more : (j k : Kind) (t : Tally) (b : Bool) (o : Option Tally) → (b ≡ true → o ≡ Some t)
      → tally_count j (unwrap_or (cond b (Some (with_count k (tally_count k t + 1) t)) o) no_tally) ≡ tally_count j (unwrap_or o no_tally) + one_if (b && same_kind j k)
  one_more j k t true o h = with_more j k t ∙ ap (λ (p : Option Tally). tally_count j (unwrap_or p no_tally) + one_if (same_kind j k)) (sym (h refl))
  one_more j k t false o h = omega arith

  pub raised : (k : Kind) (t : Tally) → get m g ≡ Some t → Raises (Some g) k m (insert m g (with_count k (tally_count k t + 1) t))
  raised k t some = λ q j.
      ap (λ (o : Option Tally). tally_count j (unwrap_or o no_tally)) (get-insert gfid_total m g (with_count k (tally_count k t + 1) t) q)
      ∙ one_more j k t (eq_by_cmp gfid_cmp q g) (get m q) (λ e. at_tie q e ∙ some)
      ∙ ap (λ b. counter m q j + one_if (b && same_kind j k)) (gfid_ties q g)

  one_less : (j k : Kind) (t : Tally) (b : Bool) (o : Option Tally) → 1 ≤ tally_count k t → (b ≡ true → o ≡ Some t)
      → tally_count j (unwrap_or (cond b (Some (with_count k (tally_count k t - 1) t)) o) no_tally) + one_if (b && same_kind j k) ≡ tally_count j (unwrap_or o no_tally)
  one_less j k t true o l h = with_less j k t l ∙ ap (λ (p : Option Tally). tally_count j (unwrap_or p no_tally)) (sym (h refl))
  one_less j k t false o l h = omega arith

  pub lowered : (k : Kind) (t : Tally) → get m g ≡ Some t → 1 ≤ tally_count k t → Lowers (Some g) k m (insert m g (with_count k (tally_count k t - 1) t))
  lowered k t some l = λ q j.
      ap (λ b. counter (insert m g (with_count k (tally_count k t - 1) t)) q j + one_if (b && same_kind j k)) (sym (gfid_ties q g))
      ∙ ap (λ (o : Option Tally). tally_count j (unwrap_or o no_tally) + one_if (eq_by_cmp gfid_cmp q g && same_kind j k)) (get-insert gfid_total m g (with_count k (tally_count k t - 1) t) q)
      ∙ one_less j k t (eq_by_cmp gfid_cmp q g) (get m q) l (λ e. at_tie q e ∙ some)

  gone : (k : Kind) (t : Tally) (b : Bool) (o : Option Tally) → is_unused t ≡ true → (b ≡ true → o ≡ Some t) → tally_count k (unwrap_or (cond b None o) no_tally) ≡ tally_count k (unwrap_or o no_tally)
  gone k t true o u h = no_count k ∙ sym (unused k t u) ∙ ap (λ (p : Option Tally). tally_count k (unwrap_or p no_tally)) (sym (h refl))
  gone k t false o u h = refl

  pub tidied : (t : Tally) → get m g ≡ Some t → is_unused t ≡ true → KeepsCounts m (remove m g)
  tidied t some u = λ q k.
      ap (λ (o : Option Tally). tally_count k (unwrap_or o no_tally)) (get-remove gfid_total m g q)
      ∙ gone k t (eq_by_cmp gfid_cmp q g) (get m q) u (λ e. at_tie q e ∙ some)

-- the same where the gfid is one that may be none
module _ (o : Option Gfid) (k : Kind) (m n : Tallies) (g : Gfid) (t w : Tally) (is : o ≡ Some g) (some : get m g ≡ Some t) where
  pub raised_to : w ≡ with_count k (tally_count k t + 1) t → n ≡ insert m g w → Raises o k m n
  raised_to made new = subst (λ x. Raises x k m n) (sym is) (subst (Raises (Some g) k m) (sym (new ∙ ap (insert m g) made)) (raised m g k t some))

  pub lowered_to : 1 ≤ tally_count k t → w ≡ with_count k (tally_count k t - 1) t → n ≡ insert m g w → Lowers o k m n
  lowered_to l made new = subst (λ x. Lowers x k m n) (sym is) (subst (Lowers (Some g) k m) (sym (new ∙ ap (insert m g) made)) (lowered m g k t some l))

-- where there is none
pub not_raised : (o : Option Gfid) (k : Kind) (m : Tallies) → o ≡ None → Raises o k m m
not_raised o k m is = subst (λ x. Raises x k m m) (sym is) (λ q j. omega arith)

pub not_lowered : (o : Option Gfid) (k : Kind) (m : Tallies) → o ≡ None → Lowers o k m m
not_lowered o k m is = subst (λ x. Lowers x k m m) (sym is) (λ q j. omega arith)

-- ---- one slot more, or one less, in each way

on : (b : Bool) → one_if (b && true) ≡ one_if b
on true = refl
on false = refl

off : (b : Bool) → one_if (b && false) ≡ 0
off true = refl
off false = refl

-- a count of another kind stays
pub not_raised_by :
    (o : Option Gfid) (j k : Kind) (m n : Tallies) → Raises o j m n → same_kind k j ≡ false
    → (g : Gfid) → counter n g k ≡ counter m g k
not_raised_by o j k m n r other g =
    let by = r g k in
    let none = ap (λ b. one_if (is_for g o && b)) other ∙ off (is_for g o) in
    omega (arith, by, none)

pub not_lowered_by :
    (o : Option Gfid) (j k : Kind) (m n : Tallies) → Lowers o j m n → same_kind k j ≡ false
    → (g : Gfid) → counter n g k ≡ counter m g k
not_lowered_by o j k m n r other g =
    let by = r g k in
    let none = ap (λ b. one_if (is_for g o && b)) other ∙ off (is_for g o) in
    omega (arith, by, none)

-- what holds of every gfid, and what holds of the one for which a slot counts
pub of_any : (P : Gfid → Type 0) (o : Option Gfid) → ((g : Gfid) → P g) → IfSome o P
of_any P None h = tt
of_any P (Some g) h = h g

pub of_counted :
    (o : Option Gfid) (f : Gfid → ℕ) → ((g : Gfid) → one_if (is_for g o) ≤ f g)
    → IfSome o (λ g. 1 ≤ f g)
of_counted None f h = tt
of_counted (Some g) f h = subst (λ b. one_if b ≤ f g) ((exact_gfid g g).1 refl) (h g)

pub room_stays :
    (o : Option Gfid) (m n : Tallies) → KeepsAll m n → IfSome o (λ g. IsSome (get m g))
    → IfSome o (λ g. IsSome (get n g))
room_stays None m n keeps h = tt
room_stays (Some g) m n keeps h = keeps g h

pub all_kept : (m n q : Tallies) → KeepsAll m n → KeepsAll n q → KeepsAll m q
all_kept m n q a b = λ g h. b g (a g h)

pub counts_kept : (m n q : Tallies) → KeepsCounts m n → KeepsCounts n q → KeepsCounts m q
counts_kept m n q a b = λ g k. b g k ∙ a g k

pub raised_all :
    (d : Gfid) (s : SlotShown) (m0 m1 m2 m3 m4 m5 : Tallies)
    → Raises (counted Visible d s) Visible m0 m1 → Raises (counted Named d s) Named m1 m2
    → Raises (counted Marked d s) Marked m2 m3 → Raises (counted Readied d s) Readied m3 m4
    → Raises (counted Copied d s) Copied m4 m5 → (g : Gfid) → (k : Kind)
    → counter m5 g k ≡ counter m0 g k + weight k g d s
raised_all d s m0 m1 m2 m3 m4 m5 a b c e f g Visible =
    let aa = a g Visible in
    let bb = b g Visible in
    let cc = c g Visible in
    let ee = e g Visible in
    let ff = f g Visible in
    let on_visible = on (is_for g (counted Visible d s)) in
    let off_named = off (is_for g (counted Named d s)) in
    let off_marked = off (is_for g (counted Marked d s)) in
    let off_readied = off (is_for g (counted Readied d s)) in
    let off_copied = off (is_for g (counted Copied d s)) in
    omega (arith, aa, bb, cc, ee, ff, on_visible, off_named, off_marked, off_readied, off_copied)
raised_all d s m0 m1 m2 m3 m4 m5 a b c e f g Named =
    let aa = a g Named in
    let bb = b g Named in
    let cc = c g Named in
    let ee = e g Named in
    let ff = f g Named in
    let off_visible = off (is_for g (counted Visible d s)) in
    let on_named = on (is_for g (counted Named d s)) in
    let off_marked = off (is_for g (counted Marked d s)) in
    let off_readied = off (is_for g (counted Readied d s)) in
    let off_copied = off (is_for g (counted Copied d s)) in
    omega (arith, aa, bb, cc, ee, ff, off_visible, on_named, off_marked, off_readied, off_copied)
raised_all d s m0 m1 m2 m3 m4 m5 a b c e f g Marked =
    let aa = a g Marked in
    let bb = b g Marked in
    let cc = c g Marked in
    let ee = e g Marked in
    let ff = f g Marked in
    let off_visible = off (is_for g (counted Visible d s)) in
    let off_named = off (is_for g (counted Named d s)) in
    let on_marked = on (is_for g (counted Marked d s)) in
    let off_readied = off (is_for g (counted Readied d s)) in
    let off_copied = off (is_for g (counted Copied d s)) in
    omega (arith, aa, bb, cc, ee, ff, off_visible, off_named, on_marked, off_readied, off_copied)
raised_all d s m0 m1 m2 m3 m4 m5 a b c e f g Readied =
    let aa = a g Readied in
    let bb = b g Readied in
    let cc = c g Readied in
    let ee = e g Readied in
    let ff = f g Readied in
    let off_visible = off (is_for g (counted Visible d s)) in
    let off_named = off (is_for g (counted Named d s)) in
    let off_marked = off (is_for g (counted Marked d s)) in
    let on_readied = on (is_for g (counted Readied d s)) in
    let off_copied = off (is_for g (counted Copied d s)) in
    omega (arith, aa, bb, cc, ee, ff, off_visible, off_named, off_marked, on_readied, off_copied)
raised_all d s m0 m1 m2 m3 m4 m5 a b c e f g Copied =
    let aa = a g Copied in
    let bb = b g Copied in
    let cc = c g Copied in
    let ee = e g Copied in
    let ff = f g Copied in
    let off_visible = off (is_for g (counted Visible d s)) in
    let off_named = off (is_for g (counted Named d s)) in
    let off_marked = off (is_for g (counted Marked d s)) in
    let off_readied = off (is_for g (counted Readied d s)) in
    let on_copied = on (is_for g (counted Copied d s)) in
    omega (arith, aa, bb, cc, ee, ff, off_visible, off_named, off_marked, off_readied, on_copied)

pub lowered_all :
    (d : Gfid) (s : SlotShown) (m0 m1 m2 m3 m4 m5 : Tallies)
    → Lowers (counted Visible d s) Visible m0 m1 → Lowers (counted Named d s) Named m1 m2
    → Lowers (counted Marked d s) Marked m2 m3 → Lowers (counted Readied d s) Readied m3 m4
    → Lowers (counted Copied d s) Copied m4 m5 → (g : Gfid) → (k : Kind)
    → counter m5 g k + weight k g d s ≡ counter m0 g k
lowered_all d s m0 m1 m2 m3 m4 m5 a b c e f g Visible =
    let aa = a g Visible in
    let bb = b g Visible in
    let cc = c g Visible in
    let ee = e g Visible in
    let ff = f g Visible in
    let on_visible = on (is_for g (counted Visible d s)) in
    let off_named = off (is_for g (counted Named d s)) in
    let off_marked = off (is_for g (counted Marked d s)) in
    let off_readied = off (is_for g (counted Readied d s)) in
    let off_copied = off (is_for g (counted Copied d s)) in
    omega (arith, aa, bb, cc, ee, ff, on_visible, off_named, off_marked, off_readied, off_copied)
lowered_all d s m0 m1 m2 m3 m4 m5 a b c e f g Named =
    let aa = a g Named in
    let bb = b g Named in
    let cc = c g Named in
    let ee = e g Named in
    let ff = f g Named in
    let off_visible = off (is_for g (counted Visible d s)) in
    let on_named = on (is_for g (counted Named d s)) in
    let off_marked = off (is_for g (counted Marked d s)) in
    let off_readied = off (is_for g (counted Readied d s)) in
    let off_copied = off (is_for g (counted Copied d s)) in
    omega (arith, aa, bb, cc, ee, ff, off_visible, on_named, off_marked, off_readied, off_copied)
lowered_all d s m0 m1 m2 m3 m4 m5 a b c e f g Marked =
    let aa = a g Marked in
    let bb = b g Marked in
    let cc = c g Marked in
    let ee = e g Marked in
    let ff = f g Marked in
    let off_visible = off (is_for g (counted Visible d s)) in
    let off_named = off (is_for g (counted Named d s)) in
    let on_marked = on (is_for g (counted Marked d s)) in
    let off_readied = off (is_for g (counted Readied d s)) in
    let off_copied = off (is_for g (counted Copied d s)) in
    omega (arith, aa, bb, cc, ee, ff, off_visible, off_named, on_marked, off_readied, off_copied)
lowered_all d s m0 m1 m2 m3 m4 m5 a b c e f g Readied =
    let aa = a g Readied in
    let bb = b g Readied in
    let cc = c g Readied in
    let ee = e g Readied in
    let ff = f g Readied in
    let off_visible = off (is_for g (counted Visible d s)) in
    let off_named = off (is_for g (counted Named d s)) in
    let off_marked = off (is_for g (counted Marked d s)) in
    let on_readied = on (is_for g (counted Readied d s)) in
    let off_copied = off (is_for g (counted Copied d s)) in
    omega (arith, aa, bb, cc, ee, ff, off_visible, off_named, off_marked, on_readied, off_copied)
lowered_all d s m0 m1 m2 m3 m4 m5 a b c e f g Copied =
    let aa = a g Copied in
    let bb = b g Copied in
    let cc = c g Copied in
    let ee = e g Copied in
    let ff = f g Copied in
    let off_visible = off (is_for g (counted Visible d s)) in
    let off_named = off (is_for g (counted Named d s)) in
    let off_marked = off (is_for g (counted Marked d s)) in
    let off_readied = off (is_for g (counted Readied d s)) in
    let on_copied = on (is_for g (counted Copied d s)) in
    omega (arith, aa, bb, cc, ee, ff, off_visible, off_named, off_marked, off_readied, on_copied)

-- ---- how many entries of a finite map pass a test, where one is put or taken away

count-cons :
    {X : Type 0} (p : X → Bool) (x : X) (xs : List X)
    → count_by p (x ∷ xs) ≡ one_if (p x) + count_by p xs
count-cons p x xs = sum_by-cons (λ y. cond (p y) 1 0) x xs

second : (a b : Bool) → T (a && b) → T b
second true b p = p
second false b p = absurd p

first : (a b : Bool) → T (a && b) → T a
first true b p = tt
first false b p = p

less : (o : Ordering) → T (is_lt o) → o ≡ Less
less Less p = refl
less Equal p = absurd p
less Greater p = absurd p

module _ {K X : Type 0} {R : K → K → Ordering} (o : IsTotalOrder R) (exact : (x y : K) → R x y ≡ Equal → x ≡ y) (p : K × X → Bool) where
  -- what is at a key counts so much
  abbrev pub counts_at : K → Option X → ℕ
  counts_at k None = 0
  counts_at k (Some v) = one_if (p (k, v))

  missing : (k : K) (es : List (K × X)) → T (below_all R k es) → find R k es ≡ None
  missing k [] h = refl
  missing k (e ∷ es) h = ap (λ r. cond (is_eq r) (Some e.1) (find R k es)) (less _ (first _ _ h)) ∙ missing k es (second _ _ h)

  both : (a b : Bool) → T a → T b → T (a && b)
  both true b x y = y
  both false b x y = x

  below_more : (k q : K) (es : List (K × X)) → R k q ≡ Less → T (below_all R q es) → T (below_all R k es)
  below_more k q [] l h = tt
  below_more k q (e ∷ es) l h = both _ _ (subst (λ r. T (is_lt r)) (sym (o.trans k q e.0 l (less _ (first _ _ h)))) tt) (below_more k q es l (second _ _ h))

  count-put : (k : K) (v : X) (es : List (K × X)) → T (is_sorted R es) → count_by p (put R k v es) + counts_at k (find R k es) ≡ count_by p es + one_if (p (k, v))
  count-put k v [] h = let one = count-cons p (k, v) [] in omega (arith, one)
  count-put k v (e ∷ es) h =
      let all = count-cons p e es in
      elim (R k e.0) as (λ r. R k e.0 ≡ r → count_by p (by_order r ((k, v) ∷ e ∷ es) ((e.0, v) ∷ es) (e ∷ put R k v es)) + counts_at k (cond (is_eq r) (Some e.1) (find R k es)) ≡ count_by p (e ∷ es) + one_if (p (k, v))) [
        | Less ↦ λ q.
            let none : counts_at k (find R k es) ≡ 0 = ap (counts_at k) (missing k es (below_more k e.0 es q (first _ _ h))) in
            let more = count-cons p (k, v) (e ∷ es) in
            omega (arith, none, more)
        | Equal ↦ λ q.
            let same : e.0 ≡ k = sym (exact k e.0 q) in
            let more = count-cons p (e.0, v) es in
            let new : one_if (p (e.0, v)) ≡ one_if (p (k, v)) = ap (λ x. one_if (p (x, v))) same in
            let old : one_if (p (e.0, e.1)) ≡ one_if (p (k, e.1)) = ap (λ x. one_if (p (x, e.1))) same in
            omega (arith, all, more, new, old)
        | Greater ↦ λ q.
            let more = count-cons p e (put R k v es) in
            let rest = count-put k v es (second (below_all R e.0 es) (is_sorted R es) h) in
            omega (arith, all, more, rest)
      ] refl

  pub count-insert : (m : FinMap R X) (k : K) (v : X) → count_by p (entries (insert m k v)) + counts_at k (get m k) ≡ count_by p (entries m) + one_if (p (k, v))
  count-insert m k v =
      let made : count_by p (entries (insert m k v)) ≡ count_by p (put R k v (entries m)) = ap (count_by p) (entries-insert o m k v) in
      let here : counts_at k (get m k) ≡ counts_at k (find R k (entries m)) = ap (counts_at k) (get-entries m k) in
      let all = count-put k v (entries m) (entries_sorted m) in
      omega (arith, made, here, all)

  twice : (b : Bool) (x y z : Option X) → cond b x (cond b y z) ≡ cond b x z
  twice true x y z = refl
  twice false x y z = refl

  at_tied : (m : FinMap R X) (k q : K) (x : Option X) → get m k ≡ x → cond (eq_by_cmp R q k) x (get m q) ≡ get m q
  at_tied m k q x e = elim (eq_by_cmp R q k) as (λ b. eq_by_cmp R q k ≡ b → cond b x (get m q) ≡ get m q) [
    | true ↦ λ t. sym (sym (get_tied o m q k (tied (R q k) t)) ∙ e)
    | false ↦ λ t. refl
  ] refl

  put_again : (m : FinMap R X) (k : K) (v : X) → get m k ≡ Some v → insert (remove m k) k v ≡ m
  put_again m k v e = same_map o exact _ m (λ q.
      get-insert o (remove m k) k v q ∙ ap (cond (eq_by_cmp R q k) (Some v)) (get-remove o m k q)
      ∙ twice (eq_by_cmp R q k) (Some v) None (get m q) ∙ at_tied m k q (Some v) e)

  none_gone : (m : FinMap R X) (k : K) → get m k ≡ None → remove m k ≡ m
  none_gone m k e = same_map o exact _ m (λ q. get-remove o m k q ∙ at_tied m k q None e)

  pub count-remove : (m : FinMap R X) (k : K) → count_by p (entries (remove m k)) + counts_at k (get m k) ≡ count_by p (entries m)
  count-remove m k = elim (get m k) as (λ x. get m k ≡ x → count_by p (entries (remove m k)) + counts_at k x ≡ count_by p (entries m)) [
    | None ↦ λ e.
        let same : count_by p (entries (remove m k)) ≡ count_by p (entries m) = ap (λ (n : FinMap R X). count_by p (entries n)) (none_gone m k e) in
        omega (arith, same)
    | Some v ↦ λ e.
        let all = count-insert (remove m k) k v in
        let same : count_by p (entries (insert (remove m k) k v)) ≡ count_by p (entries m) = ap (λ (n : FinMap R X). count_by p (entries n)) (put_again m k v e) in
        let none : counts_at k (get (remove m k) k) ≡ 0 = ap (counts_at k) (get-remove_here o m k) in
        omega (arith, all, same, none)
  ] refl

-- ---- what the slots count for a gfid

bare_counts : (k : Kind) (g d : Gfid) → weight k g d (slot_shown bare) ≡ 0
bare_counts Visible g d = refl
bare_counts Named g d = refl
bare_counts Marked g d = refl
bare_counts Readied g d = refl
bare_counts Copied g d = refl

module _ (m : Slots) (e : Entry) (k : Kind) (g : Gfid) where
  slot_counts : (o : Option Slot) → counts_at entry_total entry_exact (counts_for k g) e o ≡ weight k g e.0 (slot_shown (unwrap_or o bare))
  slot_counts None = sym (bare_counts k g e.0)
  slot_counts (Some p) = refl

  slots-insert : (p : Slot) → count_by (counts_for k g) (entries (insert m e p)) + weight k g e.0 (slot_shown (slot_in m e)) ≡ count_by (counts_for k g) (entries m) + weight k g e.0 (slot_shown p)
  slots-insert p = ap (λ n. count_by (counts_for k g) (entries (insert m e p)) + n) (sym (slot_counts (get m e))) ∙ count-insert entry_total entry_exact (counts_for k g) m e p

  slots-remove : count_by (counts_for k g) (entries (remove m e)) + weight k g e.0 (slot_shown (slot_in m e)) ≡ count_by (counts_for k g) (entries m)
  slots-remove = ap (λ n. count_by (counts_for k g) (entries (remove m e)) + n) (sym (slot_counts (get m e))) ∙ count-remove entry_total entry_exact (counts_for k g) m e

-- the tallies after a slot is recounted
abbrev pub Recounts : Gfid → SlotShown → SlotShown → Tallies → Tallies → Type 0
Recounts d old new t t2 = (g : Gfid) → (k : Kind) → counter t2 g k + weight k g d old ≡ counter t g k + weight k g d new

pub nothing : SlotShown
nothing = slot_shown bare

pub counted-insert :
    (m : Slots) (e : Entry) (p : Slot) (t t2 : Tallies) → IsCounted m t
    → Recounts e.0 (slot_shown (slot_in m e)) (slot_shown p) t t2 → IsCounted (insert m e p) t2
counted-insert m e p t t2 h r = λ g k.
    let was = h g k in
    let now = r g k in
    let all = slots-insert m e k g p in
    omega (arith, was, now, all)

pub counted-remove :
    (m : Slots) (e : Entry) (t t2 : Tallies) → IsCounted m t
    → Recounts e.0 (slot_shown (slot_in m e)) (slot_shown bare) t t2 → IsCounted (remove m e) t2
counted-remove m e t t2 h r = λ g k.
    let was = h g k in
    let now = r g k in
    let none = bare_counts k g e.0 in
    let all = slots-remove m e k g in
    omega (arith, was, now, none, all)

pub counted-same : (m : Slots) (t t2 : Tallies) → IsCounted m t → KeepsCounts t t2 → IsCounted m t2
counted-same m t t2 h same = λ g k. same g k ∙ h g k

-- a slot that is there was counted, and no count is larger than there are slots
pub slot_is_counted :
    (m : Slots) (e : Entry) (t : Tallies) → IsCounted m t → (g : Gfid) → (k : Kind)
    → weight k g e.0 (slot_shown (slot_in m e)) ≤ counter t g k
slot_is_counted m e t h g k =
    let was = h g k in
    let all = slots-remove m e k g in
    omega (arith, was, all)

pub counts_are_few :
    (m : Slots) (t : Tallies) (n : ℕ) → IsCounted m t → n ≡ length (entries m) → n < 2 ^ 63
    → (g : Gfid) → (k : Kind) → counter t g k < 2 ^ 63
counts_are_few m t n h e short g k =
    let was = h g k in
    let fits = count_by-le-length (counts_for k g) (entries m) in
    omega (arith, was, fits, e, short)
