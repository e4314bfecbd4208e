-- What a section teaches of a layout does not hang on the line.
use Rattle.std.proofs.Common.{◌≡◌, ◌<◌, ◌-◌, ℕ, Bool, true, false, refl, sym, ◌∙◌, ap, arith, List, inl, inr}
use Rattle.std.specs.Prelude.{Option, Some, None, length, nat_lt, if◌then◌else◌, slice_set}
use Rattle.std.proofs.lemmas.Bool.Decides.{nat_tests}
use Rattle.std.proofs.lemmas.List.{get_or-set_same, get_or-set_other}
use Rattle.dht_types.specs.Gfid.{Entry}
use Rattle.dht_types.specs.declared.errors.Errno.{Errno}
use Rattle.dht_brick.specs.declared.replies.Reply.{Reply}
use Rattle.dht_section.proofs.EarlyLaws.{nat_cases}
use Rattle.dht_section.specs.Looks.{looked_at, with_looked, not_looked, sight_with}
use Rattle.dht_section.specs.Replies.{fault_of, is_shown}
use Rattle.dht_section.specs.Section.{last_lock, looked_of, section_after, shows_gone, turn_layout, unless_fault}
use Rattle.dht_section.specs.Want.{Scoped, name_at, place_of}
use Rattle.dht_section.specs.declared.looks.Looked.{Looked}
use Rattle.dht_section.specs.declared.looks.Sight.{Sight}
use Rattle.dht_section.specs.declared.machine.Turn.{Turn}
use Rattle.dht_section.specs.declared.section.Opened.{Opened}
use Rattle.dht_section.specs.declared.section.Section.{Section}
use Rattle.dht_section.specs.declared.section.Section.TheVariants.{Locking, Looking, Unlocking}

abbrev seen_at : Sight → ℕ → Looked
seen_at x at = record { sight = x; at = at }

-- what was seen of a name is the same at another line
sight_at :
    (looks : List Looked) (n j : ℕ) (x : Sight) (a b : ℕ)
    → (looked_at (with_looked looks n (seen_at x a)) j).sight
    ≡ (looked_at (with_looked looks n (seen_at x b)) j).sight
sight_at looks n j x a b = by (nat_lt n (length looks)) refl
  where
    at_place : n < length looks → (i : ℕ) → j ≡ n → (looked_at (slice_set looks n (seen_at x i)) j).sight ≡ x
    at_place l i q = ap (λ (k : ℕ). (looked_at (slice_set looks n (seen_at x i)) k).sight) q ∙ ap (λ (y : Looked). y.sight) (get_or-set_same looks n (seen_at x i) not_looked l)

    by : (v : Bool) → nat_lt n (length looks) ≡ v → (looked_at (if v then slice_set looks n (seen_at x a) else looks) j).sight ≡ (looked_at (if v then slice_set looks n (seen_at x b) else looks) j).sight
    by false e = refl
    by true e = elim (nat_cases j n) [
      | inl q ↦ (let l : n < length looks = grind (arith, nat_tests, e) in at_place l a q ∙ sym (at_place l b q))
      | inr ne ↦ ap (λ (y : Looked). y.sight) (get_or-set_other looks n j (seen_at x a) not_looked ne ∙ sym (get_or-set_other looks n j (seen_at x b) not_looked ne))
    ]

layout_at :
    (o : Option ℕ) (looks : List Looked) (n : ℕ) (x : Sight) (a b : ℕ)
    → (looked_of o (with_looked looks n (seen_at x a))).sight.layout
    ≡ (looked_of o (with_looked looks n (seen_at x b))).sight.layout
layout_at None looks n x a b = refl
layout_at (Some j) looks n x a b = ap (λ (y : Sight). y.layout) (sight_at looks n j x a b)

either_same :
    (e : Entry) (c : Bool) (x y z w : Turn Section Opened) → turn_layout e x ≡ turn_layout e z
    → turn_layout e y ≡ turn_layout e w
    → turn_layout e (if c then x else y) ≡ turn_layout e (if c then z else w)
either_same e true x y z w h k = h
either_same e false x y z w h k = k

fault_same :
    (e : Entry) (o : Option Errno) (w : Scoped) (i : ℕ) (x y : Turn Section Opened)
    → turn_layout e x ≡ turn_layout e y
    → turn_layout e (unless_fault o w i x) ≡ turn_layout e (unless_fault o w i y)
fault_same e None w i x y h = h
fault_same e (Some errno) w i x y h = refl

pub taught_at :
    (e : Entry) (m : Section) (r : Reply) (a b : ℕ)
    → turn_layout e (section_after m r a) ≡ turn_layout e (section_after m r b)
taught_at e (Locking w i looks) r a b = refl
taught_at e (Looking w looks n c x) r a b = fault_same e (fault_of r) w (last_lock w) _ _
    (either_same e (shows_gone (name_at w n).0 c r) _ _ _ _ refl
    (either_same e (is_shown r) _ _ _ _
    (either_same e (nat_lt 1 (w.bricks - c.0)) _ _ _ _ refl
    (either_same e (nat_lt 1 (length w.names - n)) _ _ _ _ refl
    (ap Some (layout_at (place_of w e) looks n (sight_with w.bricks x c r) a b))))
    refl))
taught_at e (Unlocking w i x) r a b = refl
