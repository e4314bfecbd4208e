-- A linkto value leads to the brick that it was written for, with its zero byte and without.
use Rattle.std.proofs.Common.{◌≡◌, ℕ, zero, suc, ◌+◌, ◌-◌, ◌<◌, ◌≤◌, ◌↔◌, true, false, true≢false, List, [], ◌∷◌, ◌++◌, length, get_or, take, drop, refl, sym, ap, subst, ◌∙◌, arith, ⊎_elim}
use Rattle.std.specs.Prelude.{Option, Some, None, IfSome, IsNone, Contains, option_map, unwrap_or, slice_get, position, nat_lt, nat_le, ◌&&◌}
use Rattle.std.specs.List.{position_or_len, list_all}
use Rattle.std.specs.Str.{bytes_eq}
use Rattle.std.proofs.Common.{length-append}
use Rattle.std.proofs.Math.ListN.{get_or-append}
use Rattle.std.proofs.Math.Seq.{get_or-append_seam, take-append_seam, drop-append_seam}
use Rattle.std.proofs.lemmas.Bool.{cases_lt, and_parts, ltb-true, leb-true, false_from_ne_true, cond-true, cond-false}
use Rattle.std.proofs.lemmas.Option.{get_or_from_slice_get, slice_get-get_or, slice_get_within}
use Rattle.std.proofs.lemmas.Slice.Eq.{bytes_eq-Decides}
use Rattle.std.proofs.lemmas.List.{get_or-drop}
use Rattle.std.proofs.lemmas.List.Sums.{AllPass-from_list_all}
use Rattle.std.proofs.lemmas.List.Quantifiers.{position-Some}
use Rattle.dht_types.specs.declared.identifiers.BrickNo.{BrickNo}
use Rattle.dht_types.specs.Volume.{VolumeInfo, IsVolume, is_brick_byte, is_brick_name, replay_name, replay_names}
use Rattle.dht_types.proofs.VolumeLemmas.{length-replay_names}
use Rattle.dht_xattr.proofs.LayoutLaws.{first_place, first_is, no_first}
use Rattle.dht_types.specs.Linkto.{linkto_value, ends_in_zero, without_zero, linked_brick}

-- the place of a name of a volume
pub place_of_name :
    (v : VolumeInfo) (b : ℕ) (name : List ℕ) → IsVolume v → slice_get v.names b ≡ Some name
    → position (λ other. bytes_eq other name) v.names ≡ Some b
place_of_name v b name good at =
    let test = λ (other : List ℕ). bytes_eq other name in
    let here : get_or v.names b [] ≡ name = get_or_from_slice_get v.names b name [] at in
    let inside : b < length v.names = slice_get_within v.names b name at in
    let (early, found) = first_place test v.names b [] inside ((bytes_eq-Decides (get_or v.names b []) name).1 here) in
    let (fits, pass, before) = position-Some test v.names (position_or_len test v.names) [] found in
    let same : get_or v.names (position_or_len test v.names) [] ≡ get_or v.names b [] = (bytes_eq-Decides _ _).0 pass ∙ sym here in
    let place : position_or_len test v.names ≡ b = ⊎_elim (λ below. absurd (good.distinct (position_or_len test v.names) b [] below inside same)) (λ from. omega arith) (cases_lt (position_or_len test v.names) b) in
    found ∙ ap Some place

-- a name of no brick has no place
no_place :
    (names : List (List ℕ)) (name : List ℕ) (o : Option ℕ)
    → position (λ other. bytes_eq other name) names ≡ o → ¬ (Contains names name) → o ≡ None
no_place names name None at none = refl
no_place names name (Some k) at none =
    let (within, pass, before) = position-Some (λ other. bytes_eq other name) names k name at in
    absurd (none (k, within, (bytes_eq-Decides (get_or names k name) name).0 pass))

some_is_not : {A : Type 0} (a : A) → ◌≡◌ {A = Option A} (Some a) None → ⊥
some_is_not a same = cc

-- the brick of a name, as a number
pub number_of_name :
    (v : VolumeInfo) (name : List ℕ) (o : Option BrickNo) → IsVolume v
    → IfSome o (λ b. slice_get v.names b.0 ≡ Some name)
    → (IsNone o ↔ ¬ (Contains v.names name)) → option_map (λ b. b.0) o ≡ position (λ other. bytes_eq other name) v.names
number_of_name v name None good some none =
    sym (no_place v.names name (position (λ other. bytes_eq other name) v.names) refl (none.0 refl))
number_of_name v name (Some b) good some none = sym (place_of_name v b.0 name good some)

-- a zero byte at the end is taken off
without_zero-linkto : (name : List ℕ) → without_zero (name ++ 0 ∷ []) ≡ name
without_zero-linkto name =
    let long : length (name ++ 0 ∷ []) - 1 ≡ length name = omega (arith, length-append name (0 ∷ [])) in
    let end : drop (length (name ++ 0 ∷ []) - 1) (name ++ 0 ∷ []) ≡ 0 ∷ [] = ap (λ (n : ℕ). drop n (name ++ 0 ∷ [])) long ∙ drop-append_seam name (0 ∷ []) in
    cond-true (ends_in_zero (name ++ 0 ∷ [])) (take (length (name ++ 0 ∷ []) - 1) (name ++ 0 ∷ [])) (name ++ 0 ∷ []) ((bytes_eq-Decides _ _).1 end)
    ∙ ap (λ (n : ℕ). take n (name ++ 0 ∷ [])) long
    ∙ take-append_seam name (0 ∷ [])

-- a brick's name has no zero byte
without_zero-name : (name : List ℕ) → is_brick_name name ≡ true → without_zero name ≡ name
without_zero-name name good =
    let parts = and_parts (nat_lt 0 (length name) && nat_le (length name) 64) (list_all is_brick_byte name) good in
    let some = ltb-true 0 (length name) (and_parts (nat_lt 0 (length name)) (nat_le (length name) 64) parts.0).0 in
    let each = AllPass-from_list_all is_brick_byte name parts.1 (length name - 1) 1 (omega arith) in
    cond-false (ends_in_zero name) (take (length name - 1) name) name (false_from_ne_true (ends_in_zero name) (λ ends.
    let last : drop (length name - 1) name ≡ 0 ∷ [] = (bytes_eq-Decides _ _).0 ends in
    let place : length name - 1 + 0 ≡ length name - 1 = omega arith in
    let zero : get_or name (length name - 1) 1 ≡ 0 =
    sym (ap (λ (k : ℕ). get_or name k 1) place) ∙ sym (get_or-drop (length name - 1) name 0 1) ∙ ap (λ (bytes : List ℕ). get_or bytes 0 1) last in
    true≢false (sym each ∙ ap is_brick_byte zero)))

-- a value leads to its brick
pub linked_brick-written :
    (v : VolumeInfo) (b : ℕ) → IsVolume v → b < length v.names
    → linked_brick v.names (linkto_value v.names b) ≡ Some b
linked_brick-written v b good inside =
    let at : slice_get v.names b ≡ Some (get_or v.names b []) = slice_get-get_or v.names b [] inside in
    let name : without_zero (linkto_value v.names b) ≡ get_or v.names b [] = ap (λ (o : Option (List ℕ)). without_zero (unwrap_or o [] ++ 0 ∷ [])) at ∙ without_zero-linkto (get_or v.names b []) in
    ap (λ (n : List ℕ). position (λ other. bytes_eq other n) v.names) name ∙ place_of_name v b (get_or v.names b []) good at

-- and so does the name alone
pub linked_brick-name :
    (v : VolumeInfo) (b : ℕ) (name : List ℕ) → IsVolume v → slice_get v.names b ≡ Some name
    → linked_brick v.names name ≡ Some b
linked_brick-name v b name good at =
    let fit : is_brick_name name ≡ true = subst (λ (n : List ℕ). is_brick_name n ≡ true) (get_or_from_slice_get v.names b name [] at) (good.named b [] (slice_get_within v.names b name at)) in
    ap (λ (n : List ℕ). position (λ other. bytes_eq other n) v.names) (without_zero-name name fit) ∙ place_of_name v b name good at

-- a value has at most 65 bytes
pub linkto_value-short :
    (v : VolumeInfo) (b : ℕ) → IsVolume v → b < length v.names
    → length (linkto_value v.names b) ≤ 65
linkto_value-short v b good inside =
    let name = get_or v.names b [] in
    let parts = and_parts (nat_lt 0 (length name) && nat_le (length name) 64) (list_all is_brick_byte name) (good.named b [] inside) in
    let short = leb-true (length name) 64 (and_parts (nat_lt 0 (length name)) (nat_le (length name) 64) parts.0).1 in
    let value : linkto_value v.names b ≡ name ++ 0 ∷ [] = ap (λ (o : Option (List ℕ)). unwrap_or o [] ++ 0 ∷ []) (slice_get-get_or v.names b [] inside) in
    let size : length (linkto_value v.names b) ≡ length (name ++ 0 ∷ []) = ap length value in
    let whole = length-append name (0 ∷ []) in
    omega arith

-- ---- the volume of a replay

-- the name of each of its bricks
replay_names_at : (count b : ℕ) → b < count → get_or (replay_names count) b [] ≡ replay_name b
unfolding replay_names
replay_names_at zero b h = absurd (omega arith)
replay_names_at (suc count) b h =
    let size = length-replay_names count in
    ⊎_elim
    (λ below. get_or-append (replay_names count) (replay_name count ∷ []) [] b (omega arith) ∙ replay_names_at count b below)
    (λ from.
    let last : length (replay_names count) ≡ b = omega arith in
    let here : count ≡ b = omega arith in
    ap (λ (k : ℕ). get_or (replay_names count ++ replay_name count ∷ []) k []) (sym last)
    ∙ get_or-append_seam (replay_names count) (replay_name count) [] []
    ∙ ap replay_name here)
    (cases_lt b count)

-- a value names the first brick whose name it is, and none where it is no brick's
pub replay_linked :
    (count b : ℕ) (value : List ℕ) → b < count
    → bytes_eq (replay_name b) (without_zero value) ≡ true
    → ((k : ℕ) → k < b → bytes_eq (replay_name k) (without_zero value) ≡ false) → linked_brick (replay_names count) value ≡ Some b
replay_linked count b value h pass fails =
    let size = length-replay_names count in
    first_is (λ name. bytes_eq name (without_zero value)) (replay_names count) b [] (omega arith)
    (ap (λ (name : List ℕ). bytes_eq name (without_zero value)) (replay_names_at count b h) ∙ pass)
    (λ k l. ap (λ (name : List ℕ). bytes_eq name (without_zero value)) (replay_names_at count k (omega arith)) ∙ fails k l)

pub replay_unlinked : (count all : ℕ) (value : List ℕ) → count ≤ all
    → ((k : ℕ) → k < all → bytes_eq (replay_name k) (without_zero value) ≡ false) → linked_brick (replay_names count) value ≡ None
replay_unlinked count all value enough fails =
    let size = length-replay_names count in
    no_first (λ name. bytes_eq name (without_zero value)) (replay_names count) []
    (λ k l. ap (λ (name : List ℕ). bytes_eq name (without_zero value)) (replay_names_at count k (omega arith)) ∙ fails k (omega arith))

-- one brick more whose name it is not
pub fails_more :
    (name : List ℕ) (b : ℕ) → ((k : ℕ) → k < b → bytes_eq (replay_name k) name ≡ false)
    → bytes_eq (replay_name b) name ≡ false
    → (k : ℕ) → k < b + 1 → bytes_eq (replay_name k) name ≡ false
fails_more name b fails here k h = ⊎_elim
    (λ below. fails k below)
    (λ from. let same : b ≡ k = omega arith in ap (λ (i : ℕ). bytes_eq (replay_name i) name) (sym same) ∙ here)
    (cases_lt k b)

-- ---- the value that is written for a brick of a replay

pub replay_value :
    (count b : ℕ) → b < count → linkto_value (replay_names count) b ≡ replay_name b ++ 0 ∷ []
replay_value count b h =
    let size = length-replay_names count in
    ap (λ (o : Option (List ℕ)). unwrap_or o [] ++ 0 ∷ []) (slice_get-get_or (replay_names count) b [] (omega arith))
    ∙ ap (λ (name : List ℕ). name ++ 0 ∷ []) (replay_names_at count b h)

none_past : {A : Type 0} (xs : List A) (b : ℕ) → length xs ≤ b → slice_get xs b ≡ None
none_past [] b h = refl
none_past (x ∷ xs) zero h = absurd (omega arith)
none_past (x ∷ xs) (suc b) h = none_past xs b (omega arith)

pub no_replay_value : (count b : ℕ) → count ≤ b → linkto_value (replay_names count) b ≡ 0 ∷ []
no_replay_value count b h =
    let size = length-replay_names count in
    ap (λ (o : Option (List ℕ)). unwrap_or o [] ++ 0 ∷ []) (none_past (replay_names count) b (omega arith))
