-- A place that is taken keeps the others as they are.
use Rattle.std.proofs.Common.{ℕ, ◌+◌, ◌-◌, ◌<◌, ◌≡◌, List, length, take, drop, set, Option, None, sym, ap, ◌∙◌, arith}
use Rattle.std.specs.Prelude.{replicate}
use Rattle.std.proofs.lemmas.List.{drop-replicate, drop-set-lt, drop-drop, length-set, length-take-le}
use Rattle.dht_xattr.specs.declared.range.Range.{Range}
use Rattle.dht_types.specs.Padded.{IsPadded}

empty_more :
    (n : ℕ) (places : List (Option Range)) → drop n places ≡ replicate (32 - n) None
    → drop (n + 1) places ≡ replicate (32 - (n + 1)) None
empty_more n places empty =
    let one : drop (n + 1) places ≡ drop 1 (drop n places) = sym (drop-drop 1 n places) in
    let left : 32 - n - 1 ≡ 32 - (n + 1) = omega arith in
    one ∙ ap (drop 1) empty ∙ drop-replicate 1 (32 - n) None ∙ ap (λ k. replicate k None) left

pub IsPadded-more :
    (n : ℕ) (places : List (Option Range)) (range : Option Range) → IsPadded 32 None n places
    → n < 32 → IsPadded 32 None (n + 1) (set places n range)
IsPadded-more n places range h room = record {
  full = length-set places n range ∙ h.full;
  short = omega arith;
  filled = drop-set-lt (n + 1) places n range (omega arith) ∙ empty_more n places h.filled;
}

-- fewer than 32 count where the list that is seen is shorter
pub room_in :
    (n : ℕ) (places seen : List (Option Range)) → IsPadded 32 None n places → take n places ≡ seen
    → length seen < 32 → n < 32
room_in n places seen h same short =
    let full = h.full in
    let few = h.short in
    let count : length (take n places) ≡ n = length-take-le n places (omega arith) in
    let shown : length (take n places) ≡ length seen = ap length same in
    omega arith
