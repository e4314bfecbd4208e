-- What the commands print, and how one ends that prints a text.
use Rattle.std.proofs.Common.{◌≡◌, ℕ, ◌+◌, ◌<◌, List, [], ◌∷◌, ◌++◌, length, take, get_or, inl, refl, sym, ap, ◌∙◌, append_assoc, append-nil, arith}
use Rattle.std.specs.Prelude.{Option}
use Rattle.std.proofs.lemmas.List.{take_all, take_more, length-take}
use Rattle.dht_xattr.specs.declared.range.Range.{Range}
use Rattle.dht_sched.specs.Commands.{range_line}
use Rattle.dht_xattr.specs.Plan.{value_of}
use Rattle.dht_run.specs.Commands.{ranges_text, IsPrinted}
use Rattle.dht_run.specs.Outside.{after_told}

-- one brick more
ranges_text-push :
    (n m : ℕ) (ranges : List (Option Range)) (range : Option Range) → m ≡ n + length ranges
    → ranges_text n (ranges ++ range ∷ []) ≡ ranges_text n ranges ++ range_line m (value_of range)
ranges_text-push n m [] range e = append-nil (range_line n (value_of range)) ∙ ap (λ k. range_line k (value_of range)) (let same : n ≡ m = omega arith in same)
ranges_text-push n m (r ∷ ranges) range e =
    ap (λ text. range_line n (value_of r) ++ text) (ranges_text-push (n + 1) m ranges range (omega arith))
    ∙ sym (append_assoc (range_line n (value_of r)) (ranges_text (n + 1) ranges) (range_line m (value_of range)))

pub one_range_more :
    (out new : List ℕ) (ranges : List (Option Range)) (i : ℕ) (d : Option Range) → i < length ranges
    → out ≡ ranges_text 0 (take i ranges) → new ≡ out ++ range_line i (value_of (get_or ranges i d))
    → new ≡ ranges_text 0 (take (i + 1) ranges)
one_range_more out new ranges i d within so_far more =
    let range = get_or ranges i d in
    let size : i ≡ 0 + length (take i ranges) = omega (arith, length-take i ranges) in
    more ∙ (ap (λ o. o ++ range_line i (value_of range)) so_far ∙ sym (ap (ranges_text 0) (take_more ranges i d within) ∙ ranges_text-push 0 i (take i ranges) range size))

-- the text was written
pub printed_whole :
    (text : List ℕ) (before taken : Option (List ℕ)) → taken ≡ after_told before text
    → IsPrinted text before taken 0
printed_whole text before taken told = record {
  ends = inl refl;
  whole = λ zero. told;
  prefix = (length text, told ∙ ap (after_told before) (sym (take_all (length text) text (omega arith))));
}
